-- `mark_change` is the definition: the refusal that was found, or the mark that is there and the new one. Assumes
-- nothing.
use mathlib.Core.Path.{◌≡◌, refl, sym}
use mathlib.Core.List.{List}
use Prim.Native.Nat.{ℕ}
use native.Mathlib.Omega.{arith}
use Rattle.std.proofs.lemmas.Result.{err_from_is_err_and}
use Rattle.instance.specs.Matrix.{unmarked}
use Rattle.instance.proofs.ArcLaws.{Ends, arc_ends}
use Rattle.commands.specs.Commands.{mark_refusal}
use Rattle.commands.proofs.CommandLaws.{unrefused}
use Rattle.board.specs.Changes.{mark_change}
use Rattle.board.proofs.ChangeOfLaws.{outcome_refused, changed_recorded}
use Rattle.board.proofs.changes.mark_change.Goals as goal

-- an arc that no number refuses has its ends below n
ends : (n root count tail head : ℕ) (ws : List ℕ) → 0 ≡ mark_refusal (unmarked n root ws) count tail head → Ends n root tail head
unfolding unmarked
ends n root count tail head ws e =
    let s = unmarked n root ws in arc_ends s tail head (unrefused s count tail head (sym e)).arc

pub returns-in_err-check_mark : goal.returns-in_err-check_mark
unfolding mark_change
returns-in_err-check_mark c =
    let p = err_from_is_err_and c.from_residual.result c.from_residual.ensures.1 in
    rw (p.1, p.2) (outcome_refused _ _ _ _ c.in_err-check_mark.ensures)

pub overflow_mul-old : goal.overflow_mul-old
overflow_mul-old c = omega (arith, ends _ _ _ _ _ _ c.in_ok-check_mark.ensures)

pub overflow_add-old : goal.overflow_add-old
overflow_add-old c = omega (arith, ends _ _ _ _ _ _ c.in_ok-check_mark.ensures)

pub bounds-b-tail : goal.bounds-b-tail
bounds-b-tail c = omega (arith, ends _ _ _ _ _ _ c.in_ok-check_mark.ensures)

pub overflow_cast-t : goal.overflow_cast-t
overflow_cast-t c = omega (arith, ends _ _ _ _ _ _ c.in_ok-check_mark.ensures)

pub overflow_cast-h : goal.overflow_cast-h
overflow_cast-h c = omega (arith, ends _ _ _ _ _ _ c.in_ok-check_mark.ensures)

pub returns : goal.returns
unfolding mark_change
returns c = rw (← c.in_ok-check_mark.ensures, ← c.from.ensures) (changed_recorded _ _ _ refl)
