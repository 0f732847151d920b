-- `marks_change` is the definition: the refusal that was found, or the marks that are there and the new ones. Assumes
-- nothing.
use mathlib.Core.Path.{◌≡◌, refl, sym, ap, ◌∙◌}
use mathlib.Core.Bool.{Bool, ◌&&◌, not}
use Prim.Native.Nat.{ℕ, ◌≤◌, ◌<◌}
use lib.Dec.{ltb}
use native.Mathlib.Omega.{arith}
use Rattle.std.proofs.Common.{rules}
use Rattle.std.proofs.lemmas.Result.{err_from_is_err_and}
use Rattle.base.proofs.BoolLaws.{and_right}
use Rattle.instance.specs.Limits.{max_vertices}
use Rattle.instance.specs.Instance.{is_arc}
use Rattle.instance.specs.Cuts.{inside}
use Rattle.instance.specs.Matrix.{unmarked}
use Rattle.commands.specs.Heads.{names_arc}
use Rattle.commands.specs.Commands.{arc_refusal}
use Rattle.commands.proofs.ValidLaws.{valid_parts}
use Rattle.commands.proofs.HeadsLaws.{inside_heads}
use Rattle.board.specs.Changes.{arcs_to, marks_change}
use Rattle.board.proofs.SetMarksLaws.{arc_mark_low}
use Rattle.board.proofs.ChangeOfLaws.{tail_passed, outcome_refused, changed_recorded}
use Rattle.board.proofs.changes.marks_change.Goals as goal

-- a command that no number refuses has a vertex for its tail
tail_below : (n tail : ℕ) (y missing full : Bool) → n ≤ max_vertices → 0 ≡ arc_refusal (not (ltb tail n && y)) missing full → tail < max_vertices
tail_below n tail y missing full l e = let t = tail_passed n tail _ _ _ (sym e) in omega arith

pub arc_heads-arcs-requires : goal.arc_heads-arcs-requires
arc_heads-arcs-requires c = ((valid_parts _ c.requires).n_high, search rules)

pub check_marks-requires : goal.check_marks-requires
check_marks-requires c = (valid_parts _ c.requires).n_high

pub returns-in_err-check_marks : goal.returns-in_err-check_marks
unfolding marks_change arcs_to
returns-in_err-check_marks c =
    let p = err_from_is_err_and c.from_residual.result c.from_residual.ensures.1 in
    rw (p.1, p.2, ← c.arc_heads-arcs.ensures) (outcome_refused _ _ _ _ c.in_err-check_marks.ensures)

pub read_marks-old-requires : goal.read_marks-old-requires
unfolding names_arc
read_marks-old-requires c =
    let a = c.args in
    let b = a.b.now in
    let i = unmarked b.n b.root b.weights in record {
      tail_lt_max_vertices = (tail_below _ _ _ _ _ (valid_parts _ c.requires).n_high c.in_ok-check_marks.ensures, search rules);
      by_index = λ h l x.
          arc_mark_low _ c.requires _ h
          (and_right (inside a.heads h) (is_arc i a.tail h)
          (sym (inside_heads (names_arc i a.tail a.heads) h l) ∙ ap (λ (k : ℕ). inside k h) (sym c.arc_heads-arcs.ensures) ∙ x));
    }

pub overflow_cast-t : goal.overflow_cast-t
overflow_cast-t c = record { fits = omega (arith, tail_below _ _ _ _ _ (valid_parts _ c.requires).n_high c.in_ok-check_marks.ensures) }

pub returns : goal.returns
unfolding marks_change arcs_to
returns c =
    rw (← c.arc_heads-arcs.ensures, ← c.in_ok-check_marks.ensures, c.from-new.ensures, ← c.from.ensures, ← c.read_marks-old.ensures) (changed_recorded _ _ _ refl)
