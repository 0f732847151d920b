-- A listing of all plans, by its cases; and the limits that it takes. Assumes nothing.
use mathlib.Core.Path.{◌≡◌}
use mathlib.Core.Bool.{true, false}
use mathlib.Core.List.{List}
use Prim.Native.Nat.{ℕ, ◌-◌, ◌≤◌}
use lib.Dec.{eqb, ltb}
use borrow.Author.Tests.{ltb-false}
use Rattle.base.proofs.BoolLaws.{or_false_right}
use Rattle.instance.specs.Limits.{max_tries}
use Rattle.instance.specs.Refusals.{invalid_board, bad_try_limit}
use Rattle.enumeration.specs.Walk.{limit_refused}
use Rattle.commands.specs.Valid.{valid}
use Rattle.board.specs.ModelOf.{model_of, instance_of}
use Rattle.board.specs.declared.Board.{Board}
use Rattle.backtracking.specs.Listing.{ListsTrees}
use Rattle.backtracking.specs.declared.Progress.{Progress}
use Rattle.planner.specs.Enumerating.{Listed, Refused, Lists}

pub limit_high : (limit : ℕ) → limit_refused limit ≡ false → limit ≤ max_tries
unfolding limit_refused
limit_high limit e = ltb-false max_tries limit (or_false_right (eqb limit 0) (ltb max_tries limit) e)

module _ (b : Board) (limit : ℕ) (out : List ℕ) where
  pub lists_invalid : valid (model_of b) ≡ false → Lists b limit out out (Refused invalid_board)
  lists_invalid e = record { result = rw e; buffer = rw e }

  pub lists_refused : valid (model_of b) ≡ true → limit_refused limit ≡ true → Lists b limit out out (Refused bad_try_limit)
  lists_refused e f = record { result = rw (e, f); buffer = rw (e, f) }

  pub lists_walked : (out' : List ℕ) (p : Progress) → valid (model_of b) ≡ true → limit_refused limit ≡ false
      → ListsTrees (instance_of b) limit out out' p → Lists b limit out out' (Listed p.ended p.trees (limit - p.left))
  lists_walked out' p e f l = record { result = rw (e, f) (λ i. Listed (l.ended i) (l.trees i) (l.tries i)); buffer = rw (e, f) l.buffer }
