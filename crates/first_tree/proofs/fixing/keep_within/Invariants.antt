-- The sets below h are done. Assumes nothing.
use mathlib.Core.Bool.{cond}
use Prim.Native.Nat.{ℕ, ◌≤◌}
use mathlib.Core.List.{List}
use lib.Bits.{bit_and}
use lib.ListN.{get_or}
use Rattle.base.proofs.OverwriteLaws.{Overwritten}
use Rattle.instance.specs.Limits.{max_vertices}
use Rattle.instance.specs.Cuts.{inside}
use Rattle.first_tree.proofs.fixing.keep_within.Given as goal

abbrev pub met : (set : ℕ) → List ℕ → ℕ → ℕ
met set old h = cond (inside set h) (bit_and (get_or old h 0) set) (get_or old h 0)

abbrev pub invariant-loop-h : goal.invariant-loop-h
invariant-loop-h l = (l.h ≤ l.n) × Overwritten max_vertices l.initial.tails l.tails (met l.set l.initial.tails) l.h
