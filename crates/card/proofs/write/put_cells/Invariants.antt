-- `put_cells` meets its contract. The loop's invariant is `Putting`, below. Assumes nothing.
use mathlib.Core.Path.{◌≡◌}
use mathlib.Core.List.{List, ◌++◌}
use Prim.Native.Nat.{ℕ, ◌≤◌, ◌-◌}
use Rattle.bits.specs.Writer.{Put}
use Rattle.bits.specs.declared.BitWriter.{BitWriter}
use Rattle.instance.specs.Limits.{cells}
use Rattle.instance.specs.Instance.{Instance, without_budget}
use Rattle.card_format.specs.Card.{cell_bits}
use Rattle.card.proofs.write.put_cells.Given as goal

-- the bits of the first i cells are put, and those of the others are left
pub record Putting (s : Instance) (before : List ℕ) (start : BitWriter) (out : List ℕ) (w : BitWriter) (i : ℕ) : Type 0 where
  pub done : List ℕ
  pub put : Put done start before out w
  pub left : done ++ cell_bits (cells - i) i s ≡ cell_bits cells 0 s
  pub i-in : i ≤ cells

abbrev pub invariant-loop-i : goal.invariant-loop-i
invariant-loop-i l = Putting (without_budget l.n l.root l.weights l.marks) l.initial.out l.initial.w l.out l.w l.i
