-- The cells of the matrix of what remains, judged one by one. Assumes nothing.
use mathlib.Core.Path.{◌≡◌, sym, ◌∙◌}
use mathlib.Core.Bool.{true, false, ◌&&◌, not, cond}
use mathlib.Core.List.{List}
use Prim.Native.Nat.{ℕ, ◌/◌, ◌%◌, ◌≤◌, ◌<◌}
use native.Mathlib.Omega.{arith}
use lib.Dec.{eqb}
use lib.ListN.{length, get_or}
use Rattle.base.proofs.ListLaws.{default, tabulate_is}
use Rattle.base.proofs.OverwriteLaws.{Overwritten}
use Rattle.instance.specs.Limits.{no_arc, banned, cells}
use Rattle.instance.specs.Instance.{Instance, mark_at, can_be_arc, is_arc, weight, mark}
use Rattle.instance.specs.Arborescence.{remaining}
use Rattle.instance.specs.Matrix.{matrix}
use Rattle.instance.proofs.ArcLaws.{ends}
use Rattle.instance.proofs.MatrixLaws.{cell_of, matrix_cell, matrix_cells}
use Rattle.remaining.specs.declared.pins.Pin.{Pin}
use Rattle.remaining.specs.Pins.{Pins, allows}
use Rattle.remaining.proofs.PinLaws.{pins_weight}

module _ (s : Instance) (i : ℕ) where
  -- no arc can be there
  pub cell_empty : can_be_arc s.n s.root (i / 32) (i % 32) ≡ false → no_arc ≡ matrix_cell s i
  unfolding remaining is_arc
  cell_empty a = rw a

  -- a cell where one can be, by its mark and the pins into its head
  pub cell_judged : (p : Pin) → i < cells → length s.weights ≡ cells → can_be_arc s.n s.root (i / 32) (i % 32) ≡ true
      → (i % 32 < s.n → Pins s (i % 32) s.n p)
      → cond (not (eqb (mark_at s i) banned) && allows p (i / 32)) (get_or s.weights i 0) no_arc ≡ matrix_cell s i
  unfolding weight mark
  cell_judged p l e a k =
      let w = pins_weight s (i / 32) (i % 32) p (omega arith) (k (ends s.n s.root (i / 32) (i % 32) a).head_below) in
      rw (default s.weights i 0 no_arc (omega arith)) (sym (rw (cell_of i, a) at w))

-- all cells
pub cells_judged : (s : Instance) (old w : List ℕ) (i : ℕ) → Overwritten cells old w (matrix_cell s) i → cells ≤ i → w ≡ matrix s
cells_judged s old w i o l = tabulate_is cells w (matrix_cell s) 0 o.size (λ j b. o.done j (omega arith)) ∙ sym (matrix_cells s)
