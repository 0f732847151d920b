-- `read_cells` meets its contract. The loop's invariant is `Reading`, below. Assumes nothing.
use mathlib.Core.Path.{◌≡◌}
use mathlib.Core.List.{List}
use Prim.Native.Nat.{ℕ, ◌+◌, ◌-◌, ◌≤◌}
use lib.ListN.{length, take, drop}
use Rattle.base.specs.Lists.{tabulate_from, tabulate}
use Rattle.bits.specs.Bits.{bits_in}
use Rattle.instance.specs.Limits.{cells}
use Rattle.card_format.specs.Card.{cells_refusal}
use Rattle.card_format.specs.Offsets.{offset, weight_field, mark_field}
use Rattle.card.proofs.cells.read_cells.Given as goal

-- the weight and the mark at each index
abbrev pub weight_of : (card : List ℕ) → (start n root : ℕ) → ℕ → ℕ
weight_of card at n r = weight_field n r (drop at (bits_in card))

abbrev pub mark_of : (card : List ℕ) → (start n root : ℕ) → ℕ → ℕ
mark_of card at n r = mark_field n r (drop at (bits_in card))

-- the first i cells are stored and pass, so the first fault of all is that of the cells from i on
pub record Reading (card : List ℕ) (start n root : ℕ) (weights marks : List ℕ) (end i : ℕ) : Type 0 where
  pub i-in : i ≤ cells
  pub here : end ≡ start + offset n root i
  pub weights_long : length weights ≡ cells
  pub marks_long : length marks ≡ cells
  pub weights-so-far : take i weights ≡ tabulate i (weight_of card start n root)
  pub marks-so-far : take i marks ≡ tabulate i (mark_of card start n root)
  pub judged_so_far :
      cells_refusal (tabulate cells (weight_of card start n root)) (tabulate cells (mark_of card start n root))
      ≡ cells_refusal (tabulate_from (cells - i) i (weight_of card start n root)) (tabulate_from (cells - i) i (mark_of card start n root))

abbrev pub invariant-loop-i : goal.invariant-loop-i
invariant-loop-i l = Reading l.card l.start l.n l.root l.weights l.marks l.end l.i
