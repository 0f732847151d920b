-- What reading the cells of a card gives, one and all. Assumes nothing: these are definitions.
use Rattle.std.specs.Prelude.{◌≡◌, cond, List, ℕ, ◌+◌, drop, Result, IfOk}
use Rattle.bits.specs.Bits.{field}
use Rattle.instance.specs.Limits.{no_arc, free, cells}
use Rattle.instance.specs.RefusalNumbers.{answer_of}
use Rattle.instance.specs.declared.refusals.Refusal.{Refusal}
use Rattle.card_format.specs.Widths.{weight_width, mark_width, cell_width}
use Rattle.card_format.specs.Card.{on_card, weights_in, marks_in, cells_refusal}
use Rattle.card_format.specs.Offsets.{offset}
use Rattle.card.specs.declared.cells.Cell.{Cell}
use Rattle.card.specs.declared.cells.Cells.{Cells}

-- cell i, whose bits begin at a place if it is on the card
pub record CellRead (bits : List ℕ) (n root i at : ℕ) (r : Cell) : Type 0 where
  pub its_weight : r.weight ≡ cond (on_card n root i) (field at weight_width bits) no_arc
  pub its_mark : r.mark ≡ cond (on_card n root i) (field (at + weight_width) mark_width bits) free
  pub its_end : r.next ≡ at + cond (on_card n root i) cell_width 0

-- the first faulty cell's refusal, or everything: of the card whose bits begin at the start
pub record CellsRead (bits : List ℕ) (start n root : ℕ) (r : Result Cells Refusal) : Type 0 where
  pub judged : answer_of r ≡ cells_refusal (weights_in n root (drop start bits)) (marks_in n root (drop start bits))
  pub all_weights : IfOk r (λ c. c.weights ≡ weights_in n root (drop start bits))
  pub all_marks : IfOk r (λ c. c.marks ≡ marks_in n root (drop start bits))
  pub last_end : IfOk r (λ c. c.end ≡ start + offset n root cells)
