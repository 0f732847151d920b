-- Where the cells stand among the bits of a card. Assumes nothing: these are definitions.
use Rattle.std.specs.Prelude.{cond, List, ℕ, zero, suc, ◌+◌}
use Rattle.bits.specs.Bits.{field}
use Rattle.instance.specs.Limits.{no_arc, free}
use Rattle.card_format.specs.Widths.{header_width, weight_width, mark_width, cell_width}
use Rattle.card_format.specs.Card.{on_card}

-- where the bits of cell i begin, or would: behind the header and each cell on the card before it
unfoldable pub offset : (n root i : ℕ) → ℕ
offset n r zero = header_width
offset n r (suc i) = offset n r i + cond (on_card n r i) cell_width 0

-- the field of so many bits at a place among those of cell i; another number if it is not on the card
unfoldable pub cell_field : (n root : ℕ) → (at width other : ℕ) → (bits : List ℕ) → (i : ℕ) → ℕ
cell_field n r a w o bs i = cond (on_card n r i) (field (offset n r i + a) w bs) o

-- its weight and its mark
abbrev pub weight_field : (n root : ℕ) → (bits : List ℕ) → (i : ℕ) → ℕ
weight_field n r bs = cell_field n r 0 weight_width no_arc bs

abbrev pub mark_field : (n root : ℕ) → (bits : List ℕ) → (i : ℕ) → ℕ
mark_field n r bs = cell_field n r weight_width mark_width free bs
