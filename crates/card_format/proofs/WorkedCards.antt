-- Document 01's card and lengths, computed. Assumes nothing.
use mathlib.Core.Path.{◌≡◌, refl}
use mathlib.Core.List.{List, [], ◌∷◌, map}
use Prim.Native.Nat.{ℕ}
use lib.ListN.{replicate, set}
use Rattle.base.specs.Lists.{all_of}
use Rattle.bits.specs.Bits.{bits_of, bits_in, number_from, field, packed}
use Rattle.instance.specs.Limits.{no_arc, free, cells}
use Rattle.instance.specs.Instance.{Instance, cell, can_be_arc}
use Rattle.card_format.specs.Card.{on_card, bits_needed, bytes_needed, min_card, max_card, cell_fields, instance_in, cell_refusal, cells_refusal, header_refusal, card_refusal, cell_bits, instance_bits, card_of}

-- "n = 1 takes 5 bytes, n = 2 takes 8, n = 4 takes 30, n = 32 takes 2,648"
pub lengths : map bytes_needed (1 ∷ 2 ∷ 4 ∷ 32 ∷ []) ≡ (min_card ∷ 8 ∷ 30 ∷ max_card ∷ [])
unfolding bytes_needed bits_needed
lengths = refl

-- P9
unfoldable pub p9 : Instance
p9 = record { n = 2; root = 0; budget = 5; weights = set (replicate cells no_arc) (cell 0 1) 5; marks = replicate cells free }

-- "P9 as a card is 08 00 00 00 50 00 05 00"
abbrev pub p9_card : List ℕ
p9_card = 0x08 ∷ 0x00 ∷ 0x00 ∷ 0x00 ∷ 0x50 ∷ 0x00 ∷ 0x05 ∷ 0x00 ∷ []

pub p9_written : card_of p9 ≡ p9_card
unfolding p9 card_of packed instance_bits cell_bits on_card can_be_arc bits_of number_from bits_needed bytes_needed
p9_written = refl

pub p9_read : instance_in p9_card ≡ p9
unfolding p9 instance_in cell_fields on_card can_be_arc bits_in bits_of field number_from
p9_read = refl

pub p9_opens : card_refusal p9_card ≡ 0
unfolding card_refusal header_refusal cells_refusal cell_refusal instance_in cell_fields on_card can_be_arc bits_in bits_of field number_from bits_needed bytes_needed all_of
p9_opens = refl
