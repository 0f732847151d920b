-- Cards that are refused and cards that open, at the ends of every range and in the order of document 01: one list
-- with one claim about the whole list; cells, refused or not, with one claim; and two cards read. Computed. Assumes
-- nothing.
use mathlib.Core.Path.{◌≡◌, refl}
use mathlib.Core.List.{List, [], ◌∷◌, map}
use Prim.Native.Nat.{ℕ}
use Rattle.base.specs.Lists.{all_of}
use Rattle.bits.specs.Bits.{bits_of, bits_in, number_from, field}
use Rattle.instance.specs.Limits.{pinned, banned}
use Rattle.instance.specs.Refusals.{card_short, bad_count, bad_length, bad_root, bad_card_budget, bad_weight, bad_mark, bad_filling}
use Rattle.instance.specs.Instance.{Instance, can_be_arc}
use Rattle.instance.proofs.WorkedCases.{arc, filled, instance_from, instance_q}
use Rattle.card_format.specs.Card.{on_card, bits_needed, bytes_needed, cell_fields, instance_in, cell_refusal, cells_refusal, header_refusal, card_refusal}

pub record Card : Type 0 where
  pub answer : ℕ
  pub bytes : List ℕ

-- 0 for a card that opens
abbrev card : (answer : ℕ) → (bytes : List ℕ) → Card
card k ws = record { answer = k; bytes = ws }

unfoldable pub cards : List Card
cards =
    -- "card under 5 bytes", whatever they say: no byte, and n = 0 in four
    card card_short []
    ∷ card card_short (0x00 ∷ 0x00 ∷ 0x00 ∷ 0x00 ∷ [])
    -- "positions field 0 or 33 to 63", before the length is looked at; 32 is too long for 5 bytes
    ∷ card bad_count (0x00 ∷ 0x00 ∷ 0x00 ∷ 0x00 ∷ 0x00 ∷ [])
    ∷ card bad_count (0x84 ∷ 0x00 ∷ 0x00 ∷ 0x00 ∷ 0x00 ∷ [])
    ∷ card bad_count (0xfc ∷ 0x00 ∷ 0x00 ∷ 0x00 ∷ 0x00 ∷ [])
    ∷ card bad_length (0x80 ∷ 0x00 ∷ 0x00 ∷ 0x00 ∷ 0x00 ∷ [])
    -- "card length not the needed one": n = 1 in 6 bytes, n = 2 in 7 and 9; before the root is looked at
    ∷ card bad_length (0x04 ∷ 0x00 ∷ 0x00 ∷ 0x00 ∷ 0x00 ∷ 0x00 ∷ [])
    ∷ card bad_length (0x04 ∷ 0x20 ∷ 0x00 ∷ 0x00 ∷ 0x00 ∷ 0x00 ∷ [])
    ∷ card bad_length (0x08 ∷ 0x00 ∷ 0x00 ∷ 0x00 ∷ 0x50 ∷ 0x00 ∷ 0x05 ∷ [])
    ∷ card bad_length (0x08 ∷ 0x00 ∷ 0x00 ∷ 0x00 ∷ 0x50 ∷ 0x00 ∷ 0x05 ∷ 0x00 ∷ 0x00 ∷ [])
    -- "root not below positions": root = n, 31; before the budget is looked at
    ∷ card 0 (0x04 ∷ 0x00 ∷ 0x00 ∷ 0x00 ∷ 0x00 ∷ [])
    ∷ card bad_root (0x04 ∷ 0x20 ∷ 0x00 ∷ 0x00 ∷ 0x00 ∷ [])
    ∷ card 0 (0x08 ∷ 0x20 ∷ 0x00 ∷ 0x00 ∷ 0x50 ∷ 0x00 ∷ 0x05 ∷ 0x00 ∷ [])
    ∷ card bad_root (0x08 ∷ 0x40 ∷ 0x00 ∷ 0x00 ∷ 0x50 ∷ 0x00 ∷ 0x05 ∷ 0x00 ∷ [])
    ∷ card bad_root (0x0b ∷ 0xfe ∷ 0xff ∷ 0xfc ∷ 0x30 ∷ 0x00 ∷ 0x05 ∷ 0x00 ∷ [])
    -- "budgets to 32,505,794" (02, A9): the end, one more, the greatest; before the cells are looked at
    ∷ card 0 (0x08 ∷ 0x1e ∷ 0xff ∷ 0xfc ∷ 0x20 ∷ 0x00 ∷ 0x05 ∷ 0x00 ∷ [])
    ∷ card bad_card_budget (0x08 ∷ 0x1e ∷ 0xff ∷ 0xfc ∷ 0x30 ∷ 0x00 ∷ 0x05 ∷ 0x00 ∷ [])
    ∷ card bad_card_budget (0x08 ∷ 0x1f ∷ 0xff ∷ 0xff ∷ 0xff ∷ 0xff ∷ 0xfe ∷ 0xc0 ∷ [])
    -- "Prices go up to 1,048,574 pence", "6 is retired" (02, A9): 1,000,001 and 1,048,574 with each mark that opens;
    -- with mark 3 it is 7 now, and with a filling bit 8
    ∷ card 0 (0x08 ∷ 0x00 ∷ 0x00 ∷ 0x00 ∷ 0x5f ∷ 0x42 ∷ 0x41 ∷ 0x00 ∷ [])
    ∷ card 0 (0x08 ∷ 0x00 ∷ 0x00 ∷ 0x00 ∷ 0x5f ∷ 0x42 ∷ 0x41 ∷ 0x40 ∷ [])
    ∷ card 0 (0x08 ∷ 0x00 ∷ 0x00 ∷ 0x00 ∷ 0x5f ∷ 0x42 ∷ 0x41 ∷ 0x80 ∷ [])
    ∷ card 0 (0x08 ∷ 0x00 ∷ 0x00 ∷ 0x00 ∷ 0x5f ∷ 0xff ∷ 0xfe ∷ 0x00 ∷ [])
    ∷ card 0 (0x08 ∷ 0x00 ∷ 0x00 ∷ 0x00 ∷ 0x5f ∷ 0xff ∷ 0xfe ∷ 0x40 ∷ [])
    ∷ card 0 (0x08 ∷ 0x00 ∷ 0x00 ∷ 0x00 ∷ 0x5f ∷ 0xff ∷ 0xfe ∷ 0x80 ∷ [])
    ∷ card bad_mark (0x08 ∷ 0x00 ∷ 0x00 ∷ 0x00 ∷ 0x5f ∷ 0x42 ∷ 0x41 ∷ 0xc0 ∷ [])
    ∷ card bad_mark (0x08 ∷ 0x00 ∷ 0x00 ∷ 0x00 ∷ 0x5f ∷ 0xff ∷ 0xfe ∷ 0xc1 ∷ [])
    ∷ card bad_filling (0x08 ∷ 0x00 ∷ 0x00 ∷ 0x00 ∷ 0x5f ∷ 0xff ∷ 0xfe ∷ 0x01 ∷ [])
    -- "mark 3, or a mark other than 0 on no link"; before the filling
    ∷ card 0 (0x08 ∷ 0x00 ∷ 0x00 ∷ 0x00 ∷ 0x5f ∷ 0xff ∷ 0xff ∷ 0x00 ∷ [])
    ∷ card bad_mark (0x08 ∷ 0x00 ∷ 0x00 ∷ 0x00 ∷ 0x50 ∷ 0x00 ∷ 0x05 ∷ 0xc0 ∷ [])
    ∷ card bad_mark (0x08 ∷ 0x00 ∷ 0x00 ∷ 0x00 ∷ 0x5f ∷ 0xff ∷ 0xff ∷ 0x40 ∷ [])
    ∷ card bad_mark (0x08 ∷ 0x00 ∷ 0x00 ∷ 0x00 ∷ 0x5f ∷ 0xff ∷ 0xff ∷ 0x80 ∷ [])
    ∷ card bad_mark (0x08 ∷ 0x00 ∷ 0x00 ∷ 0x00 ∷ 0x50 ∷ 0x00 ∷ 0x05 ∷ 0xff ∷ [])
    -- n = 3: the fault in the first cell, and in the last, which is no link, after one at 1,048,574
    ∷ card bad_mark (0x0c ∷ 0x20 ∷ 0x00 ∷ 0x00 ∷ 0x50 ∷ 0x00 ∷ 0x05 ∷ 0xc0 ∷ 0x00 ∷ 0x14 ∷ 0x00 ∷ 0x00 ∷ 0x53 ∷ 0xd0 ∷ 0x90 ∷ 0x40 ∷ [])
    ∷ card bad_mark (0x0c ∷ 0x20 ∷ 0x00 ∷ 0x00 ∷ 0x50 ∷ 0x00 ∷ 0x05 ∷ 0x00 ∷ 0x00 ∷ 0x14 ∷ 0xff ∷ 0xff ∷ 0xe3 ∷ 0xff ∷ 0xff ∷ 0xd0 ∷ [])
    -- "a filling bit is 1": each of the four of n = 1 and of the six of n = 2
    ∷ card bad_filling (0x04 ∷ 0x00 ∷ 0x00 ∷ 0x00 ∷ 0x08 ∷ [])
    ∷ card bad_filling (0x04 ∷ 0x00 ∷ 0x00 ∷ 0x00 ∷ 0x04 ∷ [])
    ∷ card bad_filling (0x04 ∷ 0x00 ∷ 0x00 ∷ 0x00 ∷ 0x02 ∷ [])
    ∷ card bad_filling (0x04 ∷ 0x00 ∷ 0x00 ∷ 0x00 ∷ 0x01 ∷ [])
    ∷ card bad_filling (0x08 ∷ 0x00 ∷ 0x00 ∷ 0x00 ∷ 0x50 ∷ 0x00 ∷ 0x05 ∷ 0x20 ∷ [])
    ∷ card bad_filling (0x08 ∷ 0x00 ∷ 0x00 ∷ 0x00 ∷ 0x50 ∷ 0x00 ∷ 0x05 ∷ 0x10 ∷ [])
    ∷ card bad_filling (0x08 ∷ 0x00 ∷ 0x00 ∷ 0x00 ∷ 0x50 ∷ 0x00 ∷ 0x05 ∷ 0x08 ∷ [])
    ∷ card bad_filling (0x08 ∷ 0x00 ∷ 0x00 ∷ 0x00 ∷ 0x50 ∷ 0x00 ∷ 0x05 ∷ 0x04 ∷ [])
    ∷ card bad_filling (0x08 ∷ 0x00 ∷ 0x00 ∷ 0x00 ∷ 0x50 ∷ 0x00 ∷ 0x05 ∷ 0x02 ∷ [])
    ∷ card bad_filling (0x08 ∷ 0x00 ∷ 0x00 ∷ 0x00 ∷ 0x50 ∷ 0x00 ∷ 0x05 ∷ 0x01 ∷ [])
    ∷ []

-- THE CLAIM
pub refusals : map (λ c. card_refusal c.bytes) cards ≡ map (λ c. c.answer) cards
unfolding
    cards card_refusal header_refusal cells_refusal cell_refusal instance_in cell_fields on_card can_be_arc bits_in bits_of field number_from bits_needed
    bytes_needed all_of
refusals = refl

-- CELLS of any two numbers. One above no link, which no card holds, is refused by 6: "6 before 7 within it"
pub record CellCase : Type 0 where
  pub answer : ℕ
  pub weight : ℕ
  pub mark : ℕ

unfoldable pub cell_cases : List CellCase
cell_cases =
    record { answer = 0; weight = 1048574; mark = 2 }
    ∷ record { answer = bad_mark; weight = 1048574; mark = 3 }
    ∷ record { answer = bad_mark; weight = 1048575; mark = 2 }
    ∷ record { answer = bad_weight; weight = 1048576; mark = 0 }
    ∷ record { answer = bad_weight; weight = 4294967295; mark = 3 }
    ∷ []

pub cell_refusals : map (λ c. cell_refusal c.weight c.mark) cell_cases ≡ map (λ c. c.answer) cell_cases
unfolding cell_cases cell_refusal
cell_refusals = refl

-- "the first faulty cell in card order": 7 before 6, and 6 before 7
pub first_faulty :
    (cells_refusal (5 ∷ 5 ∷ 1048576 ∷ []) (0 ∷ 3 ∷ 0 ∷ []) ≡ bad_mark) × (cells_refusal (5 ∷ 1048576 ∷ 5 ∷ []) (0 ∷ 0 ∷ 3 ∷ []) ≡ bad_weight)
unfolding cells_refusal cell_refusal
first_faulty = (refl, refl)

-- READ: instance Q at budget 16 with 2→1 pinned and 0→3 banned; and n = 3, root 1, at the greatest budget, whose
-- cells are 0→2, 1→0, 1→2 (no arc) and 2→0 at the dearest price
unfoldable pub read_cards : List (List ℕ)
read_cards =
    (0x10 ∷ 0x00 ∷ 0x00 ∷ 0x01 ∷ 0x00 ∷ 0x00 ∷ 0x0a ∷ 0x00 ∷ 0x00 ∷ 0x28 ∷ 0x00 ∷ 0x00 ∷ 0x88 ∷ 0x00 ∷ 0x00 ∷ 0x40 ∷ 0x00 ∷ 0x04 ∷ 0x00 ∷ 0x00 ∷ 0x09 ∷ 0x00 ∷ 0x00 ∷ 0x90 ∷ 0x00 ∷ 0x01 ∷ 0xcf ∷ 0xff ∷ 0xff ∷ 0x00 ∷ [])
    ∷ (0x0c ∷ 0x3e ∷ 0xff ∷ 0xfc ∷ 0x20 ∷ 0x00 ∷ 0x0a ∷ 0x40 ∷ 0x00 ∷ 0x52 ∷ 0xff ∷ 0xff ∷ 0xf3 ∷ 0xff ∷ 0xff ∷ 0x80 ∷ [])
    ∷ []

unfoldable pub read_instances : List Instance
read_instances =
    instance_q 16 (arc 2 1 pinned ∷ arc 0 3 banned ∷ [])
    ∷ instance_from 3 1 32505794 (arc 0 2 10 ∷ arc 1 0 20 ∷ arc 2 0 1048574 ∷ []) (arc 0 2 pinned ∷ arc 1 0 banned ∷ [])
    ∷ []

pub readings : map instance_in read_cards ≡ read_instances
unfolding read_cards read_instances instance_q instance_from filled instance_in cell_fields on_card can_be_arc bits_in bits_of field number_from
readings = refl
