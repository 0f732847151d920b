-- A history card worked out by hand from document 02's words, written, read and judged; and history cards that are
-- refused and that open, at the ends of the ranges and in the order of 02, A8: one list with one claim about the whole
-- list. Computed. Assumes nothing.
use mathlib.Core.Path.{◌≡◌, refl}
use mathlib.Core.List.{List, [], ◌∷◌, map}
use Prim.Native.Nat.{ℕ}
use Rattle.base.specs.Bounded.{sum_below, count_below}
use Rattle.base.specs.Lists.{all_of, tabulate, tabulate_from}
use Rattle.bits.specs.Bits.{bits_of, bits_in, number_from, field, packed}
use Rattle.instance.specs.Limits.{pinned}
use Rattle.instance.specs.Refusals.{card_short, bad_count, bad_length, bad_root, bad_card_budget, bad_mark, bad_filling, bad_record, has_records}
use Rattle.instance.specs.Instance.{weight, can_be_arc, is_arc}
use Rattle.instance.specs.Cuts.{inside}
use Rattle.card_format.specs.Card.{on_card, bits_needed, bytes_needed, cell_fields, instance_in, cell_refusal, cells_refusal, header_refusal, card_refusal, cell_bits, instance_bits}
use Rattle.card_format.proofs.WorkedCards.{p9, p9_card}
use Rattle.card_format.proofs.WorkedRefusals.{Card}
use Rattle.commands.specs.Model.{old_mark, old_budget, Model, opened}
use Rattle.commands.specs.Valid.{record_ok}
use Rattle.history_format.specs.RecordBits.{member_marks, record_length, replaced_in, form_refusal, record_refusal, record_bits}
use Rattle.history_format.specs.HistoryCard.{is_history, history_in, history_model, end_refusal, records_refusal, behind_refusal, history_header_refusal, history_refusal, open_refusal, to_plain_refusal, records_bits, history_bits, history_bytes, history_card_of}

-- ONE CARD: P9, whose budget was 7 until it was set, and whose arc 0→1 was pinned until it was cleared after that. The
-- history has the latest first.
unfoldable pub p9_model : Model
p9_model = record { instance = p9; history = old_mark 0 1 pinned ∷ old_budget 7 ∷ [] }

-- 111111 and the 58 bits of P9; 00000010, two records; 01 and 7 in 25 bits; 00, 00000, 00001 and 01; seven bits of
-- filling
abbrev pub p9_history_card : List ℕ
p9_history_card =
    0xfc ∷ 0x20 ∷ 0x00 ∷ 0x00 ∷ 0x01 ∷ 0x40 ∷ 0x00 ∷ 0x14
    ∷ 0x02
    ∷ 0x40 ∷ 0x00 ∷ 0x00 ∷ 0xe0 ∷ 0x02 ∷ 0x80 ∷ []

pub p9_history_written : history_card_of p9_model ≡ p9_history_card
unfolding
    p9_model p9 history_card_of history_bytes history_bits records_bits record_bits packed instance_bits cell_bits on_card can_be_arc bits_of number_from
p9_history_written = refl

pub p9_history_read : history_model p9_history_card ≡ p9_model
unfolding
    p9_model p9 history_model history_in replaced_in member_marks record_length cell_fields on_card can_be_arc bits_in bits_of field number_from bits_needed
    count_below sum_below inside tabulate tabulate_from
p9_history_read = refl

pub p9_history_opens : history_refusal p9_history_card ≡ 0
unfolding
    history_refusal history_header_refusal is_history behind_refusal records_refusal end_refusal record_refusal form_refusal record_length replaced_in
    record_ok is_arc weight cells_refusal cell_refusal cell_fields on_card can_be_arc bits_in bits_of field number_from bits_needed all_of
    count_below sum_below inside
p9_history_opens = refl

-- "An old console refuses every new card by 2"
pub p9_history_old_reader : card_refusal p9_history_card ≡ bad_count
unfolding card_refusal header_refusal bits_in bits_of field number_from
p9_history_old_reader = refl

-- REFUSALS, 0 for a card that opens
abbrev card : (answer : ℕ) → (bytes : List ℕ) → Card
card k ws = record { answer = k; bytes = ws }

unfoldable pub history_cards : List Card
history_cards =
    -- "card under 5 bytes", whatever they say: no byte, and n = 1 in four
    card card_short []
    ∷ card card_short (0xfc ∷ 0x10 ∷ 0x00 ∷ 0x00 ∷ [])
    -- "A move handed the other kind is 2": plain cards, and six bits 62
    ∷ card bad_count (0x04 ∷ 0x00 ∷ 0x00 ∷ 0x00 ∷ 0x00 ∷ [])
    ∷ card bad_count (0x08 ∷ 0x00 ∷ 0x00 ∷ 0x00 ∷ 0x50 ∷ 0x00 ∷ 0x05 ∷ 0x00 ∷ [])
    ∷ card bad_count (0xf8 ∷ 0x10 ∷ 0x00 ∷ 0x00 ∷ 0x00 ∷ 0x00 ∷ 0x00 ∷ [])
    -- "positions field 0 or 33 to 63" behind the six bits 63, before the length is looked at; 32 is too long
    ∷ card bad_count (0xfc ∷ 0x00 ∷ 0x00 ∷ 0x00 ∷ 0x00 ∷ [])
    ∷ card bad_count (0xfe ∷ 0x10 ∷ 0x00 ∷ 0x00 ∷ 0x00 ∷ [])
    ∷ card bad_count (0xff ∷ 0xf0 ∷ 0x00 ∷ 0x00 ∷ 0x00 ∷ [])
    ∷ card bad_length (0xfe ∷ 0x00 ∷ 0x00 ∷ 0x00 ∷ 0x00 ∷ [])
    -- "3 now meaning that the old bits run past the end": n = 1, 42 bits in five bytes, with root 0 and root 1
    ∷ card bad_length (0xfc ∷ 0x10 ∷ 0x00 ∷ 0x00 ∷ 0x00 ∷ [])
    ∷ card bad_length (0xfc ∷ 0x10 ∷ 0x80 ∷ 0x00 ∷ 0x00 ∷ [])
    -- in six bytes root 1 is 4, and root 0 leaves no room for the count; with seven bytes it opens
    ∷ card bad_root (0xfc ∷ 0x10 ∷ 0x80 ∷ 0x00 ∷ 0x00 ∷ 0x00 ∷ [])
    ∷ card bad_length (0xfc ∷ 0x10 ∷ 0x00 ∷ 0x00 ∷ 0x00 ∷ 0x00 ∷ [])
    ∷ card 0 (0xfc ∷ 0x10 ∷ 0x00 ∷ 0x00 ∷ 0x00 ∷ 0x00 ∷ 0x00 ∷ [])
    -- P9: 64 bits in seven bytes, in eight, which leaves no room for the count, and in nine
    ∷ card bad_length (0xfc ∷ 0x20 ∷ 0x00 ∷ 0x00 ∷ 0x01 ∷ 0x40 ∷ 0x00 ∷ [])
    ∷ card bad_length (0xfc ∷ 0x20 ∷ 0x00 ∷ 0x00 ∷ 0x01 ∷ 0x40 ∷ 0x00 ∷ 0x14 ∷ [])
    ∷ card 0 (0xfc ∷ 0x20 ∷ 0x00 ∷ 0x00 ∷ 0x01 ∷ 0x40 ∷ 0x00 ∷ 0x14 ∷ 0x00 ∷ [])
    -- the greatest budget, and one more; before the count is looked for
    ∷ card 0 (0xfc ∷ 0x10 ∷ 0x7b ∷ 0xff ∷ 0xf0 ∷ 0x80 ∷ 0x00 ∷ [])
    ∷ card bad_card_budget (0xfc ∷ 0x10 ∷ 0x7b ∷ 0xff ∷ 0xf0 ∷ 0xc0 ∷ 0x00 ∷ [])
    ∷ card bad_card_budget (0xfc ∷ 0x10 ∷ 0x7b ∷ 0xff ∷ 0xf0 ∷ 0xc0 ∷ [])
    -- mark 3, and a mark where there is no arc; before the count is looked for, and before a count of 201
    ∷ card bad_mark (0xfc ∷ 0x20 ∷ 0x00 ∷ 0x00 ∷ 0x01 ∷ 0x40 ∷ 0x00 ∷ 0x17 ∷ 0x00 ∷ [])
    ∷ card bad_mark (0xfc ∷ 0x20 ∷ 0x00 ∷ 0x00 ∷ 0x01 ∷ 0x7f ∷ 0xff ∷ 0xfd ∷ 0x00 ∷ [])
    ∷ card bad_mark (0xfc ∷ 0x20 ∷ 0x00 ∷ 0x00 ∷ 0x01 ∷ 0x40 ∷ 0x00 ∷ 0x17 ∷ [])
    ∷ card bad_mark (0xfc ∷ 0x20 ∷ 0x00 ∷ 0x00 ∷ 0x01 ∷ 0x40 ∷ 0x00 ∷ 0x17 ∷ 0xc9 ∷ [])
    -- "27 for a count above 200": 201 and 255, before whole bytes that remain; 200 records run past the end
    ∷ card bad_record (0xfc ∷ 0x10 ∷ 0x00 ∷ 0x00 ∷ 0x00 ∷ 0x32 ∷ 0x40 ∷ [])
    ∷ card bad_record (0xfc ∷ 0x10 ∷ 0x00 ∷ 0x00 ∷ 0x00 ∷ 0x3f ∷ 0xc0 ∷ [])
    ∷ card bad_record (0xfc ∷ 0x10 ∷ 0x00 ∷ 0x00 ∷ 0x00 ∷ 0x32 ∷ 0x40 ∷ 0x00 ∷ [])
    ∷ card bad_length (0xfc ∷ 0x10 ∷ 0x00 ∷ 0x00 ∷ 0x00 ∷ 0x32 ∷ 0x00 ∷ [])
    -- "3 where it runs past the end": the record of an arc and that of a budget, whole and a byte shorter; one of two
    ∷ card 0 (0xfc ∷ 0x20 ∷ 0x00 ∷ 0x00 ∷ 0x01 ∷ 0x40 ∷ 0x00 ∷ 0x14 ∷ 0x01 ∷ 0x00 ∷ 0x14 ∷ [])
    ∷ card bad_length (0xfc ∷ 0x20 ∷ 0x00 ∷ 0x00 ∷ 0x01 ∷ 0x40 ∷ 0x00 ∷ 0x14 ∷ 0x01 ∷ 0x00 ∷ [])
    ∷ card 0 (0xfc ∷ 0x20 ∷ 0x00 ∷ 0x00 ∷ 0x01 ∷ 0x40 ∷ 0x00 ∷ 0x14 ∷ 0x01 ∷ 0x40 ∷ 0x00 ∷ 0x00 ∷ 0xe0 ∷ [])
    ∷ card bad_length (0xfc ∷ 0x20 ∷ 0x00 ∷ 0x00 ∷ 0x01 ∷ 0x40 ∷ 0x00 ∷ 0x14 ∷ 0x01 ∷ 0x40 ∷ 0x00 ∷ 0x00 ∷ [])
    ∷ card bad_length (0xfc ∷ 0x20 ∷ 0x00 ∷ 0x00 ∷ 0x01 ∷ 0x40 ∷ 0x00 ∷ 0x14 ∷ 0x02 ∷ 0x40 ∷ 0x00 ∷ 0x00 ∷ 0xe0 ∷ [])
    -- "each whole record in turn": 1→0, which is no arc, before a second record that runs past the end, and before
    -- whole bytes that remain; mark 3 behind a budget that passes; "kind 3 (two bits long)"
    ∷ card bad_record (0xfc ∷ 0x20 ∷ 0x00 ∷ 0x00 ∷ 0x01 ∷ 0x40 ∷ 0x00 ∷ 0x14 ∷ 0x02 ∷ 0x02 ∷ 0x00 ∷ [])
    ∷ card bad_record (0xfc ∷ 0x20 ∷ 0x00 ∷ 0x00 ∷ 0x01 ∷ 0x40 ∷ 0x00 ∷ 0x14 ∷ 0x01 ∷ 0x02 ∷ 0x00 ∷ 0x00 ∷ [])
    ∷ card bad_record (0xfc ∷ 0x20 ∷ 0x00 ∷ 0x00 ∷ 0x01 ∷ 0x40 ∷ 0x00 ∷ 0x14 ∷ 0x02 ∷ 0x40 ∷ 0x00 ∷ 0x00 ∷ 0xe0 ∷ 0x03 ∷ 0x80 ∷ [])
    ∷ card bad_record (0xfc ∷ 0x10 ∷ 0x00 ∷ 0x00 ∷ 0x00 ∷ 0x00 ∷ 0x70 ∷ [])
    -- "then 3 if whole bytes remain", whether or not a bit before or in them is 1
    ∷ card bad_length (0xfc ∷ 0x10 ∷ 0x00 ∷ 0x00 ∷ 0x00 ∷ 0x00 ∷ 0x00 ∷ 0x00 ∷ [])
    ∷ card bad_length (0xfc ∷ 0x10 ∷ 0x00 ∷ 0x00 ∷ 0x00 ∷ 0x00 ∷ 0x01 ∷ 0x00 ∷ [])
    ∷ card bad_length (0xfc ∷ 0x10 ∷ 0x00 ∷ 0x00 ∷ 0x00 ∷ 0x00 ∷ 0x00 ∷ 0xff ∷ [])
    ∷ card bad_length (0xfc ∷ 0x20 ∷ 0x00 ∷ 0x00 ∷ 0x01 ∷ 0x40 ∷ 0x00 ∷ 0x14 ∷ 0x00 ∷ 0x01 ∷ [])
    ∷ card bad_length (0xfc ∷ 0x20 ∷ 0x00 ∷ 0x00 ∷ 0x01 ∷ 0x40 ∷ 0x00 ∷ 0x14 ∷ 0x02 ∷ 0x40 ∷ 0x00 ∷ 0x00 ∷ 0xe0 ∷ 0x02 ∷ 0x80 ∷ 0x00 ∷ [])
    -- "then 8": the first and the last of six filling bits, and the last of seven
    ∷ card bad_filling (0xfc ∷ 0x10 ∷ 0x00 ∷ 0x00 ∷ 0x00 ∷ 0x00 ∷ 0x20 ∷ [])
    ∷ card bad_filling (0xfc ∷ 0x10 ∷ 0x00 ∷ 0x00 ∷ 0x00 ∷ 0x00 ∷ 0x01 ∷ [])
    ∷ card bad_filling (0xfc ∷ 0x20 ∷ 0x00 ∷ 0x00 ∷ 0x01 ∷ 0x40 ∷ 0x00 ∷ 0x14 ∷ 0x02 ∷ 0x40 ∷ 0x00 ∷ 0x00 ∷ 0xe0 ∷ 0x02 ∷ 0x81 ∷ [])
    ∷ []

-- THE CLAIM
pub history_refusals : map (λ c. history_refusal c.bytes) history_cards ≡ map (λ c. c.answer) history_cards
unfolding
    history_cards history_refusal history_header_refusal is_history behind_refusal records_refusal end_refusal record_refusal form_refusal record_length
    replaced_in record_ok is_arc weight cells_refusal cell_refusal cell_fields on_card can_be_arc bits_in bits_of field number_from bits_needed all_of
    count_below sum_below inside
history_refusals = refl

-- BOTH KINDS: "A card moves old to new with no records"; "Old cards still open", and history cards do
pub p9_moved : history_card_of (opened p9) ≡ (0xfc ∷ 0x20 ∷ 0x00 ∷ 0x00 ∷ 0x01 ∷ 0x40 ∷ 0x00 ∷ 0x14 ∷ 0x00 ∷ [])
unfolding
    opened p9 history_card_of history_bytes history_bits records_bits record_bits packed instance_bits cell_bits on_card can_be_arc bits_of number_from
p9_moved = refl

pub p9_both_open : map open_refusal (p9_card ∷ p9_history_card ∷ []) ≡ (0 ∷ 0 ∷ [])
unfolding
    open_refusal card_refusal header_refusal instance_in bytes_needed history_refusal history_header_refusal is_history behind_refusal records_refusal
    end_refusal record_refusal form_refusal record_length replaced_in record_ok is_arc weight cells_refusal cell_refusal cell_fields on_card can_be_arc
    bits_in bits_of field number_from bits_needed all_of count_below sum_below inside
p9_both_open = refl

-- MOVES to a plain card, 0 for one that is made: "new to old only without records"
unfoldable pub moved_cards : List Card
moved_cards =
    -- no record; a plain card; two records
    card 0 (0xfc ∷ 0x20 ∷ 0x00 ∷ 0x00 ∷ 0x01 ∷ 0x40 ∷ 0x00 ∷ 0x14 ∷ 0x00 ∷ [])
    ∷ card bad_count p9_card
    ∷ card has_records p9_history_card
    -- "after these, 28": two records with a faulty one, and with a filling bit
    ∷ card bad_record (0xfc ∷ 0x20 ∷ 0x00 ∷ 0x00 ∷ 0x01 ∷ 0x40 ∷ 0x00 ∷ 0x14 ∷ 0x02 ∷ 0x40 ∷ 0x00 ∷ 0x00 ∷ 0xe0 ∷ 0x03 ∷ 0x80 ∷ [])
    ∷ card bad_filling (0xfc ∷ 0x20 ∷ 0x00 ∷ 0x00 ∷ 0x01 ∷ 0x40 ∷ 0x00 ∷ 0x14 ∷ 0x02 ∷ 0x40 ∷ 0x00 ∷ 0x00 ∷ 0xe0 ∷ 0x02 ∷ 0x81 ∷ [])
    ∷ []

pub moves : map (λ c. to_plain_refusal c.bytes) moved_cards ≡ map (λ c. c.answer) moved_cards
unfolding
    moved_cards to_plain_refusal history_model history_in history_refusal history_header_refusal is_history behind_refusal records_refusal end_refusal
    record_refusal form_refusal record_length replaced_in record_ok is_arc weight cells_refusal cell_refusal cell_fields on_card can_be_arc bits_in bits_of
    field number_from bits_needed all_of count_below sum_below inside
moves = refl
