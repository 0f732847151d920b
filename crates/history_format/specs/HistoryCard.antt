-- The history card (02, A8: a new card; an old card is a plain card here): layout, refusals, reading and writing.
-- Assumes nothing: these are definitions.
use Rattle.std.specs.Prelude.{Bool, ◌||◌, not, cond, List, [], ◌∷◌, ◌++◌, ℕ, zero, suc, ◌+◌, ◌*◌, ◌-◌, ◌/◌, ltb, leb, eqb, length, drop, replicate}
use Rattle.base.specs.Lists.{all_of}
use Rattle.bits.specs.Bits.{bits_of, bits_in, field, packed}
use Rattle.instance.specs.Limits.{max_vertices, max_budget, max_records}
use Rattle.instance.specs.Refusals.{card_short, bad_count, bad_length, bad_root, bad_card_budget, bad_filling, bad_record, has_records}
use Rattle.instance.specs.Instance.{Instance}
use Rattle.card_format.specs.Card.{n_in, root_in, budget_in, bits_needed, min_card, instance_of_bits, instance_in, cells_refusal, card_refusal, instance_bits}
use Rattle.commands.specs.Model.{Replaced, Model, opened}
use Rattle.history_format.specs.RecordWidths.{marker_width, history_marker, count_width}
use Rattle.history_format.specs.RecordBits.{record_length, replaced_in, record_refusal, record_bits}

-- LAYOUT

-- "A new card starts with six bits 63"
unfoldable pub is_history : (card : List ℕ) → Bool
is_history ws = eqb (field 0 marker_width (bits_in ws)) history_marker

-- "then the bits of the old card without filling": all that follows the marker begins with them
abbrev pub behind_marker : (card : List ℕ) → List ℕ
behind_marker ws = drop marker_width (bits_in ws)

-- "then an 8-bit count of recorded presses, then the records": what follows the bits of the plain card
abbrev pub behind_cells : (card : List ℕ) → List ℕ
behind_cells ws = drop (bits_needed (n_in (behind_marker ws))) (behind_marker ws)

abbrev pub count_in : (bits : List ℕ) → ℕ
count_in bs = field 0 count_width bs

-- "the longest is 5,174 bytes"
abbrev pub max_history_card : ℕ
max_history_card = 5174

-- READING

-- "the records, oldest first": so many of them, put on those that were read before, the latest first
unfoldable pub history_in : (left : ℕ) → (bits : List ℕ) → (earlier : List Replaced) → List Replaced
history_in zero bs rs = rs
history_in (suc k) bs rs = history_in k (drop (record_length bs) bs) (replaced_in bs ∷ rs)

-- what a history card holds: a board's marks and budget, and its history
unfoldable pub history_model : (card : List ℕ) → Model
history_model ws =
    let rest = behind_cells ws in
    record { instance = instance_of_bits (behind_marker ws); history = history_in (count_in rest) (drop count_width rest) [] }

-- REFUSALS

-- behind the last record: "then 3 if whole bytes remain; then 8"
unfoldable pub end_refusal : (bits : List ℕ) → ℕ
end_refusal bs = cond (leb 8 (length bs)) bad_length (cond (all_of (λ b. eqb b 0) bs) 0 bad_filling)

-- "for .. each whole record in turn, 3 where it runs past the end, else 27"
unfoldable pub records_refusal : (left : ℕ) → Instance → (bits : List ℕ) → ℕ
records_refusal zero s bs = end_refusal bs
records_refusal (suc k) s bs = cond (eqb (record_refusal s bs) 0) (records_refusal k s (drop (record_length bs) bs)) (record_refusal s bs)

-- "for the count .., 3 where it runs past the end, else 27 for a count above 200"
unfoldable pub behind_refusal : Instance → (bits : List ℕ) → ℕ
behind_refusal s bs =
    cond (ltb (length bs) count_width) bad_length
    (cond (ltb max_records (count_in bs)) bad_record
    (records_refusal (count_in bs) s (drop count_width bs)))

-- "on a new card, 1 to 7 keep their order, 3 now meaning that the old bits run past the end"; "A move handed the other
-- kind is 2"
unfoldable pub history_header_refusal : (card : List ℕ) → (rest : ℕ) → ℕ
history_header_refusal ws rest =
    let bs = behind_marker ws in
    let n = n_in bs in
    cond (ltb (length ws) min_card) card_short
    (cond (not (is_history ws)) bad_count
    (cond (eqb n 0 || ltb max_vertices n) bad_count
    (cond (ltb (length bs) (bits_needed n)) bad_length
    (cond (leb n (root_in bs)) bad_root
    (cond (ltb max_budget (budget_in bs)) bad_card_budget rest)))))

-- 0 is a history card that opens
unfoldable pub history_refusal : (card : List ℕ) → ℕ
history_refusal ws =
    let s = instance_of_bits (behind_marker ws) in
    let c = cells_refusal s.weights s.marks in
    history_header_refusal ws (cond (eqb c 0) (behind_refusal s (behind_cells ws)) c)

-- BOTH KINDS: "Old cards still open."
unfoldable pub open_refusal : (card : List ℕ) → ℕ
open_refusal ws = cond (is_history ws) (history_refusal ws) (card_refusal ws)

unfoldable pub model_in : (card : List ℕ) → Model
model_in ws = cond (is_history ws) (history_model ws) (opened (instance_in ws))

-- the move of a history card to a plain one: "new to old only without records"; "after these, 28 for a move to old with
-- records"
unfoldable pub to_plain_refusal : (card : List ℕ) → ℕ
to_plain_refusal ws = cond (eqb (history_refusal ws) 0) (cond (eqb (length (history_model ws).history) 0) 0 has_records) (history_refusal ws)

-- WRITING

-- "the records, oldest first"
unfoldable pub records_bits : (history : List Replaced) → List ℕ
records_bits [] = []
records_bits (r ∷ rs) = records_bits rs ++ record_bits r

-- the bits of a history card without the filling
unfoldable pub history_bits : Model → List ℕ
history_bits m =
    bits_of marker_width history_marker ++ (instance_bits m.instance ++ (bits_of count_width (length m.history) ++ records_bits m.history))

unfoldable pub history_bytes : Model → ℕ
history_bytes m = (length (history_bits m) + 7) / 8

-- "Zero bits fill the last byte"
unfoldable pub history_card_of : Model → List ℕ
history_card_of m = packed (history_bytes m) (history_bits m ++ replicate (8 * history_bytes m - length (history_bits m)) 0)
