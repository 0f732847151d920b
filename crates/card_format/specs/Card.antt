-- The rig card of document 01: layout, refusals 1 to 8 (6 is retired), reading and writing. Assumes nothing: these are
-- definitions.
use Rattle.std.specs.Prelude.{Bool, ◌||◌, not, cond, List, [], ◌∷◌, ◌++◌, ℕ, zero, suc, ◌+◌, ◌*◌, ◌-◌, ◌/◌, ◌%◌, ltb, leb, eqb, length, drop, replicate}
use Rattle.base.specs.Lists.{all_of}
use Rattle.bits.specs.Bits.{bits_of, bits_in, field, packed}
use Rattle.instance.specs.Limits.{max_vertices, max_weight, no_arc, max_budget, free, cells}
use Rattle.instance.specs.Refusals.{card_short, bad_count, bad_length, bad_root, bad_card_budget, bad_weight, bad_mark, bad_filling}
use Rattle.instance.specs.Instance.{Instance, weight_at, mark_at, can_be_arc}
use Rattle.card_format.specs.Widths.{n_width, root_width, budget_width, header_width, weight_width, mark_width, cell_width}

-- LAYOUT

-- "positions 6 bits, root 5, budget 25"
abbrev pub n_in : (bits : List ℕ) → ℕ
n_in bs = field 0 n_width bs

abbrev pub root_in : (bits : List ℕ) → ℕ
root_in bs = field n_width root_width bs

abbrev pub budget_in : (bits : List ℕ) → ℕ
budget_in bs = field (n_width + root_width) budget_width bs

-- "for each feeder upwards, each fed position upwards, leaving out feeder = fed and fed = root": the cells that can
-- be an arc
unfoldable pub on_card : (n root i : ℕ) → Bool
on_card n r i = can_be_arc n r (i / 32) (i % 32)

-- "36 + 22 times (n − 1) squared bits"
unfoldable pub bits_needed : (n : ℕ) → ℕ
bits_needed n = header_width + cell_width * ((n - 1) * (n - 1))

unfoldable pub bytes_needed : (n : ℕ) → ℕ
bytes_needed n = (bits_needed n + 7) / 8

-- "n = 1 takes 5 bytes"
abbrev pub min_card : ℕ
min_card = 5

-- "n = 32 takes 2,648"
abbrev pub max_card : ℕ
max_card = 2648

-- READING

-- "price 20 bits, mark 2": the field of so many bits at a place among those of each cell on the card; another number
-- for the other cells
unfoldable pub cell_fields : (n root : ℕ) → (at width other : ℕ) → (left i : ℕ) → (bits : List ℕ) → List ℕ
cell_fields n r a w o zero i bs = []
cell_fields n r a w o (suc k) i bs =
    cond (on_card n r i) (field a w bs) o ∷ cell_fields n r a w o k (suc i) (cond (on_card n r i) (drop cell_width bs) bs)

abbrev pub weights_in : (n root : ℕ) → (bits : List ℕ) → List ℕ
weights_in n r bs = cell_fields n r 0 weight_width no_arc cells 0 (drop header_width bs)

abbrev pub marks_in : (n root : ℕ) → (bits : List ℕ) → List ℕ
marks_in n r bs = cell_fields n r weight_width mark_width free cells 0 (drop header_width bs)

-- what the bits of a card say, whatever follows them
abbrev pub instance_of_bits : (bits : List ℕ) → Instance
instance_of_bits bs =
    let n = n_in bs in
    let r = root_in bs in
    record { n = n; root = r; budget = budget_in bs; weights = weights_in n r bs; marks = marks_in n r bs }

unfoldable pub instance_in : (card : List ℕ) → Instance
instance_in ws = instance_of_bits (bits_in ws)

-- "mark 3"
abbrev pub unused_mark : ℕ
unused_mark = 3

-- 6: a price field above the limit that is not no link; 7: "mark 3, or a mark other than 0 on no link"; "6 before 7
-- within it". 02, A9: "6 is retired". The 6 is kept for numbers that no price field holds, so that the law
-- `six_retired` (proofs/SixRetired.antt) says something.
unfoldable pub cell_refusal : (weight mark : ℕ) → ℕ
cell_refusal w m =
    cond (leb w max_weight) (cond (eqb m unused_mark) bad_mark 0) (cond (eqb w no_arc) (cond (eqb m free) 0 bad_mark) bad_weight)

-- "the first faulty cell in card order"
unfoldable pub cells_refusal : (weights marks : List ℕ) → ℕ
cells_refusal [] ms = 0
cells_refusal (w ∷ ws) [] = 0
cells_refusal (w ∷ ws) (m ∷ ms) = cond (eqb (cell_refusal w m) 0) (cells_refusal ws ms) (cell_refusal w m)

-- "Cards: 1 to 5 in that order"; behind them what the rest of the card is refused with. 02, A9: "5 .. use the new
-- limits"
unfoldable pub header_refusal : (card : List ℕ) → (rest : ℕ) → ℕ
header_refusal ws rest =
    let bs = bits_in ws in
    let n = n_in bs in
    cond (ltb (length ws) min_card) card_short
    (cond (eqb n 0 || ltb max_vertices n) bad_count
    (cond (not (eqb (length ws) (bytes_needed n))) bad_length
    (cond (leb n (root_in bs)) bad_root
    (cond (ltb max_budget (budget_in bs)) bad_card_budget rest))))

-- "then the first faulty cell ..; then 8." 0 is a card that opens.
unfoldable pub card_refusal : (card : List ℕ) → ℕ
card_refusal ws =
    let bs = bits_in ws in
    let s = instance_in ws in
    let c = cells_refusal s.weights s.marks in
    let filled = all_of (λ b. eqb b 0) (drop (bits_needed (n_in bs)) bs) in
    header_refusal ws (cond (not (eqb c 0)) c (cond filled 0 bad_filling))

-- WRITING

abbrev pub header_bits : (n root budget : ℕ) → List ℕ
header_bits n r b = (bits_of n_width n ++ bits_of root_width r) ++ bits_of budget_width b

-- the bits of cell i, none if it is not on the card
abbrev pub one_cell : (n root i weight mark : ℕ) → List ℕ
one_cell n r i w m = cond (on_card n r i) (bits_of weight_width w ++ bits_of mark_width m) []

unfoldable pub cell_bits : (left i : ℕ) → Instance → List ℕ
cell_bits zero i s = []
cell_bits (suc k) i s = one_cell s.n s.root i (weight_at s i) (mark_at s i) ++ cell_bits k (suc i) s

-- the bits of a card without the filling
unfoldable pub instance_bits : Instance → List ℕ
instance_bits s = header_bits s.n s.root s.budget ++ cell_bits cells 0 s

-- "Zero bits fill the last byte."
abbrev pub filling_bits : (n : ℕ) → List ℕ
filling_bits n = replicate (8 * bytes_needed n - bits_needed n) 0

unfoldable pub card_of : Instance → List ℕ
card_of s = packed (bytes_needed s.n) (instance_bits s ++ filling_bits s.n)
