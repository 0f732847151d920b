-- One record on a card (02, A8): its length, what it says, its refusals, and the bits it is written as. A record is
-- read from the bits that begin with it. Assumes nothing: these are definitions.
use Rattle.std.specs.Prelude.{cond, List, [], ◌++◌, ℕ, zero, suc, ◌+◌, ◌*◌, ltb, eqb, length, get_or}
use Rattle.base.specs.Bounded.{count_below}
use Rattle.base.specs.Lists.{tabulate}
use Rattle.bits.specs.Bits.{bits_of, field}
use Rattle.instance.specs.Limits.{max_vertices, free}
use Rattle.instance.specs.Refusals.{bad_length, bad_record}
use Rattle.instance.specs.Instance.{Instance}
use Rattle.instance.specs.Cuts.{inside}
use Rattle.card_format.specs.Widths.{budget_width, mark_width}
use Rattle.commands.specs.Model.{Replaced, old_mark, old_marks, old_budget}
use Rattle.commands.specs.Valid.{record_ok}
use Rattle.history_format.specs.RecordWidths.{kind_width, vertex_width, head_start, mark_start, mark_record_width, budget_record_width, heads_width, marks_start}

-- READING

-- "each a 2-bit kind: 0 a link .., 1 the replaced budget .., 2 a group"
abbrev pub kind_in : (bits : List ℕ) → ℕ
kind_in bs = field 0 kind_width bs

abbrev pub tail_in : (bits : List ℕ) → ℕ
tail_in bs = field kind_width vertex_width bs

-- "set 32", the most significant bit first as every field: bit h for head h
abbrev pub heads_in : (bits : List ℕ) → ℕ
heads_in bs = field head_start heads_width bs

-- "then 2 bits for each member upwards": the mark of a head stands behind one for each member below it
abbrev pub mark_offset : (heads head : ℕ) → ℕ
mark_offset c h = mark_width * count_below h (inside c)

-- the marks of the members, by head, and free at every other head, as an undo record has them
unfoldable pub member_marks : (heads : ℕ) → (bits : List ℕ) → List ℕ
member_marks c bs = tabulate max_vertices (λ h. cond (inside c h) (field (marks_start + mark_offset c h) mark_width bs) free)

-- How many bits the record has: of several arcs by every head of the set, whether or not there is such an arc; "kind 3
-- (two bits long)". Where there are not so many bits, the record "runs past the end": where there is no whole kind too,
-- since no record is shorter than a kind (`record_length_least`).
unfoldable pub record_length : (bits : List ℕ) → ℕ
record_length bs =
    cond (eqb (kind_in bs) 0) mark_record_width
    (cond (eqb (kind_in bs) 1) budget_record_width
    (cond (eqb (kind_in bs) 2) (marks_start + mark_offset (heads_in bs) max_vertices) kind_width))

-- what it says; kind 3 is refused before this is looked at
unfoldable pub replaced_in : (bits : List ℕ) → Replaced
replaced_in bs =
    cond (eqb (kind_in bs) 0) (old_mark (tail_in bs) (field head_start vertex_width bs) (field mark_start mark_width bs))
    (cond (eqb (kind_in bs) 1) (old_budget (field kind_width budget_width bs)) (old_marks (tail_in bs) (heads_in bs) (member_marks (heads_in bs) bs)))

-- what is refused before the record is understood: "3 where it runs past the end, else 27 for .. kind 3"
unfoldable pub form_refusal : (bits : List ℕ) → ℕ
form_refusal bs = cond (ltb (length bs) (record_length bs)) bad_length (cond (eqb (kind_in bs) 3) bad_record 0)

-- ".. or a record naming a non-link, an empty group or a value out of range": by the rule for the records of a board
unfoldable pub record_refusal : Instance → (bits : List ℕ) → ℕ
record_refusal s bs = cond (eqb (form_refusal bs) 0) (cond (record_ok s (replaced_in bs)) 0 bad_record) (form_refusal bs)

-- WRITING

-- the marks of the members below a head, upwards
unfoldable pub mark_bits : (head heads : ℕ) → (marks : List ℕ) → List ℕ
mark_bits zero c ms = []
mark_bits (suc h) c ms = mark_bits h c ms ++ cond (inside c h) (bits_of mark_width (get_or ms h free)) []

unfoldable pub record_bits : Replaced → List ℕ
record_bits (old_mark t h m) = bits_of kind_width 0 ++ (bits_of vertex_width t ++ (bits_of vertex_width h ++ bits_of mark_width m))
record_bits (old_budget v) = bits_of kind_width 1 ++ bits_of budget_width v
record_bits (old_marks t c ms) = bits_of kind_width 2 ++ (bits_of vertex_width t ++ (bits_of heads_width c ++ mark_bits max_vertices c ms))
