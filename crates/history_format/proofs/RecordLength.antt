-- How long a record on a card can be: 103 bits, and 101 where it is a record of a valid board or passes. Assumes
-- nothing.
--
-- The heads of a record that passes are those of arcs from its tail, so the tail is not among them: 31 heads at most,
-- of two bits each.
use mathlib.Core.Path.{◌≡◌, refl, ap}
use mathlib.Core.Bool.{Bool, true, false, cond}
use mathlib.Core.List.{List}
use Prim.Native.Nat.{ℕ, ◌+◌, ◌≤◌, ◌<◌}
use native.Mathlib.Omega.{arith}
use lib.Dec.{eqb}
use lib.ListN.{length, drop, length-append, length-drop}
use borrow.Author.Tests.{eq-eqb}
use Rattle.base.specs.Bounded.{count_below}
use Rattle.base.proofs.BoolLaws.{is_false, not_both, passes_only}
use Rattle.base.proofs.CondLaws.{cond_most}
use Rattle.base.proofs.CountingLaws.{count_le, count_more}
use Rattle.bits.specs.Bits.{are_bits}
use Rattle.instance.specs.Limits.{max_vertices}
use Rattle.instance.specs.Refusals.{bad_record}
use Rattle.instance.specs.Instance.{Instance}
use Rattle.instance.specs.Cuts.{inside}
use Rattle.instance.proofs.ArcLaws.{arc_ends}
use Rattle.card_format.proofs.CellLaws.{first_passes}
use Rattle.commands.specs.Model.{Replaced, old_mark, old_marks, old_budget}
use Rattle.commands.specs.Valid.{record_ok}
use Rattle.commands.proofs.ValidLaws.{record_arcs}
use Rattle.history_format.specs.RecordWidths.{kind_width, mark_record_width, budget_record_width, marks_start}
use Rattle.history_format.specs.RecordBits.{kind_in, heads_in, mark_offset, record_length, replaced_in, form_refusal, record_refusal, record_bits}
use Rattle.history_format.proofs.MemberMarks.{offset_most}
use Rattle.history_format.proofs.RecordLaws.{length_mark, length_budget, length_marks, whole, record_again}

-- of any bits
abbrev pub longest_record : ℕ
longest_record = 103

pub record_length_most : (bs : List ℕ) → record_length bs ≤ longest_record
unfolding record_length
record_length_most bs =
    let m : marks_start + mark_offset (heads_in bs) max_vertices ≤ longest_record = omega (arith, offset_most (heads_in bs) max_vertices) in
    cond_most (eqb (kind_in bs) 0) mark_record_width _ longest_record (omega arith)
    (cond_most (eqb (kind_in bs) 1) budget_record_width _ longest_record (omega arith) (cond_most (eqb (kind_in bs) 2) _ kind_width longest_record m (omega arith)))

pub record_length_least : (bs : List ℕ) → kind_width ≤ record_length bs
unfolding record_length
record_length_least bs =
    least (eqb (kind_in bs) 0) mark_record_width _ (omega arith)
    (least (eqb (kind_in bs) 1) budget_record_width _ (omega arith)
    (least (eqb (kind_in bs) 2) (marks_start + mark_offset (heads_in bs) max_vertices) kind_width (omega arith) (omega arith)))
  where
    least : (b : Bool) (x y : ℕ) → kind_width ≤ x → kind_width ≤ y → kind_width ≤ cond b x y
    least true x y p q = p
    least false x y p q = q

-- of a record that passes
abbrev pub longest_valid : ℕ
longest_valid = 101

-- a tail is no head of its own arcs, so not every vertex is among them
tail_left_out : (c t k : ℕ) → t < k → inside c t ≡ false → count_below k (inside c) + 1 ≤ k
tail_left_out c t k l o =
    omega (arith, count_more k (inside c) (λ v. true) (λ v _ _. refl) t l o refl, count_le k (λ v. true))

pub record_short : (s : Instance) (o : Replaced) → s.n ≤ max_vertices → record_ok s o ≡ true → length (record_bits o) ≤ longest_valid
record_short s (old_mark t h m) few e = omega (arith, length_mark t h m)
record_short s (old_marks t c ms) few e =
    let r = record_arcs s t c ms e in
    let h = r.some in
    let a = (arc_ends s t h.0 (r.arcs h.0 h.1 h.2)).tail_below in
    let l : t < max_vertices = omega arith in
    let o : inside c t ≡ false = is_false (inside c t) (λ i. not_both (eqb t t) (eq-eqb t t refl) (arc_ends s t t (r.arcs t l i)).differ) in
    omega (arith, length_marks t c ms, tail_left_out c t max_vertices l o)
record_short s (old_budget v) few e = omega (arith, length_budget v)

-- READ
-- what is written of a record that was read is as long as what was read
pub length_again : (bs : List ℕ) → are_bits bs ≡ true → form_refusal bs ≡ 0 → length (record_bits (replaced_in bs)) ≡ record_length bs
length_again bs e f =
    let w = (whole bs e f).within in
    let l = ap length (record_again bs e f) in
    omega (arith, l, length-append (record_bits (replaced_in bs)) (drop (record_length bs) bs), length-drop (record_length bs) bs)

-- a record that is not refused is whole, of a kind that there is, and passes the rule for the records of a board
pub refusal_passed : (s : Instance) (bs : List ℕ) → record_refusal s bs ≡ 0 → (form_refusal bs ≡ 0) × (record_ok s (replaced_in bs) ≡ true)
unfolding record_refusal
refusal_passed s bs e =
    let p = first_passes (form_refusal bs) (cond (record_ok s (replaced_in bs)) 0 bad_record) e in
    (p.0, passes_only (record_ok s (replaced_in bs)) 26 p.1)

pub read_short : (s : Instance) (bs : List ℕ) → s.n ≤ max_vertices → are_bits bs ≡ true → record_refusal s bs ≡ 0 → record_length bs ≤ longest_valid
read_short s bs few e r =
    let p = refusal_passed s bs r in
    omega (arith, length_again bs e p.0, record_short s (replaced_in bs) few p.1)
