-- Records that fit the fields they are written in: those of a valid board do, and so does every record that is read.
-- Assumes nothing.
use mathlib.Core.Path.{◌≡◌}
use mathlib.Core.Bool.{Bool, true, false, cond}
use mathlib.Core.List.{List}
use Prim.Native.Nat.{ℕ, ◌^◌, ◌≤◌, ◌<◌}
use native.Mathlib.Omega.{arith}
use lib.Dec.{leb, eqb}
use lib.ListN.{get_or}
use borrow.Author.Tests.{leb-true}
use Rattle.base.proofs.BoolLaws.{and_left, and_right}
use Rattle.bits.specs.Bits.{are_bits}
use Rattle.bits.proofs.FieldLaws.{field_below}
use Rattle.instance.specs.Limits.{max_vertices, max_budget, free, banned}
use Rattle.instance.specs.Instance.{Instance, is_arc}
use Rattle.instance.specs.Cuts.{inside}
use Rattle.instance.proofs.ArcLaws.{arc_ends}
use Rattle.card_format.specs.Widths.{budget_width, mark_width}
use Rattle.commands.specs.Model.{Replaced, old_mark, old_marks, old_budget}
use Rattle.commands.specs.Valid.{record_ok}
use Rattle.commands.proofs.ValidLaws.{record_arcs}
use Rattle.history_format.specs.RecordWidths.{kind_width, vertex_width, head_start, mark_start, heads_width}
use Rattle.history_format.specs.RecordBits.{kind_in, heads_in, replaced_in}
use Rattle.history_format.proofs.MemberMarks.{of_members, member_below, members_only}

-- WHAT FITS
pub record MarkFits (t h m : ℕ) : Type 0 where
  pub tail_fits : t < 2 ^ vertex_width
  pub head_fits : h < 2 ^ vertex_width
  pub mark_fits : m < 2 ^ mark_width

-- what the types of a board's records give of several arcs
pub record MarksShaped (c : ℕ) (ms : List ℕ) : Type 0 where
  pub heads_fit : c < 2 ^ heads_width
  pub only_members : ms ≡ of_members c ms

pub record MarksFit (t c : ℕ) (ms : List ℕ) : Type 0 where
  pub tail_fits : t < 2 ^ vertex_width
  pub shaped : MarksShaped c ms
  pub marks_fit : (h : ℕ) → h < max_vertices → inside c h ≡ true → get_or ms h free < 2 ^ mark_width

abbrev pub Shaped : Replaced → Type 0
Shaped (old_mark t h m) = Unit
Shaped (old_marks t c ms) = MarksShaped c ms
Shaped (old_budget v) = Unit

abbrev pub Writable : Replaced → Type 0
Writable (old_mark t h m) = MarkFits t h m
Writable (old_marks t c ms) = MarksFit t c ms
Writable (old_budget v) = v < 2 ^ budget_width

pub writable_shaped : (o : Replaced) → Writable o → Shaped o
writable_shaped (old_mark t h m) w = tt
writable_shaped (old_marks t c ms) w = w.shaped
writable_shaped (old_budget v) w = tt

-- a record of a valid board fits
pub ok_writable : (s : Instance) (o : Replaced) → s.n ≤ max_vertices → record_ok s o ≡ true → Shaped o → Writable o
unfolding record_ok
ok_writable s (old_mark t h m) few e _ =
    let a = arc_ends s t h (and_left (is_arc s t h) (leb m banned) e) in
    let l = leb-true m banned (and_right (is_arc s t h) (leb m banned) e) in
    record { tail_fits = omega (arith, a.tail_below); head_fits = omega (arith, a.head_below); mark_fits = omega arith }
ok_writable s (old_marks t c ms) few e shape =
    let r = record_arcs s t c ms e in
    let h = r.some in
    let a = arc_ends s t h.0 (r.arcs h.0 h.1 h.2) in
    record { tail_fits = omega (arith, a.tail_below); shaped = shape; marks_fit = λ v l i. omega (arith, r.low v l i) }
ok_writable s (old_budget v) few e _ = let l = leb-true v max_budget e in omega arith

-- WHAT IS READ FITS, whole or not
fits_by : (a b : Bool) (x y z v t c : ℕ) (ms : List ℕ) → MarkFits x y z → v < 2 ^ budget_width → MarksFit t c ms →
    Writable (cond a (old_mark x y z) (cond b (old_budget v) (old_marks t c ms)))
fits_by true b x y z v t c ms p q r = p
fits_by false true x y z v t c ms p q r = q
fits_by false false x y z v t c ms p q r = r

pub read_fits : (bs : List ℕ) → are_bits bs ≡ true → Writable (replaced_in bs)
unfolding replaced_in
read_fits bs e =
    fits_by (eqb (kind_in bs) 0) (eqb (kind_in bs) 1) _ _ _ _ _ _ _
    (record {
      tail_fits = field_below kind_width vertex_width bs e;
      head_fits = field_below head_start vertex_width bs e;
      mark_fits = field_below mark_start mark_width bs e;
    })
    (field_below kind_width budget_width bs e)
    (record {
      tail_fits = field_below kind_width vertex_width bs e;
      shaped = record { heads_fit = field_below head_start heads_width bs e; only_members = members_only (heads_in bs) bs };
      marks_fit = member_below (heads_in bs) bs e;
    })

pub read_shaped : (bs : List ℕ) → are_bits bs ≡ true → Shaped (replaced_in bs)
read_shaped bs e = writable_shaped (replaced_in bs) (read_fits bs e)
