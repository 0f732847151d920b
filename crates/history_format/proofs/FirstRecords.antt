-- A record on a card is judged by its first 103 bits at most, and records that pass take 101 bits at most: so records
-- are judged by the first bits, whatever follows them. A byte more than they can take is left over behind them. Assumes
-- nothing.
use mathlib.Core.Path.{◌≡◌, refl, ◌∙◌}
use mathlib.Core.Bool.{Bool, true, false, cond}
use mathlib.Core.List.{List, ◌++◌}
use Prim.Native.Nat.{ℕ, zero, suc, ◌+◌, ◌*◌, ◌≤◌, ◌<◌}
use native.Mathlib.Omega.{arith}
use lib.Dec.{ltb, eqb}
use lib.ListN.{length, drop, length-append, length-drop}
use lib.Seq.{drop-append-le}
use borrow.Author.Tests.{ltb-false, le-ltb, le-leb, ne_eqb}
use Rattle.base.specs.Lists.{tabulate}
use Rattle.base.proofs.AllOfLaws.{all_of_drop}
use Rattle.base.proofs.ListLaws.{length_tabulate, get_d_tabulate, tabulate_is}
use Rattle.bits.specs.Bits.{field, are_bits}
use Rattle.instance.specs.Limits.{max_vertices, free, max_records}
use Rattle.instance.specs.Refusals.{bad_length, bad_record}
use Rattle.instance.specs.Instance.{Instance}
use Rattle.instance.specs.Cuts.{inside}
use Rattle.card_format.specs.Widths.{budget_width, mark_width}
use Rattle.card_format.proofs.CellLaws.{first_passes}
use Rattle.history_format.specs.RecordWidths.{count_width, kind_width, vertex_width, head_start, mark_start, heads_width, marks_start}
use Rattle.history_format.specs.RecordBits.{kind_in, heads_in, mark_offset, member_marks, record_length, replaced_in, form_refusal, record_refusal}
use Rattle.history_format.specs.HistoryCard.{count_in, end_refusal, records_refusal, behind_refusal}
use Rattle.history_format.proofs.FirstBits.{field_front}
use Rattle.history_format.proofs.MemberMarks.{offset_most}
use Rattle.history_format.proofs.RecordLength.{longest_record, record_length_most, longest_valid, read_short}

-- ONE RECORD
module _ (ts zs : List ℕ) (long : longest_record ≤ length ts) where
  kind_front : kind_in (ts ++ zs) ≡ kind_in ts
  kind_front = field_front 0 kind_width ts zs (omega arith)

  heads_front : heads_in (ts ++ zs) ≡ heads_in ts
  heads_front = field_front head_start heads_width ts zs (omega arith)

  pub record_length_front : record_length (ts ++ zs) ≡ record_length ts
  unfolding record_length
  record_length_front = rw (kind_front, heads_front)

  mark_front : (c h : ℕ) → h < max_vertices → (b : Bool) →
      cond b (field (marks_start + mark_offset c h) mark_width (ts ++ zs)) free ≡ cond b (field (marks_start + mark_offset c h) mark_width ts) free
  mark_front c h l true = field_front (marks_start + mark_offset c h) mark_width ts zs (omega (arith, offset_most c h))
  mark_front c h l false = refl

  marks_front : (c : ℕ) → member_marks c (ts ++ zs) ≡ member_marks c ts
  unfolding member_marks
  marks_front c =
      let f : ℕ → ℕ = λ h. cond (inside c h) (field (marks_start + mark_offset c h) mark_width (ts ++ zs)) free in
      tabulate_is max_vertices (tabulate max_vertices f) (λ h. cond (inside c h) (field (marks_start + mark_offset c h) mark_width ts) free) 0
      (length_tabulate max_vertices f) (λ h l. get_d_tabulate max_vertices f h 0 l ∙ mark_front c h l (inside c h))

  pub replaced_front : replaced_in (ts ++ zs) ≡ replaced_in ts
  unfolding replaced_in
  replaced_front =
      rw (
        kind_front,
        heads_front,
        marks_front (heads_in ts),
        field_front kind_width vertex_width ts zs (omega arith),
        field_front head_start vertex_width ts zs (omega arith),
        field_front mark_start mark_width ts zs (omega arith),
        field_front kind_width budget_width ts zs (omega arith),
      )

  form_front : form_refusal (ts ++ zs) ≡ form_refusal ts
  unfolding form_refusal
  form_front =
      let most = record_length_most ts in
      let longer : record_length ts ≤ length (ts ++ zs) = omega (arith, length-append ts zs) in
      rw (record_length_front, kind_front, le-ltb (length (ts ++ zs)) (record_length ts) longer, le-ltb (length ts) (record_length ts) (omega arith))

  pub record_front : (s : Instance) → record_refusal s (ts ++ zs) ≡ record_refusal s ts
  unfolding record_refusal
  record_front s = rw (form_front, replaced_front)

-- RECORDS
-- the first answer that is not 0, where the others agree once it is 0
pub first_alike : (c x y : ℕ) → (c ≡ 0 → x ≡ y) → cond (eqb c 0) x c ≡ cond (eqb c 0) y c
first_alike zero x y h = h refl
first_alike (suc c) x y h = rw (ne_eqb (suc c) 0 (λ z. omega arith))

-- a whole byte is left
left_over : (bs : List ℕ) → 8 ≤ length bs → end_refusal bs ≡ bad_length
unfolding end_refusal
left_over bs h = rw (le-leb 8 (length bs) h)

-- what so many records can take, and a byte
abbrev pub room : (left : ℕ) → ℕ
room k = longest_valid * k + 8

module _ (s : Instance) (few : s.n ≤ max_vertices) where
  -- behind one that passes there is room for the others
  room_left : (k : ℕ) (ts : List ℕ) → are_bits ts ≡ true → room (suc k) ≤ length ts → record_refusal s ts ≡ 0 →
      (record_length ts ≤ length ts) × (room k ≤ length (drop (record_length ts) ts))
  room_left k ts b h e =
      let short = read_short s ts few b e in
      (omega arith, rw (length-drop (record_length ts) ts) (omega arith))

  pub records_front : (k : ℕ) (ts zs : List ℕ) → are_bits ts ≡ true → room k ≤ length ts →
      records_refusal k s (ts ++ zs) ≡ records_refusal k s ts
  unfolding records_refusal
  records_front zero ts zs b h = rw (left_over ts (omega arith)) (left_over (ts ++ zs) (rw (length-append ts zs) (omega arith)))
  records_front (suc k) ts zs b h =
      rw (record_front ts zs (omega arith) s, record_length_front ts zs (omega arith))
      (first_alike (record_refusal s ts) _ _
      (λ e. let r = room_left k ts b h e in
      rw (drop-append-le (record_length ts) ts zs r.0)
      (records_front k (drop (record_length ts) ts) zs (all_of_drop (λ b. ltb b 2) (record_length ts) ts b) r.1)))

  pub records_refused : (k : ℕ) (ts : List ℕ) → are_bits ts ≡ true → room k ≤ length ts → records_refusal k s ts ≡ 0 → ⊥
  unfolding records_refusal
  records_refused zero ts b h e = let q : bad_length ≡ 0 = rw (left_over ts (omega arith)) at e in omega arith
  records_refused (suc k) ts b h e =
      let p = first_passes (record_refusal s ts) (records_refusal k s (drop (record_length ts) ts)) e in
      let r = room_left k ts b h p.0 in
      records_refused k (drop (record_length ts) ts) (all_of_drop (λ b. ltb b 2) (record_length ts) ts b) r.1 p.1

  -- THE COUNT BEFORE THEM
  count_alike : (b : Bool) (x y : ℕ) → (b ≡ false → x ≡ y) → cond b bad_record x ≡ cond b bad_record y
  count_alike true x y h = refl
  count_alike false x y h = h refl

  pub behind_front : (ts zs : List ℕ) → are_bits ts ≡ true → count_width + room max_records ≤ length ts → behind_refusal s (ts ++ zs) ≡ behind_refusal s ts
  unfolding behind_refusal
  behind_front ts zs b h =
      rw (
        field_front 0 count_width ts zs (omega arith),
        drop-append-le count_width ts zs (omega arith),
        le-ltb (length ts) count_width (omega arith),
        le-ltb (length (ts ++ zs)) count_width (rw (length-append ts zs) (omega arith)),
      )
      (count_alike (ltb max_records (count_in ts)) _ _
      (λ e. let l = ltb-false max_records (count_in ts) e in
      records_front (count_in ts) (drop count_width ts) zs (all_of_drop (λ b. ltb b 2) count_width ts b) (rw (length-drop count_width ts) (omega arith))))
