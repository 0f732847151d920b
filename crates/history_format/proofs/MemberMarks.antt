-- The marks of a record of several arcs on a card: how many bits they are, each is read where it was written, and
-- those that were read are written again. Assumes nothing.
--
-- All by induction on the head up to which the marks are written: those of the members below it stand in front, and
-- one head more adds two bits behind them, or none.
use mathlib.Core.Path.{◌≡◌, refl, sym, ap, ◌∙◌}
use mathlib.Core.Bool.{Bool, true, false, cond}
use mathlib.Core.List.{List, [], ◌++◌, append_assoc}
use mathlib.Core.Logic.{⊎_elim}
use Prim.Native.Nat.{ℕ, zero, suc, ◌+◌, ◌*◌, ◌%◌, ◌^◌, ◌≤◌, ◌<◌}
use native.Mathlib.Omega.{arith}
use native.Mathlib.Nat.{add-zero, mod-eq_of_lt, eq-or-lt_of_le}
use lib.ListN.{length, get_or, drop, length-append}
use Rattle.base.specs.Bounded.{sum_below, count_below}
use Rattle.base.specs.Lists.{tabulate}
use Rattle.base.proofs.CountingLaws.{count_le}
use Rattle.base.proofs.ListLaws.{length_tabulate, get_d_tabulate, tabulate_is}
use Rattle.bits.specs.Bits.{bits_of, field, are_bits}
use Rattle.bits.proofs.NumberLaws.{length_bits_of}
use Rattle.bits.proofs.FieldLaws.{field_below, field_read, field_written}
use Rattle.instance.specs.Limits.{max_vertices, free}
use Rattle.instance.specs.Cuts.{inside}
use Rattle.card_format.specs.Widths.{mark_width}
use Rattle.history_format.specs.RecordWidths.{marks_start}
use Rattle.history_format.specs.RecordBits.{mark_offset, member_marks, mark_bits}

-- OFFSETS
pub offset_none : (c : ℕ) → mark_offset c 0 ≡ 0
unfolding count_below sum_below
offset_none c = refl

width_more : (b : Bool) (x : ℕ) → mark_width * (cond b 1 0 + x) ≡ mark_width * x + cond b mark_width 0
width_more true x = omega arith
width_more false x = omega arith

pub offset_more : (c h : ℕ) → mark_offset c (suc h) ≡ mark_offset c h + cond (inside c h) mark_width 0
unfolding count_below sum_below
offset_more c h = width_more (inside c h) (sum_below h (λ v. cond (inside c v) 1 0))

pub offset_most : (c h : ℕ) → mark_offset c h ≤ mark_width * h
offset_most c h = omega (arith, count_le h (inside c))

-- HOW MANY BITS
pub length_one : (b : Bool) (m : ℕ) → length (cond b (bits_of mark_width m) []) ≡ cond b mark_width 0
length_one true m = length_bits_of mark_width m
length_one false m = refl

pub length_mark_bits : (h c : ℕ) (ms : List ℕ) → length (mark_bits h c ms) ≡ mark_offset c h
unfolding mark_bits
length_mark_bits zero c ms = sym (offset_none c)
length_mark_bits (suc h) c ms =
    rw (
      length-append (mark_bits h c ms) (cond (inside c h) (bits_of mark_width (get_or ms h free)) []),
      length_mark_bits h c ms,
      length_one (inside c h) (get_or ms h free),
      offset_more c h,
    )

-- BY HEAD
tabulate_alike : (k : ℕ) (f g : ℕ → ℕ) → ((i : ℕ) → i < k → f i ≡ g i) → tabulate k f ≡ tabulate k g
tabulate_alike k f g h = tabulate_is k (tabulate k f) g 0 (length_tabulate k f) (λ i l. get_d_tabulate k f i 0 l ∙ h i l)

chosen_alike : (b : Bool) (x y d : ℕ) → (b ≡ true → x ≡ y) → cond b x d ≡ cond b y d
chosen_alike true x y d h = h refl
chosen_alike false x y d h = refl

-- marks by head, free at every head that is no member: what a list of marks is where it says nothing of other heads
abbrev pub of_members : (heads : ℕ) → (marks : List ℕ) → List ℕ
of_members c ms = tabulate max_vertices (λ h. cond (inside c h) (get_or ms h free) free)

module _ (c : ℕ) (bs : List ℕ) where
  pub member_at : (h : ℕ) → h < max_vertices → get_or (member_marks c bs) h free ≡ cond (inside c h) (field (marks_start + mark_offset c h) mark_width bs) free
  unfolding member_marks
  member_at h l = get_d_tabulate max_vertices (λ v. cond (inside c v) (field (marks_start + mark_offset c v) mark_width bs) free) h free l

  pub member_below : are_bits bs ≡ true → (h : ℕ) → h < max_vertices → inside c h ≡ true → get_or (member_marks c bs) h free < 2 ^ mark_width
  member_below e h l i = rw (member_at h l, i) (field_below (marks_start + mark_offset c h) mark_width bs e)

  -- marks that were read say nothing of other heads
  pub members_only : member_marks c bs ≡ of_members c (member_marks c bs)
  unfolding member_marks
  members_only =
      tabulate_alike max_vertices (λ h. cond (inside c h) (field (marks_start + mark_offset c h) mark_width bs) free)
      (λ h. cond (inside c h) (get_or (member_marks c bs) h free) free)
      (λ h l.
      chosen_alike (inside c h) (field (marks_start + mark_offset c h) mark_width bs) (get_or (member_marks c bs) h free) free
      (λ i. sym (member_at h l ∙ rw i)))

-- READ where they were written
last_read : (k c : ℕ) (ms xs zs : List ℕ) (a : ℕ) → length xs ≡ a → inside c k ≡ true →
    field (a + mark_offset c k) mark_width (xs ++ (mark_bits k c ms ++ (cond (inside c k) (bits_of mark_width (get_or ms k free)) [] ++ zs)))
    ≡ get_or ms k free % 2 ^ mark_width
last_read k c ms xs zs a e i =
    let n : length (xs ++ mark_bits k c ms) ≡ a + mark_offset c k = rw (length-append xs (mark_bits k c ms), e, length_mark_bits k c ms) in
    rw (i, ← append_assoc xs (mark_bits k c ms) (bits_of mark_width (get_or ms k free) ++ zs))
    (field_read (xs ++ mark_bits k c ms) zs (a + mark_offset c k) mark_width (get_or ms k free) n)

mark_read : (k c : ℕ) (ms xs zs : List ℕ) (a h : ℕ) → length xs ≡ a → h < k → inside c h ≡ true →
    field (a + mark_offset c h) mark_width (xs ++ (mark_bits k c ms ++ zs)) ≡ get_or ms h free % 2 ^ mark_width
unfolding mark_bits
mark_read zero c ms xs zs a h e l i = absurd (omega arith)
mark_read (suc k) c ms xs zs a h e l i =
    let last = cond (inside c k) (bits_of mark_width (get_or ms k free)) [] in
    rw (append_assoc (mark_bits k c ms) last zs)
    (⊎_elim (λ (q : h ≡ k). rw q (last_read k c ms xs zs a e (rw q at i))) (λ (q : h < k). mark_read k c ms xs (last ++ zs) a h e q i)
    (eq-or-lt_of_le {n = h} {m = k} (omega arith)))

pub marks_read : (c : ℕ) (ms xs zs : List ℕ) → length xs ≡ marks_start → ms ≡ of_members c ms →
    ((h : ℕ) → h < max_vertices → inside c h ≡ true → get_or ms h free < 2 ^ mark_width) → member_marks c (xs ++ (mark_bits max_vertices c ms ++ zs)) ≡ ms
unfolding member_marks
marks_read c ms xs zs n only low =
    let bs = xs ++ (mark_bits max_vertices c ms ++ zs) in
    tabulate_alike max_vertices (λ h. cond (inside c h) (field (marks_start + mark_offset c h) mark_width bs) free)
    (λ h. cond (inside c h) (get_or ms h free) free)
    (λ h l.
    chosen_alike (inside c h) (field (marks_start + mark_offset c h) mark_width bs) (get_or ms h free) free
    (λ i. mark_read max_vertices c ms xs zs marks_start h n l i ∙ mod-eq_of_lt (low h l i)))
    ∙ sym only

-- WRITTEN AGAIN before the bits that followed them
one_again : (b : Bool) (p m : ℕ) (bs : List ℕ) → are_bits bs ≡ true → (b ≡ true → m ≡ field p mark_width bs) → p + cond b mark_width 0 ≤ length bs →
    cond b (bits_of mark_width m) [] ++ drop (p + cond b mark_width 0) bs ≡ drop p bs
one_again true p m bs e q h = rw (q refl) (field_written p mark_width bs e h)
one_again false p m bs e q h = ap (λ (k : ℕ). drop k bs) (add-zero p)

pub marks_again : (bs : List ℕ) → are_bits bs ≡ true → (c k : ℕ) → k ≤ max_vertices → marks_start + mark_offset c k ≤ length bs →
    mark_bits k c (member_marks c bs) ++ drop (marks_start + mark_offset c k) bs ≡ drop marks_start bs
unfolding mark_bits
marks_again bs e c zero l h = rw (offset_none c)
marks_again bs e c (suc k) l h =
    let p = marks_start + mark_offset c k in
    let m = get_or (member_marks c bs) k free in
    let s : marks_start + mark_offset c (suc k) ≡ p + cond (inside c k) mark_width 0 = omega (arith, offset_more c k) in
    let w : p + cond (inside c k) mark_width 0 ≤ length bs = omega (arith, offset_more c k) in
    rw (
      s,
      append_assoc (mark_bits k c (member_marks c bs)) (cond (inside c k) (bits_of mark_width m) []) (drop (p + cond (inside c k) mark_width 0) bs),
      one_again (inside c k) p m bs e (λ i. member_at c bs k l ∙ rw i) w,
    ) (marks_again bs e c k (omega arith) (omega arith))
