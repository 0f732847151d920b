-- One record on a card, both ways: one that fits its fields is read as it was written, whatever follows it, and one
-- that was read is written as the bits it was read from. Assumes nothing.
--
-- The kind says how the rest is read, so each law is three: for an arc, for a budget, for several arcs of a tail, whose
-- marks are told of in MemberMarks.
use mathlib.Core.Path.{◌≡◌, refl, sym, ◌∙◌}
use mathlib.Core.Bool.{true, cond}
use mathlib.Core.List.{List, [], ◌++◌, append_assoc}
use Prim.Native.Nat.{ℕ, zero, suc, ◌+◌, ◌^◌, ◌≤◌, ◌<◌}
use native.Mathlib.Omega.{arith}
use native.Mathlib.Nat.{mod-eq_of_lt}
use lib.Dec.{ltb, eqb}
use lib.ListN.{length, drop, length-append}
use lib.Seq.{drop_at}
use borrow.Author.Tests.{ltb-false, eqb-false, le-ltb, ne_eqb}
use Rattle.base.proofs.BoolLaws.{passed}
use Rattle.bits.specs.Bits.{bits_of, field, are_bits}
use Rattle.bits.proofs.NumberLaws.{length_bits_of}
use Rattle.bits.proofs.FieldLaws.{field_below, field_read, field_written}
use Rattle.instance.specs.Limits.{max_vertices}
use Rattle.instance.specs.Refusals.{bad_record}
use Rattle.card_format.specs.Widths.{budget_width, mark_width}
use Rattle.commands.specs.Model.{Replaced, old_mark, old_marks, old_budget}
use Rattle.history_format.specs.RecordWidths.{kind_width, vertex_width, head_start, mark_start, mark_record_width, budget_record_width, heads_width, marks_start}
use Rattle.history_format.specs.RecordBits.{kind_in, tail_in, heads_in, mark_offset, member_marks, record_length, replaced_in, form_refusal, mark_bits, record_bits}
use Rattle.history_format.proofs.MemberMarks.{length_mark_bits, marks_read, marks_again}
use Rattle.history_format.proofs.RecordFits.{MarkFits, MarksFit, Writable}

-- HOW LONG it is
pub length_mark : (t h m : ℕ) → length (record_bits (old_mark t h m)) ≡ mark_record_width
unfolding record_bits
length_mark t h m = simp (length-append, length_bits_of)

pub length_budget : (v : ℕ) → length (record_bits (old_budget v)) ≡ budget_record_width
unfolding record_bits
length_budget v = simp (length-append, length_bits_of)

pub length_marks : (t c : ℕ) (ms : List ℕ) → length (record_bits (old_marks t c ms)) ≡ marks_start + mark_offset c max_vertices
unfolding record_bits
length_marks t c ms = simp (length-append, length_bits_of, length_mark_bits) (omega arith)

-- BY KIND
module _ (bs : List ℕ) where
  pub read_mark_length : kind_in bs ≡ 0 → record_length bs ≡ mark_record_width
  unfolding record_length
  read_mark_length e = rw e

  pub read_budget_length : kind_in bs ≡ 1 → record_length bs ≡ budget_record_width
  unfolding record_length
  read_budget_length e = rw e

  pub read_marks_length : kind_in bs ≡ 2 → record_length bs ≡ marks_start + mark_offset (heads_in bs) max_vertices
  unfolding record_length
  read_marks_length e = rw e

  pub read_mark : kind_in bs ≡ 0 → replaced_in bs ≡ old_mark (tail_in bs) (field head_start vertex_width bs) (field mark_start mark_width bs)
  unfolding replaced_in
  read_mark e = rw e

  pub read_budget : kind_in bs ≡ 1 → replaced_in bs ≡ old_budget (field kind_width budget_width bs)
  unfolding replaced_in
  read_budget e = rw e

  pub read_marks : kind_in bs ≡ 2 → replaced_in bs ≡ old_marks (tail_in bs) (heads_in bs) (member_marks (heads_in bs) bs)
  unfolding replaced_in
  read_marks e = rw e

  -- what is known of a record that is whole, of a kind that there is
  pub record Whole : Type 0 where
    pub within : record_length bs ≤ length bs
    pub known : kind_in bs < 3

  pub whole : are_bits bs ≡ true → form_refusal bs ≡ 0 → Whole
  unfolding form_refusal
  whole e f =
      let a = passed (ltb (length bs) (record_length bs)) 2 (cond (eqb (kind_in bs) 3) bad_record 0) f in
      let b = passed (eqb (kind_in bs) 3) 26 0 a.1 in
      let k = field_below 0 kind_width bs e in
      let n = eqb-false (kind_in bs) 3 b.0 in
      record { within = ltb-false (length bs) (record_length bs) a.0; known = omega arith }

  pub whole_passes : Whole → form_refusal bs ≡ 0
  unfolding form_refusal
  whole_passes w =
      let k = w.known in
      simp (le-ltb _ _ w.within, ne_eqb _ _ (three k))
    where
      three : {k : ℕ} → k < 3 → k ≡ 3 → ⊥
      three l e = omega arith

-- READ as it was written
pub record Reads (o : Replaced) (bs zs : List ℕ) : Type 0 where
  pub long : record_length bs ≡ length (record_bits o)
  pub same : replaced_in bs ≡ o
  pub passes : form_refusal bs ≡ 0
  pub rest : drop (record_length bs) bs ≡ zs

reads : (o : Replaced) (zs : List ℕ) (k : ℕ) → kind_in (record_bits o ++ zs) ≡ k → k < 3 →
    record_length (record_bits o ++ zs) ≡ length (record_bits o) → replaced_in (record_bits o ++ zs) ≡ o → Reads o (record_bits o ++ zs) zs
reads o zs k q b l r =
    let bs = record_bits o ++ zs in
    record {
      long = l;
      same = r;
      passes = whole_passes bs (record { within = omega (arith, l, length-append (record_bits o) zs); known = omega (arith, q) });
      rest = drop_at (record_bits o) zs (record_length bs) (sym l);
    }

-- the kind, then the tail, then what follows
module _ (k t : ℕ) (ys : List ℕ) where
  abbrev front : List ℕ
  front = bits_of kind_width k ++ (bits_of vertex_width t ++ ys)

  front_tail : t < 2 ^ vertex_width → tail_in front ≡ t
  front_tail l =
      field_read (bits_of kind_width k) ys kind_width vertex_width t (length_bits_of kind_width k) ∙ mod-eq_of_lt l

  front_split : front ≡ (bits_of kind_width k ++ bits_of vertex_width t) ++ ys
  front_split = sym (append_assoc (bits_of kind_width k) (bits_of vertex_width t) ys)

length_front : (k t : ℕ) → length (bits_of kind_width k ++ bits_of vertex_width t) ≡ head_start
length_front k t = simp (length-append, length_bits_of)

module _ (t h m : ℕ) (zs : List ℕ) (w : MarkFits t h m) where
  mark_all : record_bits (old_mark t h m) ++ zs ≡ front 0 t (bits_of vertex_width h ++ (bits_of mark_width m ++ zs))
  unfolding record_bits
  mark_all = simp append_assoc

  mark_kind : kind_in (record_bits (old_mark t h m) ++ zs) ≡ 0
  mark_kind = rw mark_all (field_read [] (bits_of vertex_width t ++ (bits_of vertex_width h ++ (bits_of mark_width m ++ zs))) 0 kind_width 0 refl)

  mark_tail : tail_in (record_bits (old_mark t h m) ++ zs) ≡ t
  mark_tail = rw mark_all (front_tail 0 t (bits_of vertex_width h ++ (bits_of mark_width m ++ zs)) w.tail_fits)

  mark_head : field head_start vertex_width (record_bits (old_mark t h m) ++ zs) ≡ h
  mark_head =
      let ys = bits_of mark_width m ++ zs in
      rw (mark_all, front_split 0 t (bits_of vertex_width h ++ ys))
      (field_read (bits_of kind_width 0 ++ bits_of vertex_width t) ys head_start vertex_width h (length_front 0 t) ∙ mod-eq_of_lt w.head_fits)

  mark_mark : field mark_start mark_width (record_bits (old_mark t h m) ++ zs) ≡ m
  mark_mark =
      let xs = (bits_of kind_width 0 ++ bits_of vertex_width t) ++ bits_of vertex_width h in
      let g : front 0 t (bits_of vertex_width h ++ (bits_of mark_width m ++ zs)) ≡ xs ++ (bits_of mark_width m ++ zs) = simp append_assoc in
      let n : length xs ≡ mark_start = simp (length-append, length_bits_of) in
      rw (mark_all, g) (field_read xs zs mark_start mark_width m n ∙ mod-eq_of_lt w.mark_fits)

  mark_reads : Reads (old_mark t h m) (record_bits (old_mark t h m) ++ zs) zs
  mark_reads =
      let bs = record_bits (old_mark t h m) ++ zs in
      reads (old_mark t h m) zs 0 mark_kind (omega arith) (read_mark_length bs mark_kind ∙ sym (length_mark t h m))
      (read_mark bs mark_kind ∙ rw (mark_tail, mark_head, mark_mark))

module _ (v : ℕ) (zs : List ℕ) (w : v < 2 ^ budget_width) where
  budget_all : record_bits (old_budget v) ++ zs ≡ bits_of kind_width 1 ++ (bits_of budget_width v ++ zs)
  unfolding record_bits
  budget_all = append_assoc (bits_of kind_width 1) (bits_of budget_width v) zs

  budget_kind : kind_in (record_bits (old_budget v) ++ zs) ≡ 1
  budget_kind = rw budget_all (field_read [] (bits_of budget_width v ++ zs) 0 kind_width 1 refl)

  budget_budget : field kind_width budget_width (record_bits (old_budget v) ++ zs) ≡ v
  budget_budget = rw budget_all (field_read (bits_of kind_width 1) zs kind_width budget_width v (length_bits_of kind_width 1) ∙ mod-eq_of_lt w)

  budget_reads : Reads (old_budget v) (record_bits (old_budget v) ++ zs) zs
  budget_reads =
      let bs = record_bits (old_budget v) ++ zs in
      reads (old_budget v) zs 1 budget_kind (omega arith) (read_budget_length bs budget_kind ∙ sym (length_budget v)) (read_budget bs budget_kind ∙ rw budget_budget)

module _ (t c : ℕ) (ms zs : List ℕ) (w : MarksFit t c ms) where
  marks_all : record_bits (old_marks t c ms) ++ zs ≡ front 2 t (bits_of heads_width c ++ (mark_bits max_vertices c ms ++ zs))
  unfolding record_bits
  marks_all = simp append_assoc

  marks_kind : kind_in (record_bits (old_marks t c ms) ++ zs) ≡ 2
  marks_kind = rw marks_all (field_read [] (bits_of vertex_width t ++ (bits_of heads_width c ++ (mark_bits max_vertices c ms ++ zs))) 0 kind_width 2 refl)

  marks_tail : tail_in (record_bits (old_marks t c ms) ++ zs) ≡ t
  marks_tail = rw marks_all (front_tail 2 t (bits_of heads_width c ++ (mark_bits max_vertices c ms ++ zs)) w.tail_fits)

  marks_heads : heads_in (record_bits (old_marks t c ms) ++ zs) ≡ c
  marks_heads =
      let ys = mark_bits max_vertices c ms ++ zs in
      rw (marks_all, front_split 2 t (bits_of heads_width c ++ ys))
      (field_read (bits_of kind_width 2 ++ bits_of vertex_width t) ys head_start heads_width c (length_front 2 t) ∙ mod-eq_of_lt w.shaped.heads_fit)

  marks_marks : member_marks c (record_bits (old_marks t c ms) ++ zs) ≡ ms
  marks_marks =
      let xs = (bits_of kind_width 2 ++ bits_of vertex_width t) ++ bits_of heads_width c in
      let g : front 2 t (bits_of heads_width c ++ (mark_bits max_vertices c ms ++ zs)) ≡ xs ++ (mark_bits max_vertices c ms ++ zs) = simp append_assoc in
      let n : length xs ≡ marks_start = simp (length-append, length_bits_of) in
      rw (marks_all, g) (marks_read c ms xs zs n w.shaped.only_members w.marks_fit)

  marks_reads : Reads (old_marks t c ms) (record_bits (old_marks t c ms) ++ zs) zs
  marks_reads =
      let bs = record_bits (old_marks t c ms) ++ zs in
      reads (old_marks t c ms) zs 2 marks_kind (omega arith)
      (read_marks_length bs marks_kind ∙ rw marks_heads (sym (length_marks t c ms)))
      (read_marks bs marks_kind ∙ rw (marks_heads, marks_tail, marks_marks))

pub record_read : (o : Replaced) (zs : List ℕ) → Writable o → Reads o (record_bits o ++ zs) zs
record_read (old_mark t h m) zs w = mark_reads t h m zs w
record_read (old_marks t c ms) zs w = marks_reads t c ms zs w
record_read (old_budget v) zs w = budget_reads v zs w

-- WRITTEN as the bits it was read from
module _ (bs : List ℕ) (e : are_bits bs ≡ true) (l : record_length bs ≤ length bs) where
  kind_again : (k : ℕ) → kind_in bs ≡ k → kind_width ≤ length bs → bits_of kind_width k ++ drop kind_width bs ≡ bs
  kind_again k q h = rw q at (field_written 0 kind_width bs e h)

  tail_again : head_start ≤ length bs → bits_of vertex_width (tail_in bs) ++ drop head_start bs ≡ drop kind_width bs
  tail_again h = field_written kind_width vertex_width bs e h

  mark_again : kind_in bs ≡ 0 → record_bits (replaced_in bs) ++ drop (record_length bs) bs ≡ bs
  unfolding record_bits
  mark_again q =
      let n = read_mark_length bs q in
      let a = kind_again 0 q (omega arith) in
      let b = tail_again (omega arith) in
      let c = field_written head_start vertex_width bs e (omega arith) in
      let d = field_written mark_start mark_width bs e (omega arith) in
      rw (read_mark bs q, n) (simp append_assoc (rw (d, c, b) a))

  budget_again : kind_in bs ≡ 1 → record_bits (replaced_in bs) ++ drop (record_length bs) bs ≡ bs
  unfolding record_bits
  budget_again q =
      let n = read_budget_length bs q in
      let a = kind_again 1 q (omega arith) in
      let b = field_written kind_width budget_width bs e (omega arith) in
      rw (read_budget bs q, n) (simp append_assoc (rw b a))

  arcs_again : kind_in bs ≡ 2 → record_bits (replaced_in bs) ++ drop (record_length bs) bs ≡ bs
  unfolding record_bits
  arcs_again q =
      let n = read_marks_length bs q in
      let a = kind_again 2 q (omega arith) in
      let b = tail_again (omega arith) in
      let c = field_written head_start heads_width bs e (omega arith) in
      let d = marks_again bs e (heads_in bs) max_vertices (omega arith) (omega arith) in
      rw (read_marks bs q, n) (simp append_assoc (rw (d, c, b) a))

pub record_again : (bs : List ℕ) → are_bits bs ≡ true → form_refusal bs ≡ 0 → record_bits (replaced_in bs) ++ drop (record_length bs) bs ≡ bs
record_again bs e f = go (kind_in bs) refl w.known
  where
    w : Whole bs
    w = whole bs e f

    go : (k : ℕ) → kind_in bs ≡ k → k < 3 → record_bits (replaced_in bs) ++ drop (record_length bs) bs ≡ bs
    go zero q b = mark_again bs e w.within q
    go (suc zero) q b = budget_again bs e w.within q
    go (suc (suc zero)) q b = arcs_again bs e w.within q
    go (suc (suc (suc k))) q b = absurd (omega arith)
