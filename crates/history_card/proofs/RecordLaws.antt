-- What reading a record gives, by its kind: refused where it runs past the end, else what its fields say. A record is
-- read at a place of the card's bits; the definitions speak of the bits from that place on. Assumes nothing.
use mathlib.Core.Path.{◌≡◌, refl, sym, ap, ◌∙◌, subst}
use mathlib.Core.Bool.{Bool, true, false, cond}
use mathlib.Core.List.{List}
use Prim.Native.Nat.{ℕ, ◌+◌, ◌*◌, ◌-◌, ◌/◌, ◌^◌, ◌≤◌, ◌<◌}
use native.Mathlib.Omega.{arith}
use native.Mathlib.Nat.{zero-lt-suc}
use native.Mathlib.Decide.{dec_lt}
use lib.Dec.{ltb}
use lib.ListN.{length, get_or, drop, length-drop}
use borrow.Author.Tests.{lt-ltb, le-ltb, ltb-true, ltb-false, eq-eqb, ne_eqb}
use Rattle.std.specs.Prelude.{Ok, Err}
use Rattle.base.specs.Digits.{from_digits, digit}
use Rattle.base.proofs.DigitLaws.{digits_same, digit_of}
use Rattle.base.proofs.ListLaws.{length_tabulate, get_d_tabulate, tabulate_is}
use Rattle.bits.specs.Bits.{bits_in, field, are_bits}
use Rattle.bits.proofs.ByteLaws.{length_bits_in, bits_in_are_bits}
use Rattle.bits.proofs.FieldLaws.{field_drop, field_below}
use Rattle.base.proofs.AllOfLaws.{all_of_drop}
use Rattle.instance.specs.Limits.{max_vertices, free}
use Rattle.instance.specs.declared.refusals.Refusal.{Refusal}
use Rattle.instance.specs.declared.refusals.Refusal.TheVariants.{BadLength, BadRecord}
use Rattle.instance.specs.Instance.{Instance}
use Rattle.instance.specs.Cuts.{inside}
use Rattle.instance.proofs.RefusalLaws.{eqb_0}
use Rattle.card_format.specs.Widths.{budget_width, mark_width}
use Rattle.commands.specs.Model.{Replaced, old_mark, old_marks, old_budget}
use Rattle.commands.specs.Valid.{record_ok}
use Rattle.heads.specs.RecordMarks.{record_marks}
use Rattle.board.specs.Calls.{record_of}
use Rattle.board.specs.ModelOf.{replaced_of}
use Rattle.board.specs.declared.UndoRecord.{UndoRecord}
use Rattle.board.specs.declared.Replaced as declared-replaced
use Rattle.board.specs.declared.Replaced.TheVariants.{OldMark, OldBudget, OldMarks}
use Rattle.history_format.specs.RecordWidths.{kind_width, vertex_width, head_start, mark_start, mark_record_width, budget_record_width, heads_width, marks_start}
use Rattle.history_format.specs.RecordBits.{kind_in, heads_in, mark_offset, member_marks, record_length, replaced_in, form_refusal, record_refusal}
use Rattle.history_format.proofs.MemberMarks.{of_members, member_at}
use Rattle.history_format.proofs.RecordFits.{Writable, read_fits}
use Rattle.history_format.proofs.RecordLaws.{whole_passes, read_mark_length, read_budget_length, read_marks_length, read_mark, read_budget, read_marks}
use Rattle.history_card.specs.Record.{ReadsRecord}
use Rattle.history_card.specs.declared.record.RecordRead.{RecordRead}

-- PAST THE END
-- counted in bytes
pub past_bytes : (l end : ℕ) → ltb l ((end + 7) / 8) ≡ ltb (8 * l) end
past_bytes l end = go (dec_lt (8 * l) end)
  where
    go : Dec (8 * l < end) → ltb l ((end + 7) / 8) ≡ ltb (8 * l) end
    go (yes h) = lt-ltb l ((end + 7) / 8) (omega arith) ∙ sym (lt-ltb (8 * l) end h)
    go (no h) = le-ltb l ((end + 7) / 8) (omega arith) ∙ sym (le-ltb (8 * l) end (omega arith))

-- AS THE PROGRAM STORES IT: a record that was read stands for itself
marks_stored : (c : ℕ) (ms : List ℕ) → ms ≡ of_members c ms → ((h : ℕ) → h < max_vertices → inside c h ≡ true → get_or ms h free < 2 ^ mark_width) →
    record_marks c (from_digits 4 max_vertices (λ h. get_or ms h free)) ≡ ms
unfolding record_marks
marks_stored c ms only small =
    sym (only ∙ tabulate_is max_vertices (of_members c ms) (λ h. cond (inside c h) (digit 4 (from_digits 4 max_vertices (λ v. get_or ms v free)) h) free) free
    (length_tabulate max_vertices (λ h. cond (inside c h) (get_or ms h free) free))
    (λ h l. get_d_tabulate max_vertices (λ v. cond (inside c v) (get_or ms v free) free) h free l ∙ sym (ap (λ (x : ℕ). cond (inside c h) x free) (digit_of 4 max_vertices (λ v. get_or ms v free) (zero-lt-suc 3) low h l))))
  where
    low : (h : ℕ) → h < max_vertices → get_or ms h free < 4
    low h l = subst (λ (x : ℕ). x < 4) (sym (ap (λ (xs : List ℕ). get_or xs h free) only ∙ get_d_tabulate max_vertices (λ v. cond (inside c v) (get_or ms v free) free) h free l)) (at (inside c h) (small h l))
      where
        at : (b : Bool) → (b ≡ true → get_or ms h free < 4) → cond b (get_or ms h free) free < 4
        at true f = f refl
        at false f = omega arith

pub stored_back : (o : Replaced) → Writable o → replaced_of (record_of o).replaced ≡ o
stored_back (old_mark t h m) w = refl
stored_back (old_marks t c ms) w = ap (old_marks t c) (marks_stored c ms w.shaped.only_members w.marks_fit)
stored_back (old_budget v) w = refl

module _ (ws : List ℕ) (at : ℕ) where
  abbrev rest : List ℕ
  rest = drop at (bits_in ws)

  pub rest_bits : are_bits rest ≡ true
  rest_bits = all_of_drop (λ b. ltb b 2) at (bits_in ws) (bits_in_are_bits ws)

  rest_length : length rest ≡ 8 * length ws - at
  rest_length = length-drop at (bits_in ws) ∙ rw (length_bits_in ws)

  -- so many bits from the place on run past the end
  pub short_here : (k : ℕ) → 0 < k → ltb (8 * length ws) (at + k) ≡ true → length rest < k
  short_here k h e = omega (arith, rest_length, ltb-true (8 * length ws) (at + k) e)

  pub whole_here : (k : ℕ) → 0 < k → ltb (8 * length ws) (at + k) ≡ false → k ≤ length rest
  whole_here k h e = omega (arith, rest_length, ltb-false (8 * length ws) (at + k) e)

  -- REFUSED: a part of the record runs past the end
  pub past_read : (k : ℕ) → 0 < k → k ≤ record_length rest → ltb (8 * length ws) (at + k) ≡ true → ReadsRecord (form_refusal rest) rest at (Err BadLength)
  unfolding form_refusal
  past_read k pos l e =
      let h : length rest < record_length rest = omega (arith, short_here k pos e) in
      record { judged = simp (lt-ltb _ _ h); said = tt; its_end = tt }

  -- READ: the record is whole, and of a kind that there is
  whole_read : (k : ℕ) (x : declared-replaced.Replaced) → record_length rest ≡ k → 0 < k → kind_in rest < 3 → ltb (8 * length ws) (at + k) ≡ false →
      ◌≡◌ {A = UndoRecord} (record { replaced = x }) (record_of (replaced_in rest)) →
      ReadsRecord (form_refusal rest) rest at (Ok (record { replaced = x; next = at + k }))
  whole_read k x l pos kind e q =
      record {
        judged = sym (whole_passes rest (record { within = omega (arith, whole_here k pos e); known = kind }));
        said = q;
        its_end = rw l;
      }

  abbrev here : (a k : ℕ) → ℕ
  here a k = field (at + a) k (bits_in ws)

  same_field : (a k : ℕ) → here a k ≡ field a k rest
  same_field a k = sym (field_drop at a k (bits_in ws))

  pub mark_read : kind_in rest ≡ 0 → ltb (8 * length ws) (at + mark_record_width) ≡ false →
      ReadsRecord (form_refusal rest) rest at (Ok (record {
        replaced = OldMark (here kind_width vertex_width) (here head_start vertex_width) (here mark_start mark_width);
        next = at + mark_record_width;
      }))
  mark_read k e =
      whole_read mark_record_width _ (read_mark_length rest k) (omega arith) (omega (arith, k)) e
      (rw (read_mark rest k, same_field kind_width vertex_width, same_field head_start vertex_width, same_field mark_start mark_width))

  pub budget_read : kind_in rest ≡ 1 → ltb (8 * length ws) (at + budget_record_width) ≡ false →
      ReadsRecord (form_refusal rest) rest at (Ok (record { replaced = OldBudget (here kind_width budget_width); next = at + budget_record_width }))
  budget_read k e =
      whole_read budget_record_width _ (read_budget_length rest k) (omega arith) (omega (arith, k)) e
      (rw (read_budget rest k, same_field kind_width budget_width))

  module _ (kind : kind_in rest ≡ 2) (c : ℕ) (heads : c ≡ here head_start heads_width) where
    same_heads : c ≡ heads_in rest
    same_heads = heads ∙ same_field head_start heads_width

    pub marks_long : record_length rest ≡ marks_start + mark_offset c max_vertices
    marks_long = read_marks_length rest kind ∙ ap (λ (x : ℕ). marks_start + mark_offset x max_vertices) (sym same_heads)

    mark_same : (h : ℕ) → h < max_vertices →
        cond (inside c h) (field (at + marks_start + mark_offset c h) mark_width (bits_in ws)) free ≡ get_or (member_marks c rest) h free
    mark_same h l =
        let p : at + marks_start + mark_offset c h ≡ at + (marks_start + mark_offset c h) = omega arith in
        sym (member_at c rest h l ∙ rw (p, same_field (marks_start + mark_offset c h) mark_width))

    pub marks_read : (v : ℕ) → v ≡ from_digits 4 max_vertices (λ h. cond (inside c h) (field (at + marks_start + mark_offset c h) mark_width (bits_in ws)) free) →
        ltb (8 * length ws) (at + marks_start + mark_offset c max_vertices) ≡ false →
        ReadsRecord (form_refusal rest) rest at
        (Ok (record { replaced = OldMarks (here kind_width vertex_width) c v; next = at + marks_start + mark_offset c max_vertices }))
    marks_read v d e =
        let p : at + marks_start + mark_offset c max_vertices ≡ at + (marks_start + mark_offset c max_vertices) = omega arith in
        let m = d ∙ digits_same 4 max_vertices _ (λ h. get_or (member_marks c rest) h free) mark_same in
        rw p
        (whole_read (marks_start + mark_offset c max_vertices) _ marks_long (omega arith) (omega (arith, kind)) (rw p at e)
        (rw (read_marks rest kind, m, ← same_heads, same_field kind_width vertex_width)))

  -- KIND 3 is two bits long
  pub three_read : kind_width ≤ length rest → (kind_in rest ≡ 0 → ⊥) → (kind_in rest ≡ 1 → ⊥) → (kind_in rest ≡ 2 → ⊥) →
      ReadsRecord (form_refusal rest) rest at (Err BadRecord)
  unfolding form_refusal record_length
  three_read l a b c =
      let k = field_below 0 kind_width rest rest_bits in
      let three : kind_in rest ≡ 3 = omega arith in
      record {
        judged = simp (ne_eqb _ _ a, ne_eqb _ _ b, ne_eqb _ _ c, le-ltb _ _ l, eq-eqb _ _ three);
        said = tt;
        its_end = tt;
      }

  -- JUDGED
  module _ (s : Instance) where
    pub form_refused : (e : Refusal) → ReadsRecord (form_refusal rest) rest at (Err e) → ReadsRecord (record_refusal s rest) rest at (Err e)
    unfolding record_refusal
    form_refused e k = record { judged = rw (← k.judged, eqb_0 e); said = tt; its_end = tt }

    module _ (r : RecordRead) (k : ReadsRecord (form_refusal rest) rest at (Ok r)) where
      pub same_record : replaced_of r.replaced ≡ replaced_in rest
      same_record = ap (λ (u : UndoRecord). replaced_of u.replaced) k.said ∙ stored_back (replaced_in rest) (read_fits rest rest_bits)

      pub record_refused : record_ok s (replaced_in rest) ≡ false → ReadsRecord (record_refusal s rest) rest at (Err BadRecord)
      unfolding record_refusal
      record_refused e = record { judged = rw (← k.judged, e); said = tt; its_end = tt }

      pub record_taken : record_ok s (replaced_in rest) ≡ true → ReadsRecord (record_refusal s rest) rest at (Ok r)
      unfolding record_refusal
      record_taken e = record { judged = rw (← k.judged, e); said = k.said; its_end = k.its_end }
