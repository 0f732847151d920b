-- The definitions say of a call what document 02 says in words (`reads`), and only they do (`only`): so the answer, the
-- row and its address are unique. Assumes nothing.
use mathlib.Core.Path.{◌≡◌, refl, sym, ap, ◌∙◌}
use mathlib.Core.Bool.{Bool, true, false, ◌||◌, not}
use mathlib.Core.List.{List}
use mathlib.Core.Logic.{inl, inr, ⊎_elim}
use Prim.Native.Nat.{ℕ, ◌+◌, ◌*◌, ◌≤◌, ◌<◌}
use native.Mathlib.Omega.{arith}
use lib.Dec.{ltb, leb, eqb}
use lib.ListN.{length, get_or, drop}
use lib.Seq.{get_or-take, get_or-drop, ext_get_or}
use borrow.Author.Tests.{ltb-true, ltb-false, leb-true, leb-false, eqb-true, eqb-false, not-true, not-false, lt-ltb, le-ltb, le-leb, lt-leb, eq-eqb, ne_eqb}
use Rattle.base.specs.Lists.{any_of}
use Rattle.base.proofs.BoolLaws.{or_cases, or_left, or_right, or_false_left, or_false_right, or_both_false, not_both, is_false, is_true}
use Rattle.base.proofs.ElementLaws.{any_of_at, any_of_found}
use Rattle.base.proofs.GridLaws.{grid_in}
use Rattle.base.proofs.ListLaws.{all_of_any}
use Rattle.base.proofs.PartLaws.{length_part}
use Rattle.instance.specs.Limits.{max_vertices, max_weight, no_arc}
use Rattle.instance.specs.Refusals.{no_vertex, buffer_short, count_out_of_range, out_of_range}
use Rattle.price_row.specs.Row.{row_at, has_price, is_own, chosen_row, room_refusal, price_ok, row_ok, row_refusal, row_used, address_at, chosen_address, row_address, UsesRow}
use Rattle.price_row.specs.Readings.{number_at, AnyPrice, BadNumber, PartOf, Sized, RowReads, count_refused, tail_refused, room_refused, own_refused, shipped_refused, own_used, shipped_used}
use Rattle.price_row.proofs.RowLaws.{room_passed, room_zero, uses_nothing, uses_chosen}

-- A ROW BY ITS NUMBERS
module _ (n t : ℕ) (ps : List ℕ) (l : t * n + n ≤ length ps) where
  abbrev row : List ℕ
  row = row_at n t ps

  row_whole : length row ≡ n
  unfolding row_at
  row_whole = length_part (t * n) n ps l

  pub row_number : (j : ℕ) → j < n → get_or row j no_arc ≡ number_at n t ps j
  unfolding row_at
  row_number j h = get_or-take n (drop (t * n) ps) j no_arc h ∙ get_or-drop (t * n) ps j no_arc

  part : (p : ℕ × ℕ) → PartOf n t ps p row (address_at (t * n) p)
  part p = record { whole = row_whole; same = row_number; begins = refl }

  part_only : (p : ℕ × ℕ) (ws : List ℕ) (at : ℕ × ℕ) → PartOf n t ps p ws at → ws ≡ row
  part_only p ws at x =
      let w = x.whole in
      ext_get_or no_arc ws row (w ∙ sym row_whole) (λ j h. let i : j < n = omega arith in x.same j i ∙ sym (row_number j i))

  -- HAS ANY PRICE
  pub priced_read : has_price row ≡ true → AnyPrice n t ps
  unfolding has_price
  priced_read h =
      let f = any_of_found (λ w. not (eqb w no_arc)) no_arc row h in
      let w = row_whole in
      let b = f.1 in
      let i : f.0 < n = omega arith in
      record { place = f.0; inside = i; priced = λ e. eqb-false (get_or row f.0 no_arc) no_arc (not-true (eqb (get_or row f.0 no_arc) no_arc) f.2) (row_number f.0 i ∙ e) }

  pub priced_made : AnyPrice n t ps → has_price row ≡ true
  unfolding has_price
  priced_made x =
      let w = row_whole in
      let b = x.inside in
      let i : x.place < length row = omega arith in
      any_of_at (λ y. not (eqb y no_arc)) no_arc row x.place i (ap not (ne_eqb (get_or row x.place no_arc) no_arc (λ e. x.priced (sym (row_number x.place b) ∙ e))))

  unpriced : has_price row ≡ false → AnyPrice n t ps → ⊥
  unpriced h x = not_both (has_price row) (priced_made x) h

  -- HAS A NUMBER THAT IS NEITHER A PRICE NOR NO LINK
  abbrev has_bad : Bool
  has_bad = any_of (λ w. not (price_ok w)) row

  ok_is : row_ok row ≡ not has_bad
  unfolding row_ok
  ok_is = all_of_any price_ok row

  bad_read : row_ok row ≡ false → BadNumber n t ps
  unfolding price_ok
  bad_read k =
      let f = any_of_found (λ w. not (price_ok w)) no_arc row (not-false has_bad (sym ok_is ∙ k)) in
      let w = row_whole in
      let b = f.1 in
      let i : f.0 < n = omega arith in
      let v = get_or row f.0 no_arc in
      let e = not-true (price_ok v) f.2 in
      let s = row_number f.0 i in
      record {
        place = f.0;
        inside = i;
        no_price = rw s at (leb-false v max_weight (or_false_left (leb v max_weight) (eqb v no_arc) e));
        not_none = λ z. eqb-false v no_arc (or_false_right (leb v max_weight) (eqb v no_arc) e) (s ∙ z);
      }

  bad_made : BadNumber n t ps → row_ok row ≡ false
  unfolding price_ok
  bad_made x =
      let w = row_whole in
      let b = x.inside in
      let i : x.place < length row = omega arith in
      let v = number_at n t ps x.place in
      let e : price_ok v ≡ false = or_both_false (leb v max_weight) (eqb v no_arc) (lt-leb v max_weight x.no_price) (ne_eqb v no_arc x.not_none) in
      let s = row_number x.place b in
      ok_is ∙ ap not (any_of_at (λ y. not (price_ok y)) no_arc row x.place i (rw s (ap not e)))

  sound : row_ok row ≡ true → BadNumber n t ps → ⊥
  sound k x = not_both (row_ok row) k (bad_made x)

-- THE TWO DIRECTIONS
module _ (a b : List ℕ) (p q : ℕ × ℕ) (n t : ℕ) where
  own_inside : Sized n t (length a) (length b) → t * n + n ≤ length a
  own_inside f = let i = grid_in n t n f.below in let l = f.first in omega arith

  shipped_inside : Sized n t (length a) (length b) → t * n + n ≤ length b
  shipped_inside f = let i = grid_in n t n f.below in let l = f.second in omega arith

  abbrev Reads : Type 0
  Reads = RowReads a b p q n t (row_refusal n t a b) (row_used n t a b) (row_address n t a b p q)

  abbrev short : Bool
  short = ltb (length a) (n * n) || ltb (length b) (n * n)

  -- the numbers and the room are right
  reads_row : Sized n t (length a) (length b) → Reads
  unfolding row_refusal row_used row_address chosen_row chosen_address is_own
  reads_row f = which (has_price (row_at n t a)) refl
    where
      own : has_price (row_at n t a) ≡ true → (k : Bool) → row_ok (row_at n t a) ≡ k → Reads
      own h true k = rw (room_zero n t (length a) (length b) f, h, k) (own_used f (priced_read n t a (own_inside f) h) (sound n t a (own_inside f) k) (part n t a (own_inside f) p))
      own h false k = rw (room_zero n t (length a) (length b) f, h, k) (own_refused f (priced_read n t a (own_inside f) h) (bad_read n t a (own_inside f) k))

      other : has_price (row_at n t a) ≡ false → (k : Bool) → row_ok (row_at n t b) ≡ k → Reads
      other h true k = rw (room_zero n t (length a) (length b) f, h, k) (shipped_used f (unpriced n t a (own_inside f) h) (sound n t b (shipped_inside f) k) (part n t b (shipped_inside f) q))
      other h false k = rw (room_zero n t (length a) (length b) f, h, k) (shipped_refused f (unpriced n t a (own_inside f) h) (bad_read n t b (shipped_inside f) k))

      which : (h : Bool) → has_price (row_at n t a) ≡ h → Reads
      which true h = own h (row_ok (row_at n t a)) refl
      which false h = other h (row_ok (row_at n t b)) refl

  pub reads : Reads
  unfolding row_refusal room_refusal row_used row_address
  reads = count (eqb n 0 || ltb max_vertices n) refl
    where
      room : 0 < n → n ≤ max_vertices → t < n → (c : Bool) → short ≡ c → eqb n 0 || ltb max_vertices n ≡ false → leb n t ≡ false → Reads
      room s m l true e x y =
          rw (x, y, e)
          (room_refused s m l
          (⊎_elim (λ z. inl (ltb-true (length a) (n * n) z)) (λ z. inr (ltb-true (length b) (n * n) z)) (or_cases (ltb (length a) (n * n)) (ltb (length b) (n * n)) e)))
      room s m l false e x y = reads_row (room_passed n t (length a) (length b) (rw (x, y, e)))

      tail : 0 < n → n ≤ max_vertices → (c : Bool) → leb n t ≡ c → eqb n 0 || ltb max_vertices n ≡ false → Reads
      tail s m true e x = rw (x, e) (tail_refused s m (leb-true n t e))
      tail s m false e x = room s m (leb-false n t e) short refl x e

      count : (c : Bool) → eqb n 0 || ltb max_vertices n ≡ c → Reads
      count true e =
          rw e (count_refused (⊎_elim (λ z. inl (eqb-true n 0 z)) (λ z. inr (ltb-true max_vertices n z)) (or_cases (eqb n 0) (ltb max_vertices n) e)))
      count false e =
          tail (omega (arith, eqb-false n 0 (or_false_left (eqb n 0) (ltb max_vertices n) e))) (ltb-false max_vertices n (or_false_right (eqb n 0) (ltb max_vertices n) e)) (leb n t) refl e

  abbrev wrong_count : Bool
  wrong_count = eqb n 0 || ltb max_vertices n

  counted : 0 < n → n ≤ max_vertices → wrong_count ≡ false
  counted s m = or_both_false (eqb n 0) (ltb max_vertices n) (ne_eqb n 0 (λ e. omega arith)) (le-ltb max_vertices n m)

  pub only : {k : ℕ} {row : List ℕ} {at : ℕ × ℕ} → RowReads a b p q n t k row at → UsesRow a b p q n t k row at
  unfolding row_refusal room_refusal chosen_row chosen_address is_own
  only (count_refused h) =
      let w : wrong_count ≡ true =
      ⊎_elim (λ z. or_left (eqb n 0) (ltb max_vertices n) (eq-eqb n 0 z)) (λ z. or_right (eqb n 0) (ltb max_vertices n) (lt-ltb max_vertices n z)) h in
      uses_nothing n t a b p q count_out_of_range (rw w) (λ y. absurd (omega (arith, y)))
  only (tail_refused s m l) = uses_nothing n t a b p q no_vertex (rw (counted s m, le-leb n t l)) (λ y. absurd (omega (arith, y)))
  only (room_refused s m l h) =
      let x = ltb (length a) (n * n) in
      let y = ltb (length b) (n * n) in
      let w : x || y ≡ true = ⊎_elim (λ z. or_left x y (lt-ltb (length a) (n * n) z)) (λ z. or_right x y (lt-ltb (length b) (n * n) z)) h in
      uses_nothing n t a b p q buffer_short (rw (counted s m, lt-leb n t l, w)) (λ z. absurd (omega (arith, z)))
  only (own_refused f h k) =
      uses_nothing n t a b p q out_of_range (rw (room_zero n t (length a) (length b) f, priced_made n t a (own_inside f) h, bad_made n t a (own_inside f) k))
      (λ y. absurd (omega (arith, y)))
  only (shipped_refused f h k) =
      let e = is_false (has_price (row_at n t a)) (λ z. h (priced_read n t a (own_inside f) z)) in
      uses_nothing n t a b p q out_of_range (rw (room_zero n t (length a) (length b) f, e, bad_made n t b (shipped_inside f) k)) (λ y. absurd (omega (arith, y)))
  only (own_used {row = row} {address = at} f h k x) =
      let e = priced_made n t a (own_inside f) h in
      let ok = is_true (row_ok (row_at n t a)) (λ z. k (bad_read n t a (own_inside f) z)) in
      rw (part_only n t a (own_inside f) p row at x, x.begins) (rw e at (uses_chosen n t a b p q (room_zero n t (length a) (length b) f) (rw e ok)))
  only (shipped_used {row = row} {address = at} f h k x) =
      let e = is_false (has_price (row_at n t a)) (λ z. h (priced_read n t a (own_inside f) z)) in
      let ok = is_true (row_ok (row_at n t b)) (λ z. k (bad_read n t b (shipped_inside f) z)) in
      rw (part_only n t b (shipped_inside f) q row at x, x.begins) (rw e at (uses_chosen n t a b p q (room_zero n t (length a) (length b) f) (rw e ok)))
