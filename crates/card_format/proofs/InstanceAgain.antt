-- Every valid instance, written as a card and read again, is the same, and its card opens. One that holds no arc and
-- free in every cell that can never be an arc comes back exactly. Assumes nothing.
use mathlib.Core.Path.{◌≡◌, refl, ◌∙◌, sym}
use mathlib.Core.Bool.{Bool, true, false, ◌&&◌, cond}
use mathlib.Core.List.{List, [], ◌++◌, append_assoc}
use mathlib.Core.Logic.{⊎_elim}
use Prim.Native.Nat.{ℕ, ◌+◌, ◌*◌, ◌-◌, ◌/◌, ◌%◌, ◌^◌, ◌≤◌, ◌<◌}
use native.Mathlib.Omega.{arith}
use native.Mathlib.Nat.{mod-eq_of_lt}
use lib.Dec.{leb, eqb}
use lib.ListN.{length, drop, length-append}
use lib.Seq.{drop_at}
use borrow.Author.Tests.{leb-true, eqb-true, le-ltb, lt-leb, eq-eqb, ne_eqb}
use Rattle.base.specs.Lists.{tabulate}
use Rattle.base.proofs.BoolLaws.{and_left, and_right, test}
use Rattle.base.proofs.BoundedLaws.{all_at}
use Rattle.base.proofs.ListLaws.{get_d_tabulate, tabulate_is}
use Rattle.base.proofs.PartLaws.{all_of_replicate}
use Rattle.bits.specs.Bits.{bits_of, bits_in}
use Rattle.bits.proofs.NumberLaws.{length_bits_of}
use Rattle.bits.proofs.FieldLaws.{field_read}
use Rattle.instance.specs.Limits.{max_vertices, max_weight, max_budget, no_arc, free, banned, cells}
use Rattle.instance.specs.Instance.{Instance, instance_with, cell, weight_at, mark_at, weight, mark, can_be_arc}
use Rattle.instance.specs.Valid.{cell_ok, cell_valid, valid_instance}
use Rattle.instance.specs.Same.{SameInstance}
use Rattle.instance.proofs.ArcLaws.{ends}
use Rattle.instance.proofs.ValidLaws.{valid_some, valid_small, valid_root, valid_budget, valid_cells}
use Rattle.card_format.specs.Widths.{n_width, root_width, budget_width, header_width, weight_width, mark_width}
use Rattle.card_format.specs.Card.{n_in, root_in, budget_in, on_card, bits_needed, bytes_needed, min_card, instance_in, cell_refusal, cells_refusal, header_refusal, card_refusal, header_bits, cell_bits, instance_bits, filling_bits, card_of}
use Rattle.card_format.proofs.LengthLaws.{length_known, length_card_of}
use Rattle.card_format.proofs.CellLaws.{ok_passes, no_cell_refused}
use Rattle.card_format.proofs.WrittenBits.{length_header, length_instance_bits, card_bits_in, fields_again, weight_found, mark_found}

-- A VALID INSTANCE
ok_fits : (w m : ℕ) → cell_ok w m ≡ true → (w < 2 ^ weight_width) × (m < 2 ^ mark_width)
unfolding cell_ok
ok_fits w m e = go (leb w max_weight) refl e
  where
    go : (t : Bool) → leb w max_weight ≡ t → cond t (leb m banned) (eqb w no_arc && eqb m free) ≡ true → (w < 2 ^ weight_width) × (m < 2 ^ mark_width)
    go true q e = let l = leb-true w max_weight q in let n = leb-true m banned e in (omega arith, omega arith)
    go false q e =
        let l = eqb-true w no_arc (and_left (eqb w no_arc) (eqb m free) e) in
        let n = eqb-true m free (and_right (eqb w no_arc) (eqb m free) e) in
        (omega arith, omega arith)

record ValidKnown (s : Instance) : Type 0 where
  n_low : 1 ≤ s.n
  n_high : s.n ≤ max_vertices
  root_low : s.root < s.n
  budget_low : s.budget ≤ max_budget
  cell_fine : (i : ℕ) → i < cells → on_card s.n s.root i ≡ true → cell_ok (weight_at s i) (mark_at s i) ≡ true

cell_known : (s : Instance) (i : ℕ) → cell_valid s i ≡ true → on_card s.n s.root i ≡ true → cell_ok (weight_at s i) (mark_at s i) ≡ true
unfolding cell_valid on_card
cell_known s i e q = rw q at e

valid_known : (s : Instance) → valid_instance s ≡ true → ValidKnown s
valid_known s e =
    record {
      n_low = valid_some s e;
      n_high = valid_small s e;
      root_low = valid_root s e;
      budget_low = valid_budget s e;
      cell_fine = λ i l o. cell_known s i (all_at cells (cell_valid s) i l (valid_cells s e)) o;
    }

by_fields : (s : Instance) (n r b : ℕ) (ws ms : List ℕ) → n ≡ s.n → r ≡ s.root → b ≡ s.budget → ws ≡ s.weights → ms ≡ s.marks →
    instance_with n r b ws ms ≡ s
by_fields s n r b ws ms en er eb ew em = rw (en, er, eb, ew, em)

module _ (s : Instance) (k : ValidKnown s) where
  -- THE BITS
  bits_again : bits_in (card_of s) ≡ instance_bits s ++ filling_bits s.n
  bits_again = card_bits_in s k.n_high k.root_low

  rest_bits : drop header_width (bits_in (card_of s)) ≡ cell_bits cells 0 s ++ filling_bits s.n
  unfolding instance_bits
  rest_bits =
      let xs = header_bits s.n s.root s.budget in
      let g : instance_bits s ++ filling_bits s.n ≡ xs ++ (cell_bits cells 0 s ++ filling_bits s.n) = append_assoc xs (cell_bits cells 0 s) (filling_bits s.n) in
      rw (bits_again, g) (drop_at xs (cell_bits cells 0 s ++ filling_bits s.n) header_width (length_header s.n s.root s.budget))

  filled : drop (bits_needed s.n) (bits_in (card_of s)) ≡ filling_bits s.n
  filled = rw bits_again (drop_at (instance_bits s) (filling_bits s.n) (bits_needed s.n) (length_instance_bits s k.n_high k.root_low))

  -- THE HEADER
  n_again : n_in (bits_in (card_of s)) ≡ s.n
  unfolding instance_bits
  n_again =
      let h : s.n < 2 ^ n_width = omega (arith, k.n_high) in
      rw bits_again (simp append_assoc (field_read [] _ 0 n_width s.n refl ∙ mod-eq_of_lt h))

  root_again : root_in (bits_in (card_of s)) ≡ s.root
  unfolding instance_bits
  root_again =
      let h : s.root < 2 ^ root_width = omega (arith, k.n_high, k.root_low) in
      rw bits_again (simp append_assoc (field_read (bits_of n_width s.n) _ n_width root_width s.root (length_bits_of n_width s.n) ∙ mod-eq_of_lt h))

  budget_again : budget_in (bits_in (card_of s)) ≡ s.budget
  unfolding instance_bits
  budget_again =
      let xs = bits_of n_width s.n ++ bits_of root_width s.root in
      let ys = cell_bits cells 0 s ++ filling_bits s.n in
      let g : instance_bits s ++ filling_bits s.n ≡ xs ++ (bits_of budget_width s.budget ++ ys) = simp append_assoc in
      let l : length xs ≡ n_width + root_width = simp (length-append, length_bits_of) in
      let h : s.budget < 2 ^ budget_width = omega (arith, k.budget_low) in
      rw (bits_again, g) (field_read xs ys (n_width + root_width) budget_width s.budget l ∙ mod-eq_of_lt h)

  -- THE CELLS
  -- what is read of each cell
  weight_read : ℕ → ℕ
  weight_read i = cond (on_card s.n s.root i) (weight_at s i % 2 ^ weight_width) no_arc

  mark_read : ℕ → ℕ
  mark_read i = cond (on_card s.n s.root i) (mark_at s i % 2 ^ mark_width) free

  weights_again : (instance_in (card_of s)).weights ≡ tabulate cells weight_read
  unfolding instance_in tabulate weight_read
  weights_again =
      rw (n_again, root_again, rest_bits)
      (fields_again s 0 weight_width no_arc (λ i. weight_at s i % 2 ^ weight_width) (weight_found s) (filling_bits s.n) cells 0)

  marks_again : (instance_in (card_of s)).marks ≡ tabulate cells mark_read
  unfolding instance_in tabulate mark_read
  marks_again =
      rw (n_again, root_again, rest_bits)
      (fields_again s weight_width mark_width free (λ i. mark_at s i % 2 ^ mark_width) (mark_found s) (filling_bits s.n) cells 0)

  -- on the card, what is read is what the instance holds
  weight_same : (i : ℕ) → i < cells → on_card s.n s.root i ≡ true → weight_read i ≡ weight_at s i
  unfolding weight_read
  weight_same i h q = rw q (mod-eq_of_lt (ok_fits (weight_at s i) (mark_at s i) (k.cell_fine i h q)).0)

  mark_same : (i : ℕ) → i < cells → on_card s.n s.root i ≡ true → mark_read i ≡ mark_at s i
  unfolding mark_read
  mark_same i h q = rw q (mod-eq_of_lt (ok_fits (weight_at s i) (mark_at s i) (k.cell_fine i h q)).1)

  -- elsewhere it is no arc, and free
  weight_off : (i : ℕ) → on_card s.n s.root i ≡ false → weight_read i ≡ no_arc
  unfolding weight_read
  weight_off i q = rw q

  mark_off : (i : ℕ) → on_card s.n s.root i ≡ false → mark_read i ≡ free
  unfolding mark_read
  mark_off i q = rw q

  off_card : (i : ℕ) → on_card s.n s.root i ≡ false → cell_refusal (weight_read i) (mark_read i) ≡ 0
  unfolding cell_refusal
  off_card i q = rw (weight_off i q, mark_off i q)

  cell_passes : (i : ℕ) → i < cells → cell_refusal (weight_read i) (mark_read i) ≡ 0
  cell_passes i h =
      ⊎_elim (λ q. rw (weight_same i h q, mark_same i h q) (ok_passes (weight_at s i) (mark_at s i) (k.cell_fine i h q))) (off_card i)
      (test (on_card s.n s.root i))

  cells_pass : cells_refusal (instance_in (card_of s)).weights (instance_in (card_of s)).marks ≡ 0
  unfolding tabulate
  cells_pass = rw (weights_again, marks_again) (no_cell_refused cells 0 weight_read mark_read (λ i a b. cell_passes i (omega arith)))

  -- THE WHOLE
  opens_again : card_refusal (card_of s) ≡ 0
  unfolding card_refusal header_refusal
  opens_again =
      let w = length_known s.n k.n_high in
      let long : min_card ≤ bytes_needed s.n = omega arith in
      let low = k.n_low in
      let some : s.n ≡ 0 → ⊥ = λ z. omega arith in
      simp (
        cells_pass,
        length_card_of,
        n_again,
        root_again,
        budget_again,
        filled,
        le-ltb _ _ long,
        ne_eqb _ _ some,
        le-ltb _ _ k.n_high,
        eq-eqb (bytes_needed s.n) (bytes_needed s.n) refl,
        lt-leb _ _ k.root_low,
        le-ltb _ _ k.budget_low,
        all_of_replicate (λ b. eqb b 0) (8 * bytes_needed s.n - bits_needed s.n) 0 refl,
      )

  index_on : (t h : ℕ) → can_be_arc s.n s.root t h ≡ true → (cell t h < cells) × (on_card s.n s.root (cell t h) ≡ true)
  unfolding on_card
  index_on t h e =
      let a = (ends s.n s.root t h e).tail_below in
      let b = (ends s.n s.root t h e).head_below in
      let n = k.n_high in
      let q : (32 * t + h) / 32 ≡ t = omega arith in
      let r : (32 * t + h) % 32 ≡ h = omega arith in
      (omega arith, rw (q, r) e)

  same_again : SameInstance (instance_in (card_of s)) s
  unfolding instance_in weight mark
  same_again = record {
    same_n = n_again;
    same_root = root_again;
    same_budget = budget_again;
    same_weights = λ t h e. let i = index_on t h e in
        rw weights_again (get_d_tabulate cells weight_read (cell t h) no_arc i.0 ∙ weight_same (cell t h) i.0 i.1);
    same_marks = λ t h e. let i = index_on t h e in
        rw marks_again (get_d_tabulate cells mark_read (cell t h) free i.0 ∙ mark_same (cell t h) i.0 i.1);
  }

  module _ (weights_long : length s.weights ≡ cells) (marks_long : length s.marks ≡ cells)
      (off : (i : ℕ) → i < cells → on_card s.n s.root i ≡ false → (weight_at s i ≡ no_arc) × (mark_at s i ≡ free)) where
    all_weights : s.weights ≡ tabulate cells weight_read
    all_weights =
        tabulate_is cells s.weights weight_read no_arc weights_long
        (λ i h. ⊎_elim (λ q. sym (weight_same i h q)) (λ q. (off i h q).0 ∙ sym (weight_off i q)) (test (on_card s.n s.root i)))

    all_marks : s.marks ≡ tabulate cells mark_read
    all_marks =
        tabulate_is cells s.marks mark_read free marks_long
        (λ i h. ⊎_elim (λ q. sym (mark_same i h q)) (λ q. (off i h q).1 ∙ sym (mark_off i q)) (test (on_card s.n s.root i)))

    exactly_again : instance_in (card_of s) ≡ s
    unfolding instance_in
    exactly_again = by_fields s _ _ _ _ _ n_again root_again budget_again (weights_again ∙ sym all_weights) (marks_again ∙ sym all_marks)

-- THE ROUND TRIP
pub written_opens : (s : Instance) → valid_instance s ≡ true → card_refusal (card_of s) ≡ 0
written_opens s e = opens_again s (valid_known s e)

pub instance_round_trip : (s : Instance) → valid_instance s ≡ true → SameInstance (instance_in (card_of s)) s
instance_round_trip s e = same_again s (valid_known s e)

pub instance_back : (s : Instance) → valid_instance s ≡ true → length s.weights ≡ cells → length s.marks ≡ cells →
    ((i : ℕ) → i < cells → on_card s.n s.root i ≡ false → (weight_at s i ≡ no_arc) × (mark_at s i ≡ free)) → instance_in (card_of s) ≡ s
instance_back s e = exactly_again s (valid_known s e)
