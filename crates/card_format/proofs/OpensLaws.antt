-- What is known of a card that opens; its instance is valid. No card is refused by a number above 8. Assumes nothing.
use mathlib.Core.Path.{◌≡◌, refl, ◌∙◌, sym}
use mathlib.Core.Bool.{Bool, true, false, ◌||◌, not, cond}
use mathlib.Core.List.{List}
use Prim.Native.Nat.{ℕ, zero, suc, ◌+◌, ◌^◌, ◌≤◌, ◌<◌}
use native.Mathlib.Omega.{arith}
use lib.Dec.{ltb, leb, eqb}
use lib.ListN.{length, drop}
use borrow.Author.Tests.{le-leb, lt-ltb, ne_eqb}
use Rattle.base.specs.Bounded.{all_below}
use Rattle.base.specs.Lists.{all_of, tabulate}
use Rattle.base.proofs.BoolLaws.{and_both}
use Rattle.base.proofs.BoundedLaws.{all_intro}
use Rattle.bits.specs.Bits.{bits_in}
use Rattle.bits.proofs.ByteLaws.{length_bits_in, bits_in_are_bits}
use Rattle.bits.proofs.FieldLaws.{field_below}
use Rattle.instance.specs.Limits.{max_vertices, max_budget, no_arc, free, cells}
use Rattle.instance.specs.Refusals.{card_short, bad_count, bad_length, bad_root, bad_card_budget, bad_mark, bad_filling}
use Rattle.instance.specs.Instance.{weight_at, mark_at}
use Rattle.instance.specs.Valid.{cell_ok, cell_valid, header_valid, valid_instance}
use Rattle.card_format.specs.Widths.{weight_width, mark_width}
use Rattle.card_format.specs.Card.{on_card, bits_needed, bytes_needed, min_card, weights_in, marks_in, instance_in, cell_refusal, cells_refusal, header_refusal, card_refusal}
use Rattle.card_format.specs.Offsets.{offset, cell_field, weight_field, mark_field}
use Rattle.card_format.proofs.LengthLaws.{length_known}
use Rattle.card_format.proofs.CellLaws.{fields_by_index, length_fields, field_at, first_passes, each_passes, passes_ok, cells_refusal_most}
use Rattle.card_format.proofs.HeaderLaws.{n_of, root_of, budget_of, HeaderKnown, header_known, header_first}

-- THE STEPS
-- the cells' refusals and 8, once the header passes
abbrev pub rest_refusal : (card : List ℕ) → ℕ
rest_refusal ws =
    let bs = bits_in ws in
    let c = cells_refusal (weights_in (n_of ws) (root_of ws) bs) (marks_in (n_of ws) (root_of ws) bs) in
    cond (not (eqb c 0)) c (cond (all_of (λ b. eqb b 0) (drop (bits_needed (n_of ws)) bs)) 0 bad_filling)

pub refusal_by_steps : (ws : List ℕ) → card_refusal ws ≡ cond (eqb (header_refusal ws 0) 0) (rest_refusal ws) (header_refusal ws 0)
unfolding card_refusal instance_in
refusal_by_steps ws = header_first ws (rest_refusal ws)

-- A CARD THAT OPENS
pub record Opens (ws : List ℕ) : Type 0 where
  pub header : HeaderKnown ws
  pub long_enough : bits_needed (n_of ws) ≤ length (bits_in ws)
  pub cells_pass : cells_refusal (weights_in (n_of ws) (root_of ws) (bits_in ws)) (marks_in (n_of ws) (root_of ws) (bits_in ws)) ≡ 0
  pub zeros : all_of (λ b. eqb b 0) (drop (bits_needed (n_of ws)) (bits_in ws)) ≡ true

rest_passes : (c : ℕ) (f : Bool) → cond (not (eqb c 0)) c (cond f 0 bad_filling) ≡ 0 → (c ≡ 0) × (f ≡ true)
rest_passes zero true e = (refl, refl)
rest_passes zero false e = absurd (omega arith)
rest_passes (suc c) f e = let q : suc c ≡ 0 = simp (ne_eqb (suc c) 0 (λ z. omega arith)) at e in absurd (omega arith)

pub opens : (ws : List ℕ) → card_refusal ws ≡ 0 → Opens ws
opens ws e =
    let bs = bits_in ws in
    let n = n_of ws in
    let a = first_passes (header_refusal ws 0) (rest_refusal ws) (sym (refusal_by_steps ws) ∙ e) in
    let b = rest_passes (cells_refusal (weights_in n (root_of ws) bs) (marks_in n (root_of ws) bs)) (all_of (λ b. eqb b 0) (drop (bits_needed n) bs)) a.1 in
    let h = header_known ws a.0 in
    let k = length_known n h.n_high in
    record { header = h; long_enough = rw (length_bits_in ws) (omega (arith, h.sized, k.whole)); cells_pass = b.0; zeros = b.1 }

pub opened_length : (ws : List ℕ) → card_refusal ws ≡ 0 → length ws ≡ bytes_needed (instance_in ws).n
unfolding instance_in
opened_length ws e = (opens ws e).header.sized

module _ (ws : List ℕ) where
  pub marks_long : length (instance_in ws).marks ≡ cells
  unfolding instance_in
  marks_long = length_fields weight_width mark_width free (n_of ws) (root_of ws) (bits_in ws)

  -- a cell by its offset
  pub weight_in : (i : ℕ) → i < cells → weight_at (instance_in ws) i ≡ weight_field (n_of ws) (root_of ws) (bits_in ws) i
  unfolding instance_in
  weight_in i h = field_at 0 weight_width no_arc (n_of ws) (root_of ws) (bits_in ws) i no_arc h

  pub mark_in : (i : ℕ) → i < cells → mark_at (instance_in ws) i ≡ mark_field (n_of ws) (root_of ws) (bits_in ws) i
  unfolding instance_in
  mark_in i h = field_at weight_width mark_width free (n_of ws) (root_of ws) (bits_in ws) i free h

-- VALID
module _ (ws : List ℕ) (o : Opens ws) where
  mark_small : (i : ℕ) → on_card (n_of ws) (root_of ws) i ≡ true → mark_field (n_of ws) (root_of ws) (bits_in ws) i < 2 ^ mark_width
  unfolding cell_field
  mark_small i q = rw q (field_below (offset (n_of ws) (root_of ws) i + weight_width) mark_width (bits_in ws) (bits_in_are_bits ws))

  cell_passes : (i : ℕ) → i < cells → cell_refusal (weight_field (n_of ws) (root_of ws) (bits_in ws) i) (mark_field (n_of ws) (root_of ws) (bits_in ws) i) ≡ 0
  unfolding tabulate
  cell_passes i h =
      let f = fields_by_index 0 weight_width no_arc (n_of ws) (root_of ws) (bits_in ws) in
      let g = fields_by_index weight_width mark_width free (n_of ws) (root_of ws) (bits_in ws) in
      each_passes cells 0 (weight_field (n_of ws) (root_of ws) (bits_in ws)) (mark_field (n_of ws) (root_of ws) (bits_in ws))
      (rw (f, g) at o.cells_pass) i (omega arith) (omega arith)

  cell_is_valid : (i : ℕ) → i < cells → (t : Bool) → on_card (n_of ws) (root_of ws) i ≡ t →
      cond t (cell_ok (weight_at (instance_in ws) i) (mark_at (instance_in ws) i)) true ≡ true
  cell_is_valid i h true q = rw (weight_in ws i h, mark_in ws i h) (passes_ok _ _ (mark_small i q) (cell_passes i h))
  cell_is_valid i h false q = refl

  cells_are_valid : (i : ℕ) → i < cells → cell_valid (instance_in ws) i ≡ true
  unfolding cell_valid on_card instance_in
  cells_are_valid i h = cell_is_valid i h (on_card (n_of ws) (root_of ws) i) refl

  header_is_valid : header_valid (n_of ws) (root_of ws) (budget_of ws) ≡ true
  unfolding header_valid
  header_is_valid =
      let h = o.header in
      simp (le-leb _ _ h.n_low, le-leb _ _ h.n_high, lt-ltb _ _ h.root_low, le-leb _ _ h.budget_low)

  instance_valid : valid_instance (instance_in ws) ≡ true
  unfolding valid_instance instance_in
  instance_valid =
      and_both (header_valid (n_of ws) (root_of ws) (budget_of ws)) (all_below cells (cell_valid (instance_in ws))) header_is_valid
      (all_intro cells (cell_valid (instance_in ws)) cells_are_valid)

-- a card that opens holds a valid instance
pub card_valid : (ws : List ℕ) → card_refusal ws ≡ 0 → valid_instance (instance_in ws) ≡ true
card_valid ws e = instance_valid ws (opens ws e)

-- NUMBERS
most : (a b c d e f g : Bool) (x : ℕ) → x ≤ bad_mark →
    cond a card_short (cond b bad_count (cond c bad_length (cond d bad_root (cond e bad_card_budget (cond f x (cond g 0 bad_filling)))))) ≤ bad_filling
most true b c d e f g x h = omega arith
most false true c d e f g x h = omega arith
most false false true d e f g x h = omega arith
most false false false true e f g x h = omega arith
most false false false false true f g x h = omega arith
most false false false false false true g x h = omega arith
most false false false false false false true x h = omega arith
most false false false false false false false x h = omega arith

-- no number is answered but document 01's
pub card_refusal_most : (ws : List ℕ) → card_refusal ws ≤ bad_filling
unfolding card_refusal header_refusal
card_refusal_most ws =
    let s = instance_in ws in
    let n = n_of ws in
    let c = cells_refusal s.weights s.marks in
    most (ltb (length ws) min_card) (eqb n 0 || ltb max_vertices n) (not (eqb (length ws) (bytes_needed n))) (leb n (root_of ws)) (ltb max_budget (budget_of ws))
    (not (eqb c 0)) (all_of (λ b. eqb b 0) (drop (bits_needed n) (bits_in ws))) c (cells_refusal_most s.weights s.marks)
