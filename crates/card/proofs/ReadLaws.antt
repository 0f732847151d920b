-- How the three steps of reading, the header, the cells and the filling, make up what a card says. Assumes nothing.
use mathlib.Core.Path.{◌≡◌, ◌∙◌, sym}
use mathlib.Core.Bool.{cond}
use mathlib.Core.List.{List}
use Rattle.std.specs.Prelude.{Ok, Err}
use Prim.Native.Nat.{ℕ, ◌+◌, ◌*◌, ◌-◌, ◌≤◌}
use native.Mathlib.Omega.{arith}
use native.Mathlib.Nat.{zero-add}
use lib.Dec.{eqb}
use lib.ListN.{length, drop}
use borrow.Author.Tests.{le-ltb, eq-eqb, ne_eqb}
use Rattle.base.specs.Lists.{all_of}
use Rattle.bits.specs.Bits.{bits_in, field}
use Rattle.bits.proofs.ByteLaws.{length_bits_in}
use Rattle.bits.proofs.FieldLaws.{field_rest_zero}
use Rattle.instance.specs.Limits.{max_vertices, cells}
use Rattle.instance.specs.Refusals.{bad_filling}
use Rattle.instance.specs.RefusalNumbers.{refusal_number}
use Rattle.instance.specs.declared.refusals.Refusal.{Refusal}
use Rattle.instance.specs.declared.refusals.Refusal.TheVariants.{BadFilling}
use Rattle.card_format.specs.Card.{bits_needed, bytes_needed, min_card, weights_in, marks_in, instance_in, cells_refusal, header_refusal, card_refusal}
use Rattle.card_format.specs.Offsets.{offset}
use Rattle.card_format.proofs.LengthLaws.{length_known}
use Rattle.card_format.proofs.HeaderLaws.{n_of, root_of, header_known, CellsEnd, cells_end}
use Rattle.card_format.proofs.OpensLaws.{rest_refusal, refusal_by_steps}
use Rattle.card.specs.Cells.{CellsRead}
use Rattle.card.specs.Read.{fields_refusal, HeaderRead, CardRead}
use Rattle.card.specs.declared.cells.Cells.{Cells}
use Rattle.card.specs.declared.read.Header.{Header}
use Rattle.instance.proofs.RefusalLaws.{eqb_0}

-- THE HEADER
-- 4 and 5 are what is left to judge once 1, 2 and 3 are passed
pub fields_last : (ws : List ℕ) → min_card ≤ length ws → (n_of ws ≡ 0 → ⊥) → n_of ws ≤ max_vertices → length ws ≡ bytes_needed (n_of ws) →
    fields_refusal (n_of ws) (bits_in ws) ≡ header_refusal ws 0
unfolding fields_refusal header_refusal
fields_last ws l low high sized = rw (le-ltb _ _ l, ne_eqb _ _ low, le-ltb _ _ high, eq-eqb _ _ sized)

-- a card with a faulty header says nothing else
pub none_read : (ws : List ℕ) (e : Refusal) → HeaderRead (header_refusal ws 0) (n_of ws) (bits_in ws) (Err e) → CardRead ws (Err e)
none_read ws e h = record { judged = h.judged ∙ sym (refusal_by_steps ws ∙ simp (← h.judged, eqb_0 e)); said = tt }

module _ (ws : List ℕ) (h : Header) (q : HeaderRead (header_refusal ws 0) (n_of ws) (bits_in ws) (Ok h)) where
  passes : header_refusal ws 0 ≡ 0
  passes = sym q.judged

  after_header : card_refusal ws ≡ rest_refusal ws
  after_header = refusal_by_steps ws ∙ simp passes

  -- the cells end within the card, in its last byte
  pub its_end : CellsEnd ws (offset h.n h.root cells)
  its_end = rw q.fields (cells_end ws (header_known ws passes))

  pub cells_refused : (e : Refusal) → CellsRead (bits_in ws) 0 h.n h.root (Err e) → CardRead ws (Err e)
  cells_refused e k =
      let j : cells_refusal (weights_in (n_of ws) (root_of ws) (bits_in ws)) (marks_in (n_of ws) (root_of ws) (bits_in ws)) ≡ refusal_number e =
      sym (k.judged ∙ rw q.fields) in
      record { judged = sym (after_header ∙ simp (j, eqb_0 e)); said = tt }

  module _ (c : Cells) (k : CellsRead (bits_in ws) 0 h.n h.root (Ok c)) (v : ℕ) (f : v ≡ field c.end (8 * length ws - c.end) (bits_in ws)) where
    filling : eqb v 0 ≡ all_of (λ b. eqb b 0) (drop (bits_needed (n_of ws)) (bits_in ws))
    filling =
        let u = header_known ws passes in
        let w = length_known (n_of ws) u.n_high in
        let e : c.end ≡ bits_needed (n_of ws) = k.last_end ∙ zero-add _ ∙ rw q.fields u.end in
        let l : length (bits_in ws) ≡ c.end + (8 * length ws - c.end) = length_bits_in ws ∙ omega (arith, w.whole, u.sized) in
        rw f (field_rest_zero c.end (8 * length ws - c.end) (bits_in ws) l ∙ rw e)

    by_filling : card_refusal ws ≡ cond (eqb v 0) 0 bad_filling
    by_filling =
        let j : cells_refusal (weights_in (n_of ws) (root_of ws) (bits_in ws)) (marks_in (n_of ws) (root_of ws) (bits_in ws)) ≡ 0 =
        sym (k.judged ∙ rw q.fields) in
        after_header ∙ simp (j, ← filling)

    pub filling_refused : (v ≡ 0 → ⊥) → CardRead ws (Err BadFilling)
    filling_refused x = record { judged = sym (by_filling ∙ simp (ne_eqb v 0 x)); said = tt }

    pub all_read : v ≡ 0 → CardRead ws (Ok (record { n = h.n; root = h.root; budget = h.budget; weights = c.weights; marks = c.marks }))
    unfolding instance_in
    all_read x = record { judged = sym (by_filling ∙ simp (eq-eqb v 0 x)); said = simp (k.all_weights, k.all_marks, q.fields) }
