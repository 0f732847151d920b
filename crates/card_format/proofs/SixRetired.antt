-- "Show that 6 never occurs any more." (02, A9) The dearest price is the number before no link, and no link is the
-- greatest number of 20 bits: so a price field is a price or no link, and its cell is not refused by 6. No other step
-- of a card's refusal gives 6. Nothing is asked of the card: its numbers need not be bytes, and a field that runs past
-- its end has fewer bits. Assumes nothing.
use mathlib.Core.Path.{◌≡◌, refl}
use mathlib.Core.Bool.{Bool, true, false, ◌||◌, not, cond}
use mathlib.Core.List.{List, [], ◌∷◌}
use Prim.Native.Nat.{ℕ, zero, suc, ◌+◌, ◌^◌, ◌<◌}
use native.Mathlib.Omega.{arith}
use lib.Dec.{ltb, leb, eqb}
use lib.ListN.{length, drop}
use borrow.Author.Tests.{leb-false, eqb-false}
use Rattle.base.specs.Lists.{all_of}
use Rattle.base.proofs.AllOfLaws.{all_of_drop}
use Rattle.bits.specs.Bits.{bits_in, field, are_bits}
use Rattle.bits.proofs.ByteLaws.{bits_in_are_bits}
use Rattle.bits.proofs.FieldLaws.{field_below}
use Rattle.instance.specs.Limits.{max_vertices, max_weight, max_budget, no_arc, free, cells}
use Rattle.instance.specs.Refusals.{card_short, bad_count, bad_length, bad_root, bad_card_budget, bad_weight, bad_mark, bad_filling}
use Rattle.card_format.specs.Widths.{budget_width, header_width, weight_width, cell_width}
use Rattle.card_format.specs.Card.{n_in, root_in, on_card, bits_needed, bytes_needed, min_card, weights_in, marks_in, instance_of_bits, instance_in, unused_mark, cell_fields, cell_refusal, cells_refusal, header_refusal, card_refusal}
use Rattle.card_format.proofs.HeaderLaws.{n_of, root_of, budget_of}

-- no link is the greatest number of a price field, and the dearest price the one before it (`no_gap` in instance); the
-- greatest budget fits its field
pub limits_fit : (2 ^ weight_width ≡ no_arc + 1) × (max_budget < 2 ^ budget_width)
limits_fit = (refl, omega arith)

-- a choice of two numbers, neither of them 6
neither_six : (b : Bool) (x y : ℕ) → (x ≡ bad_weight → ⊥) → (y ≡ bad_weight → ⊥) → cond b x y ≡ bad_weight → ⊥
neither_six true x y p q = p
neither_six false x y p q = q

-- CELLS
cell_not_six : (w m : ℕ) → w < 2 ^ weight_width → cell_refusal w m ≡ bad_weight → ⊥
unfolding cell_refusal
cell_not_six w m h = go (leb w max_weight) (eqb w no_arc) refl refl
  where
    go : (a c : Bool) → leb w max_weight ≡ a → eqb w no_arc ≡ c →
        cond a (cond (eqb m unused_mark) bad_mark 0) (cond c (cond (eqb m free) 0 bad_mark) bad_weight) ≡ bad_weight → ⊥
    go true c p q = neither_six (eqb m unused_mark) bad_mark 0 (λ e. omega arith) (λ e. omega arith)
    go false true p q = neither_six (eqb m free) 0 bad_mark (λ e. omega arith) (λ e. omega arith)
    go false false p q = let l = leb-false w max_weight p in let n = eqb-false w no_arc q in λ e. omega arith

-- what is read of a cell: a field, or no link where it is not on the card
weight_below : (b : Bool) (bs : List ℕ) → are_bits bs ≡ true → cond b (field 0 weight_width bs) no_arc < 2 ^ weight_width
weight_below true bs e = field_below 0 weight_width bs e
weight_below false bs e = omega arith

next_are_bits : (b : Bool) (bs : List ℕ) → are_bits bs ≡ true → are_bits (cond b (drop cell_width bs) bs) ≡ true
next_are_bits true bs e = all_of_drop (λ b. ltb b 2) cell_width bs e
next_are_bits false bs e = e

from_not_six : (n r k i : ℕ) (bs ms : List ℕ) → are_bits bs ≡ true →
    cells_refusal (cell_fields n r 0 weight_width no_arc k i bs) ms ≡ bad_weight → ⊥
unfolding cell_fields cells_refusal
from_not_six n r zero i bs ms b = λ e. omega arith
from_not_six n r (suc k) i bs [] b = λ e. omega arith
from_not_six n r (suc k) i bs (m ∷ ms) b =
    let w = cond (on_card n r i) (field 0 weight_width bs) no_arc in
    neither_six (eqb (cell_refusal w m) 0) _ (cell_refusal w m) (from_not_six n r k (suc i) _ ms (next_are_bits (on_card n r i) bs b))
    (cell_not_six w m (weight_below (on_card n r i) bs b))

-- of any bits
pub cells_not_six : (bs : List ℕ) → are_bits bs ≡ true → cells_refusal (instance_of_bits bs).weights (instance_of_bits bs).marks ≡ bad_weight → ⊥
cells_not_six bs b = from_not_six (n_in bs) (root_in bs) cells 0 (drop header_width bs) _ (all_of_drop (λ b. ltb b 2) header_width bs b)

-- THE CARD
pub six_retired : (card : List ℕ) → card_refusal card ≡ 6 → ⊥
unfolding card_refusal header_refusal instance_in
six_retired ws =
    let bs = bits_in ws in
    let n = n_of ws in
    let c = cells_refusal (weights_in n (root_of ws) bs) (marks_in n (root_of ws) bs) in
    neither_six (ltb (length ws) min_card) card_short _ (λ e. omega arith)
    (neither_six (eqb n 0 || ltb max_vertices n) bad_count _ (λ e. omega arith)
    (neither_six (not (eqb (length ws) (bytes_needed n))) bad_length _ (λ e. omega arith)
    (neither_six (leb n (root_of ws)) bad_root _ (λ e. omega arith)
    (neither_six (ltb max_budget (budget_of ws)) bad_card_budget _ (λ e. omega arith)
    (neither_six (not (eqb c 0)) c _ (cells_not_six bs (bits_in_are_bits ws))
    (neither_six (all_of (λ b. eqb b 0) (drop (bits_needed n) bs)) 0 bad_filling (λ e. omega arith) (λ e. omega arith)))))))
