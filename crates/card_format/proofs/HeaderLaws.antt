-- What a header that passes tells, and the header's refusals before those of the rest. Assumes nothing.
use mathlib.Core.Path.{◌≡◌, refl}
use mathlib.Core.Bool.{Bool, true, false, ◌||◌, not, cond}
use mathlib.Core.List.{List}
use Prim.Native.Nat.{ℕ, ◌+◌, ◌*◌, ◌≤◌, ◌<◌}
use native.Mathlib.Omega.{arith}
use lib.Dec.{ltb, leb, eqb}
use lib.ListN.{length}
use borrow.Author.Tests.{ltb-false, leb-false, eqb-true, eqb-false, not-false}
use Rattle.base.proofs.BoolLaws.{or_false_left, or_false_right, passed}
use Rattle.bits.specs.Bits.{bits_in}
use Rattle.instance.specs.Limits.{max_vertices, max_budget, cells}
use Rattle.instance.specs.Refusals.{card_short, bad_count, bad_length, bad_root, bad_card_budget}
use Rattle.card_format.specs.Card.{n_in, root_in, budget_in, bits_needed, bytes_needed, min_card, max_card, header_refusal}
use Rattle.card_format.specs.Offsets.{offset}
use Rattle.card_format.proofs.LengthLaws.{length_known}
use Rattle.card_format.proofs.OffsetLaws.{offset_end}

-- the header's numbers, straight from the bytes
abbrev pub n_of : (card : List ℕ) → ℕ
n_of ws = n_in (bits_in ws)

abbrev pub root_of : (card : List ℕ) → ℕ
root_of ws = root_in (bits_in ws)

abbrev pub budget_of : (card : List ℕ) → ℕ
budget_of ws = budget_in (bits_in ws)

-- A HEADER THAT PASSES
pub record HeaderKnown (ws : List ℕ) : Type 0 where
  pub n_low : 1 ≤ n_of ws
  pub n_high : n_of ws ≤ max_vertices
  pub root_low : root_of ws < n_of ws
  pub budget_low : budget_of ws ≤ max_budget
  pub sized : length ws ≡ bytes_needed (n_of ws)
  pub end : offset (n_of ws) (root_of ws) cells ≡ bits_needed (n_of ws)

pub header_known : (ws : List ℕ) → header_refusal ws 0 ≡ 0 → HeaderKnown ws
unfolding header_refusal
header_known ws e =
    let n = n_of ws in
    let a = passed (ltb (length ws) min_card) 0 _ e in
    let b = passed (eqb n 0 || ltb max_vertices n) 1 _ a.1 in
    let c = passed (not (eqb (length ws) (bytes_needed n))) 2 _ b.1 in
    let d = passed (leb n (root_of ws)) 3 _ c.1 in
    let f = passed (ltb max_budget (budget_of ws)) 4 _ d.1 in
    let low = eqb-false n 0 (or_false_left (eqb n 0) (ltb max_vertices n) b.0) in
    let high : n ≤ max_vertices = ltb-false max_vertices n (or_false_right (eqb n 0) (ltb max_vertices n) b.0) in
    let inside : root_of ws < n = leb-false n (root_of ws) d.0 in
    record {
      n_low = omega arith;
      n_high = high;
      root_low = inside;
      budget_low = ltb-false max_budget (budget_of ws) f.0;
      sized = eqb-true (length ws) (bytes_needed n) (not-false (eqb (length ws) (bytes_needed n)) c.0);
      end = offset_end n (root_of ws) high inside;
    }

-- the cells end within the card, in its last byte
pub record CellsEnd (ws : List ℕ) (end : ℕ) : Type 0 where
  pub room : end ≤ 8 * length ws
  pub close : 8 * length ws ≤ end + 7
  pub small : end ≤ 8 * max_card

pub cells_end : (ws : List ℕ) → HeaderKnown ws → CellsEnd ws (offset (n_of ws) (root_of ws) cells)
cells_end ws h =
    let w = length_known (n_of ws) h.n_high in
    record { room = omega (arith, h, w); close = omega (arith, h, w); small = omega (arith, h, w) }

-- THE HEADER BEFORE THE REST
steps : (a b c d e : Bool) (x : ℕ) →
    let by : ℕ → ℕ = λ y. cond a card_short (cond b bad_count (cond c bad_length (cond d bad_root (cond e bad_card_budget y)))) in
    by x ≡ cond (eqb (by 0) 0) x (by 0)
steps true b c d e x = refl
steps false true c d e x = refl
steps false false true d e x = refl
steps false false false true e x = refl
steps false false false false true x = refl
steps false false false false false x = refl

pub header_first : (ws : List ℕ) (rest : ℕ) → header_refusal ws rest ≡ cond (eqb (header_refusal ws 0) 0) rest (header_refusal ws 0)
unfolding header_refusal
header_first ws rest =
    let n = n_of ws in
    steps (ltb (length ws) min_card) (eqb n 0 || ltb max_vertices n) (not (eqb (length ws) (bytes_needed n))) (leb n (root_of ws))
    (ltb max_budget (budget_of ws)) rest
