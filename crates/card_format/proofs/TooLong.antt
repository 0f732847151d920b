-- Bytes that are more than any card has: they are refused with 2 or 3 by the first of them, whatever follows, so the
-- first bytes of a long input answer for all of it. Assumes nothing.
use mathlib.Core.Path.{◌≡◌, refl, sym, ap, ◌∙◌}
use mathlib.Core.Bool.{Bool, true, false, ◌||◌, not, cond}
use mathlib.Core.List.{List, [], ◌∷◌}
use Prim.Native.Nat.{ℕ, suc, ◌≤◌, ◌<◌}
use native.Mathlib.Omega.{arith}
use lib.Dec.{ltb, eqb}
use lib.ListN.{length, take, length-take}
use borrow.Author.Tests.{ltb-false, le-ltb, ne_eqb}
use Rattle.base.proofs.BoolLaws.{or_false_right}
use Rattle.bits.specs.Bits.{bits_of, bits_in, field}
use Rattle.instance.specs.Limits.{max_vertices}
use Rattle.instance.specs.Refusals.{bad_count, bad_length}
use Rattle.card_format.specs.Card.{bytes_needed, min_card, max_card, header_refusal, card_refusal}
use Rattle.card_format.proofs.LengthLaws.{longest_card}
use Rattle.card_format.proofs.HeaderLaws.{n_of}

-- 2 by the field of the positions, 3 otherwise
unfoldable long_refusal : (n : ℕ) → ℕ
long_refusal n = cond (eqb n 0 || ltb max_vertices n) bad_count bad_length

long_refused : (n : ℕ) → long_refusal n ≡ 0 → ⊥
unfolding long_refusal
long_refused n = go (eqb n 0 || ltb max_vertices n)
  where
    go : (t : Bool) → ◌≡◌ {A = ℕ} (cond t bad_count bad_length) 0 → ⊥
    go true e = omega arith
    go false e = omega arith

choice : (t u : Bool) (x : ℕ) → (t ≡ false → u ≡ true) → cond t bad_count (cond u bad_length x) ≡ cond t bad_count bad_length
choice true u x h = refl
choice false u x h = rw (h refl)

-- no instance of at most 32 vertices takes so many bytes
not_needed : (l n : ℕ) → max_card < l → eqb n 0 || ltb max_vertices n ≡ false → not (eqb l (bytes_needed n)) ≡ true
not_needed l n h e =
    let most = longest_card n (ltb-false max_vertices n (or_false_right (eqb n 0) (ltb max_vertices n) e)) in
    rw (ne_eqb l (bytes_needed n) (λ q. omega arith))

by_field : (ws : List ℕ) → max_card < length ws → card_refusal ws ≡ long_refusal (n_of ws)
unfolding card_refusal header_refusal long_refusal
by_field ws h =
    let n = n_of ws in
    rw (le-ltb (length ws) min_card (omega arith))
    (choice (eqb n 0 || ltb max_vertices n) (not (eqb (length ws) (bytes_needed n))) _ (not_needed (length ws) n h))

-- the field of the positions lies in the first byte
n_first : (w : ℕ) (xs ys : List ℕ) → n_of (w ∷ xs) ≡ n_of (w ∷ ys)
unfolding bits_in field bits_of
n_first w xs ys = refl

n_of_part : (k : ℕ) (ws : List ℕ) → n_of (take (suc k) ws) ≡ n_of ws
n_of_part k [] = refl
n_of_part k (w ∷ ws) = n_first w (take k ws) ws

pub too_long_refused : (ws : List ℕ) → max_card < length ws → card_refusal ws ≡ 0 → ⊥
too_long_refused ws h z = long_refused (n_of ws) (sym (by_field ws h) ∙ z)

-- what is read of it may end anywhere behind the longest card
pub too_long_by_part : (ws : List ℕ) (k : ℕ) → max_card ≤ k → max_card < length ws → card_refusal ws ≡ card_refusal (take (suc k) ws)
too_long_by_part ws k hk h =
    let part = length-take (suc k) ws in
    let long : max_card < length (take (suc k) ws) = omega arith in
    by_field ws h ∙ sym (by_field (take (suc k) ws) long ∙ ap long_refusal (n_of_part k ws))
