-- What is known once the count, the root and the room are judged. Assumes nothing.
use mathlib.Core.Path.{◌≡◌, refl}
use mathlib.Core.Bool.{Bool, true, false, ◌||◌, cond}
use Prim.Native.Nat.{ℕ, ◌*◌, ◌≤◌}
use native.Mathlib.Omega.{arith}
use lib.Dec.{ltb, eqb}
use borrow.Author.Tests.{ltb-false, le-ltb, eqb-false, eqb-true, eq-eqb}
use Rattle.base.proofs.BoolLaws.{passed, or_false_left, or_false_right}
use Rattle.instance.specs.Limits.{max_vertices}
use Rattle.instance.specs.Refusals.{buffer_short}
use Rattle.price_format.specs.Reading.{count_refusal, room_refusal}

module _ (n r : ℕ) (e : count_refusal n r ≡ 0) where
  in_range : eqb n 0 || ltb max_vertices n ≡ false
  unfolding count_refusal
  in_range = (passed (eqb n 0 || ltb max_vertices n) 1 _ e).0

  pub count_small : n ≤ max_vertices
  count_small = ltb-false max_vertices n (or_false_right (eqb n 0) (ltb max_vertices n) in_range)

  pub count_some : 1 ≤ n
  count_some = let z = eqb-false n 0 (or_false_left (eqb n 0) (ltb max_vertices n) in_range) in omega (arith, z)

module _ (n r k : ℕ) (e : room_refusal n r k ≡ 0) where
  pub room_count : count_refusal n r ≡ 0
  unfolding room_refusal
  room_count = go (eqb (count_refusal n r) 0) refl e
    where
      go : (c : Bool) → eqb (count_refusal n r) 0 ≡ c → cond c (cond (ltb k (n * n)) buffer_short 0) (count_refusal n r) ≡ 0 → count_refusal n r ≡ 0
      go true q p = eqb-true (count_refusal n r) 0 q
      go false q p = p

  pub room_words : n * n ≤ k
  unfolding room_refusal
  room_words = ltb-false k (n * n) (passed (ltb k (n * n)) 13 0 (rw (eq-eqb (count_refusal n r) 0 room_count) at e)).0

pub room_enough : (n r k : ℕ) → count_refusal n r ≡ 0 → n * n ≤ k → room_refusal n r k ≡ 0
unfolding room_refusal
room_enough n r k e h = rw (eq-eqb (count_refusal n r) 0 e, le-ltb k (n * n) h)
