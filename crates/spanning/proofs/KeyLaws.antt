-- Keys of a graph that is not refused: 0 where an edge is pinned, its weight and 1 where it is free, and the greatest
-- where there is no edge or it is banned. Assumes nothing.
use mathlib.Core.Path.{◌≡◌, refl}
use mathlib.Core.Bool.{Bool, true, false}
use mathlib.Core.Logic.{⊎_elim, ◌≢◌}
use Prim.Native.Nat.{ℕ, ◌+◌, ◌≤◌, ◌<◌}
use native.Mathlib.Omega.{arith}
use native.Mathlib.Decide.{ℕ_discrete}
use lib.Dec.{leb, eqb}
use borrow.Author.Tests.{leb-true, eqb-true, eq-eqb, ne_eqb}
use Rattle.base.proofs.BoolLaws.{test, not_both, is_false, and_right}
use Rattle.instance.specs.Limits.{no_arc, max_weight, free, pinned, banned}
use Rattle.instance.specs.Valid.{cell_ok}
use Rattle.spanning.specs.Graph.{Graph, edge_weight, edge_mark, is_pinned, is_allowed}
use Rattle.spanning.specs.Refusal.{ValidGraph}
use Rattle.spanning.specs.Keys.{no_key, edge_key}
use Rattle.spanning.proofs.GraphLaws.{edge_ends, make_edge, allowed_edge, allowed_mark, make_allowed, pinned_edge, pinned_mark, make_pinned, edge_cell_ok, edge_weight_most}

-- what has a mark has a price
marked_priced : (w m : ℕ) → cell_ok w m ≡ true → m ≢ free → w ≢ no_arc
unfolding cell_ok
marked_priced w m e d z =
    ⊎_elim (λ (b : leb w max_weight ≡ true). let l = leb-true w max_weight b in absurd (omega arith))
    (λ (b : leb w max_weight ≡ false). d (eqb-true m free (and_right (eqb w no_arc) (eqb m free) (rw b at e)))) (test (leb w max_weight))

module _ (g : Graph) (i j : ℕ) where
  pub key_pinned : edge_mark g i j ≡ pinned → edge_key g i j ≡ 0
  unfolding edge_key
  key_pinned e = rw (eq-eqb (edge_mark g i j) pinned e)

  pub key_banned : edge_mark g i j ≡ banned → edge_key g i j ≡ no_key
  unfolding edge_key
  key_banned e = let d : edge_mark g i j ≢ pinned = λ z. omega arith in rw (ne_eqb (edge_mark g i j) pinned d, eq-eqb (edge_mark g i j) banned e)

  pub key_other : edge_mark g i j ≢ pinned → edge_mark g i j ≢ banned → edge_key g i j ≡ edge_weight g i j + 1
  unfolding edge_key
  key_other d e = rw (ne_eqb (edge_mark g i j) pinned d, ne_eqb (edge_mark g i j) banned e)

  pub pinned_key : is_pinned g i j ≡ true → edge_key g i j ≡ 0
  pinned_key e = key_pinned (pinned_mark g i j e)

module _ (g : Graph) (valid : ValidGraph g) (i j : ℕ) (ib : i < g.n) (jb : j < g.n) (d : i ≢ j) where
  pub key_most : edge_key g i j ≤ no_key
  key_most = at (ℕ_discrete (edge_mark g i j) pinned) (ℕ_discrete (edge_mark g i j) banned)
    where
      at : Dec (edge_mark g i j ≡ pinned) → Dec (edge_mark g i j ≡ banned) → edge_key g i j ≤ no_key
      at (yes e) _ = let k = key_pinned g i j e in omega arith
      at (no e) (yes f) = let k = key_banned g i j f in omega arith
      at (no e) (no f) = let k = key_other g i j e f in let w = edge_weight_most g valid i j ib jb d in omega arith

  pub key_zero : edge_key g i j ≡ 0 → is_pinned g i j ≡ true
  key_zero z = at (ℕ_discrete (edge_mark g i j) pinned) (ℕ_discrete (edge_mark g i j) banned)
    where
      at : Dec (edge_mark g i j ≡ pinned) → Dec (edge_mark g i j ≡ banned) → is_pinned g i j ≡ true
      at (yes e) _ =
          make_pinned g i j (make_edge g i j ib jb d (marked_priced (edge_weight g i j) (edge_mark g i j) (edge_cell_ok g valid i j ib jb d) (λ x. omega arith))) e
      at (no e) (yes f) = let k = key_banned g i j f in absurd (omega arith)
      at (no e) (no f) = let k = key_other g i j e f in absurd (omega arith)

  pub key_allowed : edge_key g i j < no_key → is_allowed g i j ≡ true
  key_allowed l = at (ℕ_discrete (edge_mark g i j) pinned) (ℕ_discrete (edge_mark g i j) banned)
    where
      at : Dec (edge_mark g i j ≡ pinned) → Dec (edge_mark g i j ≡ banned) → is_allowed g i j ≡ true
      at (yes e) _ = make_allowed g i j (pinned_edge g i j (key_zero (key_pinned g i j e))) (λ x. omega arith)
      at (no e) (yes f) = let k = key_banned g i j f in absurd (omega arith)
      at (no e) (no f) = let k = key_other g i j e f in make_allowed g i j (make_edge g i j ib jb d (λ x. omega arith)) f

  pub allowed_key : is_allowed g i j ≡ true → is_pinned g i j ≡ false → edge_key g i j ≡ edge_weight g i j + 1
  allowed_key a p = key_other g i j (λ e. not_both (is_pinned g i j) (make_pinned g i j (allowed_edge g i j a) e) p) (allowed_mark g i j a)

  pub allowed_less : is_allowed g i j ≡ true → edge_key g i j < no_key
  allowed_less a = at (test_pinned (is_pinned g i j) refl)
    where
      test_pinned : (b : Bool) → is_pinned g i j ≡ b → Dec (is_pinned g i j ≡ true)
      test_pinned true e = yes e
      test_pinned false e = no (λ f. not_both (is_pinned g i j) f e)

      at : Dec (is_pinned g i j ≡ true) → edge_key g i j < no_key
      at (yes e) = let k = pinned_key g i j e in omega arith
      at (no e) =
          let k = allowed_key a (is_false (is_pinned g i j) e) in
          let w = edge_weight_most g valid i j ib jb d in
          let z = (edge_ends g i j (allowed_edge g i j a)).priced in
          less (edge_key g i j) (edge_weight g i j) k w z
        where
          less : (k w : ℕ) → k ≡ w + 1 → w ≤ no_arc → w ≢ no_arc → k < no_key
          less k w e l z = at_most (ℕ_discrete w no_arc)
            where
              at_most : Dec (w ≡ no_arc) → k < no_key
              at_most (yes q) = absurd (z q)
              at_most (no q) = omega arith
