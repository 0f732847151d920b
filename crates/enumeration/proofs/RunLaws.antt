-- The walk with its limit and its room over any events, read step by step: what it has of their trees and tries, and
-- why it ended. Assumes nothing.
use mathlib.Core.Path.{◌≡◌, refl, ap}
use mathlib.Core.Bool.{Bool, true, false, cond}
use mathlib.Core.List.{List, [], ◌∷◌}
use Prim.Native.Nat.{ℕ, zero, suc, ◌+◌, ◌*◌, ◌-◌, ◌≤◌, ◌<◌}
use native.Mathlib.Omega.{arith}
use native.Mathlib.Nat.{zero-mul, suc-mul, add-mul, one-mul}
use lib.Dec.{leb}
use lib.ListN.{length, take}
use borrow.Author.Tests.{leb-true, leb-false}
use Rattle.enumeration.specs.declared.Ended.{Ended}
use Rattle.enumeration.specs.declared.Ended.TheVariants.{Complete, AtLimit, NoRoom}
use Rattle.enumeration.specs.Events.{Event, tried, listed}
use Rattle.enumeration.specs.Walk.{Walked, ended_by, after_try, after_tree, walk}
use Rattle.enumeration.proofs.EventLaws.{trees_in, tries_in}

-- the walk over these events is w
pub data Run (n : ℕ) : (limit room : ℕ) → List Event → Walked → Type 0 where
  over : {limit room : ℕ} → Run n limit room [] (ended_by Complete)
  limited : {room : ℕ} {es : List Event} → Run n zero room (tried ∷ es) (ended_by AtLimit)
  a_try : {k room : ℕ} {es : List Event} {w : Walked} → Run n k room es w → Run n (suc k) room (tried ∷ es) (after_try w)
  a_tree :
      {limit room : ℕ} {ps : List ℕ} {es : List Event} {w : Walked} → n ≤ room → Run n limit (room - n) es w → Run n limit room (listed ps ∷ es) (after_tree ps w)
  full : {limit room : ℕ} {ps : List ℕ} {es : List Event} → room < n → Run n limit room (listed ps ∷ es) (ended_by NoRoom)

pub run : (n limit room : ℕ) (es : List Event) → Run n limit room es (walk n limit room es)
unfolding walk
run n limit room [] = over
run n zero room (tried ∷ es) = limited
run n (suc k) room (tried ∷ es) = a_try (run n k room es)
run n limit room (listed ps ∷ es) = at (leb n room) refl (run n limit (room - n) es)
  where
    at : (b : Bool) → leb n room ≡ b → Run n limit (room - n) es (walk n limit (room - n) es)
        → Run n limit room (listed ps ∷ es) (cond b (after_tree ps (walk n limit (room - n) es)) (ended_by NoRoom))
    at true e r = a_tree (leb-true n room e) r
    at false e r = full (leb-false n room e)

-- the three ends differ
abbrev number : Ended → ℕ
number Complete = 0
number AtLimit = 1
number NoRoom = 2

differ : (a b : Ended) → (number a ≡ number b → ⊥) → a ≡ b → ⊥
differ a b h e = h (ap number e)

-- the tries before tree k is listed, the first tree being 0
unfoldable pub tries_to : (k : ℕ) → List Event → ℕ
tries_to k [] = 0
tries_to k (tried ∷ es) = suc (tries_to k es)
tries_to zero (listed ps ∷ es) = 0
tries_to (suc k) (listed ps ∷ es) = tries_to k es

module _ {n : ℕ} where
  -- COMPLETE: it has all
  pub run_complete : {limit room : ℕ} {es : List Event} {w : Walked} → Run n limit room es w → w.ended ≡ Complete → (w.trees ≡ trees_in es) × (w.tries ≡ tries_in es)
  unfolding trees_in tries_in
  run_complete over e = (refl, refl)
  run_complete limited e = absurd (differ AtLimit Complete (λ z. omega arith) e)
  run_complete (a_try r) e = let h = run_complete r e in (h.0, ap suc h.1)
  run_complete (a_tree {ps = ps} l r) e = let h = run_complete r e in (ap (λ (pss : List (List ℕ)). ps ∷ pss) h.0, h.1)
  run_complete (full l) e = absurd (differ NoRoom Complete (λ z. omega arith) e)

  pub run_enough : {limit room : ℕ} {es : List Event} {w : Walked} → Run n limit room es w → tries_in es ≤ limit → length (trees_in es) * n ≤ room → w.ended ≡ Complete
  unfolding trees_in tries_in
  run_enough over t m = refl
  run_enough limited t m = absurd (omega arith)
  run_enough (a_try r) t m = run_enough r (omega arith) m
  run_enough (a_tree {es = es} l r) t m = run_enough r t (omega (arith, suc-mul (length (trees_in es)) n))
  run_enough (full {es = es} l) t m = absurd (omega (arith, suc-mul (length (trees_in es)) n))

  -- ALWAYS the first ones
  pub run_first : {limit room : ℕ} {es : List Event} {w : Walked} → Run n limit room es w → w.trees ≡ take (length w.trees) (trees_in es)
  unfolding trees_in
  run_first over = refl
  run_first limited = refl
  run_first (a_try r) = run_first r
  run_first (a_tree {ps = ps} l r) = ap (λ (pss : List (List ℕ)). ps ∷ pss) (run_first r)
  run_first (full l) = refl

  -- AT THE LIMIT: one more try was due
  pub run_limit : {limit room : ℕ} {es : List Event} {w : Walked} → Run n limit room es w → w.ended ≡ AtLimit → (w.tries ≡ limit) × (limit < tries_in es)
  unfolding tries_in
  run_limit over e = absurd (differ Complete AtLimit (λ z. omega arith) e)
  run_limit limited e = (refl, omega arith)
  run_limit (a_try r) e = let h = run_limit r e in (ap suc h.0, omega (arith, h.1))
  run_limit (a_tree l r) e = run_limit r e
  run_limit (full l) e = absurd (differ NoRoom AtLimit (λ z. omega arith) e)

  -- NO ROOM: one more tree was due, and has no room
  pub run_room : {limit room : ℕ} {es : List Event} {w : Walked} → Run n limit room es w → w.ended ≡ NoRoom
      → (room < (length w.trees + 1) * n) × (length w.trees < length (trees_in es))
  unfolding trees_in
  run_room over e = absurd (differ Complete NoRoom (λ z. omega arith) e)
  run_room limited e = absurd (differ AtLimit NoRoom (λ z. omega arith) e)
  run_room (a_try r) e = run_room r e
  run_room (a_tree {w = w} l r) e =
      let h = run_room r e in
      let a = add-mul (suc (length w.trees)) 1 n in
      let b = add-mul (length w.trees) 1 n in
      (omega (arith, h.0, suc-mul (length w.trees) n), omega (arith, h.1))
  run_room (full l) e = (omega (arith, one-mul n), omega arith)

  -- THE BOUNDS
  pub run_within : {limit room : ℕ} {es : List Event} {w : Walked} → Run n limit room es w → w.tries ≤ limit
  run_within over = omega arith
  run_within limited = omega arith
  run_within (a_try r) = let h = run_within r in omega arith
  run_within (a_tree l r) = run_within r
  run_within (full l) = omega arith

  pub run_most : {limit room : ℕ} {es : List Event} {w : Walked} → Run n limit room es w → w.tries ≤ tries_in es
  unfolding tries_in
  run_most over = omega arith
  run_most limited = omega arith
  run_most (a_try r) = let h = run_most r in omega arith
  run_most (a_tree l r) = run_most r
  run_most (full l) = omega arith

  pub run_room_for : {limit room : ℕ} {es : List Event} {w : Walked} → Run n limit room es w → length w.trees * n ≤ room
  run_room_for over = omega (arith, zero-mul n)
  run_room_for limited = omega (arith, zero-mul n)
  run_room_for (a_try r) = run_room_for r
  run_room_for (a_tree {w = w} l r) = let h = run_room_for r in omega (arith, suc-mul (length w.trees) n)
  run_room_for (full l) = omega (arith, zero-mul n)

  -- "the first tree without room, whose try is counted"
  pub run_counted : {limit room : ℕ} {es : List Event} {w : Walked} → Run n limit room es w → w.ended ≡ NoRoom → w.tries ≡ tries_to (length w.trees) es
  unfolding tries_to
  run_counted over e = absurd (differ Complete NoRoom (λ z. omega arith) e)
  run_counted limited e = absurd (differ AtLimit NoRoom (λ z. omega arith) e)
  run_counted (a_try r) e = ap suc (run_counted r e)
  run_counted (a_tree l r) e = run_counted r e
  run_counted (full l) e = refl
