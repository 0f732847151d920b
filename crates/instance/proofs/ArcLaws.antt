-- What an arc and a remaining arc are, taken apart; a test of every remaining arc; an arc as a program reads it; with
-- no marks every arc remains. Assumes nothing.
use mathlib.Core.Path.{◌≡◌, refl}
use mathlib.Core.Bool.{Bool, true, false, ◌&&◌, not, cond, and-true}
use mathlib.Core.List.{List}
use Prim.Native.Nat.{ℕ, ◌≤◌, ◌<◌}
use native.Mathlib.Omega.{arith}
use lib.Dec.{ltb, eqb}
use lib.ListN.{length, get_or}
use borrow.Author.Tests.{ltb-true, not-true}
use Rattle.base.proofs.BoolLaws.{and_left, and_right, and_false_right}
use Rattle.base.specs.Bounded.{all_below}
use Rattle.base.proofs.BoundedLaws.{any_false, all_at, all_intro}
use Rattle.base.proofs.ListLaws.{default}
use Rattle.instance.specs.Limits.{max_vertices, no_arc, banned, cells}
use Rattle.instance.specs.Instance.{Instance, cell, weight, mark, can_be_arc, is_arc}
use Rattle.instance.specs.Arborescence.{is_pinned, other_pinned, remaining, if_remaining, each_remaining}
use Rattle.instance.specs.Matrix.{unmarked}

-- the ends of a cell where an arc can be
pub record Ends (n r t h : ℕ) : Type 0 where
  pub tail_below : t < n
  pub head_below : h < n
  pub differ : eqb t h ≡ false
  pub not_root : eqb h r ≡ false

pub ends : (n r t h : ℕ) → can_be_arc n r t h ≡ true → Ends n r t h
unfolding can_be_arc
ends n r t h e =
    let below = and_left (ltb t n && ltb h n) (not (eqb t h) && not (eqb h r)) e in
    let apart = and_right (ltb t n && ltb h n) (not (eqb t h) && not (eqb h r)) e in
    record {
      tail_below = ltb-true t n (and_left (ltb t n) (ltb h n) below);
      head_below = ltb-true h n (and_right (ltb t n) (ltb h n) below);
      differ = not-true (eqb t h) (and_left (not (eqb t h)) (not (eqb h r)) apart);
      not_root = not-true (eqb h r) (and_right (not (eqb t h)) (not (eqb h r)) apart);
    }

module _ (s : Instance) (t h : ℕ) where
  pub arc_ends : is_arc s t h ≡ true → Ends s.n s.root t h
  unfolding is_arc
  arc_ends e = ends s.n s.root t h (and_left (can_be_arc s.n s.root t h) (not (eqb (weight s t h) no_arc)) e)

  pub arc_weight : is_arc s t h ≡ true → eqb (weight s t h) no_arc ≡ false
  unfolding is_arc
  arc_weight e = not-true (eqb (weight s t h) no_arc) (and_right (can_be_arc s.n s.root t h) (not (eqb (weight s t h) no_arc)) e)

  pub remaining_arc : remaining s t h ≡ true → is_arc s t h ≡ true
  unfolding remaining
  remaining_arc e = and_left (is_arc s t h) (not (eqb (mark s t h) banned) && not (other_pinned s t h)) e

  pub remaining_ends : remaining s t h ≡ true → Ends s.n s.root t h
  remaining_ends e = arc_ends (remaining_arc e)

-- A TEST OF EVERY REMAINING ARC
module _ (s : Instance) (P : ℕ → ℕ → Bool) where
  pub each_at : each_remaining s P ≡ true → (t h : ℕ) → remaining s t h ≡ true → P t h ≡ true
  unfolding if_remaining each_remaining
  each_at e t h r =
      let l = remaining_ends s t h r in
      let into = all_at s.n (λ v. all_below s.n (λ u. if_remaining s P u v)) h l.head_below e in
      rw r at (all_at s.n (λ u. if_remaining s P u h) t l.tail_below into)

  pub each_intro : ((t h : ℕ) → remaining s t h ≡ true → P t h ≡ true) → each_remaining s P ≡ true
  unfolding if_remaining each_remaining
  each_intro p =
      all_intro s.n (λ h. all_below s.n (λ t. if_remaining s P t h))
      (λ h _. all_intro s.n (λ t. if_remaining s P t h) (λ t _. at t h (remaining s t h) refl))
    where
      at : (t h : ℕ) (b : Bool) → remaining s t h ≡ b → cond (remaining s t h) (P t h) true ≡ true
      at t h true e = rw e (p t h e)
      at t h false e = rw e

-- AS A PROGRAM READS IT: an array has 1,024 elements, so what is read past its end (0 there, no arc in the definitions)
-- never matters
pub arc_cell : (n r t h : ℕ) → n ≤ max_vertices → can_be_arc n r t h ≡ true → cell t h < cells
arc_cell n r t h l e = let k = ends n r t h e in omega arith

pub arc_read :
    (n r : ℕ) (ws : List ℕ) (t h : ℕ) → n ≤ max_vertices → length ws ≡ cells → can_be_arc n r t h ≡ true →
    not (eqb (get_or ws (cell t h) 0) no_arc) ≡ is_arc (unmarked n r ws) t h
unfolding is_arc weight unmarked
arc_read n r ws t h l k e =
    let b : cell t h < length ws = omega (arith, arc_cell n r t h l e) in
    rw (e, default ws (cell t h) 0 no_arc b)

pub arc_not : (n r : ℕ) (ws : List ℕ) (t h : ℕ) → can_be_arc n r t h ≡ false → false ≡ is_arc (unmarked n r ws) t h
unfolding is_arc unmarked
arc_not n r ws t h e = rw e

-- an unmarked instance has no pins
unmarked_other : (n r : ℕ) (ws : List ℕ) (t h : ℕ) → other_pinned (unmarked n r ws) t h ≡ false
unfolding unmarked other_pinned is_pinned mark
unmarked_other n r ws t h =
    any_false n (λ g. not (eqb g t) && is_pinned (unmarked n r ws) g h)
    (λ g l. and_false_right (not (eqb g t)) (is_pinned (unmarked n r ws) g h) (and_false_right (is_arc (unmarked n r ws) g h) false refl))

pub unmarked_remaining : (n r : ℕ) (ws : List ℕ) (t h : ℕ) → remaining (unmarked n r ws) t h ≡ is_arc (unmarked n r ws) t h
unfolding unmarked remaining mark
unmarked_remaining n r ws t h =
    rw (unmarked_other n r ws t h) (and-true (is_arc (unmarked n r ws) t h))
