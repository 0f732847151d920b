-- Laws of pins: a pinned arc as a program reads it, one tail more, and what pins make of the weight of a cell in the
-- matrix. Assumes nothing.
use mathlib.Core.Path.{◌≡◌, refl, sym, ◌∙◌}
use mathlib.Core.Bool.{Bool, true, false, ◌&&◌, ◌||◌, not, cond}
use mathlib.Core.Logic.{◌≢◌}
use Prim.Native.Nat.{ℕ, suc, ◌+◌, ◌<◌}
use native.Mathlib.Omega.{arith}
use native.Mathlib.Numerals.{add-one}
use lib.Dec.{eqb}
use borrow.Author.Tests.{ne_eqb, eqb-true}
use Rattle.base.specs.Bounded.{any_below}
use Rattle.base.proofs.BoolLaws.{and_false_right}
use Rattle.instance.specs.Limits.{max_vertices, no_arc, pinned, banned}
use Rattle.instance.specs.Instance.{Instance, can_be_arc, is_arc, weight, mark}
use Rattle.instance.specs.Arborescence.{is_pinned, other_pinned, remaining}
use Rattle.instance.specs.Matrix.{unmarked}
use Rattle.remaining.specs.declared.pins.Pin.{Pin}
use Rattle.remaining.specs.declared.pins.Pin.TheVariants as pin
use Rattle.remaining.specs.Pins.{Pins, allows, with_pin}

-- A PINNED ARC, as a program reads it
module _ (s : Instance) (t h : ℕ) where
  pub not_arc_unpinned : is_arc (unmarked s.n s.root s.weights) t h ≡ false → false ≡ is_pinned s t h
  unfolding is_pinned is_arc weight unmarked
  not_arc_unpinned e = rw e

  pub arc_pinned : is_arc (unmarked s.n s.root s.weights) t h ≡ true → eqb (mark s t h) pinned ≡ is_pinned s t h
  unfolding is_pinned is_arc weight unmarked
  arc_pinned e = rw e

-- ONE TAIL MORE
module _ (s : Instance) (h : ℕ) where
  abbrev rival : (t g : ℕ) → Bool
  rival t g = not (eqb g t) && is_pinned s g h

  pub pins_none : Pins s h 0 pin.None
  unfolding any_below
  pins_none = record { below = λ g e. cc; others = λ t l. refl }

  pub pins_pass : (g : ℕ) (p : Pin) → is_pinned s g h ≡ false → Pins s h g p → Pins s h (g + 1) p
  unfolding any_below
  pins_pass g p e k =
      rw add-one
      (record {
        below = λ x q. omega (arith, k.below x q);
        others = λ t l. rw (e, and_false_right (not (eqb g t)) false refl) (k.others t l);
      })

  pub pins_more : (g : ℕ) (p : Pin) → is_pinned s g h ≡ true → Pins s h g p → Pins s h (g + 1) (with_pin p g)
  unfolding any_below
  pins_more g pin.None e k = rw add-one (record { below = λ x q. at_g x q; others = λ t l. rw (e, k.others t l) (only (eqb g t)) })
    where
      at_g : (x : ℕ) → pin.One g ≡ pin.One x → x < suc g
      at_g x q = let same : g ≡ x = cc in omega arith

      only : (x : Bool) → (not x && true) || false ≡ not x
      only true = refl
      only false = refl
  pins_more g (pin.One p) e k = rw add-one (record { below = λ x q. cc; others = λ t l. rw e (cases t (eqb g t) refl (k.others t l)) })
    where
      cases : (t : ℕ) (x : Bool) → eqb g t ≡ x → any_below g (rival t) ≡ not (eqb p t) → (not x && true) || any_below g (rival t) ≡ true
      cases t true z r =
          let l = k.below p refl in
          let apart : p ≢ t = λ q. omega (arith, eqb-true g t z) in
          r ∙ rw (ne_eqb p t apart)
      cases t false z r = refl
  pins_more g pin.Several e k = rw add-one (record { below = λ x q. cc; others = λ t l. rw (e, k.others t l) (both (eqb g t)) })
    where
      both : (x : Bool) → (not x && true) || true ≡ true
      both true = refl
      both false = refl

-- THE WEIGHT OF A CELL
-- a cell without an arc holds "no arc" whatever is said of it
judged : (a x y : Bool) (w : ℕ) → cond (((a && not (eqb w no_arc)) && (x && not (not y))) && true) w no_arc ≡ cond (a && (x && y)) w no_arc
judged false x y w = refl
judged true x y w = at (eqb w no_arc) refl x y
  where
    at : (e : Bool) → eqb w no_arc ≡ e → (x y : Bool) → cond ((not e && (x && not (not y))) && true) w no_arc ≡ cond (x && y) w no_arc
    at true q true true = sym (eqb-true w no_arc q)
    at true q true false = refl
    at true q false y = refl
    at false q true true = refl
    at false q true false = refl
    at false q false y = refl

pub pins_weight : (s : Instance) (t h : ℕ) (p : Pin) → t < max_vertices → Pins s h s.n p
    → cond (remaining s t h && true) (weight s t h) no_arc
    ≡ cond (can_be_arc s.n s.root t h && (not (eqb (mark s t h) banned) && allows p t)) (weight s t h) no_arc
unfolding remaining is_arc other_pinned
pins_weight s t h p l k =
    rw (k.others t l) (judged (can_be_arc s.n s.root t h) (not (eqb (mark s t h) banned)) (allows p t) (weight s t h))
