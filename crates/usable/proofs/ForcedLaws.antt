-- The matrix with one arc forced has the arborescences that use the arc, at the same totals; so planning on it finds
-- the least total with the arc. Assumes nothing.
use mathlib.Core.Path.{◌≡◌, refl, sym, ap, ◌∙◌}
use mathlib.Core.Bool.{Bool, true, false, ◌&&◌, ◌||◌, not, cond, and-true}
use mathlib.Core.List.{List}
use mathlib.Core.Logic.{◌↔◌, ⊎_elim}
use Prim.Native.Nat.{ℕ, ◌/◌, ◌%◌, ◌<◌}
use native.Mathlib.Omega.{arith}
use lib.Dec.{eqb}
use lib.ListN.{get_or, set, take}
use borrow.Author.Tests.{lt-ltb}
use Rattle.base.proofs.BoolLaws.{test, is_false, and_left, and_right, and_false_right}
use Rattle.base.proofs.ListLaws.{default}
use Rattle.base.proofs.CondLaws.{cond_most}
use Rattle.instance.specs.Limits.{no_arc}
use Rattle.instance.specs.Instance.{Instance, cell, can_be_arc, is_arc, weight}
use Rattle.instance.specs.Arborescence.{remaining, is_arborescence, total, uses}
use Rattle.instance.specs.Cuts.{cuts_in}
use Rattle.instance.specs.Matrix.{unmarked, MatrixOk}
use Rattle.instance.proofs.ArcLaws.{ends, remaining_ends, unmarked_remaining}
use Rattle.theory.specs.Usable.{restricted, forced}
use Rattle.theory.proofs.Duality.{weak_duality, no_entry}
use Rattle.theory.proofs.SameArcs.{SameArcs, same_back, same_arborescence, same_total}
use Rattle.theory.proofs.Restriction.{restricted_remaining, restricted_same_weight, restricted_total}
use Rattle.theory.proofs.Forced.{forced_arborescence}
use Rattle.edmonds.specs.declared.Planned.{Planned}
use Rattle.edmonds.specs.Planned.{PlannedMatrix, NonePlanned}
use Rattle.usable.specs.Forced.{taken_out, ForcedMatrix, ForcedPlan, NoneForced}

stays_in : (a b : Bool) → not a || b ≡ true → a && not b ≡ false
stays_in true true e = refl
stays_in true false e = sym e
stays_in false b e = refl

-- WHAT REMAINS
module _ (n root : ℕ) (m w : List ℕ) (t₀ h₀ : ℕ) (ok : MatrixOk n root m) (f : ForcedMatrix m w n t₀ h₀) where
  abbrev whole : Instance
  whole = unmarked n root m

  abbrev left : Instance
  left = unmarked n root w

  pub forced_ok : MatrixOk n root w
  forced_ok =
      record {
        small = ok.small;
        root_below = ok.root_below;
        size = f.size;
        bounded =
            λ i l.
            let a = f.size in
            let b = ok.size in
            rw (default w i no_arc 0 (omega arith), f.at i l, default m i 0 no_arc (omega arith))
            (cond_most (taken_out n t₀ h₀ (i / 32) (i % 32)) no_arc (get_or m i no_arc) no_arc (omega arith) (ok.bounded i l));
      }

  -- a cell where an arc can be
  weight_forced : (t h : ℕ) → t < n → h < n → weight left t h ≡ cond (eqb h h₀ && not (eqb t t₀)) no_arc (weight whole t h)
  unfolding weight unmarked
  weight_forced t h l b =
      let small = ok.small in
      let d : cell t h / 32 ≡ t = omega arith in
      let e : cell t h % 32 ≡ h = omega arith in
      let i = f.size in
      let j = ok.size in
      let g = f.at (cell t h) (omega arith) in
      default w (cell t h) no_arc 0 (omega arith) ∙ (rw (d, e, lt-ltb t n l, default m (cell t h) 0 no_arc (omega arith)) at g)

  still_there : (a b : Bool) (x : ℕ) → not (eqb (cond (a && not b) no_arc x) no_arc) ≡ not (eqb x no_arc) && (not a || b)
  still_there true true x = sym (and-true (not (eqb x no_arc)))
  still_there true false x = sym (and_false_right (not (eqb x no_arc)) false refl)
  still_there false b x = sym (and-true (not (eqb x no_arc)))

  remains : (t h : ℕ) → remaining left t h ≡ remaining (restricted whole (forced t₀ h₀)) t h
  unfolding unmarked is_arc forced
  remains t h =
      unmarked_remaining n root w t h
      ∙ ⊎_elim
      (λ (c : can_be_arc n root t h ≡ true).
      let e = ends n root t h c in
      rw (c, weight_forced t h e.tail_below e.head_below) (still_there (eqb h h₀) (eqb t t₀) (weight whole t h)) ∙ back c)
      (λ (c : can_be_arc n root t h ≡ false). rw c (none c))
      (test (can_be_arc n root t h))
    where
      other : remaining (restricted whole (forced t₀ h₀)) t h ≡ is_arc whole t h && (not (eqb h h₀) || eqb t t₀)
      other = restricted_remaining whole (forced t₀ h₀) ok.small t h ∙ ap (λ (b : Bool). b && (not (eqb h h₀) || eqb t t₀)) (unmarked_remaining n root m t h)

      back : can_be_arc n root t h ≡ true → not (eqb (weight whole t h) no_arc) && (not (eqb h h₀) || eqb t t₀) ≡ remaining (restricted whole (forced t₀ h₀)) t h
      back c = sym (other ∙ rw c)

      none : can_be_arc n root t h ≡ false → false ≡ remaining (restricted whole (forced t₀ h₀)) t h
      none c = sym (other ∙ rw c)

  forced_same : SameArcs left (restricted whole (forced t₀ h₀))
  unfolding unmarked forced
  forced_same =
      record {
        vertices = refl;
        roots = refl;
        arcs = remains;
        weights =
            λ t h r.
            let stays = sym (remains t h) ∙ r in
            let both = sym (restricted_remaining whole (forced t₀ h₀) ok.small t h) ∙ stays in
            let e = remaining_ends whole t h (and_left (remaining whole t h) (forced t₀ h₀ t h) both) in
            weight_forced t h e.tail_below e.head_below
            ∙ rw (in_place t h (and_right (remaining whole t h) (forced t₀ h₀ t h) both)) (sym (restricted_same_weight whole (forced t₀ h₀) ok.small t h stays));
      }
    where
      in_place : (t h : ℕ) → forced t₀ h₀ t h ≡ true → eqb h h₀ && not (eqb t t₀) ≡ false
      in_place t h e = stays_in (eqb h h₀) (eqb t t₀) e

  -- PLANNING ON IT
  module _ (r : remaining (unmarked n root m) t₀ h₀ ≡ true) where
    -- its arborescences are those that use the arc
    forced_uses : (qs : List ℕ) → (is_arborescence left qs ≡ true) ↔ ((is_arborescence whole qs ≡ true) × (uses qs t₀ h₀ ≡ true))
    unfolding unmarked
    forced_uses qs =
        let on = restricted whole (forced t₀ h₀) in (
          (λ a. (forced_arborescence whole t₀ h₀ ok.small r qs).0 (same_arborescence left on forced_same qs a)),
          (λ x. same_arborescence on left (same_back left on forced_same) qs ((forced_arborescence whole t₀ h₀ ok.small r qs).1 x)),
        )

    forced_total : (qs : List ℕ) → is_arborescence left qs ≡ true → total left qs ≡ total whole qs
    unfolding unmarked
    forced_total qs a =
        let on = restricted whole (forced t₀ h₀) in
        same_total left on forced_same qs a ∙ restricted_total whole (forced t₀ h₀) ok.small qs (same_arborescence left on forced_same qs a)

    pub planned_forced : (w' cuts cuts' : List ℕ) (p : Planned) → PlannedMatrix w w' n root cuts cuts' p → ForcedPlan m n root t₀ h₀ p
    planned_forced w' cuts cuts' p k =
        let ps = take n p.parents in
        record {
          tree = record { matrix_ok = ok; places = k.parents_size; arborescence = ((forced_uses ps).0 k.minimum.arborescence).0 };
          used = ((forced_uses ps).0 k.minimum.arborescence).1;
          is_total = k.is_total ∙ forced_total ps k.minimum.arborescence;
          least =
              λ qs b u.
              let c = (forced_uses qs).1 (b, u) in
              let proved = k.minimum.proved in
              let least = weak_duality left qs c (cuts_in p.count cuts') proved.feasible in
              let adds = proved.adds in
              let is = k.is_total in
              let same = forced_total qs c in
              omega arith;
        }

    pub none_forced : (set : ℕ) → NonePlanned w n root set → NoneForced m n root t₀ h₀
    none_forced set k qs b = is_false (uses qs t₀ h₀) (λ u. no_entry left qs ((forced_uses qs).1 (b, u)) (record { set = set; value = 0 }) k)
