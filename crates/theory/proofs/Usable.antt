-- The state of an arc from usability alone: an arborescence has exactly one arc into each head, so an arc is mandatory
-- exactly where it is usable and no other arc into its head is. Assumes nothing.
use mathlib.Core.Path.{◌≡◌, refl, ap, ◌∙◌}
use mathlib.Core.Bool.{Bool, true, false, ◌&&◌, not, cond}
use mathlib.Core.List.{List}
use mathlib.Core.Logic.{◌↔◌, ⊎_elim}
use Prim.Native.Nat.{ℕ, ◌+◌, ◌<◌}
use lib.Dec.{eqb}
use borrow.Author.Tests.{eq-eqb, not-true}
use Rattle.base.specs.Bounded.{any_below}
use Rattle.base.specs.Lists.{all_of}
use Rattle.base.proofs.BoolLaws.{test, not_both, is_true, is_false, and_left, and_right, and_both}
use Rattle.base.proofs.BoundedLaws.{any_intro, any_found}
use Rattle.instance.specs.Instance.{Instance, is_arc}
use Rattle.instance.specs.Arborescence.{remaining, parent, uses}
use Rattle.instance.specs.Cuts.{Cut, values, Feasible, reduced_cost}
use Rattle.instance.specs.States.{fits, fitting, total_limit, with_limit, state_over, state}
use Rattle.theory.specs.Readings.{Fits, SomeUses, NoneUses, AllUse}
use Rattle.theory.specs.Usable.{usable}
use Rattle.instance.proofs.ArcLaws.{arc_ends, remaining_ends}
use Rattle.instance.proofs.ArborescenceLaws.{joined, uses_one, uses_parent, uses_remains}
use Rattle.theory.proofs.CandidateLaws.{any_selected, all_selected, none_passes}
use Rattle.theory.proofs.SameArcs.{with_budget_arc}
use Rattle.theory.proofs.FitLaws.{fits_arborescence}
use Rattle.theory.proofs.Duality.{reduced_unused}

module _ (s : Instance) (t h : ℕ) where
  pub usable_some : (usable s t h ≡ true) ↔ SomeUses (Fits s) t h
  unfolding usable fitting
  usable_some = any_selected s (fits s) (fits_arborescence s) (λ ps. uses ps t h)

  pub usable_none : (usable s t h ≡ false) ↔ NoneUses (Fits s) t h
  unfolding usable fitting
  usable_none = (
    none_passes s (fits s) (fits_arborescence s) (λ ps. uses ps t h),
    (λ u. is_false (usable s t h) (λ e. let w = usable_some.0 e in not_both (uses w.0 t h) w.2 (u w.0 w.1))),
  )

  -- into a vertex that is not the root only remaining arcs are usable
  pub usable_remains : h < s.n → eqb h s.root ≡ false → usable s t h ≡ true → remaining s t h ≡ true
  usable_remains l e u =
      let w = usable_some.0 u in
      uses_remains s w.0 t h (fits_arborescence s w.0 w.1) l e w.2

  pub lost_unusable : h < s.n → eqb h s.root ≡ false → remaining s t h ≡ false → usable s t h ≡ false
  lost_unusable l e r = is_false (usable s t h) (λ u. not_both (remaining s t h) (usable_remains l e u) r)

  -- a reduced cost past the budget
  pub reduced_unusable : (cs : List Cut) → Feasible s cs → remaining s t h ≡ true → s.budget < values cs + reduced_cost s cs t h → usable s t h ≡ false
  reduced_unusable cs f r past = usable_none.1 (reduced_unused s cs t h f r past)

module _ (s : Instance) (t h : ℕ) (x : is_arc s t h ≡ true) where
  -- another arc into the head is usable
  abbrev other_usable : Bool
  other_usable = any_below s.n (λ g. not (eqb g t) && usable s g h)

  other_avoids : other_usable ≡ true → AllUse (Fits s) t h → ⊥
  other_avoids e all =
      let g = any_found s.n (λ k. not (eqb k t) && usable s k h) e in
      let w = (usable_some s g.0 h).0 (and_right (not (eqb g.0 t)) (usable s g.0 h) g.2) in
      not_both (eqb g.0 t) (eq-eqb g.0 t (uses_one w.0 g.0 t h w.2 (all w.0 w.1)))
      (not-true (eqb g.0 t) (and_left (not (eqb g.0 t)) (usable s g.0 h) g.2))

  all_use : other_usable ≡ false → AllUse (Fits s) t h
  unfolding uses
  all_use e ps p =
      is_true (eqb (parent ps h) t)
      (λ u.
      let end = arc_ends s t h x in
      let g = parent ps h in
      let below = (remaining_ends s g h (joined s ps (fits_arborescence s ps p) h end.head_below end.not_root).arc).tail_below in
      let can = (usable_some s g h).1 (ps, p, uses_parent ps h) in
      not_both other_usable (any_intro s.n (λ k. not (eqb k t) && usable s k h) g below (and_both (not (eqb g t)) (usable s g h) (ap not u) can)) e)

  all_not_other : all_of (λ ps. uses ps t h) (fitting s) ≡ not other_usable
  unfolding fitting
  all_not_other = at other_usable refl
    where
      used : Bool
      used = all_of (λ ps. uses ps t h) (fitting s)

      all_used : (used ≡ true) ↔ AllUse (Fits s) t h
      all_used = all_selected s (fits s) (fits_arborescence s) (λ ps. uses ps t h)

      at : (b : Bool) → other_usable ≡ b → used ≡ not b
      at true e = is_false used (λ u. other_avoids e (all_used.0 u))
      at false e = all_used.1 (all_use e)

  -- an arc that is used is mandatory or optional, by whether all use it and by whether another is usable
  by_others : ◌≡◌ {A = ℕ} (cond (usable s t h) (cond (all_of (λ ps. uses ps t h) (fitting s)) 3 2) 1) (cond (usable s t h) (cond other_usable 2 3) 1)
  by_others = swap (usable s t h) (all_of (λ ps. uses ps t h) (fitting s)) other_usable all_not_other
    where
      swap : (u a o : Bool) → a ≡ not o → ◌≡◌ {A = ℕ} (cond u (cond a 3 2) 1) (cond u (cond o 2 3) 1)
      swap u a true e = rw e
      swap u a false e = rw e

-- THE STATE FROM USABILITY, under the limit on totals
pub state_usable : (s : Instance) (t h : ℕ)
    → state s t h ≡ cond (is_arc s t h) (cond (usable (with_limit s) t h) (cond (any_below s.n (λ g. not (eqb g t) && usable (with_limit s) g h)) 2 3) 1) 0
unfolding state state_over usable
state_usable s t h =
    ⊎_elim (λ (x : is_arc s t h ≡ true). rw x (by_others (with_limit s) t h (with_budget_arc (total_limit s) s t h ∙ x)))
    (λ (x : is_arc s t h ≡ false). rw x) (test (is_arc s t h))
