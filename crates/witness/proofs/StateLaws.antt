-- THE STATE OF AN ARC BY ITS WITNESSES: excluded exactly where the outcome with the arc alone into its head is not
-- within the limit on totals, mandatory exactly where that outcome is and the one without the arc is not. A tree uses
-- the arc exactly where it is one of the instance with the arc alone into its head, and avoids it exactly where it is
-- one of the instance without it. Assumes nothing.
use mathlib.Core.Path.{◌≡◌, refl, sym, ap, ◌∙◌, subst}
use mathlib.Core.Bool.{Bool, true, false, not, cond, and-true}
use mathlib.Core.List.{List}
use mathlib.Core.Logic.{◌↔◌}
use Prim.Native.Nat.{ℕ, ◌≤◌}
use lib.Dec.{eqb}
use borrow.Author.Tests.{eq-eqb, not-true}
use Rattle.base.specs.Lists.{any_of, all_of}
use Rattle.base.proofs.BoolLaws.{not_both, is_true, is_false, same_test, and_false_right}
use Rattle.instance.specs.Limits.{max_vertices}
use Rattle.instance.specs.Instance.{Instance, is_arc}
use Rattle.instance.specs.Arborescence.{is_arborescence, total, parent, uses}
use Rattle.instance.specs.States.{outcome, fits, fitting, total_limit, with_limit, state_over, state}
use Rattle.instance.proofs.ArcLaws.{Ends, arc_ends}
use Rattle.theory.specs.Readings.{Fits}
use Rattle.theory.specs.Usable.{forced}
use Rattle.theory.proofs.CandidateLaws.{any_selected, all_selected}
use Rattle.theory.proofs.SameArcs.{with_budget_arcs, same_back, same_arborescence, same_total}
use Rattle.theory.proofs.FitLaws.{fits_arborescence, fits_total, make_fits}
use Rattle.witness.specs.Witness.{forced_instance, all_but, deleted_instance, within}
use Rattle.witness.proofs.OutcomeLaws.{passing_arborescence, passing_within}

-- WHAT STAYS into other heads
pub forced_elsewhere : (t h g v : ℕ) → eqb v h ≡ false → forced t h g v ≡ true
unfolding forced
forced_elsewhere t h g v e = rw e

pub all_but_elsewhere : (t h g v : ℕ) → eqb v h ≡ false → all_but t h g v ≡ true
unfolding all_but
all_but_elsewhere t h g v e = rw e (ap not (and_false_right (eqb g t) false refl))

-- and into this one
forced_here : (t h : ℕ) (ps : List ℕ) → forced t h (parent ps h) h ≡ uses ps t h
unfolding forced uses
forced_here t h ps = rw (eq-eqb h h refl)

all_but_here : (t h : ℕ) (ps : List ℕ) → all_but t h (parent ps h) h ≡ not (uses ps t h)
unfolding all_but uses
all_but_here t h ps = rw (eq-eqb h h refl) (ap not (and-true (eqb (parent ps h) t)))

module _ (s : Instance) (t h : ℕ) (small : s.n ≤ max_vertices) (x : is_arc s t h ≡ true) where
  end : Ends s.n s.root t h
  end = arc_ends s t h x

  pub forced_uses : (ps : List ℕ) → (is_arborescence (forced_instance s t h) ps ≡ true) ↔ ((is_arborescence s ps ≡ true) × (uses ps t h ≡ true))
  forced_uses ps =
      subst (λ (b : Bool). (is_arborescence (forced_instance s t h) ps ≡ true) ↔ ((is_arborescence s ps ≡ true) × (b ≡ true))) (forced_here t h ps)
      (passing_arborescence s (forced t h) h small end.head_below end.not_root (forced_elsewhere t h) ps)

  pub deleted_avoids : (ps : List ℕ) → (is_arborescence (deleted_instance s t h) ps ≡ true) ↔ ((is_arborescence s ps ≡ true) × (not (uses ps t h) ≡ true))
  deleted_avoids ps =
      subst (λ (b : Bool). (is_arborescence (deleted_instance s t h) ps ≡ true) ↔ ((is_arborescence s ps ≡ true) × (b ≡ true))) (all_but_here t h ps)
      (passing_arborescence s (all_but t h) h small end.head_below end.not_root (all_but_elsewhere t h) ps)

  -- a fitting arborescence uses the arc exactly where the one outcome is within, and avoids it where the other is
  abbrev L : ℕ
  L = total_limit s

  limit_tree : (ps : List ℕ) → Fits (with_limit s) ps → (is_arborescence s ps ≡ true) × (total s ps ≤ L)
  limit_tree ps f =
      let e = with_budget_arcs L s in
      let a = fits_arborescence (with_limit s) ps f in
      (same_arborescence (with_limit s) s e ps a, subst (λ (v : ℕ). v ≤ L) (same_total (with_limit s) s e ps a) (fits_total (with_limit s) ps f))

  tree_limit : (ps : List ℕ) → is_arborescence s ps ≡ true → total s ps ≤ L → Fits (with_limit s) ps
  tree_limit ps a l =
      let e = same_back (with_limit s) s (with_budget_arcs L s) in
      make_fits (with_limit s) ps (same_arborescence s (with_limit s) e ps a) (subst (λ (v : ℕ). v ≤ L) (same_total s (with_limit s) e ps a) l)

  pub some_use : any_of (λ ps. uses ps t h) (fitting (with_limit s)) ≡ within (total_limit s) (outcome (forced_instance s t h))
  unfolding fitting
  some_use =
      let w = passing_within s (forced t h) h small end.head_below end.not_root (forced_elsewhere t h) L in
      let u = any_selected (with_limit s) (fits (with_limit s)) (fits_arborescence (with_limit s)) (λ ps. uses ps t h) in
      same_test _ _
      (λ e. let f = u.0 e in let y = limit_tree f.0 f.1 in w.1 (f.0, y.0, forced_here t h f.0 ∙ f.2, y.1))
      (λ e. let f = w.0 e in u.1 (f.0, tree_limit f.0 f.1 f.3, sym (forced_here t h f.0) ∙ f.2))

  pub all_use : all_of (λ ps. uses ps t h) (fitting (with_limit s)) ≡ not (within (total_limit s) (outcome (deleted_instance s t h)))
  unfolding fitting
  all_use =
      let w = passing_within s (all_but t h) h small end.head_below end.not_root (all_but_elsewhere t h) L in
      let u = all_selected (with_limit s) (fits (with_limit s)) (fits_arborescence (with_limit s)) (λ ps. uses ps t h) in
      same_test _ _
      (λ e.
      ap not (is_false (within L (outcome (deleted_instance s t h)))
      (λ z.
      let f = w.0 z in
      not_both (uses f.0 t h) (u.0 e f.0 (tree_limit f.0 f.1 f.3)) (not-true (uses f.0 t h) (sym (all_but_here t h f.0) ∙ f.2)))))
      (λ e.
      u.1
      (λ ps f.
      is_true (uses ps t h)
      (λ z.
      let y = limit_tree ps f in
      not_both (within L (outcome (deleted_instance s t h))) (w.1 (ps, y.0, all_but_here t h ps ∙ ap not z, y.1))
      (not-true (within L (outcome (deleted_instance s t h))) e))))

  -- THE STATE
  pub state_witnessed :
      state s t h
      ≡ cond (within (total_limit s) (outcome (forced_instance s t h))) (cond (within (total_limit s) (outcome (deleted_instance s t h))) 2 3) 1
  unfolding state state_over
  state_witnessed = rw (x, some_use, all_use) (turned (within L (outcome (forced_instance s t h))) (within L (outcome (deleted_instance s t h))))
    where
      turned : (a b : Bool) → ◌≡◌ {A = ℕ} (cond a (cond (not b) 3 2) 1) (cond a (cond b 2 3) 1)
      turned a true = refl
      turned a false = refl
