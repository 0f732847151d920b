-- THE STATES READ BY THEIR WITNESSES, in both directions: excluded exactly where the arc is banned, has a rival, or its
-- outcome is not within the limit on totals; mandatory exactly where there is a tree within the limit and the outcome
-- without the arc is not; optional otherwise. Assumes nothing.
use mathlib.Core.Path.{◌≡◌, refl, sym, ap, ◌∙◌}
use mathlib.Core.Bool.{Bool, true, false, not, cond, true≢false}
use mathlib.Core.Logic.{◌↔◌, ◌⊎◌, inr, ⊎_elim}
use Prim.Native.Nat.{ℕ, ◌≤◌}
use native.Mathlib.Omega.{arith}
use lib.Dec.{eqb}
use borrow.Author.Tests.{not-true}
use Rattle.base.proofs.BoolLaws.{test, not_both, is_false, and_false_right}
use Rattle.instance.specs.Limits.{max_vertices, banned}
use Rattle.instance.specs.Instance.{Instance, mark, is_arc}
use Rattle.instance.specs.Arborescence.{is_arborescence, uses, is_pinned, remaining, other_pinned}
use Rattle.instance.specs.States.{outcome, total_limit, state}
use Rattle.instance.specs.declared.Outcome.TheVariants.{NoTree}
use Rattle.instance.proofs.ArcLaws.{arc_ends}
use Rattle.instance.proofs.ArborescenceLaws.{uses_remains}
use Rattle.theory.proofs.MarkLaws.{pinned_used}
use Rattle.theory.proofs.OutcomeLaws.{outcome_reads}
use Rattle.witness.specs.Witness.{forced_instance, deleted_instance, within}
use Rattle.witness.proofs.OutcomeLaws.{SomeWithin, within_reads}
use Rattle.witness.proofs.StateLaws.{forced_uses, deleted_avoids, state_witnessed}
use Rattle.witness.proofs.LimitLaws.{forced_total, deleted_total}

pub record Witnessed (s : Instance) (t h : ℕ) : Type 0 where
  -- "closed exactly when it is banned, has a rival, or its priced outcome is not within the bound"
  pub excluded :
      (state s t h ≡ 1)
      ↔ ((eqb (mark s t h) banned ≡ true) ⊎ ((other_pinned s t h ≡ true) ⊎ (within (total_limit s) (outcome (forced_instance s t h)) ≡ false)))
  -- "sure exactly when there is a tree within the bound and the outcome without it is not within it"
  pub mandatory : (state s t h ≡ 3) ↔ (SomeWithin s (total_limit s) × (within (total_limit s) (outcome (deleted_instance s t h)) ≡ false))
  -- "open otherwise": a tree within the bound uses the arc, and one does not
  pub optional : (state s t h ≡ 2) ↔ ((within (total_limit s) (outcome (forced_instance s t h)) ≡ true) × (within (total_limit s) (outcome (deleted_instance s t h)) ≡ true))

-- the three numbers, by both tests
chosen_excluded : (a b : Bool) → (◌≡◌ {A = ℕ} (cond a (cond b 2 3) 1) 1) ↔ (a ≡ false)
chosen_excluded true true = ((λ e. absurd (omega (arith, e))), (λ e. absurd (true≢false e)))
chosen_excluded true false = ((λ e. absurd (omega (arith, e))), (λ e. absurd (true≢false e)))
chosen_excluded false b = ((λ e. refl), (λ e. refl))

chosen_optional : (a b : Bool) → (◌≡◌ {A = ℕ} (cond a (cond b 2 3) 1) 2) ↔ ((a ≡ true) × (b ≡ true))
chosen_optional true true = ((λ e. (refl, refl)), (λ e. refl))
chosen_optional true false = ((λ e. absurd (omega (arith, e))), (λ e. absurd (true≢false (sym e.1))))
chosen_optional false b = ((λ e. absurd (omega (arith, e))), (λ e. absurd (true≢false (sym e.0))))

chosen_mandatory : (a b : Bool) → (◌≡◌ {A = ℕ} (cond a (cond b 2 3) 1) 3) ↔ ((a ≡ true) × (b ≡ false))
chosen_mandatory true true = ((λ e. absurd (omega (arith, e))), (λ e. absurd (true≢false e.1)))
chosen_mandatory true false = ((λ e. (refl, refl)), (λ e. refl))
chosen_mandatory false b = ((λ e. absurd (omega (arith, e))), (λ e. absurd (true≢false (sym e.0))))

module _ (s : Instance) (t h : ℕ) (small : s.n ≤ max_vertices) (x : is_arc s t h ≡ true) where
  abbrev L : ℕ
  L = total_limit s

  abbrev with_it : Bool
  with_it = within L (outcome (forced_instance s t h))

  abbrev without_it : Bool
  without_it = within L (outcome (deleted_instance s t h))

  state_is : state s t h ≡ cond with_it (cond without_it 2 3) 1
  state_is = state_witnessed s t h small x

  -- an outcome within the limit is that of a remaining arc
  within_remains : with_it ≡ true → remaining s t h ≡ true
  within_remains e =
      let w = (within_reads (forced_instance s t h) L).0 e in
      let u = (forced_uses s t h small x w.0).0 w.1 in
      let end = arc_ends s t h x in
      uses_remains s w.0 t h u.0 end.head_below end.not_root u.1

  lost_out : remaining s t h ≡ false → with_it ≡ false
  lost_out r = is_false with_it (λ e. not_both (remaining s t h) (within_remains e) r)

  banned_lost : eqb (mark s t h) banned ≡ true → remaining s t h ≡ false
  unfolding remaining
  banned_lost e = rw (x, e)

  rival_lost : other_pinned s t h ≡ true → remaining s t h ≡ false
  unfolding remaining
  rival_lost e = rw (x, e) (and_false_right (not (eqb (mark s t h) banned)) false refl)

  -- a tree within the limit is one with the arc or without it
  some_with : SomeWithin s L → without_it ≡ false → with_it ≡ true
  some_with w e =
      ⊎_elim
      (λ (u : uses w.0 t h ≡ true).
      let a = (forced_uses s t h small x w.0).1 (w.1, u) in
      let c = forced_total s t h small x w.0 a in
      (within_reads (forced_instance s t h) L).1 (w.0, a, omega (arith, c, w.2)))
      (λ (u : uses w.0 t h ≡ false).
      let a = (deleted_avoids s t h small x w.0).1 (w.1, ap not u) in
      let c = deleted_total s t h small x w.0 a in
      absurd (not_both without_it ((within_reads (deleted_instance s t h) L).1 (w.0, a, omega (arith, c, w.2))) e))
      (test (uses w.0 t h))

  with_some : with_it ≡ true → SomeWithin s L
  with_some e =
      let w = (within_reads (forced_instance s t h) L).0 e in
      let c = forced_total s t h small x w.0 w.1 in
      (w.0, ((forced_uses s t h small x w.0).0 w.1).0, omega (arith, c, w.2))

  pub witnessed : Witnessed s t h
  witnessed =
      record {
        excluded = (
          (λ e. inr (inr ((chosen_excluded with_it without_it).0 (sym state_is ∙ e)))),
          (λ e.
              state_is
              ∙ (chosen_excluded with_it without_it).1
              (⊎_elim (λ (b : eqb (mark s t h) banned ≡ true). lost_out (banned_lost b))
              (λ (r : (other_pinned s t h ≡ true) ⊎ (with_it ≡ false)). ⊎_elim (λ (p : other_pinned s t h ≡ true). lost_out (rival_lost p)) (λ (w : with_it ≡ false). w) r) e)),
        );
        mandatory = (
          (λ e. let p = (chosen_mandatory with_it without_it).0 (sym state_is ∙ e) in (with_some p.0, p.1)),
          (λ e. state_is ∙ (chosen_mandatory with_it without_it).1 (some_with e.0 e.1, e.1)),
        );
        optional = (
          (λ e. (chosen_optional with_it without_it).0 (sym state_is ∙ e)),
          (λ e. state_is ∙ (chosen_optional with_it without_it).1 e),
        );
      }

  -- without a pinned arc there is no tree: its pin keeps the other arcs into its head out
  pub pinned_none : is_pinned s t h ≡ true → outcome (deleted_instance s t h) ≡ NoTree
  pinned_none p =
      (outcome_reads (deleted_instance s t h)).fails.1
      (λ ps.
      is_false (is_arborescence (deleted_instance s t h) ps)
      (λ a.
      let d = (deleted_avoids s t h small x ps).0 a in
      not_both (uses ps t h) (pinned_used s ps d.0 t h p) (not-true (uses ps t h) d.1)))
