-- The cheapest total and the outcome are those that document 01's words allow, and the only ones. Assumes nothing.
use mathlib.Core.Path.{◌≡◌, refl, sym, ap, subst}
use mathlib.Core.Bool.{Bool, true, false, ◌||◌, ◌&&◌, cond, true≢false}
use mathlib.Core.List.{List, [], ◌∷◌}
use mathlib.Core.Option.{Option, none, some}
use Prim.Native.Nat.{ℕ, min, ◌≤◌, ◌<◌}
use native.Mathlib.Omega.{arith}
use native.Mathlib.Nat.{le_antisymm}
use lib.Dec.{leb, eqb}
use borrow.Author.Tests.{leb-true, leb-false, le-leb, eqb-true, eq-eqb}
use Rattle.base.specs.Lists.{any_of, all_of}
use Rattle.base.proofs.BoolLaws.{not_both, is_false, and_both, or_left, or_right}
use Rattle.base.proofs.ListLaws.{all_mono}
use Rattle.instance.specs.Instance.{Instance}
use Rattle.instance.specs.Arborescence.{is_arborescence, total}
use Rattle.instance.specs.Candidates.{arborescences, lesser, least_total, cheapest}
use Rattle.instance.specs.declared.Outcome.{Outcome}
use Rattle.instance.specs.declared.Outcome.TheVariants.{Plan, Over, NoTree}
use Rattle.instance.specs.States.{outcome_at, outcome}
use Rattle.theory.specs.Readings.{LeastTotal, NoArborescence, CheapestReads, OutcomeReads}
use Rattle.theory.proofs.CandidateLaws.{any_selected, all_selected}

-- THE LEAST TOTAL OF A LIST
-- none of the empty list; else a total that one of them has, and that no other is below
unfoldable pub LeastOf : Instance → List (List ℕ) → Option ℕ → Type 0
LeastOf s pss none = pss ≡ []
LeastOf s pss (some v) = (any_of (λ ps. eqb (total s ps) v) pss ≡ true) × (all_of (λ ps. leb v (total s ps)) pss ≡ true)

least_step : (s : Instance) (ps : List ℕ) (pss : List (List ℕ)) (o : Option ℕ) → LeastOf s pss o → LeastOf s (ps ∷ pss) (lesser (total s ps) o)
unfolding LeastOf lesser any_of all_of
least_step s ps pss none e =
    let v = total s ps in (
      or_left (eqb v v) (any_of (λ qs. eqb (total s qs) v) pss) (eq-eqb v v refl),
      and_both (leb v v) (all_of (λ qs. leb v (total s qs)) pss) (le-leb v v (omega arith))
          (subst (λ (qss : List (List ℕ)). all_of (λ qs. leb v (total s qs)) qss ≡ true) (sym e) refl),
    )
least_step s ps pss (some w) e = (attained (leb (total s ps) w) refl, below)
  where
    v : ℕ
    v = total s ps

    attained : (b : Bool) → leb v w ≡ b → eqb v (min v w) || any_of (λ qs. eqb (total s qs) (min v w)) pss ≡ true
    attained true c =
        let l : v ≤ w = leb-true v w c in
        or_left (eqb v (min v w)) (any_of (λ qs. eqb (total s qs) (min v w)) pss) (eq-eqb v (min v w) (omega arith))
    attained false c =
        let l : w < v = leb-false v w c in
        let is : w ≡ min v w = omega arith in
        or_right (eqb v (min v w)) (any_of (λ qs. eqb (total s qs) (min v w)) pss)
        (subst (λ (x : ℕ). any_of (λ qs. eqb (total s qs) x) pss ≡ true) is e.0)

    below : leb (min v w) v && all_of (λ qs. leb (min v w) (total s qs)) pss ≡ true
    below =
        and_both (leb (min v w) v) (all_of (λ qs. leb (min v w) (total s qs)) pss) (le-leb (min v w) v (omega arith))
        (all_mono (λ qs. leb w (total s qs)) (λ qs. leb (min v w) (total s qs)) pss
        (λ qs q. let l : w ≤ total s qs = leb-true w (total s qs) q in le-leb (min v w) (total s qs) (omega arith)) e.1)

pub least_of : (s : Instance) (pss : List (List ℕ)) → LeastOf s pss (least_total s pss)
unfolding LeastOf least_total
least_of s [] = refl
least_of s (ps ∷ pss) = least_step s ps pss (least_total s pss) (least_of s pss)

-- THE CHEAPEST TOTAL
module _ (s : Instance) where
  all_are : (ps : List ℕ) → is_arborescence s ps ≡ true → is_arborescence s ps ≡ true
  all_are ps a = a

  from_list : (o : Option ℕ) → LeastOf s (arborescences s) o → CheapestReads s o
  unfolding LeastOf CheapestReads arborescences any_of
  from_list none e =
      λ ps.
      is_false (is_arborescence s ps)
      (λ a.
      let one = (any_selected s (is_arborescence s) all_are (λ _. true)).1 (ps, a, refl) in
      true≢false (sym (subst (λ (pss : List (List ℕ)). any_of (λ _. true) pss ≡ true) e one)))
  from_list (some v) e =
      let w = (any_selected s (is_arborescence s) all_are (λ ps. eqb (total s ps) v)).0 e.0 in
      record {
        parents = w.0;
        arborescence = w.1;
        attained = eqb-true (total s w.0) v w.2;
        least = λ ps a. leb-true v (total s ps) ((all_selected s (is_arborescence s) all_are (λ qs. leb v (total s qs))).0 e.1 ps a);
      }

  pub cheapest_reads : CheapestReads s (cheapest s)
  unfolding cheapest
  cheapest_reads = from_list (least_total s (arborescences s)) (least_of s (arborescences s))

  pub least_once : (v w : ℕ) → LeastTotal s v → LeastTotal s w → v ≡ w
  least_once v w a b =
      le_antisymm (rw b.attained at (a.least b.parents b.arborescence)) (rw a.attained at (b.least a.parents a.arborescence))

  pub least_some : (v : ℕ) → LeastTotal s v → NoArborescence s → ⊥
  least_some v a no_one = not_both (is_arborescence s a.parents) a.arborescence (no_one a.parents)

  pub some_least : (ps : List ℕ) → is_arborescence s ps ≡ true → (v : ℕ) × LeastTotal s v
  unfolding CheapestReads
  some_least ps a = at (cheapest s) cheapest_reads
    where
      at : (o : Option ℕ) → CheapestReads s o → (v : ℕ) × LeastTotal s v
      at none r = absurd (not_both (is_arborescence s ps) a (r ps))
      at (some v) r = (v, r)

  -- whatever reads so is one total, or none
  cheapest_once : (o p : Option ℕ) → CheapestReads s o → CheapestReads s p → o ≡ p
  unfolding CheapestReads
  cheapest_once none none a b = refl
  cheapest_once none (some w) a b = absurd (least_some w b a)
  cheapest_once (some v) none a b = absurd (least_some v a b)
  cheapest_once (some v) (some w) a b = ap some (least_once v w a b)

  pub cheapest_only : (o : Option ℕ) → CheapestReads s o → o ≡ cheapest s
  cheapest_only o r = cheapest_once o (cheapest s) r cheapest_reads

-- THE OUTCOME
-- no outcome is two of these
pub plan_once : (v w : ℕ) → Plan v ≡ Plan w → v ≡ w
plan_once v w e = cc

pub over_once : (v w : ℕ) → Over v ≡ Over w → v ≡ w
over_once v w e = cc

pub plan_not_over : (v w : ℕ) → Plan v ≡ Over w → ⊥
plan_not_over v w e = let z : ◌≡◌ {A = ℕ} 0 1 = cc in omega arith

plan_not_none : (v : ℕ) → Plan v ≡ NoTree → ⊥
plan_not_none v e = let z : ◌≡◌ {A = ℕ} 0 1 = cc in omega arith

over_not_none : (v : ℕ) → Over v ≡ NoTree → ⊥
over_not_none v e = let z : ◌≡◌ {A = ℕ} 0 1 = cc in omega arith

module _ (s : Instance) where
  plan_reads : (w : ℕ) → LeastTotal s w → w ≤ s.budget → OutcomeReads s (Plan w)
  plan_reads w a l =
      record {
        plans = λ v. ((λ e. subst (λ (x : ℕ). LeastTotal s x × (x ≤ s.budget)) (plan_once w v e) (a, l)), (λ b. ap Plan (least_once s w v a b.0)));
        exceeds = λ v. ((λ e. absurd (plan_not_over w v e)), (λ b. let same = least_once s w v a b.0 in absurd (omega (arith, b.1))));
        fails = ((λ e. absurd (plan_not_none w e)), (λ b. absurd (least_some s w a b)));
      }

  over_reads : (w : ℕ) → LeastTotal s w → s.budget < w → OutcomeReads s (Over w)
  over_reads w a l =
      record {
        plans = λ v. ((λ e. absurd (plan_not_over v w (sym e))), (λ b. let same = least_once s w v a b.0 in absurd (omega (arith, b.1))));
        exceeds = λ v. ((λ e. subst (λ (x : ℕ). LeastTotal s x × (s.budget < x)) (over_once w v e) (a, l)), (λ b. ap Over (least_once s w v a b.0)));
        fails = ((λ e. absurd (over_not_none w e)), (λ b. absurd (least_some s w a b)));
      }

  none_reads : NoArborescence s → OutcomeReads s NoTree
  none_reads a =
      record {
        plans = λ v. ((λ e. absurd (plan_not_none v (sym e))), (λ b. absurd (least_some s v b.0 a)));
        exceeds = λ v. ((λ e. absurd (over_not_none v (sym e))), (λ b. absurd (least_some s v b.0 a)));
        fails = ((λ _. a), (λ _. refl));
      }

  pub outcome_reads : OutcomeReads s (outcome s)
  unfolding outcome outcome_at CheapestReads
  outcome_reads = at (cheapest s) (cheapest_reads s)
    where
      within : (w : ℕ) → LeastTotal s w → (b : Bool) → leb w s.budget ≡ b → OutcomeReads s (cond b (Plan w) (Over w))
      within w a true e = plan_reads w a (leb-true w s.budget e)
      within w a false e = over_reads w a (leb-false w s.budget e)

      at : (o : Option ℕ) → CheapestReads s o → OutcomeReads s (outcome_at s.budget o)
      at none r = none_reads r
      at (some w) r = within w r (leb w s.budget) refl

  -- whatever reads so is one outcome
  pub outcome_once : (o p : Outcome) → OutcomeReads s o → OutcomeReads s p → o ≡ p
  outcome_once (Plan v) p a b = sym ((b.plans v).1 ((a.plans v).0 refl))
  outcome_once (Over v) p a b = sym ((b.exceeds v).1 ((a.exceeds v).0 refl))
  outcome_once NoTree p a b = sym (b.fails.1 (a.fails.0 refl))

  pub outcome_only : (o : Outcome) → OutcomeReads s o → o ≡ outcome s
  outcome_only o r = outcome_once o (outcome s) r outcome_reads
