-- A plan of one instance is one of any other with the same remaining arcs and the same budget. Assumes nothing.
use mathlib.Core.Path.{◌≡◌, ◌∙◌, subst}
use mathlib.Core.List.{List}
use lib.ListN.{take}
use Rattle.instance.specs.Instance.{Instance}
use Rattle.instance.specs.Candidates.{first_tree}
use Rattle.instance.specs.Cuts.{Cut}
use Rattle.instance.specs.declared.Outcome.{Outcome}
use Rattle.instance.specs.declared.Outcome.TheVariants.{Plan, Over, NoTree}
use Rattle.instance.specs.States.{outcome_at, outcome}
use Rattle.theory.proofs.SameArcs.{SameArcs, same_proves, same_no_entry, same_cheapest}
use Rattle.theory.proofs.FirstLaws.{first_same}
use Rattle.survey.specs.FirstPlan.{CutsShown, PlansFirst}
use Rattle.survey.specs.declared.first_plan.FirstPlan.{FirstPlan}

module _ (a b : Instance) (e : SameArcs a b) where
  cuts_there : (o : Outcome) (cs : List Cut) → CutsShown o a cs → CutsShown o b cs
  unfolding CutsShown
  cuts_there (Plan v) cs p = same_proves a b e cs v p
  cuts_there (Over v) cs p = same_proves a b e cs v p
  cuts_there NoTree cs p = (p.0, p.1, same_no_entry a b e p.0 p.2)

  module _ (k : a.budget ≡ b.budget) where
    pub same_arcs_outcome : outcome a ≡ outcome b
    unfolding outcome
    same_arcs_outcome = λ i. outcome_at (k i) (same_cheapest a b e i)

    pub same_cuts_shown : (cs : List Cut) → CutsShown (outcome a) a cs → CutsShown (outcome b) b cs
    same_cuts_shown cs p = subst (λ (o : Outcome). CutsShown o b cs) same_arcs_outcome (cuts_there (outcome a) cs p)

    pub same_plan : (r : FirstPlan) → PlansFirst a r → PlansFirst b r
    same_plan r p =
        record {
          result = p.result ∙ same_arcs_outcome;
          places = p.places;
          parents_found = subst (λ n. take n r.parents ≡ first_tree a) e.vertices p.parents_found ∙ first_same a b e;
          cut_list = p.cut_list;
          counted = p.counted;
          cuts_found = same_cuts_shown p.cut_list p.cuts_found;
          words = p.words;
        }
