-- "There is no root" (02, A11), said of what the definitions give: outcome, states and replacement costs are the same
-- from whatever vertex the spanning trees are listed. Assumes nothing.
use mathlib.Core.Path.{◌≡◌, refl, sym, ap, ◌∙◌, subst}
use mathlib.Core.Bool.{Bool, true, false, cond}
use mathlib.Core.List.{List}
use mathlib.Core.Logic.{◌⊎◌, inl, inr, ⊎_elim}
use mathlib.Core.Option.{Option, none, some}
use Prim.Native.Nat.{ℕ, ◌-◌, ◌*◌, ◌/◌, ◌%◌, ◌≤◌, ◌<◌}
use native.Mathlib.Omega.{arith}
use lib.Dec.{leb, eqb}
use borrow.Author.Tests.{leb-true, eqb-true}
use Rattle.base.specs.Lists.{select, any_of, all_of}
use Rattle.base.proofs.BoolLaws.{same_test}
use Rattle.base.proofs.ListLaws.{tabulate_same}
use Rattle.instance.specs.Arborescence.{total}
use Rattle.instance.specs.Candidates.{candidates, least_total}
use Rattle.instance.specs.States.{outcome_at, limit_at}
use Rattle.theory.proofs.CandidateLaws.{any_selected, all_selected}
use Rattle.theory.proofs.OutcomeLaws.{LeastOf, least_of}
use Rattle.spanning.specs.Graph.{Graph, is_edge, is_pinned}
use Rattle.spanning.specs.Refusal.{ValidGraph}
use Rattle.spanning.specs.SpanningTrees.{directed, joins, is_spanning, least_spanning}
use Rattle.spanning.specs.EdgeStates.{graph_outcome, spanning_within, edge_state_over, edge_state, edge_states}
use Rattle.spanning.specs.ReplacementCosts.{no_replacement, increase, replacement_cost}
use Rattle.spanning.specs.Spans.{Spans, Cheapest, CheapestWithout}
use Rattle.spanning.proofs.GraphLaws.{edge_ends}
use Rattle.spanning.proofs.SpansLaws.{listed_spans, spans_listed, spanning_arborescence, some_there}
use Rattle.spanning.proofs.CostLaws.{none_least, cheapest_least, cost_reads, cost_none, cost_some}
use Rattle.spanning.proofs.EdgeStateLaws.{Within, some_use, use_found, all_use, use_all}
use Rattle.spanning.proofs.RootLaws.{Rerooted, rerooted, rerooted_spans}

-- there is a cheapest spanning tree, or none at all
pub cheapest_or_none : (g : Graph) (r : ℕ) → ((ps : List ℕ) × Cheapest (directed g r) (is_pinned g) ps) ⊎ ((qs : List ℕ) → Spans (directed g r) (is_pinned g) qs → ⊥)
unfolding LeastOf
cheapest_or_none g r = at (least_total (directed g r) pss) (least_of (directed g r) pss)
  where
    pss : List (List ℕ)
    pss = select (is_spanning g r) (candidates (directed g r))

    at : (o : Option ℕ) → LeastOf (directed g r) (select (is_spanning g r) (candidates (directed g r))) o
        → ((ps : List ℕ) × Cheapest (directed g r) (is_pinned g) ps) ⊎ ((qs : List ℕ) → Spans (directed g r) (is_pinned g) qs → ⊥)
    at none e =
        inr (λ qs t.
        some_there (select (is_spanning g r) (candidates (directed g r))) e
        ((any_selected (directed g r) (is_spanning g r) (spanning_arborescence g r) (λ _. true)).1 (qs, spans_listed g r qs t, refl)))
    at (some v) e =
        let x = (any_selected (directed g r) (is_spanning g r) (spanning_arborescence g r) (λ qs. eqb (total (directed g r) qs) v)).0 e.0 in
        let q = eqb-true (total (directed g r) x.0) v x.2 in
        inl (
          x.0,
          record {
            spans = listed_spans g r x.0 x.1;
            least =
                λ qs t.
                let f = leb-true v (total (directed g r) qs)
                ((all_selected (directed g r) (is_spanning g r) (spanning_arborescence g r) (λ y. leb v (total (directed g r) y))).0 e.1 qs (spans_listed g r qs t)) in
                omega arith;
          },
        )

module _ (g : Graph) (valid : ValidGraph g) (r r' : ℕ) (rb : r < g.n) (rb' : r' < g.n) where
  to : (ps : List ℕ) → Spans (directed g r) (is_pinned g) ps → Rerooted g r r' ps
  to ps t = rerooted g valid r rb ps t.arborescence r' rb'

  back : (ps : List ℕ) → Spans (directed g r') (is_pinned g) ps → Rerooted g r' r ps
  back ps t = rerooted g valid r' rb' ps t.arborescence r rb

  moved_cheapest : (ps : List ℕ) (best : Cheapest (directed g r) (is_pinned g) ps) → Cheapest (directed g r') (is_pinned g) (to ps best.spans).made
  moved_cheapest ps best =
      let m = to ps best.spans in
      record {
        spans = rerooted_spans g r r' ps best.spans m;
        least =
            λ qs t.
            let o = back qs t in
            let l = best.least o.made (rerooted_spans g r' r qs t o) in
            let x = o.cost in
            let y = m.cost in
            omega arith;
      }

  -- THE LEAST TOTAL
  pub least_anywhere : least_spanning g r ≡ least_spanning g r'
  least_anywhere =
      ⊎_elim
      (λ (x : (ps : List ℕ) × Cheapest (directed g r) (is_pinned g) ps).
      let m = to x.0 x.1.spans in
      cheapest_least g r x.0 x.1 ∙ ap some (sym m.cost) ∙ sym (cheapest_least g r' m.made (moved_cheapest x.0 x.1)))
      (λ (x : (qs : List ℕ) → Spans (directed g r) (is_pinned g) qs → ⊥).
      none_least g r x ∙ sym (none_least g r' (λ qs t. let o = back qs t in x o.made (rerooted_spans g r' r qs t o))))
      (cheapest_or_none g r)

  pub outcome_anywhere : (b : ℕ) → graph_outcome g r b ≡ graph_outcome g r' b
  unfolding graph_outcome
  outcome_anywhere b = ap (λ (o : Option ℕ). outcome_at b o) least_anywhere

  within_to : (b i j : ℕ) (qs : List ℕ) → Within g r b i j qs → (m : Rerooted g r r' qs) → Within g r' b i j m.made
  within_to b i j qs w m =
      let l : total (directed g r) qs ≤ limit_at b (least_spanning g r') = subst (λ (o : Option ℕ). total (directed g r) qs ≤ limit_at b o) least_anywhere w.most in
      record { spans = rerooted_spans g r r' qs w.spans m; most = let c = m.cost in omega arith }

-- STATES
module _ (g : Graph) (valid : ValidGraph g) (r r' : ℕ) (rb : r < g.n) (rb' : r' < g.n) (b i j : ℕ) (ib : i < g.n) (jb : j < g.n) where
  some_to : any_of (λ qs. joins qs i j) (spanning_within g r b) ≡ true → any_of (λ qs. joins qs i j) (spanning_within g r' b) ≡ true
  some_to e =
      let x = use_found g r b i j e in
      let m = to g valid r r' rb rb' x.0 x.1.spans in
      some_use g r' b i j m.made (within_to g valid r r' rb rb' b i j x.0 x.1 m) (m.same i j ib jb ∙ x.2)

  all_to : all_of (λ qs. joins qs i j) (spanning_within g r b) ≡ true → all_of (λ qs. joins qs i j) (spanning_within g r' b) ≡ true
  all_to e =
      all_use g r' b i j
      (λ qs w.
      let m = back g valid r r' rb rb' qs w.spans in
      sym (m.same i j ib jb) ∙ use_all g r b i j e m.made (within_to g valid r' r rb' rb b i j qs w m))

pub state_anywhere : (g : Graph) (valid : ValidGraph g) (r r' : ℕ) → r < g.n → r' < g.n → (b i j : ℕ) → edge_state g r b i j ≡ edge_state g r' b i j
unfolding edge_state edge_state_over
state_anywhere g valid r r' rb rb' b i j = at (is_edge g i j) refl
  where
    at : (e : Bool) → is_edge g i j ≡ e
        → ◌≡◌ {A = ℕ} (cond (is_edge g i j) (cond (any_of (λ ps. joins ps i j) (spanning_within g r b)) (cond (all_of (λ ps. joins ps i j) (spanning_within g r b)) 3 2) 1) 0)
        (cond (is_edge g i j) (cond (any_of (λ ps. joins ps i j) (spanning_within g r' b)) (cond (all_of (λ ps. joins ps i j) (spanning_within g r' b)) 3 2) 1) 0)
    at true e =
        let k = edge_ends g i j e in
        rw (
          same_test (any_of (λ ps. joins ps i j) (spanning_within g r b)) (any_of (λ ps. joins ps i j) (spanning_within g r' b)) (some_to g valid r r' rb rb' b i j k.i_below k.j_below) (some_to g valid r' r rb' rb b i j k.i_below k.j_below),
          same_test (all_of (λ ps. joins ps i j) (spanning_within g r b)) (all_of (λ ps. joins ps i j) (spanning_within g r' b)) (all_to g valid r r' rb rb' b i j k.i_below k.j_below) (all_to g valid r' r rb' rb b i j k.i_below k.j_below),
        )
    at false e = rw e

-- REPLACEMENT COSTS
pub cost_anywhere : (g : Graph) (valid : ValidGraph g) (r r' : ℕ) → r < g.n → r' < g.n → (i j : ℕ) → i < g.n → j < g.n → replacement_cost g r i j ≡ replacement_cost g r' i j
cost_anywhere g valid r r' rb rb' i j ib jb =
    ⊎_elim (λ (x : (ps : List ℕ) × Cheapest (directed g r) (is_pinned g) ps). from x.0 x.1)
    (λ (x : (qs : List ℕ) → Spans (directed g r) (is_pinned g) qs → ⊥).
    no_tree r (none_least g r x)
    ∙ sym (no_tree r' (none_least g r' (λ qs t. let o = back g valid r r' rb rb' qs t in x o.made (rerooted_spans g r' r qs t o)))))
    (cheapest_or_none g r)
  where
    no_tree : (q : ℕ) → least_spanning g q ≡ none → replacement_cost g q i j ≡ no_replacement
    no_tree q e = unfold replacement_cost increase in rw e

    from : (ps : List ℕ) → Cheapest (directed g r) (is_pinned g) ps → replacement_cost g r i j ≡ replacement_cost g r' i j
    from ps best =
        let m = to g valid r r' rb rb' ps best.spans in
        let best' = moved_cheapest g valid r r' rb rb' ps best in
        ⊎_elim
        (λ (x : (replacement_cost g r i j ≡ no_replacement) × ((qs : List ℕ) → Spans (directed g r) (is_pinned g) qs → joins qs i j ≡ true)).
        x.0
        ∙ sym (cost_none g r' m.made best' i j
        (λ qs t. let o = back g valid r r' rb rb' qs t in sym (o.same i j ib jb) ∙ x.1 o.made (rerooted_spans g r' r qs t o))))
        (λ (x : (replacement_cost g r i j < no_replacement) × CheapestWithout (directed g r) (is_pinned g) ps i j (replacement_cost g r i j)).
        let w = x.1 in
        let k = to g valid r r' rb rb' w.made w.spans in
        let c = w.cost in
        let d = k.cost in
        let e = m.cost in
        let q : replacement_cost g r i j ≡ total (directed g r') k.made - total (directed g r') m.made = omega arith in
        q
        ∙ sym (cost_some g r' m.made best' i j k.made (rerooted_spans g r r' w.made w.spans k) (k.same i j ib jb ∙ w.lacks)
        (λ qs t n.
        let o = back g valid r r' rb rb' qs t in
        let l = w.least o.made (rerooted_spans g r' r qs t o) (o.same i j ib jb ∙ n) in
        let y = o.cost in
        omega arith)))
        (cost_reads g valid r rb ps best i j)

-- ALL OF IT
pub record Anywhere (g : Graph) (r r' : ℕ) : Type 0 where
  pub outcome : (b : ℕ) → graph_outcome g r b ≡ graph_outcome g r' b
  pub states : (b : ℕ) → edge_states g r b ≡ edge_states g r' b
  pub costs : (i j : ℕ) → i < g.n → j < g.n → replacement_cost g r i j ≡ replacement_cost g r' i j

pub rooted_anywhere : (g : Graph) → ValidGraph g → (r r' : ℕ) → r < g.n → r' < g.n → Anywhere g r r'
unfolding edge_states
rooted_anywhere g valid r r' rb rb' =
    record {
      outcome = outcome_anywhere g valid r r' rb rb';
      states = λ b. tabulate_same (g.n * g.n) (λ k. edge_state g r b (k / g.n) (k % g.n)) (λ k. edge_state g r' b (k / g.n) (k % g.n)) (λ k _. state_anywhere g valid r r' rb rb' b (k / g.n) (k % g.n));
      costs = cost_anywhere g valid r r' rb rb';
    }
