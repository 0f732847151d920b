-- What is shown where there is no tree, and from what is shown to what the call promises. Assumes nothing.
use mathlib.Core.Path.{◌≡◌, refl, sym, ap, ◌∙◌, subst}
use mathlib.Core.Bool.{false, cond}
use mathlib.Core.List.{List}
use mathlib.Core.Logic.{◌≢◌}
use Prim.Native.Nat.{ℕ, ◌*◌, ◌/◌, ◌%◌, ◌≤◌, ◌<◌}
use native.Mathlib.Omega.{arith}
use native.Mathlib.Decide.{ℕ_discrete}
use lib.Dec.{eqb}
use lib.ListN.{length, get_or, take, replicate}
use Rattle.std.proofs.lemmas.List.{length-replicate}
use borrow.Author.Tests.{eq-eqb, ne_eqb}
use Rattle.base.specs.Lists.{tabulate, in_front}
use Rattle.base.proofs.GridLaws.{grid_row, grid_column}
use Rattle.base.proofs.ListLaws.{replicate_at, tabulate_is, tabulate_same}
use Rattle.instance.specs.Limits.{max_vertices, no_arc, no_parent}
use Rattle.instance.specs.declared.Outcome.{Outcome}
use Rattle.instance.specs.declared.Outcome.TheVariants.{NoTree}
use Rattle.instance.specs.States.{outcome_at}
use Rattle.paths.proofs.ExchangeLaws.{rooted}
use Rattle.spanning.specs.Graph.{Graph, is_edge, is_pinned}
use Rattle.spanning.specs.Refusal.{call_refusal, ValidGraph}
use Rattle.spanning.specs.SpanningTrees.{directed, joins, least_spanning}
use Rattle.spanning.specs.EdgeStates.{graph_outcome, edge_state, edge_states}
use Rattle.spanning.specs.ReplacementCosts.{not_in_tree, replacement_cost, costs_shown}
use Rattle.spanning.specs.Shown.{CheapestTree}
use Rattle.spanning.specs.Spans.{Spans, Cheapest}
use Rattle.spanning.specs.KeyTables.{key_table}
use Rattle.spanning.proofs.CostLaws.{none_least}
use Rattle.spanning.proofs.EdgeStateLaws.{state_no_tree}
use Rattle.prim.proofs.TreeLaws.{nothing_joined, summable, sum_total}
use Rattle.runs.specs.Show.{closed_state, pair_cost, cost_at}
use Rattle.runs.specs.Planning.{Shown, Refused, Accepts, PlansAt, PlansRuns}
use Rattle.runs.specs.Steps.{Showable, total_by, ShowsTree, ShowsNone}
use Rattle.runs.proofs.PlanningLaws.{pair_cases, no_edge, an_edge, shows_tree}

-- WHERE THERE IS NO TREE
module _ (g : Graph) (valid : ValidGraph g) (b : ℕ) (no_one : (qs : List ℕ) → Spans (directed g 0) (is_pinned g) qs → ⊥) where
  closed_is : (k : ℕ) → k < g.n * g.n → closed_state g.weights g.n k ≡ edge_state g 0 b (k / g.n) (k % g.n)
  unfolding closed_state
  closed_is k l =
      pair_cases g valid k l (cond (eqb (k / g.n) (k % g.n)) 0 (cond (eqb (get_or g.weights k 0) no_arc) 0 1) ≡ edge_state g 0 b (k / g.n) (k % g.n))
      (λ e. absent e (ℕ_discrete (k / g.n) (k % g.n)) ∙ sym (state_no_tree g 0 b (k / g.n) (k % g.n) no_one ∙ rw e))
      (λ e.
      let h = an_edge g valid k l e in
      rw (ne_eqb (k / g.n) (k % g.n) h.0, ne_eqb (get_or g.weights k 0) no_arc h.1) (sym (state_no_tree g 0 b (k / g.n) (k % g.n) no_one ∙ rw e)))
    where
      absent : is_edge g (k / g.n) (k % g.n) ≡ false → Dec (k / g.n ≡ k % g.n)
          → ◌≡◌ {A = ℕ} (cond (eqb (k / g.n) (k % g.n)) 0 (cond (eqb (get_or g.weights k 0) no_arc) 0 1)) 0
      absent e (yes z) = rw (eq-eqb (k / g.n) (k % g.n) z)
      absent e (no z) = rw (ne_eqb (k / g.n) (k % g.n) z, eq-eqb (get_or g.weights k 0) no_arc (no_edge g valid k l e z))

  abbrev nothing : List ℕ
  nothing = replicate g.n no_parent

  none_there : (k : ℕ) → k < g.n * g.n → not_in_tree ≡ cond (joins nothing (k / g.n) (k % g.n)) (replacement_cost g 0 (k / g.n) (k % g.n)) not_in_tree
  none_there k l =
      let a = grid_row g.n k l in
      let c = grid_column g.n k l in
      let s = valid.small in
      rw (nothing_joined g.n (k / g.n) (k % g.n) (omega arith) (omega arith))

  none_shown : CheapestTree g (least_spanning g 0) nothing
  unfolding CheapestTree
  none_shown = rw (none_least g 0 no_one) refl

  no_outcome : graph_outcome g 0 b ≡ NoTree
  unfolding graph_outcome outcome_at
  no_outcome = rw (none_least g 0 no_one)

  pub shows_none : (ss₀ ss cs₀ cs : List ℕ) → ss ≡ in_front (tabulate (g.n * g.n) (closed_state g.weights g.n)) ss₀
      → cs ≡ in_front (replicate (g.n * g.n) not_in_tree) cs₀ → Accepts g b ss₀ ss cs₀ cs (Shown NoTree)
  unfolding edge_states costs_shown
  shows_none ss₀ ss cs₀ cs p q =
      record {
        result = rw no_outcome;
        shows =
            record {
              states_in = p ∙ ap (λ (l : List ℕ). in_front l ss₀) (tabulate_same (g.n * g.n) (closed_state g.weights g.n) (λ k. edge_state g 0 b (k / g.n) (k % g.n)) closed_is);
              tree = nothing;
              cheapest = none_shown;
              costs_in =
                  q ∙ ap (λ (l : List ℕ). in_front l cs₀)
                  (tabulate_is (g.n * g.n) (replicate (g.n * g.n) not_in_tree)
                  (λ k. cond (joins nothing (k / g.n) (k % g.n)) (replacement_cost g 0 (k / g.n) (k % g.n)) not_in_tree) not_in_tree
                  (length-replicate (g.n * g.n) not_in_tree) (λ k l. replicate_at (g.n * g.n) k not_in_tree ∙ none_there k l));
            };
      }

-- costs in a list or by a function
pub costs_by : (ps : List ℕ) (n : ℕ) (cs : List ℕ) (f : ℕ → ℕ) → ((v : ℕ) → v < n → get_or cs v 0 ≡ f v) → tabulate (n * n) (cost_at ps (λ v. get_or cs v 0) n) ≡ tabulate (n * n) (cost_at ps f n)
unfolding pair_cost
costs_by ps n cs f h = tabulate_same (n * n) (cost_at ps (λ v. get_or cs v 0) n) (cost_at ps f n) (λ k l. rw (h (k / n) (grid_row n k l), h (k % n) (grid_column n k l)))

-- WHAT THE CALL PROMISES
module _ (g : Graph) (b : ℕ) (ss₀ ss cs₀ cs : List ℕ) where
  pub plans_refused : (a : ℕ) → a ≡ call_refusal g (length ss₀) (length cs₀) → a ≢ 0 → ss ≡ ss₀ → cs ≡ cs₀ → PlansRuns g b ss₀ ss cs₀ cs (Refused a)
  unfolding PlansRuns PlansAt
  plans_refused a e d p q = rw (← e, ne_eqb a 0 d) (record { result = refl; states_same = p; costs_same = q })

  pub plans_shown : call_refusal g (length ss₀) (length cs₀) ≡ 0 → (o : Outcome) → Accepts g b ss₀ ss cs₀ cs (Shown o) → PlansRuns g b ss₀ ss cs₀ cs (Shown o)
  unfolding PlansRuns PlansAt
  plans_shown z o r = rw (eq-eqb (call_refusal g (length ss₀) (length cs₀)) 0 z) r

-- the tree of a graph can be shown
pub showable : (g : Graph) (valid : ValidGraph g) (ps : List ℕ) → length ps ≡ max_vertices → Cheapest (directed g 0) (is_pinned g) (take g.n ps) → (a c : ℕ) → g.n * g.n ≤ a → g.n * g.n ≤ c
    → Showable g.weights ps g.n a c
showable g valid ps places best a c ra rc =
    record {
      some = valid.some;
      rooted = rooted (directed g 0) (take g.n ps) valid.some best.spans.arborescence;
      summable = summable g valid ps places best;
      states_room = ra;
      costs_room = rc;
    }

-- and what is shown of it is right
pub accepts_tree : (g : Graph) (valid : ValidGraph g) (b : ℕ) (ps : List ℕ) (places : length ps ≡ max_vertices) (best : Cheapest (directed g 0) (is_pinned g) (take g.n ps)) (ss₀ ss cs₀ cs : List ℕ) (o : Outcome)
    (ks : List ℕ) → ks ≡ key_table g → ShowsTree g.weights ks ps g.n b ss₀ ss cs₀ cs o → Accepts g b ss₀ ss cs₀ cs (Shown o)
accepts_tree g valid b ps places best ss₀ ss cs₀ cs o ks e s₀ =
    let s = subst (λ (l : List ℕ). ShowsTree g.weights l ps g.n b ss₀ ss cs₀ cs o) e s₀ in
    subst (λ (x : Outcome). Accepts g b ss₀ ss cs₀ cs (Shown x)) (sym s.outcome)
    (shows_tree g valid b (take g.n ps) best ss₀ ss cs₀ cs (total_by g.weights ps g.n) (sum_total g valid ps places best) s.states_in s.costs_in)

pub accepts_none : (g : Graph) (valid : ValidGraph g) (b : ℕ) → ((qs : List ℕ) → Spans (directed g 0) (is_pinned g) qs → ⊥) → (ss₀ ss cs₀ cs : List ℕ)
    → ShowsNone g.weights g.n ss₀ ss cs₀ cs → Accepts g b ss₀ ss cs₀ cs (Shown NoTree)
accepts_none g valid b no_one ss₀ ss cs₀ cs s = shows_none g valid b no_one ss₀ ss cs₀ cs s.states_in s.costs_in
