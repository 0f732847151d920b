-- Tables, costs and total of the tree; the limit is the budget or the total, whichever is larger. Assumes nothing.
use mathlib.Core.Path.{◌∙◌, ap}
use mathlib.Core.List.{List}
use Prim.Native.Nat.{ℕ, max, ◌*◌}
use lib.ListN.{take}
use borrow.Author.Tests.{le-leb, lt-leb}
use Rattle.base.specs.Lists.{tabulate, in_front}
use Rattle.runs.specs.Replacement.{cost_of}
use Rattle.runs.specs.Show.{place_state}
use Rattle.runs.proofs.AcceptLaws.{costs_by}
use Rattle.runs.proofs.planning.show_tree.Goals as goal

pub returns-then-total-budget : goal.returns-then-total-budget
returns-then-total-budget c =
    let a = c.args in
    let t = c.total_of-total.result in
    let e = c.total_of-total.ensures in
    let f : ℕ → ℕ → List ℕ = λ x y. in_front (tabulate (a.n * a.n) (place_state a.weights.now a.keys.now a.n (take a.n a.parents.now) x y)) a.states.now in
    record {
      outcome = rw (← e, le-leb t a.budget c.if-total-budget.true);
      states_in = c.write_states.ensures ∙ ap (λ (y : ℕ). f t y) c.max.ensures ∙ ap (λ (x : ℕ). f x (max a.budget x)) e;
      costs_in =
          c.write_costs.ensures
          ∙ ap (λ (l : List ℕ). in_front l a.costs.now)
          (costs_by (take a.n a.parents.now) a.n c.edge_costs-found.result (cost_of a.keys.now a.n (take a.n a.parents.now)) c.edge_costs-found.ensures);
    }

pub returns-else-total-budget : goal.returns-else-total-budget
returns-else-total-budget c =
    let a = c.args in
    let t = c.total_of-total.result in
    let e = c.total_of-total.ensures in
    let f : ℕ → ℕ → List ℕ = λ x y. in_front (tabulate (a.n * a.n) (place_state a.weights.now a.keys.now a.n (take a.n a.parents.now) x y)) a.states.now in
    record {
      outcome = rw (← e, lt-leb t a.budget c.if-total-budget.false);
      states_in = c.write_states.ensures ∙ ap (λ (y : ℕ). f t y) c.max.ensures ∙ ap (λ (x : ℕ). f x (max a.budget x)) e;
      costs_in =
          c.write_costs.ensures
          ∙ ap (λ (l : List ℕ). in_front l a.costs.now)
          (costs_by (take a.n a.parents.now) a.n c.edge_costs-found.result (cost_of a.keys.now a.n (take a.n a.parents.now)) c.edge_costs-found.ensures);
    }
