-- What is shown of a tree, or where there is none, by weights and keys: the steps of `plan_runs`. Assumes nothing:
-- these are definitions.
use Rattle.std.specs.Prelude.{◌≡◌, cond, List, ℕ, max, ◌*◌, ◌≤◌, leb, take, replicate}
use Rattle.base.specs.Bounded.{sum_below}
use Rattle.base.specs.Lists.{tabulate, in_front}
use Rattle.instance.specs.declared.Outcome.{Outcome}
use Rattle.instance.specs.declared.Outcome.TheVariants.{Plan, Over}
use Rattle.paths.specs.Paths.{Rooted}
use Rattle.spanning.specs.ReplacementCosts.{not_in_tree}
use Rattle.prim.specs.Tree.{edge_cost, Summable}
use Rattle.runs.specs.Replacement.{cost_of}
use Rattle.runs.specs.Show.{place_state, closed_state, cost_at}

-- what can be shown of a tree
pub record Showable (weights parents : List ℕ) (n states costs : ℕ) : Type 0 where
  pub some : 1 ≤ n
  pub rooted : Rooted n 0 (take n parents)
  pub summable : Summable weights parents n
  pub states_room : n * n ≤ states
  pub costs_room : n * n ≤ costs

-- the total of a tree
abbrev pub total_by : (weights parents : List ℕ) → (n : ℕ) → ℕ
total_by ws ps n = sum_below n (edge_cost ws ps n)

-- what is shown of it, by weights and keys
pub record ShowsTree (weights keys parents : List ℕ) (n budget : ℕ) (states₀ states costs₀ costs : List ℕ) (o : Outcome) : Type 0 where
  pub outcome : o ≡ cond (leb (total_by weights parents n) budget) (Plan (total_by weights parents n)) (Over (total_by weights parents n))
  pub states_in : states ≡ in_front (tabulate (n * n) (place_state weights keys n (take n parents) (total_by weights parents n) (max budget (total_by weights parents n)))) states₀
  pub costs_in : costs ≡ in_front (tabulate (n * n) (cost_at (take n parents) (cost_of keys n (take n parents)) n)) costs₀

-- and where there is no tree
pub record ShowsNone (weights : List ℕ) (n : ℕ) (states₀ states costs₀ costs : List ℕ) : Type 0 where
  pub states_in : states ≡ in_front (tabulate (n * n) (closed_state weights n)) states₀
  pub costs_in : costs ≡ in_front (replicate (n * n) not_in_tree) costs₀
