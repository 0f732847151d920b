-- What the search for usable arcs starts from. Assumes nothing: these are definitions.
use Rattle.std.specs.Prelude.{◌≡◌, true, List, ℕ, ◌≤◌, get_or, take}
use Rattle.instance.specs.Limits.{max_budget}
use Rattle.instance.specs.Instance.{cell}
use Rattle.instance.specs.Arborescence.{remaining, total}
use Rattle.instance.specs.Cuts.{Cut, values, Feasible, reduced_cost}
use Rattle.instance.specs.Matrix.{unmarked}
use Rattle.paths.specs.Tree.{MatrixTree}

-- reduced costs, under cuts that add to a total
pub record Reduced (m reduced : List ℕ) (n root total : ℕ) : Type 0 where
  pub cuts : List Cut
  pub feasible : Feasible (unmarked n root m) cuts
  pub adds : values cuts ≡ total
  pub costs : (t h : ℕ) → remaining (unmarked n root m) t h ≡ true → get_or reduced (cell t h) 0 ≡ reduced_cost (unmarked n root m) cuts t h

-- a cheapest arborescence whose total v is within the limit b, with the reduced costs of its planning
pub record FittingPlan (m reduced parents : List ℕ) (n root v b : ℕ) : Type 0 where
  pub tree : MatrixTree n root m parents
  pub is_total : v ≡ total (unmarked n root m) (take n parents)
  pub costs : Reduced m reduced n root v
  pub within : v ≤ b
  pub most : b ≤ max_budget
