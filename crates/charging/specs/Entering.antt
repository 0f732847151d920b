-- The cheapest arc into a group. Assumes nothing: these are definitions.
use Rattle.std.specs.Prelude.{◌≡◌, List, ◌≢◌, ℕ, ◌≤◌, ◌<◌, Option, Some, None, IfSome}
use Rattle.instance.specs.Limits.{no_arc}
use Rattle.contraction.specs.Cells.{nth, cost}
use Rattle.charging.specs.declared.entering.Entering.{Entering}

-- an arc of the matrix into group g
pub record EnteringArc (ws ls : List ℕ) (n g : ℕ) (a : Entering) : Type 0 where
  pub there : a.weight < no_arc
  pub tail_below : a.tail.0 < n
  pub head_below : a.head.0 < n
  pub tail_out : nth ls a.tail.0 ≢ g
  pub head_in : nth ls a.head.0 ≡ g
  pub is : cost ws a.tail.0 a.head.0 ≡ a.weight

-- what an arc has to be below to be cheaper
abbrev pub weight_of : Option Entering → ℕ
weight_of None = no_arc
weight_of (Some a) = a.weight

-- of the arcs into the vertices of group g below a bound, the cheapest, if there is one
pub record CheapestArc (ws ls : List ℕ) (n g bound : ℕ) (best : Option Entering) : Type 0 where
  pub least : (u v : ℕ) → u < n → v < bound → nth ls v ≡ g → nth ls u ≢ g → weight_of best ≤ cost ws u v
  pub arc : IfSome best (EnteringArc ws ls n g)
