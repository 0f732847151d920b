-- The cheapest arc into a group, found vertex by vertex and, for each, tail by tail. Assumes nothing.
use mathlib.Core.List.{List}
use mathlib.Core.Logic.{◌≢◌}
use Prim.Native.Nat.{ℕ, ◌≤◌, ◌<◌}
use Rattle.std.specs.Prelude.{Option}
use Rattle.contraction.specs.Cells.{nth, cost}
use Rattle.charging.specs.declared.entering.Entering.{Entering}
use Rattle.charging.specs.Entering.{weight_of, CheapestArc}

-- the cheapest into the vertices below h, and into h from the tails below a bound
pub record CheapestSoFar (ws ls : List ℕ) (n g h bound : ℕ) (best : Option Entering) : Type 0 where
  pub earlier : CheapestArc ws ls n g h best
  pub here : (u : ℕ) → u < bound → nth ls u ≢ g → weight_of best ≤ cost ws u h
