-- What a planning of a graph shows (02, A11). Assumes nothing: these are definitions.
use Rattle.std.specs.Prelude.{◌≡◌, true, List, ℕ, replicate}
use Rattle.std.proofs.Math.Option.{Option, none, some}
use Rattle.base.specs.Lists.{in_front}
use Rattle.instance.specs.Limits.{no_parent}
use Rattle.spanning.specs.Graph.{Graph}
use Rattle.spanning.specs.SpanningTrees.{is_spanning, tree_total, least_spanning}
use Rattle.spanning.specs.EdgeStates.{edge_states}
use Rattle.spanning.specs.ReplacementCosts.{costs_shown}

-- "Which cheapest tree joins the free results, named with its properties": a spanning tree of the least total; where
-- there is no spanning tree, no edge is in it
unfoldable pub CheapestTree : Graph → (least : Option ℕ) → (tree : List ℕ) → Type 0
CheapestTree g none ps = ps ≡ replicate g.n no_parent
CheapestTree g (some v) ps = (is_spanning g 0 ps ≡ true) × (tree_total g 0 ps ≡ v)

-- what the two buffers held and hold: "States and replacement prices fill the first n times n places of two lent
-- buffers .. later places keep their contents". The listing starts at vertex 0.
pub record ShowsGraph (g : Graph) (budget : ℕ) (states₀ states costs₀ costs : List ℕ) : Type 0 where
  pub states_in : states ≡ in_front (edge_states g 0 budget) states₀
  pub tree : List ℕ
  pub cheapest : CheapestTree g (least_spanning g 0) tree
  pub costs_in : costs ≡ in_front (costs_shown g 0 tree) costs₀
