-- What exchanging some arcs of an arborescence costs. Assumes nothing: these are definitions.
use Rattle.std.specs.Prelude.{◌≡◌, true, List, ℕ, ◌+◌, ◌≤◌}
use Rattle.instance.specs.Instance.{Instance, weight}
use Rattle.instance.specs.Arborescence.{parent, is_arborescence, total, uses}

-- An exchange that makes the arborescence use the arc: it adds the arc's weight and at most d, and drops the arc into
-- the head.
pub record Exchange (s : Instance) (parents : List ℕ) (t h d : ℕ) : Type 0 where
  pub made : List ℕ
  pub arborescence : is_arborescence s made ≡ true
  pub used : uses made t h ≡ true
  pub cost : total s made + weight s (parent parents h) h ≤ total s parents + weight s t h + d
