-- The cuts that have one vertex: the arcs into it are judged by these. Assumes nothing: these are definitions.
use Rattle.std.specs.Prelude.{◌≡◌, Bool, List, ℕ, ◌≤◌, length, take}
use Rattle.base.specs.Bounded.{all_below}
use Rattle.instance.specs.Limits.{max_cuts}
use Rattle.instance.specs.Instance.{Instance}
use Rattle.instance.specs.Arborescence.{if_remaining}
use Rattle.instance.specs.Cuts.{Cut, charged}
use Rattle.certificate.specs.Certificate.{covered}
use Rattle.verifier.specs.Pairs.{cuts_of}

-- no more cuts than there were, and they charge every arc into the vertex with as much as all do
pub record Selects (pairs : List (List ℕ)) (vertex : ℕ) (pairs' : List (List ℕ)) (count : ℕ) : Type 0 where
  pub fewer : count ≤ length pairs
  pub long : length pairs' ≡ max_cuts
  pub same : (t : ℕ) → charged (cuts_of (take count pairs')) t vertex ≡ charged (cuts_of pairs) t vertex

-- no remaining arc into the head is charged above its weight
abbrev pub covered_into : Instance → List Cut → (head : ℕ) → Bool
covered_into s cs h = all_below s.n (λ t. if_remaining s (covered s cs) t h)
