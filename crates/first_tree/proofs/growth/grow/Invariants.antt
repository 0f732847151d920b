-- The tree has grown by whole rounds; where the last one added nothing, nothing more can be reached. What was reached
-- before the last round is more with each. Assumes nothing.
use mathlib.Core.Path.{◌≡◌}
use Prim.Native.Nat.{◌-◌, ◌≤◌}
use Rattle.instance.specs.Limits.{word_limit}
use Rattle.first_tree.specs.Growth.{InRange, Growing, NothingNew}
use Rattle.first_tree.proofs.growth.grow.Given as goal

abbrev pub invariant-loop-last : goal.invariant-loop-last
invariant-loop-last l =
    InRange l.search.n l.search.from.0 l.search.count l.left l.reached l.parents × Growing l.search.n l.search.root l.search.from.0 l.search.count l.tails l.left l.reached l.parents × (l.last ≤ l.reached) × (l.last ≡ l.reached → NothingNew l.search.from.0 l.search.count 0 l.search.n l.tails l.reached l.reached)

abbrev pub decreases-loop-last : goal.decreases-loop-last
decreases-loop-last l = word_limit - l.last
