-- `all_covered` tries the heads from the last down: those below decide. Assumes nothing.
use mathlib.Core.Path.{◌≡◌}
use Prim.Native.Nat.{◌≤◌}
use Rattle.base.specs.Bounded.{all_below}
use Rattle.instance.specs.Matrix.{unmarked}
use Rattle.certificate.specs.Certificate.{none_overcharged}
use Rattle.verifier.specs.Pairs.{cuts_of}
use Rattle.verifier.specs.Selected.{covered_into}
use Rattle.verifier.proofs.cuts.all_covered.Given as goal

abbrev pub invariant-loop-head : goal.invariant-loop-head
invariant-loop-head l =
    (l.head ≤ l.arcs.n)
    × (none_overcharged (unmarked l.arcs.n l.arcs.root l.arcs.weights.now) (cuts_of l.cuts) ≡ all_below l.head (covered_into (unmarked l.arcs.n l.arcs.root l.arcs.weights.now) (cuts_of l.cuts)))
