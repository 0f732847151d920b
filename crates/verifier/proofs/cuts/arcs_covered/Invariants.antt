-- `arcs_covered` tries the tails from the last down: those below decide. Assumes nothing.
use mathlib.Core.Path.{◌≡◌}
use Prim.Native.Nat.{◌≤◌}
use Rattle.base.specs.Bounded.{all_below}
use Rattle.instance.specs.Arborescence.{if_remaining}
use Rattle.instance.specs.Matrix.{unmarked}
use Rattle.certificate.specs.Certificate.{covered}
use Rattle.verifier.specs.Pairs.{cuts_of}
use Rattle.verifier.specs.Selected.{covered_into}
use Rattle.verifier.proofs.cuts.arcs_covered.Given as goal

abbrev pub invariant-loop-tail : goal.invariant-loop-tail
invariant-loop-tail l =
    (l.tail ≤ l.arcs.n)
    × (covered_into (unmarked l.arcs.n l.arcs.root l.arcs.weights.now) (cuts_of l.cuts) l.head
    ≡ all_below l.tail (λ t. if_remaining (unmarked l.arcs.n l.arcs.root l.arcs.weights.now) (covered (unmarked l.arcs.n l.arcs.root l.arcs.weights.now) (cuts_of l.cuts)) t l.head))
