-- `weight_into` is the weight of the arc into a vertex; the parent of a vertex other than the root is a vertex. Assumes
-- nothing.
use native.Mathlib.Omega.{arith}
use Rattle.verifier.proofs.TreeLaws.{tail_below, arc_weight}
use Rattle.verifier.proofs.tree.weight_into.Goals as goal

pub bounds-arcs-tail : goal.bounds-arcs-tail
bounds-arcs-tail c =
    let a = c.args in
    let p = c.requires in
    omega (arith, tail_below a.arcs.now.n a.parents.now p.0 a.arcs.now.root a.arcs.now.weights.now a.arcs.now.small a.arcs.now.size p.2 a.vertex p.1 c.if-vertex-arcs.false)

pub returns : goal.returns
returns c =
    let a = c.args in
    let p = c.requires in
    arc_weight a.arcs.now.n a.parents.now p.0 a.arcs.now.root a.arcs.now.weights.now a.arcs.now.small a.arcs.now.size p.2 a.vertex p.1 c.if-vertex-arcs.false
