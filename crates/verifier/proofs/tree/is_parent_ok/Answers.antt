-- `is_parent_ok` is the definition: the root's byte, or a remaining arc and a way to the root. Assumes nothing.
use mathlib.Core.Path.{sym, ◌∙◌}
use Rattle.verifier.proofs.TreeLaws.{root_ok, arc_ok, no_arc_ok}
use Rattle.verifier.proofs.tree.is_parent_ok.Goals as goal

pub returns-then-vertex-arcs : goal.returns-then-vertex-arcs
returns-then-vertex-arcs c =
    let a = c.args in
    let p = c.requires in
    root_ok a.arcs.now.n a.parents.now p.0 a.arcs.now.root a.arcs.now.weights.now a.vertex p.1 c.if-vertex-arcs.true

pub returns-then-is_arc : goal.returns-then-is_arc
returns-then-is_arc c =
    let a = c.args in
    let p = c.requires in
    c.reaches_root.ensures ∙ arc_ok a.arcs.now.n a.parents.now p.0 a.arcs.now.root a.arcs.now.weights.now a.vertex p.1 c.if-vertex-arcs.false (sym c.is_arc.ensures ∙ c.if-is_arc.true)

pub returns-else-is_arc : goal.returns-else-is_arc
returns-else-is_arc c =
    let a = c.args in
    let p = c.requires in
    c.if-is_arc.false ∙ no_arc_ok a.arcs.now.n a.parents.now p.0 a.arcs.now.root a.arcs.now.weights.now a.vertex p.1 c.if-vertex-arcs.false (sym c.is_arc.ensures ∙ c.if-is_arc.false)
