-- `is_arc` is the definition: where an arc can be, the weight is read inside the array. Assumes nothing.
use mathlib.Core.Path.{sym, ◌∙◌}
use native.Mathlib.Omega.{arith}
use Rattle.instance.proofs.ArcLaws.{ends, arc_cell, arc_read, arc_not}
use Rattle.checks.proofs.arc.is_arc.Goals as goal

pub overflow_mul-result : goal.overflow_mul-result
overflow_mul-result c =
    let a = c.args in
    omega (arith, ends a.n a.root a.tail a.head (sym c.can_be_arc.ensures ∙ c.if-can_be_arc.true))

pub overflow_add-result : goal.overflow_add-result
overflow_add-result c =
    let a = c.args in
    omega (arith, arc_cell a.n a.root a.tail a.head c.requires.0 (sym c.can_be_arc.ensures ∙ c.if-can_be_arc.true))

pub bounds-weights-tail : goal.bounds-weights-tail
bounds-weights-tail c =
    let a = c.args in
    arc_cell a.n a.root a.tail a.head c.requires.0 (sym c.can_be_arc.ensures ∙ c.if-can_be_arc.true)

pub returns-then-can_be_arc : goal.returns-then-can_be_arc
returns-then-can_be_arc c =
    let a = c.args in
    arc_read a.n a.root a.weights.now a.tail a.head c.requires.0 c.requires.1 (sym c.can_be_arc.ensures ∙ c.if-can_be_arc.true)

pub returns-else-can_be_arc : goal.returns-else-can_be_arc
returns-else-can_be_arc c =
    let a = c.args in
    c.if-can_be_arc.false ∙ arc_not a.n a.root a.weights.now a.tail a.head (sym c.can_be_arc.ensures ∙ c.if-can_be_arc.false)
