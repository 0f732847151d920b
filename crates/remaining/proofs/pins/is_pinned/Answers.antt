-- `remaining::pins::is_pinned` meets its contract; the cell is in range where there is an arc. Assumes nothing.
use mathlib.Core.Path.{◌≡◌, sym, ◌∙◌}
use mathlib.Core.Bool.{true}
use Prim.Native.Nat.{◌+◌, ◌*◌, ◌<◌}
use native.Mathlib.Omega.{arith}
use borrow.Author.Tests.{not-true, not-false}
use Rattle.instance.specs.Limits.{cells}
use Rattle.instance.specs.Instance.{mark, is_arc, without_budget}
use Rattle.instance.specs.Matrix.{unmarked}
use Rattle.instance.proofs.ArcLaws.{arc_ends}
use Rattle.remaining.proofs.PinLaws.{not_arc_unpinned, arc_pinned}
use Rattle.remaining.proofs.pins.is_pinned.Goals as goal

arc : (c : goal.Else-not-is_arc)
    → is_arc (unmarked c.args.n c.args.root c.args.weights.now)
    c.args.tail c.args.head ≡ true
arc c = sym c.is_arc.ensures ∙ not-false c.is_arc.result c.if-not-is_arc.false-raw

within : (c : goal.Else-not-is_arc) → 32 * c.args.tail + c.args.head < cells
unfolding unmarked
within c =
    let a = c.args in
    let e = arc_ends (unmarked a.n a.root a.weights.now) a.tail a.head (arc c) in
    omega (arith, c.requires, e.tail_below, e.head_below)

pub returns-then-not-is_arc : goal.returns-then-not-is_arc
returns-then-not-is_arc c =
    let a = c.args in
    not_arc_unpinned (without_budget a.n a.root a.weights.now a.marks.now) a.tail a.head
    (sym c.is_arc.ensures ∙ not-true c.is_arc.result c.if-not-is_arc.true-raw)

pub overflow_mul-i : goal.overflow_mul-i
overflow_mul-i c = omega (arith, within c)

pub overflow_add-i : goal.overflow_add-i
overflow_add-i c = omega (arith, within c)

pub bounds-marks-i : goal.bounds-marks-i
bounds-marks-i c = within c.before.before

pub returns : goal.returns
unfolding mark
returns c =
    let a = c.args in
    arc_pinned (without_budget a.n a.root a.weights.now a.marks.now) a.tail a.head (arc c.before.before.before)
