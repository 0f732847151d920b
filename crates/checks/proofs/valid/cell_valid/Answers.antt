-- `cell_valid` is the definition; a cell where no arc can be is not read. Assumes nothing.
use mathlib.Core.Path.{sym, ap, ◌∙◌}
use mathlib.Core.Bool.{not}
use native.Mathlib.Omega.{arith}
use Rattle.instance.specs.Instance.{without_budget}
use Rattle.instance.proofs.ValidLaws.{cell_read, cell_passed}
use Rattle.checks.proofs.valid.cell_valid.Goals as goal

pub returns-then-not-can_be_arc : goal.returns-then-not-can_be_arc
returns-then-not-can_be_arc c =
    let a = c.args in
    ap not c.if-not-can_be_arc.true
    ∙ cell_passed (without_budget a.n a.root a.weights.now a.marks.now) a.i (sym c.can_be_arc.ensures ∙ c.if-not-can_be_arc.true)

pub returns-else-not-can_be_arc : goal.returns-else-not-can_be_arc
returns-else-not-can_be_arc c =
    let a = c.args in
    c.cell_ok.ensures
    ∙ cell_read (without_budget a.n a.root a.weights.now a.marks.now) a.i (omega arith)
    (sym c.can_be_arc.ensures ∙ c.if-not-can_be_arc.false)
