-- Three numbers, each from where the one before ends. Assumes nothing.
use Rattle.price_list.proofs.LineLaws.{first_bad, second_bad, third_bad, line_good}
use Rattle.price_list.proofs.lines.read_line.Goals as goal

pub returns-in_err-tail : goal.returns-in_err-tail
returns-in_err-tail c = rw c.from_residual.ensures (first_bad c.args.text.now c.args.at c.in_err-tail.ensures)

pub returns-in_err-head : goal.returns-in_err-head
returns-in_err-head c =
    rw c.from_residual-in_err-head.ensures (second_bad _ _ _ c.in_ok-tail.ensures c.in_err-head.ensures)

pub returns-in_err-weight : goal.returns-in_err-weight
returns-in_err-weight c =
    rw c.from_residual-in_err-weight.ensures (third_bad _ _ _ c.in_ok-tail.ensures _ c.in_ok-head.ensures c.in_err-weight.ensures)

pub returns : goal.returns
returns c = line_good _ _ _ c.in_ok-tail.ensures _ c.in_ok-head.ensures _ c.in_ok-weight.ensures
