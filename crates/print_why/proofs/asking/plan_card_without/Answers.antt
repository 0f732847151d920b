-- `plan_card_without` meets its contract: the board of a card that opens is valid. Assumes nothing.
use mathlib.Core.Path.{refl}
use Rattle.print_why.proofs.AnswerLaws.{opened_valid, plan_without_few}
use Rattle.print_why.proofs.asking.plan_card_without.Goals as goal

pub returns-in-Ok : goal.returns-in-Ok
returns-in-Ok c =
    let w = c.plan_without in
    plan_without_few c.in-Ok.board (opened_valid _ _ c.in-Ok.ensures refl) _ _ _ _ w.result w.ensures
