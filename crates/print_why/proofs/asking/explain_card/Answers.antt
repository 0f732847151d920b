-- `explain_card` meets its contract: the board of a card that opens is valid. Assumes nothing.
use mathlib.Core.Path.{refl}
use Rattle.print_why.proofs.AnswerLaws.{opened_valid, explains_few}
use Rattle.print_why.proofs.asking.explain_card.Goals as goal

pub returns-in-Ok : goal.returns-in-Ok
returns-in-Ok c =
    let w = c.why in
    explains_few c.in-Ok.board (opened_valid _ _ c.in-Ok.ensures refl) _ _ _ _ w.result w.ensures
