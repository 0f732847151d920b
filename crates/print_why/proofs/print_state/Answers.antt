-- `print_state` is safe: the board of a card that opens is valid. Assumes nothing.
use mathlib.Core.Path.{refl}
use Rattle.print_why.proofs.AnswerLaws.{opened_valid}
use Rattle.print_why.proofs.print_state.Goals as goal

pub print_witnesses-requires : goal.print_witnesses-requires
print_witnesses-requires c =
    let p = c.requires in
    (opened_valid _ _ c.in-Ok.ensures refl, p.0, p.1)
