-- `print_witnesses` is safe: a valid board has no more vertices than there are parents. Assumes nothing.
use Rattle.board.proofs.ModelOfLaws.{known}
use Rattle.print_why.proofs.AnswerLaws.{small}
use Rattle.print_why.proofs.printing.print_witnesses.Goals as goal

pub print_plan-requires : goal.print_plan-requires
print_plan-requires c =
    ((known c.args.b _ c.well_formed.0).weights_long, small c.args.b c.requires.0, c.requires.1)

pub print_plans-requires : goal.print_plans-requires
print_plans-requires c =
    ((known c.args.b _ c.well_formed.0).weights_long, small c.args.b c.requires.0, c.requires.2, c.requires.1)

pub print_plans-requires-2 : goal.print_plans-requires-2
print_plans-requires-2 c =
    ((known c.args.b _ c.well_formed.0).weights_long, small c.args.b c.requires.0, c.requires.1, c.requires.2)
