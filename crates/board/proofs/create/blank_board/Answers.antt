-- `blank_board` is a new board of zeros. Assumes nothing.
use Rattle.board.specs.Create.{blank}
use Rattle.board.proofs.create.blank_board.Goals as goal

pub returns : goal.returns
unfolding blank
returns c = c.new_board.ensures.board
