-- `new_board` is the board of these fields with no record. Assumes nothing.
use mathlib.Core.Path.{refl}
use Rattle.commands.specs.Model.{opened}
use Rattle.board.specs.ModelOf.{history_of}
use Rattle.board.specs.Create.{board_with}
use Rattle.board.proofs.create.new_board.Goals as goal

pub returns : goal.returns
unfolding board_with opened history_of
returns c = record { board = refl; model = refl }
