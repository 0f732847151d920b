-- What the program knows of the board of a card that opens. Assumes nothing: these are definitions.
use Rattle.std.specs.Prelude.{◌≡◌, true, length}
use Rattle.instance.specs.Limits.{cells}
use Rattle.instance.specs.Matrix.{Weights}
use Rattle.commands.specs.Valid.{valid}
use Rattle.board.specs.ModelOf.{model_of}
use Rattle.board.specs.declared.Board.{Board}

-- a valid board whose weights are in their range, in the cells too that can never be an arc
pub record AsOpened (b : Board) : Type 0 where
  pub good : valid (model_of b) ≡ true
  pub long : length b.weights ≡ cells
  pub bounded : Weights b.weights
