-- The blank board is invalid. Assumes nothing.
use mathlib.Core.Path.{◌≡◌, refl, sym}
use mathlib.Core.Bool.{false}
use Rattle.instance.specs.Valid.{header_valid}
use Rattle.commands.specs.Valid.{valid}
use Rattle.commands.proofs.ValidLaws.{header_invalid}
use Rattle.board.specs.ModelOf.{model_of}
use Rattle.board.specs.Create.{board_with, blank}

-- the blank board is refused by every call: 15
pub blank_invalid : valid (model_of blank) ≡ false
unfolding blank board_with header_valid
blank_invalid = sym (header_invalid (model_of blank) refl)
