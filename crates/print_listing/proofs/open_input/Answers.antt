-- `open_input` meets its contract, and what was read lies within its buffer. Assumes nothing.
use mathlib.Core.Path.{◌≡◌, refl}
use mathlib.Core.List.{List}
use Prim.Native.Nat.{ℕ}
use Rattle.std.specs.Prelude.{Result, Ok, Err, IfOk}
use Rattle.instance.specs.declared.refusals.Refusal.{Refusal}
use Rattle.board.specs.declared.Board.{Board}
use Rattle.board.specs.Create.{opening_of}
use Rattle.planner.specs.Opening.{opened_from}
use Rattle.print_listing.specs.Boards.{AsOpened}
use Rattle.print_listing.proofs.BoardLaws.{opened_board}
use Rattle.print_listing.proofs.LineLaws.{counted}
use Rattle.print_listing.proofs.open_input.Goals as goal

opens : (ws : List ℕ) (r : Result Board Refusal) → opening_of r ≡ opened_from ws → IfOk r AsOpened
opens ws (Ok b) e = opened_board ws _ e refl
opens ws (Err _) e = tt

pub slice_bounds-open_card-end : goal.slice_bounds-open_card-end
slice_bounds-open_card-end c = counted _ _ c.in_ok-length.ensures

pub returns : goal.returns
returns c = opens _ c.open_card.result c.open_card.ensures
