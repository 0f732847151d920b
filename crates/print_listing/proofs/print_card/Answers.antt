-- `print_card` is safe: a board is only printed where the card opens. Assumes nothing.
use Rattle.print_listing.proofs.print_card.Goals as goal

pub print_board-requires : goal.print_board-requires
print_board-requires c = rw c.in-Ok.is at c.requires
