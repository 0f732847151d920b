-- `print_why` is safe: an answer with a plan has no more cuts than there is room for. Assumes nothing.
use Rattle.print_why.proofs.print_why.Goals as goal

pub print_priced-requires : goal.print_priced-requires
print_priced-requires c = rw c.in-Priced.is at c.explain_card-reason.ensures
