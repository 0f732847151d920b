-- `print_priced` is safe: an answer with a plan has no more cuts than there is room for. Assumes nothing.
use Rattle.print_why.proofs.print_priced.Goals as goal

pub print_state-requires : goal.print_state-requires
print_state-requires c =
    let few = rw c.in-Shown.is at c.plan_card_without-view.ensures in
    (c.requires, few)
