-- `print_feeds` is safe and ends: each vertex has a parent in the list. Assumes nothing.
use native.Mathlib.Omega.{arith}
use Rattle.print_why.proofs.printing.print_feeds.Goals as goal

pub print_feed-requires : goal.print_feed-requires
print_feed-requires c = let p = c.requires in (p.0, omega (arith, p.1))
