-- The next row, or the next column. Assumes nothing.
use Rattle.prim.proofs.PlaceLaws.{placed_down, placed_on}
use Rattle.prim.proofs.place.Place.next.Goals as goal

pub returns-then-self-n : goal.returns-then-self-n
returns-then-self-n c k p = placed_down c.args.n k c.args.self.row c.args.self.column p c.if-self-n.true

pub returns : goal.returns
returns c k p = placed_on c.args.n k c.args.self.row c.args.self.column p c.if-self-n.false
