-- `test_edmonds::put_arc` meets its contract. Assumes nothing.
use Prim.Native.Nat.{◌+◌, ◌*◌}
use lib.ListN.{length-set}
use Rattle.instance.proofs.MatrixLaws.{store_fits}
use Rattle.test_edmonds.proofs.put_arc.Goals as goal

pub returns-then-weight-le-NO_ARC : goal.returns-then-weight-le-NO_ARC
returns-then-weight-le-NO_ARC c =
    let size = c.requires.0 in
    (simp length-set size, store_fits c.args.w.now (32 * c.args.tail + c.args.head) c.args.weight size c.if-weight-le-NO_ARC.true c.requires.1)
