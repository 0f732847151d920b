-- `put_header` meets its contract: three fields, one behind the other. Assumes nothing.
use Prim.Native.Nat.{◌+◌}
use native.Mathlib.Omega.{arith}
use Rattle.bits.specs.Writer.{Ready}
use Rattle.bits.proofs.NumberLaws.{length_bits_of}
use Rattle.bits.proofs.WriterLaws.{put_then, ready_next, ready_fewer}
use Rattle.card_format.specs.Widths.{n_width, root_width, budget_width, header_width}
use Rattle.card.proofs.write.put_header.Goals as goal

pub put_bits-after_root-requires : goal.put_bits-after_root-requires
put_bits-after_root-requires c =
    let r0 : Ready (n_width + root_width) c.args.start c.args.out.now = ready_fewer _ _ header_width (n_width + root_width) (omega arith) c.requires in
    (ready_next _ _ _ _ _ n_width root_width c.put_bits-after_n.ensures (length_bits_of n_width c.args.n) r0, omega arith)

pub put_bits-requires : goal.put_bits-requires
put_bits-requires c =
    let r0 : Ready (n_width + (root_width + budget_width)) c.args.start c.args.out.now = ready_fewer _ _ header_width (n_width + (root_width + budget_width)) (omega arith) c.requires in
    let r1 : Ready (root_width + budget_width) _ _ =
    ready_next _ _ _ _ _ n_width (root_width + budget_width) c.put_bits-after_n.ensures (length_bits_of n_width c.args.n) r0 in
    (ready_next _ _ _ _ _ root_width budget_width c.put_bits-after_root.ensures (length_bits_of root_width c.args.root) r1, omega arith)

pub returns : goal.returns
returns c =
    put_then _ _ _ _ _ _ _ _ (put_then _ _ _ _ _ _ _ _ c.put_bits-after_n.ensures c.put_bits-after_root.ensures) c.put_bits.ensures
