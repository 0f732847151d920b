-- `put_two` meets its contract: two fields, one behind the other. Assumes nothing.
use Rattle.bits.proofs.NumberLaws.{length_bits_of}
use Rattle.bits.proofs.WriterLaws.{put_then, ready_next}
use Rattle.history_card.proofs.put.put_two.Goals as goal

pub put_bits-requires : goal.put_bits-requires
put_bits-requires c =
    (ready_next _ _ _ _ _ c.args.j c.args.k c.put_bits-between.ensures (length_bits_of c.args.j c.args.first) c.requires.0, c.requires.2)

pub returns : goal.returns
returns c =
    put_then _ _ _ _ _ _ _ _ c.put_bits-between.ensures c.put_bits.ensures
