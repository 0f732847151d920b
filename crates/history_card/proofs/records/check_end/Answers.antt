-- `check_end` meets its contract: whole bytes are left exactly if there are more bytes than the last bit lies in.
-- Assumes nothing.
use Rattle.history_card.proofs.RecordsLaws.{bytes_left, filling_left, nothing_left}
use Rattle.history_card.proofs.records.check_end.Goals as goal

pub returns-then-bytes-card : goal.returns-then-bytes-card
returns-then-bytes-card c =
    bytes_left c.args.card.now c.args.end c.requires.0 c.if-bytes-card.true

pub returns-then-read_bits-ne0 : goal.returns-then-read_bits-ne0
returns-then-read_bits-ne0 c =
    let f = c.read_bits in
    filling_left c.args.card.now c.args.end c.requires.0 c.if-bytes-card.false f.result f.ensures c.if-read_bits-ne0.true

pub returns : goal.returns
returns c =
    let f = c.read_bits in
    nothing_left c.args.card.now c.args.end c.requires.0 c.if-bytes-card.false f.result f.ensures c.if-read_bits-ne0.false
