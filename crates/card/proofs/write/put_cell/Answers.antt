-- `put_cell` meets its contract: two fields of a cell on the card, or nothing. Assumes nothing.
use mathlib.Core.Path.{◌≡◌, ◌∙◌, sym}
use mathlib.Core.Bool.{true}
use native.Mathlib.Omega.{arith}
use Rattle.bits.proofs.NumberLaws.{length_bits_of}
use Rattle.bits.proofs.WriterLaws.{put_then, ready_next, ready_fewer}
use Rattle.card_format.specs.Widths.{weight_width, mark_width, cell_width}
use Rattle.card_format.specs.Card.{on_card}
use Rattle.card.proofs.WriteLaws.{cell_room}
use Rattle.card.proofs.write.put_cell.Goals as goal

pub put_bits-after_weight-requires : goal.put_bits-after_weight-requires
put_bits-after_weight-requires c =
    let t : on_card c.args.n c.args.root c.args.i ≡ true = sym c.on_card.ensures ∙ c.if-on_card.true in
    let r = cell_room c.args.out.now c.args.w c.args.n c.args.root c.args.i c.args.weight c.args.mark t c.requires.1 in
    (ready_fewer _ _ cell_width weight_width (omega arith) r, omega arith)

pub put_bits-requires : goal.put_bits-requires
put_bits-requires c =
    let t : on_card c.args.n c.args.root c.args.i ≡ true = sym c.on_card.ensures ∙ c.if-on_card.true in
    let r = cell_room c.args.out.now c.args.w c.args.n c.args.root c.args.i c.args.weight c.args.mark t c.requires.1 in
    (ready_next _ _ _ _ _ weight_width mark_width c.put_bits-after_weight.ensures (length_bits_of weight_width c.args.weight) r, omega arith)

pub returns-then-on_card : goal.returns-then-on_card
returns-then-on_card c =
    let t : on_card c.args.n c.args.root c.args.i ≡ true = sym c.on_card.ensures ∙ c.if-on_card.true in
    rw t (put_then _ _ _ _ _ _ _ _ c.put_bits-after_weight.ensures c.put_bits.ensures)
