-- A card that opens has the ranges that writing asks for. Assumes nothing.
use Rattle.card.specs.Write.{written_of}
use Rattle.instance.proofs.RefusalLaws.{not_0}
use mathlib.Core.Path.{refl}
use Rattle.commands.proofs.ValidLaws.{valid_parts}
use Rattle.feed_planner.proofs.CardLaws.{card_refused, open_valid, open_weights, open_marks, plain_stored}
use Rattle.feed_planner.proofs.cards.feed_write_card.Goals as goal

pub returns-in-Err : goal.returns-in-Err
returns-in-Err c = rw c.from.ensures (card_refused _ _ c.in-Err.ensures _ _ _ _ (not_0 _))

pub write_instance-written-requires : goal.write_instance-written-requires
write_instance-written-requires c =
    let v = valid_parts _ (open_valid _ _ c.in-Ok.ensures refl) in
    (v.n_low, v.n_high, v.root_below, open_weights _ _ c.in-Ok.ensures refl, open_marks _ _ c.in-Ok.ensures refl)

pub returns : goal.returns
returns c =
    let w = c.write_instance-written in
    let s = plain_stored _ _ c.in-Ok.ensures refl _ _ _ (written_of w.result) w.ensures in
    rw (c.keep_written.ensures.0, c.keep_written.ensures.1) s
