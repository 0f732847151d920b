-- The bytes that one read put into the buffer stand behind those that were read before. Assumes nothing.
use Rattle.std.proofs.Common.{length, ◌-◌, rules, sym, subst}
use Rattle.std.proofs.KnownBytes.{Consumes-trans}
use Rattle.std.specs.Io.KnownBytes.{Consumes}
use Rattle.card_input.proofs.PartLaws.{take-put_mid_part}
use Rattle.card_input.proofs.read_from.Goals as goal

pub loop-done-preserved : goal.loop-done-preserved
loop-done-preserved g c =
    let before = c.loop-done in
    let ok = c.in-Ok in
    let joined = take-put_mid_part before.done (length before.buf - before.done) ok.more before.buf c.read.new.buf before.invariant.0 ok.ensures.bound.0 in
    (search rules, search rules, subst (Consumes _ _) (sym joined) (Consumes-trans _ _ _ _ _ before.invariant.2 ok.ensures.bytes.0))
