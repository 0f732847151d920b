-- `records_valid` judges every record of the history, the oldest first. Assumes nothing.
use mathlib.Core.Path.{refl, sym, ◌∙◌}
use Prim.Native.Nat.{◌<◌}
use native.Mathlib.Omega.{arith}
use Rattle.std.proofs.lemmas.List.{get_or-take}
use Rattle.base.specs.Lists.{all_of}
use Rattle.board.specs.ModelOf.{history_of}
use Rattle.board.proofs.ModelOfLaws.{history_fail, history_pass}
use Rattle.board.proofs.valid.records_valid.Goals as goal

pub loop-e-init : goal.loop-e-init
unfolding history_of all_of
loop-e-init c = refl

pub returns-then-not-record_ok : goal.returns-then-not-record_ok
returns-then-not-record_ok c =
    let l = c.loop-e in
    let low : l.e-index < c.args.b.now.count = omega (arith, c.loop-e-test.true) in
    sym (history_fail _ _ c.args.b.now.count l.e-index low (rw (get_or-take c.args.b.now.count c.args.b.now.records l.e-index _ low) at (sym c.record_ok.ensures ∙ c.if-not-record_ok.true)))

pub loop-e-preserved : goal.loop-e-preserved
loop-e-preserved c =
    let l = c.loop-e in
    let low : l.e-index < c.args.b.now.count = omega (arith, c.loop-e-test.true) in
    history_pass _ _ l.e-index (rw (get_or-take c.args.b.now.count c.args.b.now.records l.e-index _ low) at (sym c.record_ok.ensures ∙ c.if-not-record_ok.false)) l.invariant
