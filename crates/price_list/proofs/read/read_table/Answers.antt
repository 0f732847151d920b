-- The lines that were passed are in the table, and what follows is read behind them. Assumes nothing.
use Rattle.price_list.proofs.ReadLaws.{reading_starts, reading_ends, reading_refused, reading_more}
use Rattle.price_list.proofs.read.read_table.Goals as goal

pub loop-at-init : goal.loop-at-init
loop-at-init c = reading_starts _ _ _ _ c.requires.1

pub loop-at-preserved : goal.loop-at-preserved
loop-at-preserved c =
    let l = c.loop-at in
    reading_more _ _ _ c.requires.0 _ _ _ l.invariant _ _ c.in-Ok.ensures c.loop-at-test.true

pub returns-in-Err : goal.returns-in-Err
returns-in-Err c =
    let l = c.loop-at in
    reading_refused _ _ _ c.requires.0 _ _ _ l.invariant _ _ c.in-Err.ensures c.loop-at-test.true

pub returns : goal.returns
returns c = let l = c.loop-at in reading_ends _ _ _ c.requires.0 _ _ _ l.invariant c.loop-at-test.false
