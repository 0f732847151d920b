-- The line feeds of the bytes that were passed are counted. Assumes nothing.
use mathlib.Core.Path.{◌≡◌, sym, ◌∙◌}
use native.Mathlib.Omega.{arith}
use lib.Dec.{eqb}
use lib.ListN.{length, get_or}
use Rattle.text.specs.Lines.{line_feed}
use Rattle.print_card.proofs.JudgeLaws.{none_counted, count_step, count_most}
use Rattle.print_card.proofs.judge.line_feeds.Goals as goal

pub loop-k-init : goal.loop-k-init
loop-k-init c = (omega arith, omega arith, sym (none_counted c.args.text.now))

pub overflow_add-count : goal.overflow_add-count
overflow_add-count c =
    let t = c.args.text.now in
    let m = count_most t (eqb (get_or t c.loop-k.k 0) line_feed) in
    omega (arith, c.feed_count-count.ensures)

pub loop-k-preserved : goal.loop-k-preserved
loop-k-preserved c =
    let t = c.args.text.now in
    let l = c.loop-k in
    let f = c.feed_count-count.ensures in
    let m = count_most t (eqb (get_or t l.k 0) line_feed) in
    let s = count_step t l.k in
    (omega arith, omega arith, omega (arith, l.invariant.2))

pub returns : goal.returns
returns c =
    let l = c.loop-k in
    let e : l.k ≡ length c.args.text.now = omega arith in
    l.invariant.2 ∙ rw e
