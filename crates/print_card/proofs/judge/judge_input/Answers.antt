-- `judge_input` meets its contract: each return by its law. Assumes nothing.
use mathlib.Core.Path.{sym}
use native.Mathlib.Omega.{arith}
use lib.ListN.{length}
use lib.Seq.{length-take-le}
use Rattle.std.proofs.lemmas.Result.{err_from_is_err_and}
use Rattle.price_card.specs.ToCard.{making_told}
use Rattle.print_card.proofs.JudgeLaws.{end_within, feeds_within, judged_whole, part_refused, part_accepted, list_told, made_ok, made_err}
use Rattle.print_card.proofs.judge.judge_input.Goals as goal

pub returns-then-text-le-MAX_READ : goal.returns-then-text-le-MAX_READ
returns-then-text-le-MAX_READ c =
    let m = c.card_from_prices in
    rw (list_told m.result c.map_err.result c.map_err.ensures.cases) (judged_whole _ _ _ _ _ _ (making_told m.result) c.if-text-le-MAX_READ.true m.ensures)

pub slice_bounds-card_from_prices-end : goal.slice_bounds-card_from_prices-end
slice_bounds-card_from_prices-end c =
    let t = c.args.text.now in
    sym (length-take-le _ _ (let w = end_within t (length t) in omega (arith, c.line_end-end.ensures)))

pub returns-in_err-map_err : goal.returns-in_err-map_err
returns-in_err-map_err c =
    let p = err_from_is_err_and c.from_residual.result c.from_residual.ensures.1 in
    let m = c.card_from_prices-2 in
    let e = c.line_end-end in
    rw (p.1, p.2, list_told m.result _ c.in_err-map_err.ensures.cases) (part_refused _ _ _ _ _ _ (making_told m.result) c.if-text-le-MAX_READ.false e.result e.ensures m.ensures (made_err m.result c.in_err-map_err.ensures.variant))

pub overflow_add-result : goal.overflow_add-result
overflow_add-result c =
    let t = c.args.text.now in
    let w = feeds_within t (length t) in
    omega (arith, c.line_feeds.ensures, c.requires)

pub returns : goal.returns
returns c =
    let m = c.card_from_prices-2 in
    let e = c.line_end-end in
    let l = c.line_feeds in
    part_accepted _ _ _ _ _ _ (making_told m.result) c.if-text-le-MAX_READ.false e.result e.ensures m.ensures (made_ok m.result c.in_ok-map_err.ensures.variant) l.result l.ensures
