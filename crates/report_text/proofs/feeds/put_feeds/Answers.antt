-- The test of the code is that of the definition. Assumes nothing.
use mathlib.Core.Path.{sym, ◌∙◌}
use Rattle.text.proofs.BufferLaws.{puts_none}
use Rattle.report_text.proofs.FeedLaws.{feeds_shown, feeds_none}
use Rattle.report_text.proofs.feeds.put_feeds.Goals as goal

pub put_arcs-requires : goal.put_arcs-requires
put_arcs-requires c =
    let s = c.shows_tree in
    record { weights_len = c.requires.weights_len; n_in_bounds = c.requires.n_in_bounds; room = rw (feeds_shown _ _ _ _ c.args.outcome (sym s.ensures ∙ c.if-shows_tree.true)) at c.requires.room }

pub returns-then-shows_tree : goal.returns-then-shows_tree
returns-then-shows_tree c =
    let s = c.shows_tree in
    rw (feeds_shown _ _ _ _ c.args.outcome (sym s.ensures ∙ c.if-shows_tree.true)) c.put_arcs.ensures

pub returns : goal.returns
returns c =
    rw (feeds_none _ _ _ _ c.args.outcome (sym c.shows_tree.ensures ∙ c.if-shows_tree.false)) (puts_none _ _)
