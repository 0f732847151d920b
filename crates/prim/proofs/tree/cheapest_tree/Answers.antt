-- A grown tree without a pinned edge shows that there is none. Assumes nothing.
use mathlib.Core.Path.{sym, ◌∙◌}
use Rattle.prim.proofs.TreeLaws.{finds_tree, finds_pin_missing}
use Rattle.prim.proofs.tree.cheapest_tree.Goals as goal

pub returns-then-not-has_pinned : goal.returns-then-not-has_pinned
returns-then-not-has_pinned c =
    let a = c.args in
    let p = c.in_ok-parents in
    finds_pin_missing a.keys.now a.n c.requires.1 p.parents p.ensures (sym c.has_pinned.ensures ∙ c.if-not-has_pinned.true)

pub returns : goal.returns
returns c =
    let a = c.args in
    let p = c.in_ok-parents in
    finds_tree a.keys.now a.n c.requires.1 p.parents p.ensures (sym c.has_pinned.ensures ∙ c.if-not-has_pinned.false)
