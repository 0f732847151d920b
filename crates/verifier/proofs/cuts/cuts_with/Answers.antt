-- `cuts_with` keeps the cuts that have the vertex, one behind the other. Assumes nothing.
use mathlib.Core.Path.{refl, sym, ◌∙◌}
use Rattle.verifier.proofs.SelectedLaws.{selecting_none, selecting_skip, selecting_more, selecting_all}
use Rattle.verifier.proofs.cuts.cuts_with.Goals as goal
use Rattle.verifier.proofs.cuts.cuts_with.Goals.{then-is_inside, else-is_inside}

pub loop-set-init : goal.loop-set-init
loop-set-init c = selecting_none _ _ _ refl

pub loop-set-preserved : goal.loop-set-preserved
loop-set-preserved c =
    let a = c.args in
    let l = c.loop-set in
    let inner = sym c.is_inside.ensures in
    elim c.if-is_inside.branch [
      | then-is_inside w ↦
          rw (w.selected-is, w.count-is) (selecting_more a.cuts.now a.vertex l.selected l.count l.set-index c.loop-set-test.true c.requires.1 l.invariant)
      | else-is_inside w ↦
          rw (w.selected-is, w.count-is)
          (selecting_skip a.cuts.now a.vertex l.selected l.count l.set-index c.loop-set-test.true c.requires.1 l.invariant (inner ∙ w.if-is_inside.false))
    ]

pub returns : goal.returns
returns c =
    let a = c.args in
    let l = c.loop-set in
    selecting_all a.cuts.now a.vertex l.selected l.count l.set-index c.loop-set-test.false l.auto.set-index-end l.invariant
