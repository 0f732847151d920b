-- `head_covered` judges the arcs into a head by the cuts that have it, which charge them with as much as all do.
-- Assumes nothing.
use mathlib.Core.Path.{◌∙◌}
use lib.ListN.{take}
use Rattle.instance.specs.Matrix.{unmarked}
use Rattle.verifier.specs.Pairs.{cuts_of}
use Rattle.verifier.proofs.SelectedLaws.{same_into}
use Rattle.verifier.proofs.cuts.head_covered.Goals as goal

pub returns : goal.returns
returns c =
    let a = c.args in
    let selected = c.cuts_with-selected in
    c.arcs_covered.ensures
    ∙ same_into (unmarked a.arcs.now.n a.arcs.now.root a.arcs.now.weights.now) (cuts_of (take selected.result.count selected.result.cuts)) (cuts_of a.cuts.now) a.head selected.ensures.same
