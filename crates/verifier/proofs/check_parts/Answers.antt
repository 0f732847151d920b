-- `check_parts` is the definition: one test after another. Assumes nothing.
use mathlib.Core.Path.{sym, ◌∙◌}
use lib.ListN.{take}
use Rattle.instance.specs.Matrix.{unmarked}
use Rattle.verifier.specs.Pairs.{cuts_of}
use Rattle.verifier.proofs.CutsLaws.{cuts_judged}
use Rattle.certificate.proofs.CertificateLaws.{tree_fails, total_fails, cuts_fail, charges_fail, values_fail, none_fails}
use Rattle.verifier.proofs.check_parts.Goals as goal

pub returns-then-not-is_arborescence : goal.returns-then-not-is_arborescence
returns-then-not-is_arborescence c =
    let a = c.args in
    sym (tree_fails (unmarked a.arcs.now.n a.arcs.now.root a.arcs.now.weights.now) (take a.arcs.now.n a.parents.now) a.total (cuts_of a.cuts.now) (sym c.is_arborescence.ensures ∙ c.if-not-is_arborescence.true))

pub returns-then-not-has_total : goal.returns-then-not-has_total
returns-then-not-has_total c =
    let a = c.args in
    let tree = sym c.is_arborescence.ensures ∙ c.if-not-is_arborescence.false in
    sym (total_fails (unmarked a.arcs.now.n a.arcs.now.root a.arcs.now.weights.now) (take a.arcs.now.n a.parents.now) a.total (cuts_of a.cuts.now) tree (sym c.has_total.ensures ∙ c.if-not-has_total.true))

pub returns-then-not-are_cuts : goal.returns-then-not-are_cuts
returns-then-not-are_cuts c =
    let a = c.args in
    let tree = sym c.is_arborescence.ensures ∙ c.if-not-is_arborescence.false in
    let costs = sym c.has_total.ensures ∙ c.if-not-has_total.false in
    sym (cuts_fail (unmarked a.arcs.now.n a.arcs.now.root a.arcs.now.weights.now) (take a.arcs.now.n a.parents.now) a.total (cuts_of a.cuts.now) tree costs (sym (cuts_judged (unmarked a.arcs.now.n a.arcs.now.root a.arcs.now.weights.now) a.cuts.now) ∙ sym c.are_cuts.ensures ∙ c.if-not-are_cuts.true))

pub returns-then-not-all_covered : goal.returns-then-not-all_covered
returns-then-not-all_covered c =
    let a = c.args in
    let tree = sym c.is_arborescence.ensures ∙ c.if-not-is_arborescence.false in
    let costs = sym c.has_total.ensures ∙ c.if-not-has_total.false in
    let proper = sym (cuts_judged (unmarked a.arcs.now.n a.arcs.now.root a.arcs.now.weights.now) a.cuts.now) ∙ sym c.are_cuts.ensures ∙ c.if-not-are_cuts.false in
    sym (charges_fail (unmarked a.arcs.now.n a.arcs.now.root a.arcs.now.weights.now) (take a.arcs.now.n a.parents.now) a.total (cuts_of a.cuts.now) tree costs proper (sym c.all_covered.ensures ∙ c.if-not-all_covered.true))

pub returns-then-not-adds_to : goal.returns-then-not-adds_to
returns-then-not-adds_to c =
    let a = c.args in
    let tree = sym c.is_arborescence.ensures ∙ c.if-not-is_arborescence.false in
    let costs = sym c.has_total.ensures ∙ c.if-not-has_total.false in
    let proper = sym (cuts_judged (unmarked a.arcs.now.n a.arcs.now.root a.arcs.now.weights.now) a.cuts.now) ∙ sym c.are_cuts.ensures ∙ c.if-not-are_cuts.false in
    let fair = sym c.all_covered.ensures ∙ c.if-not-all_covered.false in
    sym (values_fail (unmarked a.arcs.now.n a.arcs.now.root a.arcs.now.weights.now) (take a.arcs.now.n a.parents.now) a.total (cuts_of a.cuts.now) tree costs proper fair (sym c.adds_to.ensures ∙ c.if-not-adds_to.true))

pub returns : goal.returns
returns c =
    let a = c.args in
    let tree = sym c.is_arborescence.ensures ∙ c.if-not-is_arborescence.false in
    let costs = sym c.has_total.ensures ∙ c.if-not-has_total.false in
    let proper = sym (cuts_judged (unmarked a.arcs.now.n a.arcs.now.root a.arcs.now.weights.now) a.cuts.now) ∙ sym c.are_cuts.ensures ∙ c.if-not-are_cuts.false in
    let fair = sym c.all_covered.ensures ∙ c.if-not-all_covered.false in
    sym (none_fails (unmarked a.arcs.now.n a.arcs.now.root a.arcs.now.weights.now) (take a.arcs.now.n a.parents.now) a.total (cuts_of a.cuts.now) tree costs proper fair (sym c.adds_to.ensures ∙ c.if-not-adds_to.false))
