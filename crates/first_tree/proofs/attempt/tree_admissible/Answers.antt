-- Growing with no cut shows what cannot be reached; growing by the cuts makes a tree that is held to the total;
-- planning decides the rest. Assumes nothing.
use mathlib.Core.Path.{refl, sym, ◌∙◌}
use Rattle.instance.specs.Matrix.{unmarked}
use Rattle.first_tree.proofs.SearchLaws.{none_cheaper, grown_short, grown_matrix, grown_passes}
use Rattle.first_tree.proofs.attempt.tree_admissible.Goals as goal

pub tree_total-requires : goal.tree_total-requires
tree_total-requires c =
    let a = c.args in
    grown_matrix a.search.m.now a.search.cuts.now a.search.n a.search.root a.search.total a.search.from.0 a.search.count c.requires.0 a.tails.now c.requires.1 a.search.from.0 _ _ c.grow-tree.ensures
    (sym c.all_reached-2.ensures ∙ c.if-all_reached.true)

pub plan_admissible-requires : goal.plan_admissible-requires
plan_admissible-requires c =
    let a = c.args in
    (c.requires.0.matrix_ok, c.requires.1, none_cheaper a.search.m.now a.search.cuts.now a.search.n a.search.root a.search.total a.search.from.0 a.search.count c.requires.0)

pub returns-then-not-all_reached-clause-none : goal.returns-then-not-all_reached-clause-none
unfolding unmarked
returns-then-not-all_reached-clause-none c =
    let a = c.args in
    grown_short a.search.m.now a.search.cuts.now a.search.n a.search.root a.search.total a.search.from.0 a.search.count c.requires.0 a.tails.now c.requires.1 a.search.count _ _ c.grow-all.ensures refl
    (sym c.all_reached.ensures ∙ c.if-not-all_reached.true)

pub returns-then-tree_total-search-clause-some : goal.returns-then-tree_total-search-clause-some
unfolding unmarked
returns-then-tree_total-search-clause-some c =
    let a = c.args in
    let g = c.grow-tree.ensures in
    let all = sym c.all_reached-2.ensures ∙ c.if-all_reached.true in
    let t = grown_matrix a.search.m.now a.search.cuts.now a.search.n a.search.root a.search.total a.search.from.0 a.search.count c.requires.0 a.tails.now c.requires.1 a.search.from.0 _ _ g all in
    record {
      places = g.places;
      tree = record { arborescence = t.arborescence; attained = sym c.tree_total.ensures ∙ c.if-tree_total-search.true };
      admissible = grown_passes a.search.m.now a.search.cuts.now a.search.n a.search.root a.search.total a.search.from.0 a.search.count c.requires.0 a.tails.now c.requires.1 a.search.from.0 _ _ g all;
    }
