-- Each way out by its law. Assumes nothing.
use native.Mathlib.Omega.{arith}
use Rattle.std.specs.Prelude.{Option, Some, None, IfNone}
use Rattle.std.proofs.lemmas.Option.{IfSome_then}
use Rattle.paths.proofs.TreeLaws.{tree_rooted}
use Rattle.first_tree.proofs.SearchLaws.{tree_at_hand, admissible_ends, not_root, tried_cycle, tried_exchange, tried_fixed, fixed_refuted}
use Rattle.first_tree.proofs.attempt.try_tail.Goals as goal

pub leads_back-requires : goal.leads_back-requires
leads_back-requires c =
    let a = c.args in
    let h = tree_at_hand a.search.m.now a.search.cuts.now a.search.n a.search.root a.search.total a.search.from.0 a.search.count c.requires.0 a.vertex a.tails.now a.parents c.requires.1 in
    let e = admissible_ends a.search.m.now a.search.cuts.now a.search.n a.search.root a.search.total a.search.from.0 a.search.count c.requires.0 a.vertex a.tails.now a.parents c.requires.1 a.tail c.requires.2 c.requires.3 in
    (c.requires.0.matrix_ok.small, tree_rooted a.search.n a.search.root a.search.m.now a.parents h, e.tail_below, c.requires.2)

pub can_exchange-requires : goal.can_exchange-requires
can_exchange-requires c =
    let a = c.args in
    let h = tree_at_hand a.search.m.now a.search.cuts.now a.search.n a.search.root a.search.total a.search.from.0 a.search.count c.requires.0 a.vertex a.tails.now a.parents c.requires.1 in
    let e = admissible_ends a.search.m.now a.search.cuts.now a.search.n a.search.root a.search.total a.search.from.0 a.search.count c.requires.0 a.vertex a.tails.now a.parents c.requires.1 a.tail c.requires.2 c.requires.3 in
    (h, e.tail_below, c.requires.2, not_root a.search.m.now a.search.cuts.now a.search.n a.search.root a.search.total a.search.from.0 a.search.count c.requires.0 a.vertex a.tails.now a.parents c.requires.1 a.tail c.requires.2 c.requires.3)

pub overflow_cast-other : goal.overflow_cast-other
overflow_cast-other c =
    let a = c.args in
    let e = admissible_ends a.search.m.now a.search.cuts.now a.search.n a.search.root a.search.total a.search.from.0 a.search.count c.requires.0 a.vertex a.tails.now a.parents c.requires.1 a.tail c.requires.2 c.requires.3 in
    omega (arith, e.tail_below, c.requires.0.matrix_ok.small)

pub fix_arc-requires : goal.fix_arc-requires
fix_arc-requires c =
    let a = c.args in
    let k = c.requires.0 in
    let e = admissible_ends a.search.m.now a.search.cuts.now a.search.n a.search.root a.search.total a.search.from.0 a.search.count k a.vertex a.tails.now a.parents c.requires.1 a.tail c.requires.2 c.requires.3 in
    (k.matrix_ok.small, k.from_within, k.few, e.tail_below, c.requires.2, c.requires.3)

pub returns-then-leads_back-clause-none : goal.returns-then-leads_back-clause-none
returns-then-leads_back-clause-none c =
    let a = c.args in
    tried_cycle a.search.m.now a.search.cuts.now a.search.n a.search.root a.search.total a.search.from.0 a.search.count c.requires.0 a.vertex a.tails.now a.parents c.requires.1 a.tail c.requires.2 c.requires.3
    (c.leads_back.ensures c.if-leads_back.true)

pub returns-then-can_exchange-clause-some : goal.returns-then-can_exchange-clause-some
returns-then-can_exchange-clause-some c =
    let a = c.args in
    tried_exchange a.search.m.now a.search.cuts.now a.search.n a.search.root a.search.total a.search.from.0 a.search.count c.requires.0 a.vertex a.tails.now a.parents c.requires.1 a.tail c.requires.2 c.requires.3
    (c.can_exchange.ensures c.if-can_exchange.true)

pub returns-clause-some : goal.returns-clause-some
returns-clause-some c =
    let a = c.args in
    IfSome_then c.tree_admissible.result c.tree_admissible.ensures.some
    (tried_fixed a.search.m.now a.search.cuts.now a.search.n a.search.root a.search.total a.search.from.0 a.search.count c.requires.0 a.vertex a.tails.now a.parents c.requires.1 a.tail c.requires.2 c.requires.3 _ c.fix_arc.ensures)

none_then : {X : Type 0} (r : Option X) {P Q : Type 0} → IfNone r P → (P → Q) → IfNone r Q
none_then None p f = f p
none_then (Some x) p f = p

pub returns-clause-none : goal.returns-clause-none
returns-clause-none c =
    let a = c.args in
    none_then c.tree_admissible.result c.tree_admissible.ensures.none
    (fixed_refuted a.search.m.now a.search.cuts.now a.search.n a.search.root a.search.total a.search.from.0 a.search.count c.requires.0 a.vertex a.tails.now a.parents c.requires.1 a.tail c.requires.2 c.requires.3 _ c.fix_arc.ensures)
