-- The least key of those that were passed; none where j is not below v. Assumes nothing.
use mathlib.Core.Path.{◌≡◌, sym, ◌∙◌}
use native.Mathlib.Omega.{arith}
use lib.ListN.{take}
use Rattle.spanning.specs.Keys.{no_key}
use Rattle.spanning.specs.KeyTables.{crossing_key, least_into}
use Rattle.runs.proofs.ReplacementLaws.{least_first, least_next, into_outside}
use Rattle.runs.proofs.replacement.least_into.Goals as goal

pub returns-then-not-tree-v : goal.returns-then-not-tree-v
returns-then-not-tree-v c =
    let a = c.args in
    let p = c.requires in
    into_outside a.tree.now.keys.now a.tree.now.n (take a.tree.now.n a.tree.now.parents.now) a.v a.j (sym (a.tree.now.table a.v a.j p.0 p.1 p.2) ∙ c.if-not-tree-v.true)

pub loop-i-init : goal.loop-i-init
loop-i-init c = let a = c.args in least_first no_key (crossing_key a.tree.now.keys.now a.tree.now.n (take a.tree.now.n a.tree.now.parents.now) a.v a.j)

pub crossing_key-requires : goal.crossing_key-requires
crossing_key-requires c =
    let a = c.args in
    let p = c.requires in
    (p.0, p.1, p.2, omega arith, sym (a.tree.now.table a.v a.j p.0 p.1 p.2) ∙ c.if-not-tree-v.false)

pub loop-i-preserved : goal.loop-i-preserved
loop-i-preserved c =
    let a = c.args in
    let l = c.loop-i in
    let f = crossing_key a.tree.now.keys.now a.tree.now.n (take a.tree.now.n a.tree.now.parents.now) a.v a.j in
    c.min-least.ensures ∙ least_next no_key f l.i c.crossing_key.result l.least c.crossing_key.ensures l.invariant

pub returns : goal.returns
unfolding least_into
returns c = let l = c.loop-i in let e : l.i ≡ c.args.tree.now.n = omega arith in l.invariant ∙ rw e
