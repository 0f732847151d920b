-- The least of the vertices that were passed. Assumes nothing.
use mathlib.Core.Path.{◌≡◌, ◌∙◌}
use native.Mathlib.Omega.{arith}
use lib.ListN.{take}
use Rattle.spanning.specs.Keys.{no_key}
use Rattle.spanning.specs.KeyTables.{least_into, least_crossing}
use Rattle.runs.proofs.ReplacementLaws.{least_first, least_next}
use Rattle.runs.proofs.replacement.least_crossing.Goals as goal

pub loop-j-init : goal.loop-j-init
loop-j-init c = let a = c.args in least_first no_key (least_into a.tree.now.keys.now a.tree.now.n (take a.tree.now.n a.tree.now.parents.now) a.v)

pub loop-j-preserved : goal.loop-j-preserved
loop-j-preserved c =
    let a = c.args in
    let l = c.loop-j in
    let f = least_into a.tree.now.keys.now a.tree.now.n (take a.tree.now.n a.tree.now.parents.now) a.v in
    c.min-least.ensures ∙ least_next no_key f l.j c.least_into.result l.least c.least_into.ensures l.invariant

pub returns : goal.returns
unfolding least_crossing
returns c = let l = c.loop-j in let e : l.j ≡ c.args.tree.now.n = omega arith in l.invariant ∙ rw e
