-- j is below v; the key counts where i is not, and the edge is not v's own. Assumes nothing.
use mathlib.Core.Path.{sym, ◌∙◌}
use Rattle.spanning.specs.KeyTables.{crossing_key}
use Rattle.runs.proofs.replacement.crossing_key.Goals as goal
use Rattle.runs.proofs.replacement.crossing_key.Goals.{then-tree-v-via-then-tree-v, then-tree-v-via-else-tree-v+then-is_own}

pub returns-then-tree-v : goal.returns-then-tree-v
unfolding crossing_key
returns-then-tree-v c =
    let a = c.args in
    let p = c.requires in
    let t = sym (a.tree.now.table a.v a.i p.0 p.1 p.3) in
    elim c.then-tree-v.branch [
      | then-tree-v-via-then-tree-v w ↦ rw (p.4, t ∙ w.if-tree-v.true)
      | then-tree-v-via-else-tree-v+then-is_own w ↦ rw (p.4, t ∙ w.if-tree-v.false, sym w.is_own.ensures ∙ w.if-is_own.true)
    ]

pub returns : goal.returns
unfolding crossing_key
returns c =
    let a = c.args in
    let p = c.requires in
    rw (p.4, sym (a.tree.now.table a.v a.i p.0 p.1 p.3) ∙ c.if-tree-v.false, sym c.is_own.ensures ∙ c.if-is_own.false)
