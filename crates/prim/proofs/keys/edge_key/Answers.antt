-- By the mark, and else the weight and 1, which fits. Assumes nothing.
use mathlib.Core.Path.{sym, ◌∙◌, ap}
use Prim.Native.Nat.{ℕ, ◌+◌}
use native.Mathlib.Omega.{arith}
use Rattle.spanning.specs.Graph.{graph_of}
use Rattle.spanning.proofs.GraphLaws.{edge_weight_most}
use Rattle.spanning.proofs.KeyLaws.{key_pinned, key_banned, key_other}
use Rattle.prim.proofs.KeysLaws.{weight_read}
use Rattle.prim.proofs.keys.edge_key.Goals as goal

pub returns-in-1 : goal.returns-in-1
returns-in-1 c = let a = c.args in sym (key_pinned (graph_of a.n a.weights.now a.marks.now) a.i a.j c.in-1.is)

pub returns-in-2 : goal.returns-in-2
returns-in-2 c = let a = c.args in sym (key_banned (graph_of a.n a.weights.now a.marks.now) a.i a.j c.in-2.is)

pub overflow_add-result : goal.overflow_add-result
overflow_add-result c =
    let a = c.args in
    let g = graph_of a.n a.weights.now a.marks.now in
    let w = weight_read g c.requires.0 a.i a.j c.requires.1 c.requires.2 in
    let m = edge_weight_most g c.requires.0 a.i a.j c.requires.1 c.requires.2 c.requires.3 in
    omega arith

pub returns-in_default : goal.returns-in_default
returns-in_default c =
    let a = c.args in
    let g = graph_of a.n a.weights.now a.marks.now in
    let w = weight_read g c.requires.0 a.i a.j c.requires.1 c.requires.2 in
    ap (λ (k : ℕ). k + 1) w ∙ sym (key_other g a.i a.j (λ e. omega arith) (λ e. omega arith))
