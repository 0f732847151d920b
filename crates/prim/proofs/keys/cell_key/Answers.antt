-- Outside and on the diagonal there is no key; inside it is the edge's. Assumes nothing.
use mathlib.Core.Path.{refl, ◌∙◌}
use mathlib.Core.Bool.{true, false}
use Prim.Native.Nat.{◌/◌, ◌%◌}
use lib.Dec.{ltb, eqb}
use borrow.Author.Tests.{lt-ltb, le-ltb, eq-eqb, ne_eqb}
use Rattle.spanning.specs.Graph.{graph_of}
use Rattle.prim.proofs.KeysLaws.{cell_none, cell_some}
use Rattle.prim.proofs.keys.cell_key.Goals as goal
use Rattle.prim.proofs.keys.cell_key.Goals.{else-i-n-via-then-i-n+then-j-n+else-i-j, else-i-n-via-then-i-n+else-j-n, else-i-n-via-else-i-n}

pub returns-then-i-j : goal.returns-then-i-j
returns-then-i-j c =
    let a = c.args in
    c.edge_key.ensures ∙ cell_some (graph_of a.n a.weights.now a.marks.now) a.c (lt-ltb (a.c / 32) a.n c.if-i-n.true) (lt-ltb (a.c % 32) a.n c.if-j-n.true) (ne_eqb (a.c / 32) (a.c % 32) c.if-i-j.true)

pub returns : goal.returns
returns c =
    let a = c.args in
    let none = cell_none (graph_of a.n a.weights.now a.marks.now) a.c in
    elim c.else-i-n.branch [
      | else-i-n-via-then-i-n+then-j-n+else-i-j w ↦
          none true true true (lt-ltb (a.c / 32) a.n w.if-i-n.true) (lt-ltb (a.c % 32) a.n w.if-j-n.true) (eq-eqb (a.c / 32) (a.c % 32) w.if-i-j.false) refl
      | else-i-n-via-then-i-n+else-j-n w ↦
          none true false (eqb (a.c / 32) (a.c % 32)) (lt-ltb (a.c / 32) a.n w.if-i-n.true) (le-ltb (a.c % 32) a.n w.if-j-n.false) refl refl
      | else-i-n-via-else-i-n w ↦ none false (ltb (a.c % 32) a.n) (eqb (a.c / 32) (a.c % 32)) (le-ltb (a.c / 32) a.n w.if-i-n.false) refl refl refl
    ]
