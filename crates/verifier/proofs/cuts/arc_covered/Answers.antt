-- `arc_covered` is the definition: a cell without an arc passes. Assumes nothing.
use mathlib.Core.Path.{◌≡◌, sym, ap, ◌∙◌}
use mathlib.Core.Bool.{true}
use mathlib.Core.List.{List}
use Prim.Native.Nat.{ℕ}
use native.Mathlib.Omega.{arith}
use lib.Dec.{leb}
use Rattle.instance.specs.Instance.{is_arc}
use Rattle.instance.specs.Cuts.{charged}
use Rattle.instance.specs.Matrix.{unmarked}
use Rattle.instance.proofs.ArcLaws.{Ends, arc_ends}
use Rattle.certificate.specs.Certificate.{covered}
use Rattle.verifier.specs.Pairs.{cuts_of}
use Rattle.verifier.proofs.CutsLaws.{no_arc_passes, arc_tested, matrix_weight}
use Rattle.verifier.proofs.cuts.arc_covered.Goals as goal

-- where there is an arc, both ends are vertices
ends : (n r : ℕ) (m : List ℕ) (t h : ℕ) → is_arc (unmarked n r m) t h ≡ true → Ends n r t h
unfolding unmarked
ends n r m t h e = arc_ends (unmarked n r m) t h e

pub returns-then-not-is_arc : goal.returns-then-not-is_arc
returns-then-not-is_arc c =
    let a = c.args in
    no_arc_passes a.arcs.now.n a.arcs.now.root a.arcs.now.weights.now (covered (unmarked a.arcs.now.n a.arcs.now.root a.arcs.now.weights.now) (cuts_of a.cuts.now)) a.tail a.head (sym c.is_arc.ensures ∙ c.if-not-is_arc.true)

pub overflow_mul-i : goal.overflow_mul-i
overflow_mul-i c = let a = c.args in let e = ends a.arcs.now.n a.arcs.now.root a.arcs.now.weights.now a.tail a.head (sym c.is_arc.ensures ∙ c.if-not-is_arc.false) in let x = e.tail_below in omega arith

pub overflow_add-i : goal.overflow_add-i
overflow_add-i c =
    let a = c.args in
    let e = ends a.arcs.now.n a.arcs.now.root a.arcs.now.weights.now a.tail a.head (sym c.is_arc.ensures ∙ c.if-not-is_arc.false) in
    let x = e.tail_below in
    let y = e.head_below in
    omega arith

pub bounds-arcs-i : goal.bounds-arcs-i
bounds-arcs-i c =
    let a = c.args in
    let e = ends a.arcs.now.n a.arcs.now.root a.arcs.now.weights.now a.tail a.head (sym c.is_arc.ensures ∙ c.if-not-is_arc.false) in
    let x = e.tail_below in
    let y = e.head_below in
    omega arith

pub is_covered-requires : goal.is_covered-requires
is_covered-requires c =
    let a = c.args in
    let e = ends a.arcs.now.n a.arcs.now.root a.arcs.now.weights.now a.tail a.head (sym c.is_arc.ensures ∙ c.if-not-is_arc.false) in
    let x = e.tail_below in
    let y = e.head_below in
    (omega arith, omega arith)

pub returns : goal.returns
returns c =
    let a = c.args in
    let arc = sym c.is_arc.ensures ∙ c.if-not-is_arc.false in
    let e = ends a.arcs.now.n a.arcs.now.root a.arcs.now.weights.now a.tail a.head arc in
    let x = e.tail_below in
    let y = e.head_below in
    let cs = cuts_of a.cuts.now in
    c.is_covered.ensures
    ∙ ap (λ (x : ℕ). leb (charged cs a.tail a.head) x) (matrix_weight a.arcs.now.n a.arcs.now.root a.arcs.now.weights.now a.tail a.head (omega arith) (omega arith))
    ∙ arc_tested a.arcs.now.n a.arcs.now.root a.arcs.now.weights.now (covered (unmarked a.arcs.now.n a.arcs.now.root a.arcs.now.weights.now) cs) a.tail a.head arc
