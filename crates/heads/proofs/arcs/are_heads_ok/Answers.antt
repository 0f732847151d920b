-- `are_heads_ok` is the definition: the heads below `head` decide what is left. Assumes nothing.
use mathlib.Core.Path.{◌≡◌, sym, ap, ◌∙◌}
use mathlib.Core.Bool.{true, false}
use Prim.Native.Nat.{ℕ, ◌-◌}
use native.Mathlib.Omega.{arith}
use mir.Val.{Fits}
use mir.Syntax.{w32}
use borrow.Author.Tests.{not-true, not-false}
use borrow.Author.Rules.{rules}
use Rattle.base.specs.Bounded.{all_below}
use Rattle.instance.specs.Limits.{max_vertices}
use Rattle.instance.specs.Matrix.{unmarked}
use Rattle.commands.specs.Valid.{record_ok}
use Rattle.base.proofs.BoundedLaws.{all_none, all_fail, all_pass}
use Rattle.instance.proofs.SetBits.{none_inside, some_inside}
use Rattle.heads.proofs.RecordMarksLaws.{record_marks_ok}
use Rattle.heads.proofs.arcs.are_heads_ok.Goals as goal
use Rattle.heads.proofs.arcs.are_heads_ok.Invariants.{ok}

pub returns-then-heads-eq0 : goal.returns-then-heads-eq0
unfolding record_ok
returns-then-heads-eq0 c = rw (c.if-heads-eq0.true, none_inside max_vertices)

pub returns-then-not-is_head_ok : goal.returns-then-not-is_head_ok
unfolding record_ok
returns-then-not-is_head_ok c =
    let a = c.args in
    let l = c.loop-head in
    let P = ok a.weights.now a.n a.root a.tail a.heads a.old in
    let s = unmarked a.n a.root a.weights.now in
    let e : P (l.head - 1) ≡ false =
    sym (record_marks_ok a.heads a.old s a.tail (l.head - 1) (omega arith)) ∙ sym c.is_head_ok.ensures ∙ not-true _ c.if-not-is_head_ok.true-raw in
    let f : Fits w32 a.heads = search rules in
    sym (rw (some_inside max_vertices a.heads f.fits (omega arith)) (l.invariant.1 ∙ all_fail l.head P (omega arith) e))

pub loop-head-preserved : goal.loop-head-preserved
loop-head-preserved c =
    let a = c.args in
    let l = c.loop-head in
    let P = ok a.weights.now a.n a.root a.tail a.heads a.old in
    let s = unmarked a.n a.root a.weights.now in
    let e : P (l.head - 1) ≡ true =
    sym (record_marks_ok a.heads a.old s a.tail (l.head - 1) (omega arith)) ∙ sym c.is_head_ok.ensures ∙ not-false _ c.if-not-is_head_ok.false-raw in
    (omega arith, l.invariant.1 ∙ all_pass l.head P (omega arith) e)

pub returns : goal.returns
unfolding record_ok
returns c =
    let a = c.args in
    let l = c.loop-head in
    let P = ok a.weights.now a.n a.root a.tail a.heads a.old in
    let z : l.head ≡ 0 = omega arith in
    let f : Fits w32 a.heads = search rules in
    sym (rw (some_inside max_vertices a.heads f.fits (omega arith)) (l.invariant.1 ∙ ap (λ (k : ℕ). all_below k P) z ∙ all_none P))
