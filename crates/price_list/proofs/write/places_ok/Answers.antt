-- The places from the last one down pass. Assumes nothing.
use mathlib.Core.Path.{◌≡◌, sym, ap, ◌∙◌}
use Prim.Native.Nat.{◌-◌}
use native.Mathlib.Omega.{arith}
use borrow.Author.Tests.{not-true, not-false}
use Rattle.base.proofs.BoundedLaws.{all_none, all_fail, all_pass}
use Rattle.price_format.specs.Writing.{place_ok}
use Rattle.price_list.proofs.WriteLaws.{price_here}
use Rattle.price_list.proofs.write.places_ok.Goals as goal

pub returns-then-not-place_ok : goal.returns-then-not-place_ok
returns-then-not-place_ok c =
    let l = c.loop-k in
    let a = c.args in
    let p = c.place_ok in
    let e = ap (place_ok a.n a.root (l.k - 1)) (price_here a.prices.now (l.k - 1) (omega (arith, c.requires.2))) in
    sym (l.invariant.1 ∙ all_fail l.k _ c.loop-k-test.true (sym e ∙ sym p.ensures ∙ not-true p.result c.if-not-place_ok.true-raw))

pub loop-k-preserved : goal.loop-k-preserved
loop-k-preserved c =
    let l = c.loop-k in
    let a = c.args in
    let p = c.place_ok in
    let e = ap (place_ok a.n a.root (l.k - 1)) (price_here a.prices.now (l.k - 1) (omega (arith, c.requires.2))) in
    (omega arith, l.invariant.1 ∙ all_pass l.k _ c.loop-k-test.true (sym e ∙ sym p.ensures ∙ not-false p.result c.if-not-place_ok.false-raw))

pub returns : goal.returns
returns c =
    let l = c.loop-k in
    let z : l.k ≡ 0 = omega arith in
    sym (l.invariant.1 ∙ rw z (all_none _))
