-- The cuts from k on have been looked at. Assumes nothing.
use mathlib.Core.Path.{◌≡◌, sym, ◌∙◌}
use native.Mathlib.Omega.{arith}
use Rattle.instance.proofs.SetBits.{one_shifted}
use Rattle.first_tree.proofs.FixingLaws.{fixing_skip, fixing_within, fixed_tails}
use Rattle.first_tree.proofs.fixing.fix_arc.Goals as goal

pub loop-k-preserved-then-is_entering : goal.loop-k-preserved-then-is_entering
loop-k-preserved-then-is_entering c =
    let l = c.loop-k in
    let a = c.args in
    let t = c.loop-k-test.true in (
      omega arith,
      omega arith,
      fixing_within a.search.cuts.now a.search.n a.search.count a.tail a.head a.tails.now l.tails l.k (omega arith) l.invariant.1 l.invariant.2
          (sym c.is_entering.ensures ∙ c.if-is_entering.true) _ c.keep_within.ensures,
    )

pub loop-k-preserved : goal.loop-k-preserved
loop-k-preserved c =
    let l = c.loop-k in
    let a = c.args in
    let t = c.loop-k-test.true in (
      omega arith,
      omega arith,
      fixing_skip a.search.cuts.now a.search.n a.search.count a.tail a.head a.tails.now l.tails l.k (omega arith) l.invariant.1 l.invariant.2
          (sym c.is_entering.ensures ∙ c.if-is_entering.false),
    )

pub returns : goal.returns
returns c =
    let l = c.loop-k in
    let a = c.args in
    let p = c.requires in
    let e : l.k ≡ a.search.from.0 = omega (arith, l.invariant.0) in
    rw (one_shifted a.tail (omega (arith, p.0, p.3)))
    (fixed_tails a.search.cuts.now a.search.n a.search.count a.tail a.head a.tails.now l.tails a.search.from.0 p.0 p.1 p.4 p.5 (rw e at l.invariant.2))
