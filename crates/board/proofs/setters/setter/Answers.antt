-- The records are passed from the latest down. The invariant: the first k records decide. Assumes nothing.
use mathlib.Core.Path.{sym, ◌∙◌}
use native.Mathlib.Omega.{arith}
use Rattle.board.proofs.SettersLaws.{setter_none, setter_here, setter_past}
use Rattle.board.proofs.setters.setter.Goals as goal

pub returns-then-record_names : goal.returns-then-record_names
returns-then-record_names c =
    let l = c.loop-k in
    let p = c.loop-k-test.true in
    let e = l.invariant.1 ∙ setter_here _ _ _ l.k p (sym c.record_names.ensures ∙ c.if-record_names.true) in
    omega (arith, e, p)

pub loop-k-preserved : goal.loop-k-preserved
loop-k-preserved c =
    let l = c.loop-k in
    (omega arith, l.invariant.1 ∙ setter_past _ _ _ l.k c.loop-k-test.true (sym c.record_names.ensures ∙ c.if-record_names.false))

pub returns : goal.returns
returns c = let l = c.loop-k in sym (l.invariant.1 ∙ setter_none _ _ _ l.k (omega arith))
