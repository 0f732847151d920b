-- By which of the two is the other's parent, if any. Assumes nothing.
use lib.ListN.{get_or}
use Rattle.runs.proofs.ShowLaws.{pair_down, pair_up, pair_out}
use Rattle.runs.proofs.show.cost_at.Goals as goal

pub returns-then-parents-j : goal.returns-then-parents-j
returns-then-parents-j c =
    let a = c.args in
    let p = c.requires in
    pair_down a.n a.parents.now p.0 a.i a.j p.1 p.2 (λ v. get_or a.costs.now v 0) c.if-parents-j.true

pub returns-then-parents-i : goal.returns-then-parents-i
returns-then-parents-i c =
    let a = c.args in
    let p = c.requires in
    pair_up a.n a.parents.now p.0 a.i a.j p.1 p.2 (λ v. get_or a.costs.now v 0) c.if-parents-j.false c.if-parents-i.true

pub returns : goal.returns
returns c =
    let a = c.args in
    let p = c.requires in
    pair_out a.n a.parents.now p.0 a.i a.j p.1 p.2 (λ v. get_or a.costs.now v 0) c.if-parents-j.false c.if-parents-i.false
