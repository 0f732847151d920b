-- `charging::charge::charge_group` meets its contract: one law for each way to return. Assumes nothing.
use native.Mathlib.Omega.{arith}
use Rattle.std.proofs.Common.{rules}
use Rattle.charging.proofs.ChargeLaws.{charged, uncharged, no_arcs}
use Rattle.charging.proofs.charge.charge_group.Goals as goal

pub returns-in_default-clause-err : goal.returns-in_default-clause-err
returns-in_default-clause-err c = no_arcs c.in_default.ensures c.members.ensures

pub returns-then-weight-eq0-clause-ok : goal.returns-then-weight-eq0-clause-ok
returns-then-weight-eq0-clause-ok c = uncharged _ _ _ _ c.in-Some.ensures _ _ c.if-weight-eq0.true

pub returns-clause-ok : goal.returns-clause-ok
returns-clause-ok c =
    let nz = c.if-weight-eq0.false in
    rw c.put_cut.ensures (charged _ _ _ _ c.in-Some.ensures _ c.lower_arcs.ensures c.requires.0 _ _ _ c.requires.2 (search rules) c.members-2.ensures (omega arith))
