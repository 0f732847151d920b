-- One arc is exchanged for a tail that is no descendant of the head, two for the others. Assumes nothing.
use native.Mathlib.Omega.{arith}
use lib.ListN.{length-set}
use Rattle.paths.proofs.TreeLaws.{tree_rooted}
use Rattle.detours.proofs.DetourLaws.{detour_one, detour_two, detours_more}
use Rattle.detours.proofs.detour_costs.Goals as goal
use Rattle.detours.proofs.detour_costs.Goals.{else-under-t, then-under-t}

pub descendants-under-requires : goal.descendants-under-requires
descendants-under-requires c =
    let k = c.requires.0 in
    (k.matrix_ok.small, tree_rooted _ _ _ _ k, c.requires.1, c.requires.2)

pub path_least-d-requires : goal.path_least-d-requires
path_least-d-requires c =
    let k = c.requires.0 in
    let l = c.loop-t in (
      k.matrix_ok.small,
      tree_rooted _ _ _ _ k,
      c.requires.1,
      c.requires.2,
      omega arith,
      (c.descendants-under.ensures.at l.t (omega arith)).under c.if-under-t.true,
    )

pub loop-t-preserved : goal.loop-t-preserved
loop-t-preserved c =
    let k = c.requires.0 in
    let l = c.loop-t in
    let small = k.matrix_ok.small in
    let says = c.descendants-under.ensures.at l.t (omega arith) in (
      omega arith,
      simp length-set l.invariant.1,
      detours_more _ _ _ l.table l.t c.if-under-t.d (omega arith) l.invariant.2
          (elim c.if-under-t.branch [
            | then-under-t w ↦ rw w.d-is
                (detour_two _ _ _ _ k _ l.t c.requires.1 c.requires.2 (omega arith) c.descendants-under.result c.descendants-under.ensures
                (says.under w.if-under-t.true) _ _ c.increases-added.ensures w.path_least-d.ensures)
            | else-under-t w ↦ rw w.d-is (detour_one _ _ _ _ k _ l.t (says.apart w.if-under-t.false))
          ]),
    )
