-- The path stays among the descendants of the head, so it does not come to the root; a parent is less deep. Assumes
-- nothing.
use mathlib.Core.Path.{refl}
use mathlib.Core.Logic.{◌≢◌}
use native.Mathlib.Omega.{arith}
use Rattle.std.proofs.Common.{rules}
use Rattle.paths.specs.Paths.{start, onward}
use Rattle.paths.proofs.TreeLaws.{parent_read, rooted_tail, step_falls}
use Rattle.paths.proofs.PathLaws.{root_avoids, descends_on, descends_not}
use Rattle.detours.proofs.DetourLaws.{path_none, path_take}
use Rattle.detours.proofs.path_least.Goals as goal
use Rattle.detours.proofs.path_least.Goals.{else-d-least, then-d-least}
use Rattle.detours.proofs.path_least.Goals.{In-loop-v}

-- the root is no descendant of the head, so the path has not come to it
no_root : (c : In-loop-v) → c.loop-v.v ≢ c.args.root
no_root c e =
    descends_not _ _ c.args.root (rw e at c.loop-v.invariant.1)
    (root_avoids c.args.n c.args.root _ c.requires.1 c.requires.0 c.args.head c.requires.2 c.requires.3)

pub loop-v-init : goal.loop-v-init
loop-v-init c = (c.requires.4, c.requires.5, start, path_none _ _ _ _)

pub loop-v-smaller : goal.loop-v-smaller
loop-v-smaller c =
    step_falls c.args.n c.args.root c.loop-v.v c.args.parents.now c.requires.0 (search rules) c.requires.1 (omega arith) (no_root c.before.before.before.before.before.before)

pub loop-v-preserved : goal.loop-v-preserved
loop-v-preserved c =
    let l = c.loop-v in
    let p = parent_read c.args.n l.v c.args.parents.now c.requires.0 (search rules) l.invariant.0 in
    let up = rooted_tail c.args.n c.args.root l.v c.args.parents.now c.requires.0 (search rules) c.requires.1 l.invariant.0 (no_root c.before.before.before.before.before.before) in
    let ne = c.loop-v-test.true in (
      up,
      rw p (descends_on _ _ l.v ne l.invariant.1),
      rw p (onward l.invariant.2 ne),
      elim c.if-d-least.branch [ then-d-least w ↦ rw w.least-is (path_take _ _ _ _ l.v _ l.invariant.2 ne refl) | else-d-least w ↦ rw w.least-is l.invariant.3 ],
    )
