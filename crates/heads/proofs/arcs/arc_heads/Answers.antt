-- `arc_heads` has gathered the heads below `head` that have an arc. Assumes nothing.
use mathlib.Core.Path.{◌≡◌, sym, ◌∙◌}
use native.Mathlib.Omega.{arith}
use Rattle.instance.specs.Limits.{max_vertices}
use Rattle.instance.specs.Matrix.{unmarked}
use Rattle.commands.specs.Heads.{names_arc, heads_of}
use Rattle.base.proofs.DigitLaws.{digits_none}
use Rattle.instance.proofs.SetBits.{set_fits, set_more, set_skip}
use Rattle.heads.proofs.arcs.arc_heads.Goals as goal
use Rattle.heads.proofs.arcs.arc_heads.Goals.{else-names_arc, then-names_arc}

pub loop-head-init : goal.loop-head-init
loop-head-init c = (omega arith, rw (digits_none 2 _))

pub overflow_add-arcs : goal.overflow_add-arcs
overflow_add-arcs c = let a = c.args in
    record { fits = set_fits (names_arc (unmarked a.n a.root a.weights.now) a.tail a.heads) _ _ (omega arith) c.loop-head.invariant.1 }

pub loop-head-preserved : goal.loop-head-preserved
loop-head-preserved c =
    let l = c.loop-head in
    let a = c.args in
    let q = names_arc (unmarked a.n a.root a.weights.now) a.tail a.heads in
    let r = c.names_arc.ensures in (
      omega arith,
      elim c.if-names_arc.branch [ then-names_arc w ↦ rw w.arcs-is (set_more q _ _ (omega arith) l.invariant.1 (sym r ∙ w.if-names_arc.true)) | else-names_arc w ↦ rw w.arcs-is (set_skip q _ _ (omega arith) l.invariant.1 (sym r ∙ w.if-names_arc.false)) ],
    )

pub returns : goal.returns
unfolding heads_of
returns c = let e : c.loop-head.head ≡ max_vertices = omega arith in rw e at c.loop-head.invariant.1
