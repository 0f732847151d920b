-- `cycles::cycle::find_cycle` meets its contract. The inner loop's measure is the number of places with no stamp.
-- Assumes nothing.
use mathlib.Core.Path.{refl, sym, ◌∙◌}
use mathlib.Core.Bool.{true}
use mathlib.Core.Logic.{inl, inr}
use native.Mathlib.Omega.{arith}
use Rattle.std.proofs.lemmas.Option.{none-some, cond_some}
use Rattle.cycles.proofs.CycleLaws.{none_stamped, pass, met, no_cycle, onwards, ends, falls}
use Rattle.cycles.proofs.cycle.find_cycle.Goals as goal
use Rattle.cycles.proofs.cycle.find_cycle.Goals.{else-starts-test, then-starts-test+then-g-s+then-loop-v-test+then-first-met, else-g-s, then-g-s+else-loop-v-test, then-g-s+then-loop-v-test+else-first-met+then-met-gt0}

pub starts-init : goal.starts-init
starts-init c = (omega arith, refl, none_stamped _ _ _ _ c.requires)

pub loop-v-smaller : goal.loop-v-smaller
loop-v-smaller c =
    let sb = c.requires in
    falls _ _ _ _ sb _ _ _ _ _ c.loop-v.invariant.1 (omega arith)

pub loop-v-preserved : goal.loop-v-preserved
loop-v-preserved c =
    let sb = c.requires in
    (c.loop-v.invariant.0, onwards _ _ _ _ sb _ _ _ _ _ c.loop-v.invariant.1 c.loop-v-test.true (omega arith))

pub starts-preserved : goal.starts-preserved
starts-preserved c =
    let sb = c.requires in (
      omega arith,
      elim c.if-g-s.branch [
        | then-g-s+else-loop-v-test w ↦ w.found-is ∙ w.loop-v.invariant.0
        | then-g-s+then-loop-v-test+else-first-met+then-met-gt0 w ↦ w.found-is ∙ w.loop-v.invariant.0
        | else-g-s w ↦ w.found-is ∙ c.starts.invariant.1
      ],
      elim c.if-g-s.branch [ then-g-s+else-loop-v-test w ↦ rw (w.stamp-is, w.now-is) (ends _ _ _ _ sb w.loop-v.stamp c.starts.now w.loop-v.now c.starts.s w.loop-v.v w.loop-v.invariant.1 (inl w.loop-v-test.false)) | then-g-s+then-loop-v-test+else-first-met+then-met-gt0 w ↦ rw (w.stamp-is, w.now-is) (ends _ _ _ _ sb w.loop-v.stamp c.starts.now w.loop-v.now c.starts.s w.loop-v.v w.loop-v.invariant.1 (inr (w.if-met-gt0.true, w.if-first-met.false))) | else-g-s w ↦ rw (w.stamp-is, w.now-is) (pass _ _ _ _ sb c.starts.stamp c.starts.now c.starts.s c.starts.invariant.2 w.if-g-s.false) ],
    )

pub returns-in_err-at-clause-none : goal.returns-in_err-at-clause-none
returns-in_err-at-clause-none c =
    elim c.starts-test.branch [
      | else-starts-test w ↦ rw c.from_residual.ensures (no_cycle _ _ _ _ c.requires c.starts.stamp c.starts.now c.starts.s c.starts.invariant.2 w.starts-test.false)
      | then-starts-test+then-g-s+then-loop-v-test+then-first-met w ↦ absurd (none-some _ (sym (c.in_err-at.was) ∙ w.found-is))
    ]

pub returns-clause-some : goal.returns-clause-some
returns-clause-some c =
    elim c.starts-test.branch [
      | else-starts-test w ↦ absurd (none-some _ (sym c.starts.invariant.1 ∙ sym w.found-is ∙ c.in_ok-at.was))
      | then-starts-test+then-g-s+then-loop-v-test+then-first-met w ↦
          rw (w.stamp-is, (cond_some true _ _ (sym (c.in_ok-at.was) ∙ w.found-is)).1) (met _ _ _ _ c.requires w.loop-v.stamp c.starts.now w.loop-v.now c.starts.s w.loop-v.v w.loop-v.invariant.1 w.if-first-met.true)
    ]
