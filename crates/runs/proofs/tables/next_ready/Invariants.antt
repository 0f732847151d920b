-- No vertex that was passed is ready. Assumes nothing.
use mathlib.Core.Path.{◌≡◌}
use mathlib.Core.Bool.{false}
use mathlib.Core.Logic.{◌≢◌}
use Prim.Native.Nat.{ℕ, ◌<◌}
use Rattle.runs.specs.Tables.{is_ready}
use Rattle.runs.proofs.tables.next_ready.Given as goal

abbrev pub invariant-loop-v : goal.invariant-loop-v
invariant-loop-v l = (w : ℕ) → w < l.v → w ≢ 0 → is_ready l.parents l.done w ≡ false
