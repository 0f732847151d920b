-- The latest record that names an arc, record by record. Assumes nothing.
use mathlib.Core.Path.{◌≡◌}
use mathlib.Core.Bool.{true, false}
use mathlib.Core.List.{List}
use Prim.Native.Nat.{ℕ, ◌-◌, ◌<◌}
use native.Mathlib.Omega.{arith}
use lib.ListN.{get_or}
use Rattle.commands.specs.Setters.{latest_place, record_names, setter}
use Rattle.board.specs.ModelOf.{replaced_of, blank_record, history_of}
use Rattle.board.specs.declared.UndoRecord.{UndoRecord}
use Rattle.board.proofs.ModelOfLaws.{history_step, length_history}

module _ (rs : List UndoRecord) (t h : ℕ) where
  pub setter_none : (k : ℕ) → k ≡ 0 → setter (history_of k rs) t h ≡ 0
  unfolding history_of setter latest_place
  setter_none k e = rw e

  pub setter_here : (k : ℕ) → 0 < k → record_names t h (replaced_of (get_or rs (k - 1) blank_record).replaced) ≡ true → setter (history_of k rs) t h ≡ k
  unfolding setter latest_place
  setter_here k l e = rw (history_step k rs l, e) (omega (arith, length_history (k - 1) rs))

  pub setter_past :
      (k : ℕ) → 0 < k → record_names t h (replaced_of (get_or rs (k - 1) blank_record).replaced) ≡ false →
      setter (history_of k rs) t h ≡ setter (history_of (k - 1) rs) t h
  unfolding setter latest_place
  setter_past k l e = rw (history_step k rs l, e)
