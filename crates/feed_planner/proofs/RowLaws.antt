-- A row that is used ends within both lists, and the two words tell the very row. Assumes nothing.
use mathlib.Core.Path.{◌≡◌, refl}
use mathlib.Core.Bool.{Bool, true, false, cond}
use mathlib.Core.List.{List}
use Prim.Native.Nat.{ℕ, ◌+◌, ◌*◌, ◌≤◌}
use native.Mathlib.Omega.{arith}
use lib.Dec.{eqb}
use lib.ListN.{length, take, drop}
use Rattle.base.proofs.GridLaws.{grid_in, square_most}
use Rattle.instance.specs.Limits.{max_vertices}
use Rattle.instance.specs.Refusals.{out_of_range}
use Rattle.card_format.proofs.CellLaws.{first_passes}
use Rattle.price_row.specs.Row.{row_at, is_own, room_refusal, row_ok, chosen_row, row_refusal}
use Rattle.price_row.specs.Readings.{Sized}
use Rattle.price_row.proofs.RowLaws.{room_passed}
use Rattle.feed_planner.specs.Rows.{TellsRow}

row_sized : (n t : ℕ) (a b : List ℕ) → row_refusal n t a b ≡ 0 → Sized n t (length a) (length b)
unfolding row_refusal
row_sized n t a b e =
    let r = room_refusal n t (length a) (length b) in
    room_passed n t (length a) (length b) (first_passes r (cond (row_ok (chosen_row n t a b)) 0 out_of_range) e).0

pub row_within : (n t : ℕ) (a b : List ℕ) → row_refusal n t a b ≡ 0 → (t * n + n ≤ 1024) × (t * n + n ≤ length a)
row_within n t a b e =
    let s = row_sized n t a b e in
    let i = grid_in n t n s.below in
    let q = square_most n max_vertices s.small in
    let l = s.first in
    (omega arith, omega arith)

-- the n numbers from the told place on, in the told list, are the row that is used
pub told_row : (n t own own' place place' : ℕ) (a b : List ℕ) → TellsRow a b n t own own' place place' 0
    → take n (drop place' (cond (eqb own' 1) a b)) ≡ chosen_row n t a b
unfolding chosen_row row_at
told_row n t own own' place place' a b r = rw (r.list, r.start) (by (is_own n t a))
  where
    by : (x : Bool) → take n (drop (t * n) (cond (eqb (cond x 1 0) 1) a b)) ≡ cond x (take n (drop (t * n) a)) (take n (drop (t * n) b))
    by true = refl
    by false = refl
