-- The groups before the last are the number's thousands. Assumes nothing.
use mathlib.Core.Path.{◌≡◌}
use mathlib.Core.List.{◌∷◌, ◌++◌}
use Prim.Native.Nat.{ℕ, ◌/◌, ◌%◌, ◌^◌, ◌≤◌, ◌<◌}
use native.Mathlib.Omega.{arith}
use Rattle.text.proofs.BufferLaws.{room_first, puts_room, puts_then}
use Rattle.why_text.specs.Grouped.{comma, three_digits, grouped}
use Rattle.why_text.proofs.GroupedLaws.{grouped_few, grouped_more}
use Rattle.why_text.proofs.grouped.+put_grouped.Goals as goal

-- the thousands, and the last group behind them
several : {v : ℕ} → 1000 ≤ v → v < 2 ^ 32 → grouped v ≡ grouped (v / 1000) ++ (comma ∷ three_digits (v % 1000))
several {v} h b = grouped_more v h (omega arith)

pub put_decimal-requires : goal.put_decimal-requires
put_decimal-requires t c = rw (grouped_few _ c.if-v-lt1000.true) at c.requires

pub returns-then-v-lt1000 : goal.returns-then-v-lt1000
returns-then-v-lt1000 t c = rw (grouped_few _ c.if-v-lt1000.true) c.put_decimal.ensures

pub put_grouped-next-requires : goal.put_grouped-next-requires
put_grouped-next-requires t c =
    (omega arith, room_first _ (rw (several c.if-v-lt1000.false c.ranges.v.fits) at c.requires))

pub put_thousands-requires : goal.put_thousands-requires
put_thousands-requires t c =
    record { v_bound = omega arith; room = puts_room c.put_grouped-next.ensures _ (rw (several c.if-v-lt1000.false c.ranges.v.fits) at c.requires) }

pub returns : goal.returns
returns t c =
    let e = several c.if-v-lt1000.false c.ranges.v.fits in
    rw e (puts_then c.put_grouped-next.ensures (rw e at c.requires) c.put_thousands.ensures)
