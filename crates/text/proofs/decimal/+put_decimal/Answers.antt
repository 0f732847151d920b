-- The digits before the last are the number's tenth, so the measure is the number. Assumes nothing.
use mathlib.Core.List.{List, [], ◌∷◌, ◌++◌}
use Prim.Native.Nat.{ℕ, ◌+◌, ◌/◌, ◌%◌, ◌^◌, ◌≤◌, ◌<◌}
use native.Mathlib.Omega.{arith}
use lib.ListN.{length, set}
use Rattle.text.specs.Decimal.{decimal}
use Rattle.text.specs.Buffer.{Room, Puts}
use Rattle.text.proofs.DecimalLaws.{decimal_few, decimal_more, length_few, length_more}
use Rattle.text.proofs.BufferLaws.{puts_one, byte_room, puts_byte}
use Rattle.text.proofs.decimal.+put_decimal.Goals as goal

-- one digit
few : (t : ℕ) (c : goal.Then-v-lt10 t)
    → c.args.at < length c.args.out.now
few t c = let l = length_few c.args.v (omega arith) in omega (arith, c.requires.long_enough)

-- several
in_32 : {v : ℕ} → v < 2 ^ 32 → v < 10 ^ 10
in_32 h = omega arith

last : (v : ℕ) {old mid : List ℕ} {at m : ℕ} → 10 ≤ v → v < 2 ^ 32 → Room (decimal v) old at → Puts (decimal (v / 10)) old mid at m
    → (m < length mid) × Puts (decimal v) old (set mid m (48 + v % 10)) at (m + 1)
last v {old} {mid} {at} {m} h b room w =
    let e = decimal_more v h (in_32 b) in
    let r : Room (decimal (v / 10) ++ ((48 + v % 10) ∷ [])) old at = rw e at room in
    (byte_room w (48 + v % 10) r, rw e (puts_byte w (48 + v % 10) r))

-- there is room for the last digit
several : (t : ℕ) (c : goal.After-slice_known-2-1 t)
    → c.put_decimal-last.result < length c.put_decimal-last.new.out
several t c =
    (last c.args.v c.if-v-lt10.false c.ranges.v.fits c.requires c.put_decimal-last.ensures).0

pub bounds-out-at : goal.bounds-out-at
bounds-out-at t c = few t c

pub returns-then-v-lt10 : goal.returns-then-v-lt10
returns-then-v-lt10 t c = rw (decimal_few c.args.v (omega arith)) (puts_one _ _ _ (few t c))

pub put_decimal-last-requires : goal.put_decimal-last-requires
put_decimal-last-requires t c =
    let e = length_more c.args.v c.if-v-lt10.false (in_32 c.ranges.v.fits) in
    (omega arith, record { long_enough = omega (arith, c.requires.long_enough) })

pub bounds-out-last : goal.bounds-out-last
bounds-out-last t c = several t c

pub overflow_add-result-2 : goal.overflow_add-result-2
overflow_add-result-2 t c = let h = several t c in omega (arith, c.well_formed.1.0.0, c.put_decimal-last.auto.out)

pub returns : goal.returns
returns t c =
    (last c.args.v c.if-v-lt10.false c.ranges.v.fits c.requires c.put_decimal-last.ensures).1
