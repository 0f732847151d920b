-- The three numbers and what stands between and behind them. Assumes nothing.
use mathlib.Core.Path.{sym, ◌∙◌}
use Prim.Native.Nat.{ℕ, ◌/◌, ◌%◌, ◌^◌, ◌≤◌, ◌<◌}
use native.Mathlib.Omega.{arith}
use native.Mathlib.Nat.{div-le_self, mod-le}
use lib.ListN.{length}
use Rattle.text.specs.Decimal.{decimal}
use Rattle.text.proofs.DecimalLaws.{decimal_length}
use Rattle.price_list.proofs.WriteLaws.{written_length, unwritten_length}
use Rattle.price_list.proofs.write.place_length.Goals as goal

-- no number of 32 bits has more than ten digits, and neither has a part of one
short : (v w : ℕ) → w ≤ v → v < 2 ^ 32 → length (decimal w) ≤ 10
short v w h b = decimal_length 10 w (omega arith) (omega arith)

lengths : (c : goal.After-decimal_length-then-is_written)
    → (c.decimal_length.result ≤ 10) × (c.decimal_length-then-is_written.result ≤ 10)
lengths c =
    let a = short c.args.k (c.args.k / c.args.n) (div-le_self c.args.k c.args.n) c.ranges.k.fits in
    let b = short c.args.k (c.args.k % c.args.n) (mod-le c.args.k c.args.n) c.ranges.k.fits in
    (omega (arith, c.decimal_length.ensures), omega (arith, c.decimal_length-then-is_written.ensures))

all_lengths : (c : goal.After-decimal_length-then-is_written-2)
    → (c.decimal_length.result ≤ 10) × (c.decimal_length-then-is_written.result ≤ 10) × (c.decimal_length-then-is_written-2.result ≤ 10)
all_lengths c =
    let a = short c.args.k (c.args.k / c.args.n) (div-le_self c.args.k c.args.n) c.ranges.k.fits in
    let b = short c.args.k (c.args.k % c.args.n) (mod-le c.args.k c.args.n) c.ranges.k.fits in
    let d = short c.args.price c.args.price (omega arith) c.ranges.price.fits in
    (omega (arith, c.decimal_length.ensures), omega (arith, c.decimal_length-then-is_written.ensures), omega (arith, c.decimal_length-then-is_written-2.ensures))

pub overflow_add-result : goal.overflow_add-result
overflow_add-result c = omega (arith, lengths c)

pub overflow_add-result-then-is_written : goal.overflow_add-result-then-is_written
overflow_add-result-then-is_written c = omega (arith, all_lengths c)

pub overflow_add-result-then-is_written-2 : goal.overflow_add-result-then-is_written-2
overflow_add-result-then-is_written-2 c = omega (arith, all_lengths c)

pub returns-then-is_written : goal.returns-then-is_written
returns-then-is_written c =
    let a = c.args in
    let l = c.is_written in
    let e = written_length a.n a.root a.k a.price (sym l.ensures ∙ c.if-is_written.true) in
    omega (arith, c.decimal_length-then-is_written-2.ensures, c.decimal_length-then-is_written.ensures, c.decimal_length.ensures)

pub returns : goal.returns
returns c =
    let a = c.args in
    let l = c.is_written in
    sym (unwritten_length a.n a.root a.k a.price (sym l.ensures ∙ c.if-is_written.false))
