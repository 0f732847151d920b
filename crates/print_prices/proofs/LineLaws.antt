-- The line that goes with a list fits its buffer, whatever its numbers. Assumes nothing.
use Prim.Native.Nat.{ℕ, ◌^◌, ◌≤◌, ◌<◌}
use native.Mathlib.Omega.{arith}
use lib.ListN.{length}
use Rattle.text.specs.Lines.{codes}
use Rattle.text.proofs.DecimalLaws.{decimal_length}
use Rattle.text.proofs.LineLaws.{three_length}
use Rattle.report_text.specs.Heading.{header_line}

pub numbers_fit : (n r b : ℕ) → n < 2 ^ 32 → r < 2 ^ 32 → b < 2 ^ 32 → length (header_line n r b) ≤ 64
unfolding header_line codes
numbers_fit n r b hn hr hb =
    let x = decimal_length 10 n (omega arith) (omega arith) in
    let y = decimal_length 10 r (omega arith) (omega arith) in
    let z = decimal_length 10 b (omega arith) (omega arith) in
    omega (arith, three_length (codes "positions ") n (codes " root ") r (codes " budget ") b)
