-- How long the first two lines can be: the fixed part, and each number's digits. Assumes nothing.
use Prim.Native.Nat.{ℕ, ◌+◌, ◌^◌, ◌≤◌, ◌<◌}
use native.Mathlib.Omega.{arith}
use lib.ListN.{length}
use Rattle.instance.specs.States.{total_in}
use Rattle.instance.specs.declared.Outcome.{Outcome}
use Rattle.instance.specs.declared.Outcome.TheVariants.{Plan, Over, NoTree}
use Rattle.text.specs.Decimal.{decimal}
use Rattle.text.specs.Lines.{codes}
use Rattle.text.proofs.DecimalLaws.{decimal_length}
use Rattle.text.proofs.LineLaws.{line_length, three_length}
use Rattle.report_text.specs.Heading.{header_line, outcome_line}

pub header_length : (n r b : ℕ) → n < 100 → b < 10 ^ 8 → length (header_line n r b) ≤ 35 + length (decimal r)
unfolding header_line codes
header_length n r b hn hb =
    let a = decimal_length 2 n (omega arith) hn in
    let d = decimal_length 8 b (omega arith) hb in
    omega (arith, three_length (codes "positions ") n (codes " root ") r (codes " budget ") b)

pub outcome_length : (o : Outcome) → total_in o < 10 ^ 8 → length (outcome_line o) ≤ 14
unfolding outcome_line codes
outcome_length (Plan v) h = let d = decimal_length 8 v (omega arith) h in omega (arith, line_length (codes "plan ") v)
outcome_length (Over v) h = let d = decimal_length 8 v (omega arith) h in omega (arith, line_length (codes "over ") v)
outcome_length NoTree h = omega arith
