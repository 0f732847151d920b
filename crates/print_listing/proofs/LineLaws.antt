-- Lines in a buffer of the longest line's length. Assumes nothing.
use mathlib.Core.Path.{◌≡◌}
use mathlib.Core.List.{List}
use Prim.Native.Nat.{ℕ, ◌^◌, ◌≤◌, ◌<◌}
use native.Mathlib.Omega.{arith}
use lib.ListN.{length, length-take, take}
use Rattle.text.specs.Lines.{codes}
use Rattle.text.proofs.DecimalLaws.{decimal_length}
use Rattle.text.proofs.LineLaws.{line_length}
use Rattle.report_text.specs.Whole.{refused_text}
use Rattle.listing_text.specs.Trees.{max_line}

-- the first bytes of a list are as many as were asked for
pub counted : (k : ℕ) (l : List ℕ) → k ≤ length l → k ≡ length (take k l)
counted k l h = let e = length-take k l in omega arith

-- the line of a refusal, whatever its number
pub refused_fits : (k : ℕ) → k < 2 ^ 32 → length (refused_text k) ≤ max_line
unfolding refused_text codes
refused_fits k h = let d = decimal_length 10 k (omega arith) (omega arith) in omega (arith, line_length (codes "refused ") k)
