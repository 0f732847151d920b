-- How long the first two lines can be. Assumes nothing.
use Prim.Native.Nat.{ℕ, ◌^◌, ◌≤◌, ◌<◌}
use native.Mathlib.Omega.{arith}
use lib.ListN.{length, length-append}
use Rattle.enumeration.specs.declared.Ended.{Ended}
use Rattle.enumeration.specs.declared.Ended.TheVariants.{Complete, AtLimit, NoRoom}
use Rattle.text.specs.Lines.{codes, labelled, line}
use Rattle.text.proofs.DecimalLaws.{decimal_length}
use Rattle.text.proofs.LineLaws.{labelled_length, line_length}
use Rattle.report_text.specs.Heading.{header_line}
use Rattle.report_text.proofs.HeadingLaws.{header_length}
use Rattle.listing_text.specs.Heading.{ending_label, ending_line, heading_lines}
use Rattle.listing_text.specs.Trees.{max_line}

label_length : (e : Ended) → length (ending_label e) ≤ 15
unfolding ending_label codes
label_length Complete = omega arith
label_length AtLimit = omega arith
label_length NoRoom = omega arith

-- a number of 32 bits has at most ten digits
ending_length : (e : Ended) (k t : ℕ) → k < 10 ^ 10 → t < 10 ^ 10 → length (ending_line e k t) ≤ 43
unfolding ending_line codes
ending_length e k t hk ht =
    let l = label_length e in
    let a = decimal_length 10 k (omega arith) hk in
    let d = decimal_length 10 t (omega arith) ht in
    let s = length-append (labelled (ending_label e) k) (line (codes " tries ") t) in
    omega (arith, labelled_length (ending_label e) k, line_length (codes " tries ") t)

pub heading_length :
    (n r b : ℕ) (e : Ended) (k t : ℕ) → n < 100 → r < 100 → b < 10 ^ 8 → k < 2 ^ 32 → t < 2 ^ 32 → length (heading_lines n r b e k t) ≤ max_line
unfolding heading_lines
heading_length n r b e k t hn hr hb hk ht =
    let x = header_length n r b hn hb in
    let y = decimal_length 2 r (omega arith) hr in
    let z = ending_length e k t (omega arith) (omega arith) in
    let s = length-append (header_line n r b) (ending_line e k t) in
    omega arith
