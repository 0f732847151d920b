-- `print_line` is safe: each line fits its buffer. Assumes nothing.
use mathlib.Core.Path.{sym}
use native.Mathlib.Omega.{arith}
use lib.Seq.{length-take-le}
use Rattle.print_why.proofs.printing.print_line.Goals as goal

pub slice_bounds-write_all-end : goal.slice_bounds-write_all-end
slice_bounds-write_all-end c =
    let w = c.write_line-end in
    sym (length-take-le _ _ (omega (arith, w.ensures.1, w.auto.out)))
