-- `print_input` is safe: what was read lies within its buffer. Assumes nothing.
use mathlib.Core.Path.{sym}
use lib.Seq.{length-take-le}
use Rattle.print_why.proofs.print_input.Goals as goal

pub slice_bounds-print_why-end : goal.slice_bounds-print_why-end
slice_bounds-print_why-end c = sym (length-take-le _ _ c.in-Ok.ensures)
