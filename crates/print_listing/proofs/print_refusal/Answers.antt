-- `print_refusal` is safe: the line fits its buffer. Assumes nothing.
use native.Mathlib.Omega.{arith}
use Rattle.print_listing.proofs.LineLaws.{counted, refused_fits}
use Rattle.print_listing.proofs.print_refusal.Goals as goal

pub write_refusal-end-requires : goal.write_refusal-end-requires
write_refusal-end-requires c = refused_fits c.args.answer c.ranges.answer.fits

pub slice_bounds-line-end : goal.slice_bounds-line-end
slice_bounds-line-end c =
    let f = refused_fits c.args.answer c.ranges.answer.fits in
    omega (arith, c.write_refusal-end.ensures.place, c.write_refusal-end.auto.out)

pub slice_bounds-write_all-end : goal.slice_bounds-write_all-end
slice_bounds-write_all-end c =
    let f = refused_fits c.args.answer c.ranges.answer.fits in
    counted _ _ (omega (arith, c.write_refusal-end.ensures.place, c.write_refusal-end.auto.out))
