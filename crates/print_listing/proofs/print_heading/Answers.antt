-- `print_heading` is safe: the two lines fit their buffer. Assumes nothing.
use native.Mathlib.Omega.{arith}
use Rattle.listing_text.proofs.HeadingLaws.{heading_length}
use Rattle.text.proofs.BufferLaws.{room_whole}
use Rattle.print_listing.proofs.LineLaws.{counted}
use Rattle.print_listing.proofs.print_heading.Goals as goal

pub put_heading-end-requires : goal.put_heading-end-requires
put_heading-end-requires c =
    let a = c.args in
    let p = c.requires in
    room_whole _ _ (heading_length a.n a.root a.budget a.ended a.trees a.tries (omega (arith, p.0)) (omega (arith, p.0, p.1)) (omega (arith, p.2)) c.ranges.trees.fits c.ranges.tries.fits)

pub slice_bounds-lines-end : goal.slice_bounds-lines-end
slice_bounds-lines-end c =
    let a = c.args in
    let p = c.requires in
    let f = heading_length a.n a.root a.budget a.ended a.trees a.tries (omega (arith, p.0)) (omega (arith, p.0, p.1)) (omega (arith, p.2)) c.ranges.trees.fits c.ranges.tries.fits in
    omega (arith, c.put_heading-end.ensures.place, c.put_heading-end.auto.out)

pub slice_bounds-write_all-end : goal.slice_bounds-write_all-end
slice_bounds-write_all-end c =
    let a = c.args in
    let p = c.requires in
    let f = heading_length a.n a.root a.budget a.ended a.trees a.tries (omega (arith, p.0)) (omega (arith, p.0, p.1)) (omega (arith, p.2)) c.ranges.trees.fits c.ranges.tries.fits in
    counted _ _ (omega (arith, c.put_heading-end.ensures.place, c.put_heading-end.auto.out))
