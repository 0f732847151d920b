-- `say_numbers` is safe: the line fits its buffer. Assumes nothing.
use mathlib.Core.Path.{sym}
use native.Mathlib.Omega.{arith}
use lib.Seq.{length-take-le}
use Rattle.text.proofs.BufferLaws.{room_whole}
use Rattle.print_prices.proofs.LineLaws.{numbers_fit}
use Rattle.print_prices.proofs.say_numbers.Goals as goal

pub put_header-end-requires : goal.put_header-end-requires
put_header-end-requires c =
    let a = c.args in
    let r = c.ranges in
    room_whole _ _ (numbers_fit a.n a.root a.budget r.n.fits r.root.fits r.budget.fits)

pub slice_bounds-line-end : goal.slice_bounds-line-end
slice_bounds-line-end c =
    let a = c.args in
    let r = c.ranges in
    let f = numbers_fit a.n a.root a.budget r.n.fits r.root.fits r.budget.fits in
    omega (arith, c.put_header-end.ensures.place, c.put_header-end.auto.out)

pub slice_bounds-write_all-end : goal.slice_bounds-write_all-end
slice_bounds-write_all-end c =
    let a = c.args in
    let r = c.ranges in
    let f = numbers_fit a.n a.root a.budget r.n.fits r.root.fits r.budget.fits in
    sym (length-take-le _ _ (omega (arith, c.put_header-end.ensures.place, c.put_header-end.auto.out)))
