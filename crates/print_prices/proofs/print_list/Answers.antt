-- `print_list` is safe: the list lies within its buffer. Assumes nothing.
use mathlib.Core.Path.{sym}
use lib.Seq.{length-take-le}
use Rattle.price_card.proofs.FromCardLaws.{list_within}
use Rattle.print_prices.proofs.print_list.Goals as goal

pub slice_bounds-list-end : goal.slice_bounds-list-end
slice_bounds-list-end c = let l = c.list_weights-listed in list_within _ _ _ l.result l.ensures

pub slice_bounds-write_all-end : goal.slice_bounds-write_all-end
slice_bounds-write_all-end c = let l = c.list_weights-listed in sym (length-take-le _ _ (list_within _ _ _ l.result l.ensures))
