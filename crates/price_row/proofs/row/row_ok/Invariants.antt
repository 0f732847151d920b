-- One number after the other, up to the first that is neither a price nor "no link". Assumes nothing.
use mathlib.Core.Path.{◌≡◌}
use lib.ListN.{drop}
use Rattle.base.specs.Lists.{all_of}
use Rattle.price_row.specs.Row.{price_ok, row_ok}
use Rattle.price_row.proofs.row.row_ok.Given as goal

abbrev pub invariant-loop-w : goal.invariant-loop-w
invariant-loop-w l = row_ok l.row ≡ all_of price_ok (drop l.w-index l.row)
