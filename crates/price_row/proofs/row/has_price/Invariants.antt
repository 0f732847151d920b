-- One number after the other, up to the first that is not "no link". Assumes nothing.
use mathlib.Core.Path.{◌≡◌}
use mathlib.Core.Bool.{Bool, not}
use Prim.Native.Nat.{ℕ}
use lib.Dec.{eqb}
use lib.ListN.{drop}
use Rattle.base.specs.Lists.{any_of}
use Rattle.instance.specs.Limits.{no_arc}
use Rattle.price_row.specs.Row.{has_price}
use Rattle.price_row.proofs.row.has_price.Given as goal

abbrev pub priced : ℕ → Bool
priced w = not (eqb w no_arc)

abbrev pub invariant-loop-w : goal.invariant-loop-w
invariant-loop-w l = has_price l.row ≡ any_of priced (drop l.w-index l.row)
