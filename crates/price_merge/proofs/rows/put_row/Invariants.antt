-- The loop has copied the numbers that it passed, as bytes are put into a text.
use mathlib.Core.Path.{◌≡◌}
use lib.ListN.{length, take}
use Rattle.text.specs.Buffer.{Puts}
use Rattle.price_merge.proofs.rows.put_row.Given as goal

abbrev pub invariant-loop-w : goal.invariant-loop-w
invariant-loop-w l = Puts (take l.w-index l.row) l.initial.out l.out l.at l.next × (length l.out ≡ length l.initial.out)
