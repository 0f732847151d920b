-- The places from the last one down pass. Assumes nothing.
use mathlib.Core.Path.{◌≡◌}
use Prim.Native.Nat.{◌*◌, ◌≤◌}
use Rattle.base.specs.Bounded.{all_below}
use Rattle.price_format.specs.Writing.{price_at, place_ok}
use Rattle.price_list.proofs.write.places_ok.Given as goal

abbrev pub invariant-loop-k : goal.invariant-loop-k
invariant-loop-k l = (l.k ≤ l.n * l.n) × (all_below (l.n * l.n) (λ i. place_ok l.n l.root i (price_at l.prices i)) ≡ all_below l.k (λ i. place_ok l.n l.root i (price_at l.prices i)))
