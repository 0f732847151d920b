-- The least weights from outside a set, and what they add. Assumes nothing.
use mathlib.Core.Bool.{Bool}
use mathlib.Core.List.{List}
use mathlib.Core.Logic.{◌≢◌}
use Prim.Native.Nat.{ℕ, ◌+◌, ◌≤◌}
use native.Mathlib.Omega.{arith}
use lib.ListN.{get_or}
use Rattle.instance.specs.Limits.{no_arc}
use Rattle.instance.specs.Instance.{cell}
use Rattle.instance.specs.Arborescence.{parent}
use Rattle.detours.specs.Increases.{LeastOutside, Increase}

module _ (m : List ℕ) (inner : List Bool) (k : ℕ) where
  module _ (n : ℕ) (ps : List ℕ) where
    pub increase_none : Increase m ps inner n k no_arc
    increase_none = record { tail = λ l. absurd (omega arith) }

    pub increase_some : (least d : ℕ) → LeastOutside m inner n k least → least ≢ no_arc → least ≤ get_or m (cell (parent ps k) k) 0 + d → Increase m ps inner n k d
    increase_some least d o e l =
        let b = o.most in
        record { tail = λ _. let t = o.tail (omega arith) in let q = t.3 in (t.0, t.1, t.2, omega arith, omega arith) }
