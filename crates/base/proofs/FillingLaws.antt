-- A loop that stores one element a turn, from the front: what is said of each element. Assumes nothing.
use mathlib.Core.Path.{◌≡◌}
use mathlib.Core.Bool.{true, false}
use mathlib.Core.Logic.{◌≢◌, ⊎_elim}
use mathlib.Core.List.{List}
use Prim.Native.Nat.{ℕ, ◌+◌, ◌<◌}
use native.Mathlib.Omega.{arith}
use native.Mathlib.Decide.{ℕ_discrete}
use lib.Dec.{ltb}
use lib.ListN.{length, get_or, set}
use lib.Seq.{get_or-set_same, get_or-set_other}
use borrow.Author.Tests.{ltb-true, ltb-false, lt-ltb, le-ltb}
use Rattle.base.proofs.BoolLaws.{test}

-- a bound that has grown by one
pub ltb_more : (v h : ℕ) → h ≢ v → ltb h (v + 1) ≡ ltb h v
ltb_more v h e =
    ⊎_elim (λ (b : ltb h v ≡ true). let l = ltb-true h v b in rw b (lt-ltb h (v + 1) (omega arith)))
    (λ (b : ltb h v ≡ false). let l = ltb-false h v b in rw b (le-ltb h (v + 1) (omega arith))) (test (ltb h v))

module _ (P : (i v : ℕ) → Type 0) where
  pub filled_none : (l : List ℕ) (i : ℕ) → i < 0 → P i (get_or l i 0)
  filled_none l i b = absurd (omega arith)

  pub filled_more : (l : List ℕ) (k v : ℕ) → k < length l → ((i : ℕ) → i < k → P i (get_or l i 0)) → P k v
      → (i : ℕ) → i < k + 1 → P i (get_or (set l k v) i 0)
  filled_more l k v b h p i c = at (ℕ_discrete i k)
    where
      at : Dec (i ≡ k) → P i (get_or (set l k v) i 0)
      at (yes e) = rw (e, get_or-set_same l k v 0 b) p
      at (no e) = rw (get_or-set_other l k i v 0 e) (h i (omega arith))
