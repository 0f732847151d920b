-- Lists of one length, one after the other in a buffer: how long it is, and where each stands. Assumes nothing.
use mathlib.Core.Path.{◌≡◌, sym, ap, ◌∙◌}
use mathlib.Core.List.{List, [], ◌∷◌, ◌++◌}
use Prim.Native.Nat.{ℕ, zero, suc, ◌+◌, ◌*◌, ◌<◌}
use native.Mathlib.Omega.{arith}
use native.Mathlib.Nat.{zero-mul, suc-mul}
use lib.ListN.{length, get_or, take, drop, length-append}
use lib.Seq.{take_at, drop-append-add}
use Rattle.enumeration.specs.Walk.{Walked, joined}
use Rattle.enumeration.specs.Events.{Event}
use Rattle.enumeration.proofs.EventLaws.{Sized, a_try, a_tree}
use Rattle.enumeration.proofs.RunLaws.{Run, over, limited, full}

-- each has so many elements
pub data AllLong (n : ℕ) : List (List ℕ) → Type 0 where
  none : AllLong n []
  also : {ps : List ℕ} {pss : List (List ℕ)} → length ps ≡ n → AllLong n pss → AllLong n (ps ∷ pss)

module _ {n : ℕ} where
  pub joined_length : {pss : List (List ℕ)} → AllLong n pss → length (joined pss) ≡ length pss * n
  unfolding joined
  joined_length none = sym (zero-mul n)
  joined_length (also {ps = ps} {pss = pss} e a) = let h = joined_length a in omega (arith, length-append ps (joined pss), suc-mul (length pss) n)

  -- the k-th begins after k times n elements
  pub joined_at : {pss : List (List ℕ)} → AllLong n pss → (k : ℕ) → k < length pss → take n (drop (k * n) (joined pss)) ≡ get_or pss k []
  unfolding joined
  joined_at none k l = absurd (omega arith)
  joined_at (also {ps = ps} {pss = pss} e a) zero l = rw (zero-mul n) (take_at ps (joined pss) n e)
  joined_at (also {ps = ps} {pss = pss} e a) (suc k) l =
      let z : suc k * n ≡ length ps + k * n = omega (arith, suc-mul k n) in
      ap (λ (i : ℕ). take n (drop i (ps ++ joined pss))) z ∙ ap (take n) (drop-append-add ps (joined pss) (k * n)) ∙ joined_at a k (omega arith)

-- A WALK over events that list such lists
pub run_long : {n limit room : ℕ} {es : List Event} {w : Walked} → Sized n es → Run n limit room es w → AllLong n w.trees
run_long z over = none
run_long z limited = none
run_long (a_try z) (Run.a_try r) = run_long z r
run_long (a_tree e z) (Run.a_tree l r) = also e (run_long z r)
run_long z (full l) = none
