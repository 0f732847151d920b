-- The values of the cuts, added from the last one down. Assumes nothing.
use mathlib.Core.Path.{◌≡◌, ap, ◌∙◌}
use mathlib.Core.List.{List}
use Prim.Native.Nat.{ℕ, suc, ◌+◌, ◌*◌, ◌-◌, ◌≤◌, ◌<◌}
use native.Mathlib.Omega.{arith}
use native.Mathlib.Nat.{sub-zero}
use lib.ListN.{get_or}
use Rattle.instance.specs.Cuts.{cuts_from, cuts_in, values}
use Rattle.instance.proofs.CutLaws.{values_step, values_later}

-- the cuts from place k on have been added
pub record Added (cuts : List ℕ) (count k sum : ℕ) : Type 0 where
  pub least : k ≤ count
  pub is : sum ≡ values (cuts_from (count - k) k cuts)

module _ (cuts : List ℕ) (count : ℕ) where
  pub added_none : Added cuts count count 0
  unfolding cuts_from values
  added_none = let e : count - count ≡ 0 = omega arith in record { least = omega arith; is = rw e }

  module _ {k sum : ℕ} (a : Added cuts count k sum) (some : 0 < k) where
    abbrev value : ℕ
    value = get_or cuts (2 * (k - 1) + 1) 0

    step : value + sum ≡ values (cuts_from (count - (k - 1)) (k - 1) cuts)
    step =
        let least = a.least in
        let is = a.is in
        let e : count - (k - 1) ≡ suc (count - k) = omega arith in
        let f : suc (k - 1) ≡ k = omega arith in
        let s = values_step (count - k) (k - 1) cuts in
        let t : values (cuts_from (count - k) (suc (k - 1)) cuts) ≡ values (cuts_from (count - k) k cuts) = ap (λ (j : ℕ). values (cuts_from (count - k) j cuts)) f in
        rw e (omega arith)

    pub added_fits : (most : ℕ) → values (cuts_in count cuts) < most → sum + value < most
    unfolding cuts_in
    added_fits most b =
        let least = a.least in
        let s = step in
        let l = values_later (count - (k - 1)) (k - 1) cuts in
        let e : (count - (k - 1)) + (k - 1) ≡ count = omega arith in
        let t : values (cuts_from ((count - (k - 1)) + (k - 1)) 0 cuts) ≡ values (cuts_from count 0 cuts) = ap (λ (j : ℕ). values (cuts_from j 0 cuts)) e in
        omega arith

    pub added_more : Added cuts count (k - 1) (sum + value)
    added_more = let least = a.least in let s = step in record { least = omega arith; is = omega arith }

  pub added_all : {k sum : ℕ} → Added cuts count k sum → k ≤ 0 → sum ≡ values (cuts_in count cuts)
  unfolding cuts_in
  added_all {k} a l = let e : k ≡ 0 = omega arith in a.is ∙ rw (e, sub-zero count)
