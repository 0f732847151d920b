-- Laws of numbers in decimal: how they are made digit by digit, that they are read back as the same number, with no
-- zero in front, and how long they are. Assumes nothing.
use mathlib.Core.Path.{◌≡◌, refl, ap, ◌∙◌}
use mathlib.Core.Bool.{Bool, true, false, cond}
use mathlib.Core.List.{List, [], ◌∷◌, ◌++◌}
use Prim.Native.Nat.{ℕ, zero, suc, ◌+◌, ◌*◌, ◌-◌, ◌/◌, ◌%◌, ◌^◌, ◌≤◌, ◌<◌}
use native.Mathlib.Omega.{arith}
use native.Mathlib.Nat.{pow-suc}
use borrow.Author.Tests.{lt-ltb, le-ltb, ltb-true, ltb-false}
use lib.Dec.{ltb}
use lib.ListN.{length, get_or, length-append}
use Rattle.text.specs.Decimal.{digit, decimal_in, decimal, value_after}

-- without the last digit there is one power of ten less
shorter : (k v : ℕ) → v < 10 ^ suc k → v / 10 < 10 ^ k
shorter k v b = let e = pow-suc 10 k in omega arith

-- a number of more than one digit
several : (k v : ℕ) → v < 10 ^ k → 10 ≤ v → 1 < k
several zero v b h = absurd (omega arith)
several (suc zero) v b h = absurd (omega arith)
several (suc (suc k)) v b h = omega arith

-- STEP BY STEP

-- one digit more than enough changes nothing
enough : (k v : ℕ) → 0 < k → v < 10 ^ k → decimal_in (suc k) v ≡ decimal_in k v
unfolding decimal_in
enough zero v h b = absurd (omega arith)
enough (suc k) v h b = ap (λ (l : List ℕ). l ++ (digit (v % 10) ∷ [])) (go (ltb v 10) refl (enough k (v / 10)))
  where
    go : (t : Bool) → ltb v 10 ≡ t → (0 < k → v / 10 < 10 ^ k → decimal_in (suc k) (v / 10) ≡ decimal_in k (v / 10))
        → cond t [] (decimal_in (suc k) (v / 10)) ≡ cond t [] (decimal_in k (v / 10))
    go true e ih = refl
    go false e ih = let m = several (suc k) v b (ltb-false _ _ e) in ih (omega arith) (shorter k v b)

few : (k v : ℕ) → v < 10 → decimal_in (suc k) v ≡ (digit v ∷ [])
unfolding decimal_in
few k v h = let e : v % 10 ≡ v = omega arith in rw (lt-ltb _ _ h, e)

last : (k v : ℕ) → 10 ≤ v → decimal_in (suc k) v ≡ decimal_in k (v / 10) ++ (digit (v % 10) ∷ [])
unfolding decimal_in
last k v h = rw (le-ltb _ _ h)

more : (k v : ℕ) → 10 ≤ v → v < 10 ^ suc k → decimal_in (suc k) v ≡ decimal_in (suc k) (v / 10) ++ (digit (v % 10) ∷ [])
more k v h b =
    let m = several (suc k) v b h in
    rw (enough k (v / 10) (omega arith) (shorter k v b)) (last k v h)

pub decimal_few : (v : ℕ) → v < 10 → decimal v ≡ (digit v ∷ [])
unfolding decimal
decimal_few v h = few 9 v h

pub decimal_more : (v : ℕ) → 10 ≤ v → v < 10 ^ 10 → decimal v ≡ decimal (v / 10) ++ (digit (v % 10) ∷ [])
unfolding decimal
decimal_more v h b = more 9 v h b

-- READ BACK

value_append : (a : ℕ) (xs ys : List ℕ) → value_after a (xs ++ ys) ≡ value_after (value_after a xs) ys
unfolding value_after
value_append a [] ys = refl
value_append a (x ∷ xs) ys = value_append (10 * a + (x - 48)) xs ys

value_in : (k v : ℕ) → v < 10 ^ k → value_after 0 (decimal_in k v) ≡ v
unfolding value_after decimal_in
value_in zero v b = omega arith
value_in (suc k) v b =
    value_append 0 (cond (ltb v 10) [] (decimal_in k (v / 10))) (digit (v % 10) ∷ []) ∙ go (ltb v 10) refl (value_in k (v / 10) (shorter k v b))
  where
    go : (t : Bool) → ltb v 10 ≡ t → value_after 0 (decimal_in k (v / 10)) ≡ v / 10
        → 10 * value_after 0 (cond t [] (decimal_in k (v / 10))) + (48 + v % 10 - 48) ≡ v
    go true e ih = let h : v < 10 = ltb-true _ _ e in omega arith
    go false e ih = rw ih (omega arith)

pub decimal_value : (v : ℕ) → v < 10 ^ 10 → value_after 0 (decimal v) ≡ v
unfolding decimal
decimal_value v b = value_in 10 v b

-- a digit at the end changes no beginning
front : (l : List ℕ) (d : ℕ) → 48 < get_or l 0 0 → 48 < get_or (l ++ (d ∷ [])) 0 0
front [] d h = absurd (omega arith)
front (x ∷ l) d h = h

first_in : (k v : ℕ) → v < 10 ^ k → 0 < v → 48 < get_or (decimal_in k v) 0 0
unfolding decimal_in
first_in zero v b h = absurd (omega arith)
first_in (suc k) v b h = go (ltb v 10) refl (first_in k (v / 10) (shorter k v b))
  where
    go : (t : Bool) → ltb v 10 ≡ t → (0 < v / 10 → 48 < get_or (decimal_in k (v / 10)) 0 0)
        → 48 < get_or (cond t [] (decimal_in k (v / 10)) ++ (digit (v % 10) ∷ [])) 0 0
    go true e ih = let l : v < 10 = ltb-true _ _ e in omega arith
    go false e ih = let l : 10 ≤ v = ltb-false _ _ e in front (decimal_in k (v / 10)) (digit (v % 10)) (ih (omega arith))

-- only 0 begins with the digit 0
pub decimal_first : (v : ℕ) → v < 10 ^ 10 → 0 < v → digit 0 < get_or (decimal v) 0 0
unfolding decimal
decimal_first v b h = first_in 10 v b h

-- LENGTHS
pub length_few : (v : ℕ) → v < 10 → length (decimal v) ≡ 1
length_few v h = ap length (decimal_few v h)

pub length_more : (v : ℕ) → 10 ≤ v → v < 10 ^ 10 → length (decimal v) ≡ length (decimal (v / 10)) + 1
length_more v h b = ap length (decimal_more v h b) ∙ length-append (decimal (v / 10)) (digit (v % 10) ∷ [])

length_in : (d k v : ℕ) → 0 < d → v < 10 ^ d → length (decimal_in k v) ≤ d
unfolding decimal_in
length_in zero k v h b = absurd (omega arith)
length_in (suc d) zero v h b = omega arith
length_in (suc d) (suc k) v h b =
    let e = length-append (cond (ltb v 10) [] (decimal_in k (v / 10))) (digit (v % 10) ∷ []) in
    let l = go (ltb v 10) refl (length_in d k (v / 10)) in
    omega arith
  where
    go : (t : Bool) → ltb v 10 ≡ t → (0 < d → v / 10 < 10 ^ d → length (decimal_in k (v / 10)) ≤ d) → length (cond t [] (decimal_in k (v / 10))) ≤ d
    go true e ih = omega arith
    go false e ih = let m = several (suc d) v b (ltb-false _ _ e) in ih (omega arith) (shorter d v b)

pub decimal_length : (d v : ℕ) → 0 < d → v < 10 ^ d → length (decimal v) ≤ d
unfolding decimal
decimal_length d v h b = length_in d 10 v h b
