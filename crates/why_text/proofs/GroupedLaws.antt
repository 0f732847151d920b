-- Laws of numbers with commas: how they are made group by group, that without the commas they are the number in
-- decimal, and how long they are. Assumes nothing.
use mathlib.Core.Path.{◌≡◌, refl, sym, ap, ◌∙◌}
use mathlib.Core.Bool.{Bool, true, false, not, cond}
use mathlib.Core.List.{List, [], ◌∷◌, ◌++◌, append_assoc}
use Prim.Native.Nat.{ℕ, zero, suc, ◌+◌, ◌/◌, ◌%◌, ◌^◌, ◌≤◌, ◌<◌}
use native.Mathlib.Omega.{arith}
use native.Mathlib.Nat.{pow-suc}
use borrow.Author.Tests.{lt-ltb, le-ltb, ltb-true, ltb-false, ne_eqb}
use lib.Dec.{ltb, eqb}
use lib.ListN.{length, length-append}
use Rattle.base.specs.Lists.{select}
use Rattle.text.specs.Decimal.{digit, decimal_in, decimal}
use Rattle.text.proofs.DecimalLaws.{decimal_more, decimal_length}
use Rattle.why_text.specs.Grouped.{comma, three_digits, grouped_in, grouped}

-- without the last group there is one power of 1,000 less
shorter : (k v : ℕ) → v < 1000 ^ suc k → v / 1000 < 1000 ^ k
shorter k v b = let e = pow-suc 1000 k in omega arith

-- a number of more than one group
several : (k v : ℕ) → v < 1000 ^ k → 1000 ≤ v → 1 < k
several zero v b h = absurd (omega arith)
several (suc zero) v b h = absurd (omega arith)
several (suc (suc k)) v b h = omega arith

-- STEP BY STEP

-- one group more than enough changes nothing
enough : (k v : ℕ) → 0 < k → v < 1000 ^ k → grouped_in (suc k) v ≡ grouped_in k v
unfolding grouped_in
enough zero v h b = absurd (omega arith)
enough (suc k) v h b = go (ltb v 1000) refl (enough k (v / 1000))
  where
    go : (t : Bool) → ltb v 1000 ≡ t → (0 < k → v / 1000 < 1000 ^ k → grouped_in (suc k) (v / 1000) ≡ grouped_in k (v / 1000))
        → cond t (decimal v) (grouped_in (suc k) (v / 1000) ++ (comma ∷ three_digits (v % 1000)))
        ≡ cond t (decimal v) (grouped_in k (v / 1000) ++ (comma ∷ three_digits (v % 1000)))
    go true e ih = refl
    go false e ih =
        let m = several (suc k) v b (ltb-false _ _ e) in
        ap (λ (l : List ℕ). l ++ (comma ∷ three_digits (v % 1000))) (ih (omega arith) (shorter k v b))

pub grouped_few : (v : ℕ) → v < 1000 → grouped v ≡ decimal v
unfolding grouped grouped_in
grouped_few v h = rw (lt-ltb _ _ h)

last : (k v : ℕ) → 1000 ≤ v → grouped_in (suc k) v ≡ grouped_in k (v / 1000) ++ (comma ∷ three_digits (v % 1000))
unfolding grouped_in
last k v h = rw (le-ltb _ _ h)

pub grouped_more : (v : ℕ) → 1000 ≤ v → v < 10 ^ 10 → grouped v ≡ grouped (v / 1000) ++ (comma ∷ three_digits (v % 1000))
unfolding grouped
grouped_more v h b = rw (enough 3 (v / 1000) (omega arith) (omega arith)) (last 3 v h)

-- WITHOUT THE COMMAS a number is as in decimal

abbrev pub no_comma : (byte : ℕ) → Bool
no_comma b = not (eqb b comma)

select_append : (q : ℕ → Bool) (xs ys : List ℕ) → select q (xs ++ ys) ≡ select q xs ++ select q ys
unfolding select
select_append q [] ys = refl
select_append q (x ∷ xs) ys = go (q x) (select_append q xs ys)
  where
    go : (t : Bool) → select q (xs ++ ys) ≡ select q xs ++ select q ys
        → cond t (x ∷ select q (xs ++ ys)) (select q (xs ++ ys)) ≡ cond t (x ∷ select q xs) (select q xs) ++ select q ys
    go true e = ap (λ (l : List ℕ). x ∷ l) e
    go false e = e

-- a digit is no comma
digit_stays : (d : ℕ) (xs : List ℕ) → select no_comma (digit d ∷ xs) ≡ digit d ∷ select no_comma xs
unfolding select
digit_stays d xs = rw (ne_eqb (digit d) comma (λ e. omega arith))

digits_stay : (k v : ℕ) → select no_comma (decimal_in k v) ≡ decimal_in k v
unfolding decimal_in select
digits_stay zero v = refl
digits_stay (suc k) v =
    select_append no_comma (cond (ltb v 10) [] (decimal_in k (v / 10))) (digit (v % 10) ∷ [])
    ∙ rw (digit_stays (v % 10) []) (ap (λ (l : List ℕ). l ++ (digit (v % 10) ∷ [])) (go (ltb v 10) (digits_stay k (v / 10))))
  where
    go : (t : Bool) → select no_comma (decimal_in k (v / 10)) ≡ decimal_in k (v / 10)
        → select no_comma (cond t [] (decimal_in k (v / 10))) ≡ cond t [] (decimal_in k (v / 10))
    go true e = refl
    go false e = e

-- the last three digits of a number in decimal
three_last : (v : ℕ) → 1000 ≤ v → v < 10 ^ 10 → decimal v ≡ decimal (v / 1000) ++ three_digits (v % 1000)
three_last v h b =
    let x : v / 10 / 10 / 10 ≡ v / 1000 = omega arith in
    let d : v / 10 / 10 % 10 ≡ v % 1000 / 100 = omega arith in
    let e : v / 10 % 10 ≡ v % 1000 / 10 % 10 = omega arith in
    let f : v % 10 ≡ v % 1000 % 10 = omega arith in
    let first = decimal_more (v / 10 / 10) (omega arith) (omega arith) in
    let second = decimal_more (v / 10) (omega arith) (omega arith) in
    rw (← x, ← d, ← e, ← f, decimal_more v (omega arith) b, second, first)
    (ap (λ (l : List ℕ). l ++ (digit (v % 10) ∷ []))
    (append_assoc (decimal (v / 10 / 10 / 10)) (digit (v / 10 / 10 % 10) ∷ []) (digit (v / 10 % 10) ∷ []))
    ∙ append_assoc (decimal (v / 10 / 10 / 10)) (digit (v / 10 / 10 % 10) ∷ digit (v / 10 % 10) ∷ []) (digit (v % 10) ∷ []))

group_stays : (v : ℕ) → select no_comma (comma ∷ three_digits v) ≡ three_digits v
unfolding select
group_stays v =
    digit_stays (v / 100) (digit (v / 10 % 10) ∷ digit (v % 10) ∷ [])
    ∙ ap (λ (l : List ℕ). digit (v / 100) ∷ l)
    (digit_stays (v / 10 % 10) (digit (v % 10) ∷ []) ∙ ap (λ (l : List ℕ). digit (v / 10 % 10) ∷ l) (digit_stays (v % 10) []))

digits_in : (k v : ℕ) → 0 < k → v < 1000 ^ k → v < 10 ^ 10 → select no_comma (grouped_in k v) ≡ decimal v
unfolding grouped_in decimal
digits_in zero v h b m = absurd (omega arith)
digits_in (suc k) v h b m = go (ltb v 1000) refl (digits_in k (v / 1000))
  where
    go : (t : Bool) → ltb v 1000 ≡ t
        → (0 < k → v / 1000 < 1000 ^ k → v / 1000 < 10 ^ 10 → select no_comma (grouped_in k (v / 1000)) ≡ decimal (v / 1000))
        → select no_comma (cond t (decimal v) (grouped_in k (v / 1000) ++ (comma ∷ three_digits (v % 1000)))) ≡ decimal v
    go true e ih = digits_stay 10 v
    go false e ih =
        let l : 1000 ≤ v = ltb-false _ _ e in
        let n = several (suc k) v b l in
        select_append no_comma (grouped_in k (v / 1000)) (comma ∷ three_digits (v % 1000))
        ∙ rw (group_stays (v % 1000), ih (omega arith) (shorter k v b) (omega arith)) (sym (three_last v l m))

-- THE CLAIM
pub grouped_digits : (v : ℕ) → v < 10 ^ 10 → select no_comma (grouped v) ≡ decimal v
unfolding grouped
grouped_digits v b = digits_in 4 v (omega arith) (omega arith) b

-- LENGTHS
pub group_length : (v : ℕ) → length (comma ∷ three_digits v) ≡ 4
group_length v = refl

-- one group more
longer : (m v : ℕ) → v < 10 ^ 10 → length (grouped (v / 1000)) ≤ m → length (grouped v) ≤ m + 4
longer m v b h = go (ltb v 1000) refl
  where
    go : (t : Bool) → ltb v 1000 ≡ t → length (grouped v) ≤ m + 4
    go true e =
        let l : v < 1000 = ltb-true _ _ e in
        let d = decimal_length 3 v (omega arith) (omega arith) in
        omega (arith, ap length (grouped_few v l))
    go false e =
        let s = length-append (grouped (v / 1000)) (comma ∷ three_digits (v % 1000)) in
        omega (arith, ap length (grouped_more v (ltb-false _ _ e) b))

-- 4,294,967,295 is the longest number of 32 bits
pub grouped_length : (v : ℕ) → v < 2 ^ 32 → length (grouped v) ≤ 13
grouped_length v b =
    let top = v / 1000 / 1000 / 1000 in
    let d = decimal_length 1 top (omega arith) (omega arith) in
    let few : length (grouped top) ≤ 1 = rw (grouped_few top (omega arith)) d in
    longer 9 v (omega arith) (longer 5 (v / 1000) (omega arith) (longer 1 (v / 1000 / 1000) (omega arith) few))
