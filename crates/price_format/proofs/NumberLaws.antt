-- Laws of numbers in a text: the digits at its front are cut off where they end, a number in decimal is read as itself,
-- and digits that are a number are its decimal. Assumes nothing.
use mathlib.Core.Path.{◌≡◌, refl, sym, ap, ◌∙◌}
use mathlib.Core.Bool.{Bool, true, false, not, cond, true≢false}
use mathlib.Core.List.{List, [], ◌∷◌, ◌++◌, append_assoc, append-nil}
use Prim.Native.Nat.{ℕ, zero, suc, ◌+◌, ◌*◌, ◌-◌, ◌/◌, ◌%◌, ◌^◌, ◌≤◌, ◌<◌}
use native.Mathlib.Omega.{arith}
use lib.Dec.{leb, ltb, eqb}
use lib.ListN.{length, get_or, drop}
use borrow.Author.Tests.{leb-true, le-leb, eqb-false, ne_eqb, not-true}
use Rattle.base.specs.Lists.{all_of}
use Rattle.base.proofs.BoolLaws.{and_left, and_right, and_both}
use Rattle.base.proofs.AllOfLaws.{all_of_append, all_of_first, all_of_rest, all_of_more}
use Rattle.text.specs.Decimal.{digit, decimal_in, decimal, value_after}
use Rattle.text.proofs.DecimalLaws.{decimal_few, decimal_more, decimal_first}
use Rattle.price_format.specs.Numbers.{is_digit, digits_in, is_number}

-- DIGITS
pub is_digit_of : (d : ℕ) → d < 10 → is_digit (digit d) ≡ true
unfolding is_digit
is_digit_of d h = and_both (leb (digit 0) (digit d)) (leb (digit d) (digit 9)) (le-leb (digit 0) (digit d) (omega arith))
    (le-leb (digit d) (digit 9) (omega arith))

pub digit_range : (b : ℕ) → is_digit b ≡ true → (digit 0 ≤ b) × (b ≤ digit 9)
unfolding is_digit
digit_range b e = (
  leb-true (digit 0) b (and_left (leb (digit 0) b) (leb b (digit 9)) e),
  leb-true b (digit 9) (and_right (leb (digit 0) b) (leb b (digit 9)) e),
)

-- the digits of a text end where another byte comes
pub digits_stop : (ds : List ℕ) (x : ℕ) (rest : List ℕ) → all_of is_digit ds ≡ true → is_digit x ≡ false → digits_in (ds ++ (x ∷ rest)) ≡ ds
unfolding digits_in
digits_stop [] x rest a e = rw e
digits_stop (d ∷ ds) x rest a e =
    rw (all_of_first is_digit d ds a) (ap (λ (l : List ℕ). d ∷ l) (digits_stop ds x rest (all_of_rest is_digit d ds a) e))

pub digits_all : (t : List ℕ) → all_of is_digit (digits_in t) ≡ true
unfolding digits_in all_of
digits_all [] = refl
digits_all (b ∷ bs) = go (is_digit b) refl (digits_all bs)
  where
    go : (c : Bool) → is_digit b ≡ c → all_of is_digit (digits_in bs) ≡ true → all_of is_digit (cond c (b ∷ digits_in bs) []) ≡ true
    go true e r = all_of_more is_digit b (digits_in bs) e r
    go false e r = refl

-- a text is its digits and what follows
pub digits_front : (t : List ℕ) → digits_in t ++ drop (length (digits_in t)) t ≡ t
unfolding digits_in
digits_front [] = refl
digits_front (b ∷ bs) = go (is_digit b) (digits_front bs)
  where
    go : (c : Bool) → digits_in bs ++ drop (length (digits_in bs)) bs ≡ bs
        → cond c (b ∷ digits_in bs) [] ++ drop (length (cond c (b ∷ digits_in bs) [])) (b ∷ bs) ≡ b ∷ bs
    go true e = ap (λ (l : List ℕ). b ∷ l) e
    go false e = refl

-- NUMBERS IN DECIMAL
decimal_all : (k v : ℕ) → all_of is_digit (decimal_in k v) ≡ true
unfolding decimal_in all_of
decimal_all zero v = refl
decimal_all (suc k) v =
    all_of_append is_digit (cond (ltb v 10) [] (decimal_in k (v / 10))) (digit (v % 10) ∷ []) (go (ltb v 10) (decimal_all k (v / 10)))
    (all_of_more is_digit (digit (v % 10)) [] (is_digit_of (v % 10) (omega arith)) refl)
  where
    go : (t : Bool) → all_of is_digit (decimal_in k (v / 10)) ≡ true → all_of is_digit (cond t [] (decimal_in k (v / 10))) ≡ true
    go true e = refl
    go false e = e

pub decimal_digits : (v : ℕ) → all_of is_digit (decimal v) ≡ true
unfolding decimal
decimal_digits v = decimal_all 10 v

first_number_ok : (l : List ℕ) → digit 0 < get_or l 0 0 → is_number l ≡ true
unfolding is_number
first_number_ok [] h = absurd (omega arith)
first_number_ok (d ∷ []) h = refl
first_number_ok (d ∷ e ∷ ds) h = rw (ne_eqb d (digit 0) (λ q. omega arith))

pub decimal_number : (v : ℕ) → v < 10 ^ 10 → is_number (decimal v) ≡ true
unfolding is_number
decimal_number zero b = rw (decimal_few 0 (omega arith))
decimal_number (suc v) b = first_number_ok (decimal (suc v)) (decimal_first (suc v) b (omega arith))

-- DIGITS THAT ARE A NUMBER
value_least : (a : ℕ) (ds : List ℕ) → a ≤ value_after a ds
unfolding value_after
value_least a [] = omega arith
value_least a (d ∷ ds) = let h = value_least (10 * a + (d - 48)) ds in omega arith

-- behind the decimal of a number that is not 0, more digits make a longer decimal
longer : (a : ℕ) (ds : List ℕ) → 0 < a → all_of is_digit ds ≡ true → value_after a ds < 10 ^ 10 → decimal (value_after a ds) ≡ decimal a ++ ds
unfolding value_after
longer a [] h d b = sym (append-nil (decimal a))
longer a (d ∷ ds) h e b =
    let r = digit_range d (all_of_first is_digit d ds e) in
    let v = 10 * a + (d - 48) in
    let least : v ≤ value_after v ds = value_least v ds in
    let tenth : v / 10 ≡ a = omega arith in
    let rest : digit (v % 10) ≡ d = omega arith in
    let more : decimal v ≡ decimal a ++ (d ∷ []) = decimal_more v (omega arith) (omega arith) ∙ rw (tenth, rest) in
    longer v ds (omega arith) (all_of_rest is_digit d ds e) b ∙ ap (λ (l : List ℕ). l ++ ds) more ∙ append_assoc (decimal a) (d ∷ []) ds

pub number_decimal : (ds : List ℕ) → is_number ds ≡ true → all_of is_digit ds ≡ true → value_after 0 ds < 10 ^ 10 → decimal (value_after 0 ds) ≡ ds
unfolding is_number value_after
number_decimal [] n d b = absurd (true≢false (sym n))
number_decimal (d ∷ []) n e b =
    let r = digit_range d (all_of_first is_digit d [] e) in
    let v : 10 * 0 + (d - 48) < 10 = omega arith in
    let s : digit (10 * 0 + (d - 48)) ≡ d = omega arith in
    decimal_few (10 * 0 + (d - 48)) v ∙ ap (λ (x : ℕ). x ∷ []) s
number_decimal (d ∷ f ∷ ds) n e b =
    let r = digit_range d (all_of_first is_digit d (f ∷ ds) e) in
    let z : (d ≡ digit 0 → ⊥) = eqb-false d (digit 0) (not-true (eqb d (digit 0)) n) in
    let v = 10 * 0 + (d - 48) in
    let some : 0 < v = omega (arith, z) in
    let few : v < 10 = omega arith in
    let s : digit v ≡ d = omega arith in
    longer v (f ∷ ds) some (all_of_rest is_digit d (f ∷ ds) e) b ∙ ap (λ (l : List ℕ). l ++ (f ∷ ds)) (decimal_few v few ∙ ap (λ (x : ℕ). x ∷ []) s)
