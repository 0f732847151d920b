-- Tests joined by &&, || and not, and choices by cond. Assumes nothing.
use mathlib.Core.Path.{◌≡◌, refl, sym, ◌∙◌}
use mathlib.Core.Bool.{Bool, true, false, ◌&&◌, ◌||◌, not, cond, true≢false}
use mathlib.Core.Logic.{◌⊎◌, inl, inr}
use Prim.Native.Nat.{ℕ, suc}
use native.Mathlib.Omega.{arith}

-- a test with its equation, for a split into cases
pub test : (b : Bool) → (b ≡ true) ⊎ (b ≡ false)
test true = inl refl
test false = inr refl

pub not_both : (b : Bool) → b ≡ true → b ≡ false → ⊥
not_both b p q = true≢false (sym p ∙ q)

-- a test passes if it cannot fail, and fails if it cannot pass
pub is_true : (b : Bool) → (b ≡ false → ⊥) → b ≡ true
is_true true h = refl
is_true false h = absurd (h refl)

pub is_false : (b : Bool) → (b ≡ true → ⊥) → b ≡ false
is_false true h = absurd (h refl)
is_false false h = refl

-- two tests that pass alike are one
pub same_test : (a b : Bool) → (a ≡ true → b ≡ true) → (b ≡ true → a ≡ true) → a ≡ b
same_test true b p q = sym (p refl)
same_test false true p q = q refl
same_test false false p q = refl

pub and_left : (a b : Bool) → a && b ≡ true → a ≡ true
and_left true b e = refl
and_left false b e = e

pub and_right : (a b : Bool) → a && b ≡ true → b ≡ true
and_right true b e = e
and_right false b e = absurd (true≢false (sym e))

pub and_both : (a b : Bool) → a ≡ true → b ≡ true → a && b ≡ true
and_both a b p q = rw (p, q)

pub and_false_right : (a b : Bool) → b ≡ false → a && b ≡ false
and_false_right true b p = p
and_false_right false b p = refl

pub and_not : (a b : Bool) → (a ≡ true → b ≡ true → ⊥) → a && b ≡ false
and_not true true h = absurd (h refl refl)
and_not true false h = refl
and_not false b h = refl

pub or_cases : (a b : Bool) → a || b ≡ true → (a ≡ true) ⊎ (b ≡ true)
or_cases true b e = inl refl
or_cases false b e = inr e

pub or_left : (a b : Bool) → a ≡ true → a || b ≡ true
or_left a b p = rw p

pub or_right : (a b : Bool) → b ≡ true → a || b ≡ true
or_right true b p = refl
or_right false b p = p

pub or_false_left : (a b : Bool) → a || b ≡ false → a ≡ false
or_false_left true b e = e
or_false_left false b e = refl

pub or_false_right : (a b : Bool) → a || b ≡ false → b ≡ false
or_false_right true b e = absurd (true≢false e)
or_false_right false b e = e

pub or_both_false : (a b : Bool) → a ≡ false → b ≡ false → a || b ≡ false
or_both_false a b p q = rw (p, q)

-- a refusal that was passed: its test failed, and the rest gave 0
pub passed : (t : Bool) (k r : ℕ) → cond t (suc k) r ≡ 0 → (t ≡ false) × (r ≡ 0)
passed true k r e = absurd (omega arith)
passed false k r e = (refl, e)

-- the last refusal of all was passed: its test did not fail
pub passes_only : (f : Bool) (k : ℕ) → cond f 0 (suc k) ≡ 0 → f ≡ true
passes_only true k e = refl
passes_only false k e = absurd (omega arith)

-- two tests after a first one have to agree only where that passes
pub and_where : (c x y : Bool) → (c ≡ true → x ≡ y) → c && x ≡ c && y
and_where true x y h = h refl
and_where false x y h = refl

pub cond_where : (c x y d : Bool) → (c ≡ true → x ≡ y) → cond c x d ≡ cond c y d
cond_where true x y d h = h refl
cond_where false x y d h = refl

pub cond_true : (b : Bool) → cond b true true ≡ true
cond_true true = refl
cond_true false = refl

pub not_and_self : (b : Bool) → not b && b ≡ false
not_and_self true = refl
not_and_self false = refl
