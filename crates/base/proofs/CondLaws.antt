-- Numbers chosen by a test: sums and bounds of the chosen. Assumes nothing.
use mathlib.Core.Path.{◌≡◌, refl}
use mathlib.Core.Bool.{Bool, true, false, cond}
use Prim.Native.Nat.{ℕ, ◌+◌, ◌≤◌}
use native.Mathlib.Omega.{arith}

pub cond_zero : (b : Bool) → ◌≡◌ {A = ℕ} (cond b 0 0) 0
cond_zero true = refl
cond_zero false = refl

pub cond_add : (b : Bool) (x y : ℕ) → cond b 0 (x + y) ≡ cond b 0 x + cond b 0 y
cond_add true x y = refl
cond_add false x y = refl

pub cond_le : (b : Bool) (x y : ℕ) → (b ≡ false → x ≤ y) → cond b 0 x ≤ cond b 0 y
cond_le true x y h = omega arith
cond_le false x y h = h refl

-- whichever is chosen, it is at most so much
pub cond_most : (b : Bool) (x y most : ℕ) → x ≤ most → y ≤ most → cond b x y ≤ most
cond_most true x y most h k = h
cond_most false x y most h k = k
