-- The walk's two numbers, vertices left and then tails left, fall as a pair. The toolchain takes a measure that is one
-- number: the pair is written as one, which falls where the pair does, since there are fewer tails than 64. Assumes
-- nothing.
use mathlib.Core.WellFounded.Prod
use mathlib.Core.Path.{◌≡◌}
use mathlib.Core.Logic.{◌⊎◌, inl, inr, ∥∥₁_elim}
use Rattle.std.proofs.Math.Bridge.{le_prop}
use Prim.Native.Nat.{ℕ, ◌+◌, ◌*◌, ◌<◌}
use native.Mathlib.Omega.{arith}

abbrev pub Pair : Type 0
Pair = ℕ × ℕ

abbrev pub falls_as_pair : Pair → Pair → Type 0
falls_as_pair = Prod.Lex ◌<◌ ◌<◌

abbrev pub as_number : Pair → ℕ
as_number p = 64 * p.0 + p.1

pub number_falls : (p q : Pair) → p.1 < 64 → falls_as_pair p q → as_number p < as_number q
number_falls p q small f = ∥∥₁_elim f le_prop (λ d. by (Prod.Lexᴰ-def.0 d))
  where
    by : (p.0 < q.0) ⊎ ((p.0 ≡ q.0) × (p.1 < q.1)) → as_number p < as_number q
    by (inl h) = omega arith
    by (inr h) = omega arith
