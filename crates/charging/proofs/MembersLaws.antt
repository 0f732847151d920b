-- A group's vertices, put together bit by bit. Assumes nothing.
use mathlib.Core.Path.{◌≡◌, sym, ap, ◌∙◌}
use mathlib.Core.List.{List}
use mathlib.Core.Logic.{◌≢◌, ⊎_elim}
use Prim.Native.Nat.{ℕ, ◌+◌, ◌*◌, ◌%◌, ◌^◌, ◌≤◌, ◌<◌}
use native.Mathlib.Omega.{arith}
use native.Mathlib.Nat.{mod-eq_of_lt, eq-or-lt_of_le, pow-suc, one-mul}
use native.Mathlib.Numerals.{add-one}
use lib.Pow.{pow_mono, pow-lt}
use borrow.Author.Tests.{eq-eqb, ne_eqb}
use Rattle.instance.proofs.SetBits.{inside_low, inside_top, inside_none}
use Rattle.contraction.specs.Cells.{nth}
use Rattle.charging.specs.Members.{Members}

shifted : (v : ℕ) → v < 32 → 1 * 2 ^ v % 4294967296 ≡ 2 ^ v
shifted v l = ap (λ (x : ℕ). x % 4294967296) (one-mul (2 ^ v)) ∙ mod-eq_of_lt (pow-lt {i = v} {j = 32} l)

double : (v : ℕ) → 2 ^ (v + 1) ≡ 2 ^ v + 2 ^ v
double v = ap (λ (x : ℕ). 2 ^ x) (add-one v) ∙ pow-suc 2 v ∙ omega arith

pub no_members : (ls : List ℕ) (g : ℕ) → Members ls 0 g 0
no_members ls g = record { below = omega arith; is = λ v l. absurd (omega arith) }

module _ (ls : List ℕ) (g v r : ℕ) (m : Members ls v g r) (l : v < 32) where
  pub member_fits : r + 1 * 2 ^ v % 4294967296 < 4294967296
  member_fits =
      let a = m.below in
      let b : 2 ^ (v + 1) ≤ 4294967296 = pow_mono {i = v + 1} {j = 32} (omega arith) in
      rw (shifted v l) (omega (arith, double v))

  pub one_member : nth ls v ≡ g → Members ls (v + 1) g (r + 1 * 2 ^ v % 4294967296)
  one_member e =
      let a = m.below in
      rw (shifted v l)
      (record {
        below = omega (arith, double v);
        is =
            λ u l'.
            ⊎_elim (λ (s : u ≡ v). rw s (inside_top r v a ∙ sym (eq-eqb (nth ls v) g e)))
            (λ (s : u < v). inside_low r v u s ∙ m.is u s) (eq-or-lt_of_le {n = u} {m = v} (omega arith));
      })

  pub no_member : nth ls v ≢ g → Members ls (v + 1) g r
  no_member ne =
      let a = m.below in
      record {
        below = omega (arith, double v);
        is =
            λ u l'.
            ⊎_elim (λ (s : u ≡ v). rw s (inside_none r v a ∙ sym (ne_eqb (nth ls v) g ne)))
            (λ (s : u < v). m.is u s) (eq-or-lt_of_le {n = u} {m = v} (omega arith));
      }
