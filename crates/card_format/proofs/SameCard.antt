-- Instances that are the same have the same written card: a card holds no cell that can never be an arc. Assumes
-- nothing.
use mathlib.Core.Path.{◌≡◌, refl}
use mathlib.Core.Bool.{Bool, true, false, cond}
use mathlib.Core.List.{[], ◌++◌}
use Prim.Native.Nat.{ℕ, zero, suc, ◌+◌, ◌*◌, ◌/◌, ◌%◌}
use native.Mathlib.Omega.{arith}
use Rattle.bits.specs.Bits.{bits_of}
use Rattle.instance.specs.Instance.{Instance, weight_at, mark_at, weight, mark}
use Rattle.instance.specs.Same.{SameInstance}
use Rattle.instance.specs.Limits.{cells}
use Rattle.card_format.specs.Widths.{weight_width, mark_width}
use Rattle.card_format.specs.Card.{on_card, cell_bits, instance_bits, card_of}

module _ (s t : Instance) (e : SameInstance s t) where
  weight_same : (i : ℕ) → on_card t.n t.root i ≡ true → weight_at s i ≡ weight_at t i
  unfolding on_card weight
  weight_same i q = let j : 32 * (i / 32) + i % 32 ≡ i = omega arith in rw j at (e.same_weights (i / 32) (i % 32) q)

  mark_same : (i : ℕ) → on_card t.n t.root i ≡ true → mark_at s i ≡ mark_at t i
  unfolding on_card mark
  mark_same i q = let j : 32 * (i / 32) + i % 32 ≡ i = omega arith in rw j at (e.same_marks (i / 32) (i % 32) q)

  cell_same : (i : ℕ) (b : Bool) → on_card t.n t.root i ≡ b →
      cond b (bits_of weight_width (weight_at s i) ++ bits_of mark_width (mark_at s i)) []
      ≡ cond b (bits_of weight_width (weight_at t i) ++ bits_of mark_width (mark_at t i)) []
  cell_same i true q = rw (weight_same i q, mark_same i q)
  cell_same i false q = refl

  cells_same : (k i : ℕ) → cell_bits k i s ≡ cell_bits k i t
  unfolding cell_bits
  cells_same zero i = refl
  cells_same (suc k) i = rw (cells_same k (suc i), e.same_n, e.same_root, cell_same i (on_card t.n t.root i) refl)

  pub same_bits : instance_bits s ≡ instance_bits t
  unfolding instance_bits
  same_bits = rw (cells_same cells 0, e.same_n, e.same_root, e.same_budget)

  pub same_card : card_of s ≡ card_of t
  unfolding card_of
  same_card = rw (same_bits, e.same_n)
