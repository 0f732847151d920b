-- How many bits and bytes a card needs: ends, and whole bytes. Assumes nothing.
use mathlib.Core.Path.{◌≡◌}
use mathlib.Core.List.{◌++◌}
use Prim.Native.Nat.{ℕ, ◌+◌, ◌*◌, ◌-◌, ◌≤◌}
use native.Mathlib.Omega.{arith}
use native.Mathlib.Nat.{mul-le-mul}
use lib.ListN.{length}
use Rattle.bits.proofs.ByteLaws.{length_packed}
use Rattle.instance.specs.Limits.{max_vertices}
use Rattle.instance.specs.Instance.{Instance}
use Rattle.card_format.specs.Widths.{header_width}
use Rattle.card_format.specs.Card.{bits_needed, bytes_needed, max_card, instance_bits, filling_bits, card_of}

pub record LengthKnown (n : ℕ) : Type 0 where
  pub header : header_width ≤ bits_needed n
  pub most : bits_needed n ≤ 8 * max_card
  pub whole : bits_needed n ≤ 8 * bytes_needed n
  pub nearly : 8 * bytes_needed n ≤ bits_needed n + 7

pub length_known : (n : ℕ) → n ≤ max_vertices → LengthKnown n
unfolding bits_needed bytes_needed
length_known n h =
    let m : (n - 1) * (n - 1) ≤ 31 * 31 = mul-le-mul {n₂ = 31} {m₂ = 31} (omega arith) (omega arith) in
    record { header = omega arith; most = omega arith; whole = omega arith; nearly = omega arith }

-- "36 + 22 times (n − 1) squared bits", at 32 positions
abbrev pub most_bits : ℕ
most_bits = 21178

pub needed_most : (n : ℕ) → n ≤ max_vertices → bits_needed n ≤ most_bits
unfolding bits_needed
needed_most n h = let m : (n - 1) * (n - 1) ≤ 31 * 31 = mul-le-mul {n₂ = 31} {m₂ = 31} (omega arith) (omega arith) in omega arith

pub longest_card : (n : ℕ) → n ≤ max_vertices → bytes_needed n ≤ max_card
longest_card n h = let k = length_known n h in omega (arith, k.most, k.nearly)

-- a written card has the needed length, whatever the instance
pub length_card_of : (s : Instance) → length (card_of s) ≡ bytes_needed s.n
unfolding card_of
length_card_of s = length_packed (bytes_needed s.n) (instance_bits s ++ filling_bits s.n)
