-- Bits as lists of 0 and 1, the most significant first. Assumes nothing: these are definitions.
use Rattle.std.specs.Prelude.{Bool, List, [], ◌∷◌, ◌++◌, ℕ, zero, suc, ◌+◌, ◌*◌, ◌/◌, ◌%◌, ◌^◌, ltb, take, drop}
use Rattle.base.specs.Lists.{all_of}

-- the lowest bits of a number, so many
unfoldable pub bits_of : (width : ℕ) → (number : ℕ) → List ℕ
bits_of zero v = []
bits_of (suc k) v = (v / 2 ^ k % 2) ∷ bits_of k v

-- the bits of bytes, one byte after the other
unfoldable pub bits_in : (bytes : List ℕ) → List ℕ
bits_in [] = []
bits_in (b ∷ bs) = bits_of 8 b ++ bits_in bs

-- the number that bits stand for, behind the bits of v
unfoldable pub number_from : (v : ℕ) → (bits : List ℕ) → ℕ
number_from v [] = v
number_from v (b ∷ bs) = number_from (2 * v + b) bs

-- the number in a field of bits
unfoldable pub field : (at width : ℕ) → (bits : List ℕ) → ℕ
field a k bs = number_from 0 (take k (drop a bs))

-- bits as bytes, eight to a byte, so many bytes
unfoldable pub packed : (bytes : ℕ) → (bits : List ℕ) → List ℕ
packed zero bs = []
packed (suc k) bs = number_from 0 (take 8 bs) ∷ packed k (drop 8 bs)

abbrev pub are_bits : List ℕ → Bool
are_bits bs = all_of (λ b. ltb b 2) bs

abbrev pub are_bytes : List ℕ → Bool
are_bytes ws = all_of (λ w. ltb w 256) ws
