-- Numbers put together from digits, and taken apart. Assumes nothing: these are definitions.
use Rattle.std.specs.Prelude.{ℕ, ◌*◌, ◌/◌, ◌%◌, ◌^◌}
use Rattle.base.specs.Bounded.{sum_below}

-- the number whose digit h is g h, for each h below the count
unfoldable pub from_digits : (base count : ℕ) → (g : ℕ → ℕ) → ℕ
from_digits b k g = sum_below k (λ h. g h * b ^ h)

-- digit h of a number, the lowest at 0
unfoldable pub digit : (base value h : ℕ) → ℕ
digit b v h = v / b ^ h % b
