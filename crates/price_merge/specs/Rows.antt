-- The rows that are used of two price lists (02, A12), as one list. Assumes nothing: these are definitions.
use Rattle.std.specs.Prelude.{List, ℕ}
use Rattle.base.specs.Lists.{join_below}
use Rattle.price_row.specs.Row.{row_used}

-- the row of each tail, one behind the other
unfoldable pub rows_used : (n : ℕ) → (school shipped : List ℕ) → List ℕ
rows_used n a b = join_below n (λ t. row_used n t a b)
