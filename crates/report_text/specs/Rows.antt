-- The rows of a report: the states of the arcs (document 01, "Sheet Q and its outcomes"). Assumes nothing: these are
-- definitions.
use Rattle.std.specs.Prelude.{List, [], ◌∷◌, ◌++◌, ℕ, ◌+◌, ◌*◌, get_or}
use Rattle.base.specs.Lists.{join_below}
use Rattle.text.specs.Decimal.{decimal}
use Rattle.text.specs.Lines.{codes, space, line_feed, labelled}

-- the n states of a tail's arcs, from n times n states, tail by tail
abbrev pub row_states : (states : List ℕ) → (n tail : ℕ) → List ℕ
row_states ss n t = join_below n (λ h. decimal (get_or ss (t * n + h) 0))

-- "feeder and its n states"
unfoldable pub row_line : (states : List ℕ) → (n tail : ℕ) → List ℕ
row_line ss n t = labelled (codes "row ") t ++ (space ∷ []) ++ row_states ss n t ++ (line_feed ∷ [])

unfoldable pub row_lines : (states : List ℕ) → (n : ℕ) → List ℕ
row_lines ss n = join_below n (row_line ss n)
