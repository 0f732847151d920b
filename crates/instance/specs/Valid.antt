-- Valid instances: every field in its range (Limits). Assumes nothing: these are definitions.
use Rattle.std.specs.Prelude.{Bool, true, ◌&&◌, cond, ℕ, ◌/◌, ◌%◌, ltb, leb, eqb}
use Rattle.base.specs.Bounded.{all_below}
use Rattle.instance.specs.Limits.{max_vertices, max_weight, no_arc, max_budget, free, banned, cells}
use Rattle.instance.specs.Instance.{Instance, weight_at, mark_at, can_be_arc}

-- a weight and a mark that a cell may hold: a price with any mark, or no arc and free
unfoldable pub cell_ok : (weight mark : ℕ) → Bool
cell_ok w m = cond (leb w max_weight) (leb m banned) (eqb w no_arc && eqb m free)

-- "cells that can never be a link .. are never looked at"
unfoldable pub cell_valid : Instance → (i : ℕ) → Bool
cell_valid s i = cond (can_be_arc s.n s.root (i / 32) (i % 32)) (cell_ok (weight_at s i) (mark_at s i)) true

unfoldable pub header_valid : (n root budget : ℕ) → Bool
header_valid n r b = (leb 1 n && leb n max_vertices) && (ltb r n && leb b max_budget)

unfoldable pub valid_instance : Instance → Bool
valid_instance s = header_valid s.n s.root s.budget && all_below cells (cell_valid s)
