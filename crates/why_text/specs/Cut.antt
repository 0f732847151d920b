-- The line of a cut: its positions and its amount. Assumes nothing: these are definitions.
use Rattle.std.specs.Prelude.{cond, List, [], ◌∷◌, ◌++◌, ℕ}
use Rattle.base.specs.Lists.{join_below}
use Rattle.instance.specs.Limits.{max_vertices}
use Rattle.instance.specs.Cuts.{inside}
use Rattle.text.specs.Lines.{codes, space, labelled, line}

-- a vertex of the set behind a space; nothing for another
unfoldable pub member_text : (set v : ℕ) → List ℕ
member_text c v = cond (inside c v) (labelled (space ∷ []) v) []

-- "the cuts as lines of positions and pence": the positions upwards, and the amount, 0 for the set that no link enters
unfoldable pub cut_line : (set value : ℕ) → List ℕ
cut_line c v = codes "cut" ++ join_below max_vertices (member_text c) ++ line (codes " pence ") v
