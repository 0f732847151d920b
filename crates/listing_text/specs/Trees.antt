-- The line of a tree in a listing (02, A7). Assumes nothing: these are definitions.
use Rattle.std.specs.Prelude.{List, [], ◌∷◌, ◌++◌, ℕ}
use Rattle.base.specs.Lists.{join_below}
use Rattle.instance.specs.Instance.{Instance}
use Rattle.instance.specs.Arborescence.{parent, total}
use Rattle.text.specs.Lines.{codes, space, labelled, line}

-- the parent of a vertex behind a space; "the root's 255 is stored too", and printed
unfoldable pub parent_text : (parents : List ℕ) → (v : ℕ) → List ℕ
parent_text ps v = labelled (space ∷ []) (parent ps v)

-- the feeder list, position by position, and document 01's total of it: "the sum of its prices"
unfoldable pub tree_line : Instance → (parents : List ℕ) → List ℕ
tree_line s ps = codes "tree" ++ join_below s.n (parent_text ps) ++ line (codes " total ") (total s ps)

-- no line is longer: that of a tree of 32 vertices, where no number is longer than a byte's and no total than that of
-- the greatest weights; the first two lines together are not longer either
abbrev pub max_line : ℕ
max_line = 148
