-- Arrays by index: a matrix of weights with a stride of 32, labels, parents. Assumes nothing: these are definitions.
use Rattle.std.specs.Prelude.{◌≡◌, List, ℕ, ◌<◌, get_or}
use Rattle.instance.specs.Limits.{max_vertices}
use Rattle.instance.specs.Instance.{cell}

abbrev pub nth : List ℕ → ℕ → ℕ
nth l i = get_or l i 0

-- what a matrix holds for the arc from tail to head: its weight, less what was charged so far
abbrev pub cost : (matrix : List ℕ) → (tail head : ℕ) → ℕ
cost ws t h = nth ws (cell t h)

-- each vertex is its own label
abbrev pub OwnLabels : List ℕ → Type 0
OwnLabels ls = (v : ℕ) → v < max_vertices → nth ls v ≡ v

-- each label is a vertex
abbrev pub LabelsBelow : (n : ℕ) → List ℕ → Type 0
LabelsBelow n ls = (v : ℕ) → v < n → nth ls v < n
