-- How the documents' numbers hang together. Computed. Assumes nothing.
use mathlib.Core.Path.{◌≡◌, refl}
use Prim.Native.Nat.{◌+◌, ◌*◌}
use Rattle.instance.specs.Limits.{max_vertices, max_weight, no_arc, max_budget, cells, cut_limit, max_cuts, cut_words}

-- "32,505,794, which is 31 times that" (02, A9); "2n − 3 cuts" of 32 positions, a set and a value each; 32 times 32
-- cells
pub limits_agree : (max_budget ≡ 31 * max_weight) × (max_cuts ≡ cut_limit max_vertices) × (cut_words ≡ 2 * max_cuts) × (cells ≡ max_vertices * max_vertices)
limits_agree = (refl, refl, refl, refl)

-- since A9 no number lies between the dearest price and no link
pub no_gap : no_arc ≡ max_weight + 1
no_gap = refl
