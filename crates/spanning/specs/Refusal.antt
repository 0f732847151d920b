-- By which number a graph is refused (02, A11). Assumes nothing: these are definitions.
use Rattle.std.specs.Prelude.{◌≡◌, Bool, ◌&&◌, ◌||◌, cond, List, [], ◌∷◌, ℕ, zero, suc, ◌*◌, ◌/◌, ◌%◌, ◌≤◌, ◌<◌, ltb, eqb, length}
use Rattle.instance.specs.Limits.{max_vertices}
use Rattle.instance.specs.Valid.{cell_ok}
use Rattle.instance.specs.Refusals.{buffer_short, count_out_of_range, out_of_range, unequal_pair}
use Rattle.spanning.specs.Graph.{Graph, edge_weight, edge_mark}

-- "Prices and marks must be equal both ways."
unfoldable pub same_both_ways : Graph → (i j : ℕ) → Bool
same_both_ways g i j = eqb (edge_weight g i j) (edge_weight g j i) && eqb (edge_mark g i j) (edge_mark g j i)

-- one cell "off the diagonal": "30 for a price or mark out of range or a marked run that has no price, before 31 for an
-- unequal pair, met at its first cell"; 0 if none of them
unfoldable pub cell_refusal : Graph → (i j : ℕ) → ℕ
cell_refusal g i j =
    cond (eqb i j) 0 (cond (cell_ok (edge_weight g i j) (edge_mark g i j)) (cond (same_both_ways g i j) 0 unequal_pair) out_of_range)

-- "by first faulty cell, feeder by feeder": of so many cells, from this one on
unfoldable pub refusal_from : Graph → (count k : ℕ) → ℕ
refusal_from g zero k = 0
refusal_from g (suc c) k = cond (eqb (cell_refusal g (k / g.n) (k % g.n)) 0) (refusal_from g c (suc k)) (cell_refusal g (k / g.n) (k % g.n))

unfoldable pub graph_refusal : Graph → ℕ
graph_refusal g = refusal_from g (g.n * g.n) 0

-- "29 for a count outside 1 to 32, then 14": of each list and buffer of n times n places the length is given
unfoldable pub room_refusal : (n weights marks states costs : ℕ) → ℕ
room_refusal n a b c d =
    cond (eqb n 0 || ltb max_vertices n) count_out_of_range
    (cond ((ltb a (n * n) || ltb b (n * n)) || (ltb c (n * n) || ltb d (n * n))) buffer_short 0)

-- and then by the cells
unfoldable pub call_refusal : Graph → (states costs : ℕ) → ℕ
call_refusal g c d =
    cond (eqb (room_refusal g.n (length g.weights) (length g.marks) c d) 0) (graph_refusal g)
    (room_refusal g.n (length g.weights) (length g.marks) c d)

-- what a graph has that is not refused, whatever the buffers' lengths are
pub record ValidGraph (g : Graph) : Type 0 where
  pub some : 0 < g.n
  pub small : g.n ≤ max_vertices
  pub weights_size : g.n * g.n ≤ length g.weights
  pub marks_size : g.n * g.n ≤ length g.marks
  pub edges : (i j : ℕ) → i < g.n → j < g.n → cell_refusal g i j ≡ 0

-- the call's numbers; 0 is accepted
abbrev pub call_numbers : List ℕ
call_numbers = 0 ∷ buffer_short ∷ count_out_of_range ∷ out_of_range ∷ unequal_pair ∷ []
