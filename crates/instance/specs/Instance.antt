-- Problem instances and their arcs. Assumes nothing: these are definitions.
use Rattle.std.specs.Prelude.{Bool, ◌&&◌, not, List, ℕ, ◌+◌, ◌*◌, ltb, eqb, get_or}
use Rattle.instance.specs.Limits.{no_arc, free}

-- An instance (document 01: a sheet with its marks): n vertices (positions), numbered from 0, of which one is the root
-- (the console); a weight (price) and a mark for each cell.
pub record Instance : Type 0 where
  pub n : ℕ
  pub root : ℕ
  pub budget : ℕ
  pub weights : List ℕ
  pub marks : List ℕ

abbrev pub instance_with : (n root budget : ℕ) → (weights marks : List ℕ) → Instance
instance_with n r b ws ms = record { n = n; root = r; budget = b; weights = ws; marks = ms }

-- another budget
abbrev pub with_budget : (budget : ℕ) → Instance → Instance
with_budget b s = instance_with s.n s.root b s.weights s.marks

-- for promises in which the budget has no part
abbrev pub without_budget : (n root : ℕ) → (weights marks : List ℕ) → Instance
without_budget n r ws ms = instance_with n r 0 ws ms

-- the cell of the arc from tail to head (document 01: feeder, fed): tail by tail, with a stride of 32 whatever n is
abbrev pub cell : (tail head : ℕ) → ℕ
cell t h = 32 * t + h

-- a cell that the lists lack is no arc, and free
abbrev pub weight_at : Instance → (i : ℕ) → ℕ
weight_at s i = get_or s.weights i no_arc

abbrev pub mark_at : Instance → (i : ℕ) → ℕ
mark_at s i = get_or s.marks i free

unfoldable pub weight : Instance → (tail head : ℕ) → ℕ
weight s t h = weight_at s (cell t h)

unfoldable pub mark : Instance → (tail head : ℕ) → ℕ
mark s t h = mark_at s (cell t h)

-- where an arc can be: between two different vertices, and not into the root
unfoldable pub can_be_arc : (n root tail head : ℕ) → Bool
can_be_arc n r t h = (ltb t n && ltb h n) && (not (eqb t h) && not (eqb h r))

-- An arc (document 01: a link) "exists where the two differ, the fed one is not the root, and the price is not 'no
-- link'".
unfoldable pub is_arc : Instance → (tail head : ℕ) → Bool
is_arc s t h = can_be_arc s.n s.root t h && not (eqb (weight s t h) no_arc)
