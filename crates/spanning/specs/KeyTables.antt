-- Keys in a table with a stride of 32, and what the search computes from it. Assumes nothing: these are definitions.
use Rattle.std.specs.Prelude.{◌≡◌, Bool, true, ◌&&◌, not, cond, List, ◌≢◌, ℕ, ◌*◌, ◌/◌, ◌%◌, ◌<◌, ltb, eqb, get_or}
use Rattle.base.specs.Bounded.{all_below}
use Rattle.base.specs.Lists.{tabulate}
use Rattle.instance.specs.Limits.{cells}
use Rattle.instance.specs.Instance.{cell}
use Rattle.instance.specs.Arborescence.{parent, reaches}
use Rattle.spanning.specs.Extremes.{least_below, greatest_below}
use Rattle.spanning.specs.Graph.{Graph}
use Rattle.spanning.specs.Refusal.{ValidGraph}
use Rattle.spanning.specs.SpanningTrees.{joins}
use Rattle.spanning.specs.Keys.{no_key, edge_key}

abbrev pub key_at : (keys : List ℕ) → (i j : ℕ) → ℕ
key_at ks i j = get_or ks (cell i j) 0

-- what the table of a graph holds in a cell; the diagonal, which is never judged, and what is outside have no key
unfoldable pub table_key : Graph → (c : ℕ) → ℕ
table_key g c = cond ((ltb (c / 32) g.n && ltb (c % 32) g.n) && not (eqb (c / 32) (c % 32))) (edge_key g (c / 32) (c % 32)) no_key

abbrev pub key_table : Graph → List ℕ
key_table g = tabulate cells (table_key g)

-- a table that holds the keys of a graph which is not refused
pub record KeysOf (g : Graph) (n : ℕ) (keys : List ℕ) : Type 0 where
  pub valid : ValidGraph g
  pub count : g.n ≡ n
  pub at : (i j : ℕ) → i < n → j < n → i ≢ j → key_at keys i j ≡ edge_key g i j

-- a tree has every edge of key 0
unfoldable pub keeps_zero : (keys : List ℕ) → (n : ℕ) → (parents : List ℕ) → Bool
keeps_zero ks n ps =
    all_below (n * n) (λ k. cond (not (eqb (k / n) (k % n)) && eqb (key_at ks (k / n) (k % n)) 0) (joins ps (k / n) (k % n)) true)

-- the key of an edge that reconnects the two sides of the tree's edge from v to its parent: from i outside to j below
-- v; of others there is none
unfoldable pub crossing_key : (keys : List ℕ) → (n : ℕ) → (parents : List ℕ) → (v j i : ℕ) → ℕ
crossing_key ks n ps v j i =
    cond (reaches n v ps j) (cond (reaches n v ps i) no_key (cond (eqb i (parent ps v) && eqb j v) no_key (key_at ks i j))) no_key

unfoldable pub least_into : (keys : List ℕ) → (n : ℕ) → (parents : List ℕ) → (v j : ℕ) → ℕ
least_into ks n ps v j = least_below no_key n (crossing_key ks n ps v j)

unfoldable pub least_crossing : (keys : List ℕ) → (n : ℕ) → (parents : List ℕ) → (v : ℕ) → ℕ
least_crossing ks n ps v = least_below no_key n (least_into ks n ps v)

-- the key of the tree's edge from v to its parent, if it lies on the path between i and j
unfoldable pub between_key : (keys : List ℕ) → (n : ℕ) → (parents : List ℕ) → (i j v : ℕ) → ℕ
between_key ks n ps i j v =
    cond (eqb v 0) 0 (cond (reaches n v ps i) (cond (reaches n v ps j) 0 (key_at ks (parent ps v) v)) (cond (reaches n v ps j) (key_at ks (parent ps v) v) 0))

unfoldable pub greatest_between : (keys : List ℕ) → (n : ℕ) → (parents : List ℕ) → (i j : ℕ) → ℕ
greatest_between ks n ps i j = greatest_below n (between_key ks n ps i j)
