-- States and costs of a place from a tree, by keys. Assumes nothing: these are definitions.
use Rattle.std.specs.Prelude.{cond, List, ℕ, ◌+◌, ◌/◌, ◌%◌, leb, eqb, get_or}
use Rattle.instance.specs.Limits.{no_arc}
use Rattle.instance.specs.Arborescence.{parent}
use Rattle.spanning.specs.Keys.{no_key}
use Rattle.spanning.specs.KeyTables.{key_at, greatest_between}
use Rattle.spanning.specs.ReplacementCosts.{no_replacement, not_in_tree}
use Rattle.runs.specs.Replacement.{cost_of}

unfoldable pub inside_state : (cost total limit : ℕ) → ℕ
inside_state c t l = cond (eqb c no_replacement) 3 (cond (leb (t + c) l) 2 3)

unfoldable pub outside_state : (key greatest total limit : ℕ) → ℕ
outside_state k d t l = cond (eqb k no_key) 1 (cond (eqb d 0) 1 (cond (leb (t + k) (l + d)) 2 1))

unfoldable pub tree_state : (keys : List ℕ) → (n : ℕ) → (parents : List ℕ) → (total limit i j : ℕ) → ℕ
tree_state ks n ps t l i j =
    cond (eqb (parent ps j) i) (inside_state (cost_of ks n ps j) t l)
    (cond (eqb (parent ps i) j) (inside_state (cost_of ks n ps i) t l) (outside_state (key_at ks i j) (greatest_between ks n ps i j) t l))

unfoldable pub place_state : (weights keys : List ℕ) → (n : ℕ) → (parents : List ℕ) → (total limit k : ℕ) → ℕ
place_state ws ks n ps t l k = cond (eqb (k / n) (k % n)) 0 (cond (eqb (get_or ws k 0) no_arc) 0 (tree_state ks n ps t l (k / n) (k % n)))

unfoldable pub closed_state : (weights : List ℕ) → (n k : ℕ) → ℕ
closed_state ws n k = cond (eqb (k / n) (k % n)) 0 (cond (eqb (get_or ws k 0) no_arc) 0 1)

-- of an edge of the tree, by the costs of the vertices below
unfoldable pub pair_cost : (parents : List ℕ) → (cost : ℕ → ℕ) → (i j : ℕ) → ℕ
pair_cost ps f i j = cond (eqb (parent ps j) i) (f j) (cond (eqb (parent ps i) j) (f i) not_in_tree)

abbrev pub cost_at : (parents : List ℕ) → (cost : ℕ → ℕ) → (n k : ℕ) → ℕ
cost_at ps f n k = pair_cost ps f (k / n) (k % n)
