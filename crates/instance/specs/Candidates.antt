-- Every list that could be a list of parents, and among them the arborescences, the least total and the first
-- arborescence of that total. Assumes nothing: these are definitions. They say what is right by listing everything; no
-- program computes them.
use Rattle.std.specs.Prelude.{Bool, false, cond, List, [], ◌∷◌, ◌++◌, map, ℕ, zero, suc, min, eqb, get_or, replicate}
use Rattle.std.proofs.Math.Option.{Option, none, some}
use Rattle.base.specs.Lists.{tabulate, select}
use Rattle.instance.specs.Limits.{no_parent}
use Rattle.instance.specs.Instance.{Instance}
use Rattle.instance.specs.Arborescence.{is_arborescence, total}

-- each number in front of each list
unfoldable pub prefixed : List ℕ → List (List ℕ) → List (List ℕ)
prefixed [] ls = []
prefixed (x ∷ xs) ls = map (λ l. x ∷ l) ls ++ prefixed xs ls

-- what may stand at v: 255 at the root, any vertex elsewhere
unfoldable pub choices : Instance → (v : ℕ) → List ℕ
choices s v = cond (eqb v s.root) (no_parent ∷ []) (tabulate s.n (λ t. t))

-- every list of parents from vertex v on, in ascending order
unfoldable pub candidates_from : (left v : ℕ) → Instance → List (List ℕ)
candidates_from zero v s = [] ∷ []
candidates_from (suc k) v s = prefixed (choices s v) (candidates_from k (suc v) s)

unfoldable pub candidates : Instance → List (List ℕ)
candidates s = candidates_from s.n 0 s

unfoldable pub arborescences : Instance → List (List ℕ)
arborescences s = select (is_arborescence s) (candidates s)

-- the least total of some lists of parents
unfoldable pub lesser : ℕ → Option ℕ → Option ℕ
lesser v none = some v
lesser v (some w) = some (min v w)

unfoldable pub least_total : Instance → List (List ℕ) → Option ℕ
least_total s [] = none
least_total s (ps ∷ pss) = lesser (total s ps) (least_total s pss)

-- the total of a minimum weight arborescence, or none where there is no arborescence
unfoldable pub cheapest : Instance → Option ℕ
cheapest s = least_total s (arborescences s)

-- whether a total is the cheapest one
unfoldable pub is_cheapest : (cheapest : Option ℕ) → (total : ℕ) → Bool
is_cheapest none v = false
is_cheapest (some w) v = eqb v w

-- "all cheapest feed trees" (02, A10), in ascending order as the candidates are
unfoldable pub cheapest_trees : Instance → List (List ℕ)
cheapest_trees s = let w = cheapest s in select (λ ps. is_cheapest w (total s ps)) (arborescences s)

-- THE PARENTS SHOWN. Document 01 had feeders of 255 "everywhere when over or none", and left free which cheapest tree a
-- plan shows. 02, A2 amends the one: "when over budget .. the feeder list holds a cheapest tree"; 02, A10 the other:
-- "The feeder list is now, among all cheapest feed trees, the first when compared position by position." Where there is
-- no tree it stays 255 everywhere.
unfoldable pub first_tree : Instance → List ℕ
first_tree s = get_or (cheapest_trees s) 0 (replicate s.n no_parent)
