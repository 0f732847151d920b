-- What a program reads of an arborescence on a matrix. Assumes nothing.
use mathlib.Core.Path.{◌≡◌, sym, ◌∙◌}
use mathlib.Core.Bool.{cond}
use mathlib.Core.List.{List}
use mathlib.Core.Logic.{◌≢◌}
use Prim.Native.Nat.{ℕ, ◌≤◌, ◌<◌}
use native.Mathlib.Omega.{arith}
use lib.Dec.{eqb}
use lib.ListN.{length, get_or, take}
use lib.Seq.{get_or-take}
use borrow.Author.Tests.{ne_eqb}
use Rattle.base.proofs.BoundedLaws.{sum_room, sum_zero}
use Rattle.base.proofs.ListLaws.{default}
use Rattle.instance.specs.Limits.{max_vertices, no_arc, no_parent}
use Rattle.instance.specs.Instance.{cell, weight}
use Rattle.instance.specs.Arborescence.{parent, total}
use Rattle.instance.specs.Matrix.{unmarked}
use Rattle.paths.specs.Paths.{Rooted}
use Rattle.paths.specs.Tree.{MatrixTree}
use Rattle.paths.proofs.PathLaws.{depth, depth_falls}
use Rattle.paths.proofs.ExchangeLaws.{rooted}

-- a parent read from the 32 places
pub parent_read : (n v : ℕ) (ps : List ℕ) → n ≤ max_vertices → length ps ≡ max_vertices → v < n → get_or ps v 0 ≡ parent (take n ps) v
parent_read n v ps small e l = default ps v 0 no_parent (omega arith) ∙ sym (get_or-take n ps v no_parent l)

module _ (n root v : ℕ) (ps : List ℕ) (small : n ≤ max_vertices) (places : length ps ≡ max_vertices) (k : Rooted n root (take n ps)) (l : v < n) (e : v ≢ root) where
  pub rooted_tail : get_or ps v 0 < n
  rooted_tail = rw (parent_read n v ps small places l) (k.below v l (ne_eqb v root e))

  -- one step of a path, as a program makes it
  pub step_falls : depth n root (take n ps) (get_or ps v 0) < depth n root (take n ps) v
  step_falls = rw (parent_read n v ps small places l) (depth_falls n root (take n ps) k v l e)

module _ (n root : ℕ) (m ps : List ℕ) (k : MatrixTree n root m ps) where
  pub tree_rooted : Rooted n root (take n ps)
  unfolding unmarked
  tree_rooted = rooted (unmarked n root m) (take n ps) k.matrix_ok.root_below k.arborescence

  module _ (v : ℕ) (l : v < n) (e : v ≢ root) where
    pub tail_below : get_or ps v 0 < n
    tail_below = rooted_tail n root v ps k.matrix_ok.small k.places tree_rooted l e

    -- the arc into a vertex, and the total that has it
    pub own_weight : weight (unmarked n root m) (parent (take n ps) v) v ≡ get_or m (cell (get_or ps v 0) v) 0
    unfolding weight unmarked
    own_weight =
        let b = tail_below in
        let small = k.matrix_ok.small in
        let size = k.matrix_ok.size in
        rw (← parent_read n v ps small k.places l) (default m (cell (get_or ps v 0) v) no_arc 0 (omega arith))

    pub own_most : get_or m (cell (get_or ps v 0) v) 0 ≤ total (unmarked n root m) (take n ps)
    unfolding total unmarked
    own_most =
        let own = own_weight in
        let term : cond (eqb v root) 0 (weight (unmarked n root m) (parent (take n ps) v) v) ≡ weight (unmarked n root m) (parent (take n ps) v) v = rw (ne_eqb v root e) in
        let some = sum_room n (λ q. 0) (λ q. cond (eqb q root) 0 (weight (unmarked n root m) (parent (take n ps) q) q)) (λ q _. omega arith) v l in
        let none = sum_zero n in
        omega arith
