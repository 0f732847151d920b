-- What settling asks, kept from vertex to vertex: the sum of the arcs, the arcs of the matrix, and the parents below
-- the next vertex. Assumes nothing.
use mathlib.Core.Path.{◌≡◌, refl, sym, ap, ◌∙◌}
use mathlib.Core.Bool.{true, false, cond}
use mathlib.Core.List.{List, [], ◌∷◌, ◌++◌}
use mathlib.Core.Logic.{◌≢◌}
use Prim.Native.Nat.{ℕ, ◌+◌, ◌*◌, ◌/◌, ◌%◌, ◌≤◌, ◌<◌}
use native.Mathlib.Numerals.{add-one}
use native.Mathlib.Omega.{arith}
use lib.Dec.{eqb}
use lib.ListN.{length, get_or, take, set, replicate, length-set, length-replicate}
use lib.Seq.{get_or-take, get_or-set_same, get_or-set_other, take-suc-set}
use borrow.Author.Tests.{eq-eqb, ne_eqb}
use Rattle.base.specs.Bounded.{sum_below}
use Rattle.base.proofs.BoolLaws.{is_false, not_both}
use Rattle.base.proofs.BoundedLaws.{sum_eq}
use Rattle.base.proofs.CondLaws.{cond_most}
use Rattle.base.proofs.ListLaws.{default, get_d_tabulate}
use Rattle.base.proofs.SumLaws.{sum_more, sum_most}
use Rattle.instance.specs.Limits.{max_vertices, no_arc, no_parent, cells}
use Rattle.instance.specs.Instance.{Instance, cell, weight}
use Rattle.instance.specs.Arborescence.{parent, remaining, total}
use Rattle.instance.specs.Matrix.{matrix, matrix_instance, unmarked, MatrixOk}
use Rattle.instance.proofs.ArcLaws.{arc_weight, remaining_arc, remaining_ends}
use Rattle.instance.proofs.MatrixLaws.{matrix_arc, matrix_weight_most, matrix_cell, matrix_cells}
use Rattle.theory.proofs.MatrixInstances.{matrix_instance_remaining}
use Rattle.backtracking.specs.Listing.{Settling}

-- one parent more
pub prefix_more : (ps : List ℕ) (v p : ℕ) → v < length ps → take (v + 1) (set ps v p) ≡ take v ps ++ (p ∷ [])
prefix_more ps v p l = rw (add-one v) (take-suc-set ps v p l)

module _ (m ps : List ℕ) (n root v sum : ℕ) (g : Settling m ps n root v sum) where
  -- the weight of the arc into a vertex, as the sum has it
  abbrev term : (parents : List ℕ) → (u : ℕ) → ℕ
  term qs u = cond (eqb u root) 0 (get_or m (cell (parent qs u) u) no_arc)

  cell_most : (t h : ℕ) → get_or m (cell t h) no_arc ≤ no_arc
  cell_most t h = unfold weight unmarked in matrix_weight_most n root m g.matrix_ok t h

  pub sum_small : sum ≤ v * no_arc
  sum_small =
      let s = g.summed in
      let most = sum_most v (term ps) no_arc (λ u l. cond_most (eqb u root) 0 (get_or m (cell (parent ps u) u) no_arc) no_arc (omega arith) (cell_most (parent ps u) u)) in
      omega arith

  -- a cell as the program reads it
  module _ (t : ℕ) (tail : t < n) (h : v < n) where
    read : get_or m (cell t v) 0 ≡ get_or m (cell t v) no_arc
    read =
        let small = g.matrix_ok.small in
        let size = g.matrix_ok.size in
        default m (cell t v) 0 no_arc (omega arith)

    pub weight_most : get_or m (cell t v) 0 ≤ no_arc
    weight_most = let r = read in let most = cell_most t v in omega arith

    pub arc_missing : (b : ℕ) → get_or m (cell t v) 0 ≡ no_arc → remaining (matrix_instance n root b m) t v ≡ false
    unfolding unmarked weight
    arc_missing b e =
        matrix_instance_remaining n root b m t v
        ∙ is_false (remaining (unmarked n root m) t v)
        (λ r. not_both (eqb (get_or m (cell t v) no_arc) no_arc) (eq-eqb (get_or m (cell t v) no_arc) no_arc (sym read ∙ e)) (arc_weight (unmarked n root m) t v (remaining_arc (unmarked n root m) t v r)))

    pub arc_there : (b : ℕ) → v ≢ root → get_or m (cell t v) 0 ≢ no_arc → remaining (matrix_instance n root b m) t v ≡ true
    arc_there b d e =
        matrix_instance_remaining n root b m t v
        ∙ matrix_arc n root m t v tail h loop d (λ z. e (read ∙ z))
      where
        loop : t ≢ v
        loop z = e (read ∙ ap (λ (u : ℕ). get_or m (cell u v) no_arc) z ∙ g.loopless v h)

    same_below : (p u : ℕ) → u < v → term (set ps v p) u ≡ term ps u
    same_below p u l = ap (λ (q : ℕ). cond (eqb u root) 0 (get_or m (cell q u) no_arc)) (get_or-set_other ps v u p no_parent (λ e. omega arith))

    pub tail_settled : v ≢ root → Settling m (set ps v t) n root (v + 1) (sum + get_or m (cell t v) 0)
    tail_settled d =
        let places = g.places in
        let small = g.matrix_ok.small in
        let s = g.summed in
        let r = read in
        let more = sum_more v (term (set ps v t)) in
        let rest = sum_eq v (term (set ps v t)) (term ps) (same_below t) in
        let own : term (set ps v t) v ≡ get_or m (cell t v) no_arc = rw (ne_eqb v root d, get_or-set_same ps v t no_parent (omega arith)) in
        record { matrix_ok = g.matrix_ok; loopless = g.loopless; places = length-set ps v t ∙ g.places; up_to = omega arith; summed = omega arith }

  pub root_settled : v < n → v ≡ root → Settling m (set ps v no_parent) n root (v + 1) sum
  root_settled h e =
      let s = g.summed in
      let more = sum_more v (term (set ps v no_parent)) in
      let rest = sum_eq v (term (set ps v no_parent)) (term ps) (λ u l. ap (λ (q : ℕ). cond (eqb u root) 0 (get_or m (cell q u) no_arc)) (get_or-set_other ps v u no_parent no_parent (λ z. omega arith))) in
      let own : term (set ps v no_parent) v ≡ 0 = rw (eq-eqb v root e) in
      record { matrix_ok = g.matrix_ok; loopless = g.loopless; places = length-set ps v no_parent ∙ g.places; up_to = omega arith; summed = omega arith }

  -- all are settled: the sum is the total
  pub whole_sum : (b : ℕ) → v ≡ n → total (matrix_instance n root b m) (take v ps) ≡ sum
  unfolding total weight
  whole_sum b e =
      sum_eq n (term (take v ps)) (term ps) (λ u l. ap (λ (q : ℕ). cond (eqb u root) 0 (get_or m (cell q u) no_arc)) (get_or-take v ps u no_parent (omega arith)))
      ∙ ap (λ (k : ℕ). sum_below k (term ps)) (sym e) ∙ sym g.summed

-- the last tail is tried: the sum with it is the total
pub last_sum : (m ps : List ℕ) (n root v sum : ℕ) (g : Settling m ps n root v sum) (t b : ℕ) → t < n → v < n → v ≢ root → v + 1 ≡ n
    → total (matrix_instance n root b m) (take v ps ++ (t ∷ [])) ≡ sum + get_or m (cell t v) 0
last_sum m ps n root v sum g t b k h d e =
    let small = g.matrix_ok.small in
    let places = g.places in
    ap (total (matrix_instance n root b m)) (sym (prefix_more ps v t (omega arith)))
    ∙ whole_sum m (set ps v t) n root (v + 1) (sum + get_or m (cell t v) 0) (tail_settled m ps n root v sum g t k h d) b e

-- THE FIRST VERTEX, on the matrix of what remains of an instance: an arc joins two different vertices
pub first_settling : (s : Instance) → MatrixOk s.n s.root (matrix s) → Settling (matrix s) (replicate max_vertices no_parent) s.n s.root 0 0
unfolding sum_below
first_settling s ok =
    record {
      matrix_ok = ok;
      loopless = loopless;
      places = length-replicate max_vertices no_parent;
      up_to = omega arith;
      summed = refl;
    }
  where
    none : (u : ℕ) → remaining s u u ≡ false
    none u = is_false (remaining s u u) (λ r. not_both (eqb u u) (eq-eqb u u refl) (remaining_ends s u u r).differ)

    loopless : (u : ℕ) → u < s.n → get_or (matrix s) (cell u u) no_arc ≡ no_arc
    loopless u l =
        let small = ok.small in
        let a : cell u u / 32 ≡ u = omega arith in
        let b : cell u u % 32 ≡ u = omega arith in
        ap (λ (xs : List ℕ). get_or xs (cell u u) no_arc) (matrix_cells s) ∙ get_d_tabulate cells (matrix_cell s) (cell u u) no_arc (omega arith) ∙ rw (a, b, none u)
