-- The weights that the algorithm starts from are those of the remaining arcs. In a weight matrix every arc is free, so
-- all arcs remain. Assumes nothing.
use mathlib.Core.Path.{◌≡◌, sym, ◌∙◌}
use mathlib.Core.Bool.{true}
use mathlib.Core.List.{List}
use mathlib.Core.Logic.{◌≢◌}
use Prim.Native.Nat.{ℕ, ◌<◌}
use native.Mathlib.Omega.{arith}
use lib.ListN.{get_or}
use borrow.Author.Tests.{eqb-false}
use Rattle.base.proofs.ListLaws.{default}
use Rattle.instance.specs.Limits.{no_arc}
use Rattle.instance.specs.Instance.{Instance, cell, weight}
use Rattle.instance.specs.Arborescence.{remaining}
use Rattle.instance.specs.Matrix.{unmarked, MatrixOk}
use Rattle.instance.proofs.ArcLaws.{arc_weight, unmarked_remaining}
use Rattle.instance.proofs.MatrixLaws.{matrix_ends, matrix_arc}
use Rattle.contraction.specs.Cells.{cost}

pub record ArcWeights (s : Instance) (w : ℕ → ℕ → ℕ) : Type 0 where
  pub tail_below : (t h : ℕ) → remaining s t h ≡ true → t < s.n
  pub head_below : (t h : ℕ) → remaining s t h ≡ true → h < s.n
  pub there : (t h : ℕ) → remaining s t h ≡ true → w t h < no_arc
  pub is : (t h : ℕ) → remaining s t h ≡ true → w t h ≡ weight s t h
  pub only : (t h : ℕ) → t < s.n → h < s.n → t ≢ h → h ≢ s.root → w t h < no_arc → remaining s t h ≡ true

module _ (n root : ℕ) (ws : List ℕ) (ok : MatrixOk n root ws) where
  same : (t h : ℕ) → t < n → h < n → cost ws t h ≡ get_or ws (cell t h) no_arc
  same t h l m = let small = ok.small in let size = ok.size in default ws (cell t h) 0 no_arc (omega arith)

  absent : (t h : ℕ) → remaining (unmarked n root ws) t h ≡ true → get_or ws (cell t h) no_arc ≢ no_arc
  unfolding weight unmarked
  absent t h r = eqb-false (get_or ws (cell t h) no_arc) no_arc (arc_weight (unmarked n root ws) t h (sym (unmarked_remaining n root ws t h) ∙ r))

  pub matrix_weights : ArcWeights (unmarked n root ws) (cost ws)
  unfolding unmarked weight
  matrix_weights =
      record {
        tail_below = λ t h r. (matrix_ends n root ws t h r).tail_below;
        head_below = λ t h r. (matrix_ends n root ws t h r).head_below;
        there =
            λ t h r.
            let l = (matrix_ends n root ws t h r).tail_below in
            let m = (matrix_ends n root ws t h r).head_below in
            let small = ok.small in
            let d = absent t h r in
            let e = same t h l m in
            let f = ok.bounded (cell t h) (omega arith) in
            omega arith;
        is = λ t h r. let a = matrix_ends n root ws t h r in same t h a.tail_below a.head_below;
        only = λ t h l m d nr th. let e = same t h l m in matrix_arc n root ws t h l m d nr (λ x. omega arith);
      }
