-- The matrix that planning leaves holds the reduced costs; and how a caller reads one. Assumes nothing.
use mathlib.Core.Path.{◌≡◌, ◌∙◌, subst}
use mathlib.Core.Bool.{true, false, cond}
use mathlib.Core.List.{List}
use mathlib.Core.Logic.{inl, inr, ⊎_elim}
use Prim.Native.Nat.{ℕ, ◌/◌, ◌%◌, ◌<◌}
use native.Mathlib.Omega.{arith}
use lib.Dec.{ltb, eqb}
use lib.ListN.{length, get_or}
use borrow.Author.Tests.{eqb-true, eqb-false, ltb-true, ltb-false}
use Rattle.base.proofs.BoolLaws.{test, not_both}
use Rattle.base.proofs.ListLaws.{default, get_d_tabulate, tabulate_is}
use Rattle.instance.specs.Limits.{max_vertices, no_arc, cells}
use Rattle.instance.specs.Instance.{Instance, cell, weight, weight_at}
use Rattle.instance.specs.Arborescence.{remaining}
use Rattle.instance.specs.Cuts.{Cut, charged, reduced_cost}
use Rattle.instance.specs.Matrix.{unmarked, MatrixOk}
use Rattle.contraction.specs.Cells.{nth, cost}
use Rattle.contraction.specs.Groups.{Lowered}
use Rattle.contraction.specs.Trees.{Each, ProperCut}
use Rattle.contraction.proofs.Finish.{charged_self, charged_root}
use Rattle.contraction.proofs.ArcWeights.{matrix_weights}
use Rattle.edmonds.specs.Planned.{reduced_matrix}

module _ (ws₀ : List ℕ) (n root : ℕ) (ok : MatrixOk n root ws₀) where
  abbrev s : Instance
  s = unmarked n root ws₀

  module _ (ws' : List ℕ) (cs : List Cut) (size' : length ws' ≡ cells) (lo : Lowered n (cost ws₀) (cost ws') cs) (proper_cuts : Each (ProperCut n root) cs) where
    -- an arc that does not remain is charged nothing: it runs from a vertex to itself, or into the root
    free_cell : (t h : ℕ) → t < n → h < n → cost ws₀ t h < no_arc → remaining s t h ≡ false → cost ws' t h ≡ cost ws₀ t h
    unfolding unmarked
    free_cell t h l m th r =
        let x = lo.paid t h l m th in
        ⊎_elim (λ (a : eqb t h ≡ true). let e = eqb-true t h a in let z : charged cs t h ≡ 0 = rw e (charged_self cs h) in omega arith)
        (λ (a : eqb t h ≡ false).
        ⊎_elim (λ (b : eqb h root ≡ true). let e = eqb-true h root b in let z : charged cs t h ≡ 0 = rw e (charged_root cs t proper_cuts) in omega arith)
        (λ (b : eqb h root ≡ false).
        absurd (not_both (remaining s t h) ((matrix_weights n root ws₀ ok).only t h l m (eqb-false t h a) (eqb-false h root b) th) r))
        (test (eqb h root)))
        (test (eqb t h))

    same_cell : (t h : ℕ) → t < max_vertices → h < max_vertices → remaining s t h ≡ false → cost ws' t h ≡ cost ws₀ t h
    same_cell t h l m r =
        ⊎_elim
        (λ (a : ltb t n ≡ true).
        ⊎_elim
        (λ (b : ltb h n ≡ true).
        ⊎_elim (λ (c : ltb (cost ws₀ t h) no_arc ≡ true). free_cell t h (ltb-true t n a) (ltb-true h n b) (ltb-true (cost ws₀ t h) no_arc c) r)
        (λ (c : ltb (cost ws₀ t h) no_arc ≡ false). lo.same t h m (inr (inr (ltb-false (cost ws₀ t h) no_arc c)))) (test (ltb (cost ws₀ t h) no_arc)))
        (λ (b : ltb h n ≡ false). lo.same t h m (inr (inl (ltb-false h n b)))) (test (ltb h n)))
        (λ (a : ltb t n ≡ false). lo.same t h m (inl (ltb-false t n a))) (test (ltb t n))

    one_cell : (t h : ℕ) → t < max_vertices → h < max_vertices → cost ws' t h ≡ cond (remaining s t h) (reduced_cost s cs t h) (weight_at s (cell t h))
    unfolding reduced_cost unmarked weight
    one_cell t h l m =
        ⊎_elim
        (λ (r : remaining s t h ≡ true).
        let sh = matrix_weights n root ws₀ ok in
        let x = lo.paid t h (sh.tail_below t h r) (sh.head_below t h r) (sh.there t h r) in
        let e = sh.is t h r in
        rw r (omega arith))
        (λ (r : remaining s t h ≡ false). let size = ok.size in rw r (same_cell t h l m r ∙ default ws₀ (cell t h) 0 no_arc (omega arith))) (test (remaining s t h))

    pub is_reduced : ws' ≡ reduced_matrix s cs
    unfolding reduced_matrix
    is_reduced =
        tabulate_is cells ws' (λ i. cond (remaining s (i / 32) (i % 32)) (reduced_cost s cs (i / 32) (i % 32)) (weight_at s i)) 0 size'
        (λ i l.
        let e : cell (i / 32) (i % 32) ≡ i = omega arith in
        subst (λ (j : ℕ). nth ws' j ≡ cond (remaining s (i / 32) (i % 32)) (reduced_cost s cs (i / 32) (i % 32)) (weight_at s j)) e
        (one_cell (i / 32) (i % 32) (omega arith) (omega arith)))

-- READ OFF
module _ (s : Instance) (cs : List Cut) (t h : ℕ) (l : t < max_vertices) (m : h < max_vertices) where
  at_cell : get_or (reduced_matrix s cs) (cell t h) no_arc ≡ cond (remaining s t h) (reduced_cost s cs t h) (weight_at s (cell t h))
  unfolding reduced_matrix
  at_cell =
      let et : cell t h / 32 ≡ t = omega arith in
      let eh : cell t h % 32 ≡ h = omega arith in
      get_d_tabulate cells (λ i. cond (remaining s (i / 32) (i % 32)) (reduced_cost s cs (i / 32) (i % 32)) (weight_at s i)) (cell t h) no_arc (omega arith) ∙ rw (et, eh)

  pub reduced_arc : remaining s t h ≡ true → get_or (reduced_matrix s cs) (cell t h) no_arc ≡ reduced_cost s cs t h
  reduced_arc r = at_cell ∙ rw r
