-- Weight matrices: a cell as a program reads it, the arcs of a matrix, and the matrix of what remains of an instance.
-- Assumes nothing.
use mathlib.Core.Path.{◌≡◌, refl, ap, ◌∙◌}
use mathlib.Core.Bool.{true, false, ◌&&◌, not, cond}
use mathlib.Core.List.{List}
use mathlib.Core.Logic.{◌≢◌, ⊎_elim}
use Prim.Native.Nat.{ℕ, ◌*◌, ◌/◌, ◌%◌, ◌≤◌, ◌<◌}
use native.Mathlib.Omega.{arith}
use lib.Dec.{ltb, eqb}
use lib.ListN.{length, get_or, set, replicate, get_or-replicate, get_or-eq_default}
use lib.Seq.{get_or-set_same, get_or-set_other}
use borrow.Author.Tests.{lt-ltb, ltb-true, ltb-false, eqb-true, eqb-false, ne_eqb}
use Rattle.base.specs.Lists.{tabulate}
use Rattle.base.proofs.BoolLaws.{test, and_left}
use Rattle.base.proofs.BoundedLaws.{all_at}
use Rattle.base.proofs.ListLaws.{default, length_tabulate, get_d_tabulate}
use Rattle.base.proofs.SumLaws.{sum_most}
use Rattle.base.proofs.CondLaws.{cond_most}
use Rattle.instance.specs.Limits.{no_arc, banned, cells}
use Rattle.instance.specs.Instance.{Instance, instance_with, cell, weight_at, mark_at, weight, mark, can_be_arc, is_arc}
use Rattle.instance.specs.Arborescence.{is_pinned, other_pinned, remaining, parent, total}
use Rattle.instance.specs.Valid.{cell_valid, valid_instance}
use Rattle.instance.specs.Matrix.{matrix_where, matrix, unmarked, Weights, MatrixOk}
use Rattle.instance.proofs.ArcLaws.{Ends, remaining_ends, unmarked_remaining}
use Rattle.instance.proofs.ValidLaws.{weight_fits, valid_small, valid_root, valid_cells}

-- CELLS
pub cell_of : (i : ℕ) → cell (i / 32) (i % 32) ≡ i
cell_of i = omega arith

-- a word read in range, where a cell that is lacking would be no arc
pub weight_read : (s : Instance) (t h : ℕ) → length s.weights ≡ cells → cell t h < cells → get_or s.weights (cell t h) 0 ≡ weight s t h
unfolding weight
weight_read s t h e l = default s.weights (cell t h) 0 no_arc (omega arith)

-- THE ARCS OF A MATRIX
module _ (n r : ℕ) (m : List ℕ) (t h : ℕ) where
  pub matrix_ends : remaining (unmarked n r m) t h ≡ true → Ends n r t h
  unfolding unmarked
  matrix_ends e = remaining_ends (unmarked n r m) t h e

  pub matrix_arc : t < n → h < n → t ≢ h → h ≢ r → get_or m (cell t h) no_arc ≢ no_arc → remaining (unmarked n r m) t h ≡ true
  unfolding unmarked is_arc can_be_arc weight
  matrix_arc tb hb d nr x =
      unmarked_remaining n r m t h ∙ rw (lt-ltb t n tb, lt-ltb h n hb, ne_eqb t h d, ne_eqb h r nr, ne_eqb (get_or m (cell t h) no_arc) no_arc x)

-- MATRICES THAT CAN BE PLANNED ON
pub no_arcs_fit : Weights (replicate cells no_arc)
no_arcs_fit i l = let e = get_or-replicate {A = ℕ} cells i no_arc no_arc l in omega arith

pub store_fits : (m : List ℕ) (i x : ℕ) → length m ≡ cells → x ≤ no_arc → Weights m → Weights (set m i x)
store_fits m i x size le fits j l =
    ⊎_elim (λ (e : eqb j i ≡ true). let q = eqb-true j i e in let y : get_or (set m i x) j no_arc ≡ x = rw q (get_or-set_same m i x no_arc (omega arith)) in omega arith)
    (λ (e : eqb j i ≡ false). let y = get_or-set_other m i j x no_arc (eqb-false j i e) in let f = fits j l in omega arith) (test (eqb j i))

module _ (n r : ℕ) (m : List ℕ) (ok : MatrixOk n r m) where
  pub matrix_weight_most : (t h : ℕ) → weight (unmarked n r m) t h ≤ no_arc
  unfolding weight unmarked
  matrix_weight_most t h =
      ⊎_elim (λ (e : ltb (cell t h) cells ≡ true). ok.bounded (cell t h) (ltb-true (cell t h) cells e))
      (λ (e : ltb (cell t h) cells ≡ false).
      let l = ltb-false (cell t h) cells e in
      let size = ok.size in
      let d = get_or-eq_default m no_arc {n = cell t h} (omega arith) in
      omega arith)
      (test (ltb (cell t h) cells))

  pub matrix_total_most : (ps : List ℕ) → total (unmarked n r m) ps ≤ n * no_arc
  unfolding total unmarked
  matrix_total_most ps =
      sum_most n (λ v. cond (eqb v r) 0 (weight (unmarked n r m) (parent ps v) v)) no_arc
      (λ v l. cond_most (eqb v r) 0 (weight (unmarked n r m) (parent ps v) v) no_arc (omega arith) (matrix_weight_most (parent ps v) v))

-- THE MATRIX OF WHAT REMAINS
-- what it holds at a cell
abbrev pub matrix_cell : Instance → (i : ℕ) → ℕ
matrix_cell s i = cond (remaining s (i / 32) (i % 32) && true) (weight_at s i) no_arc

pub matrix_cells : (s : Instance) → matrix s ≡ tabulate cells (matrix_cell s)
unfolding matrix matrix_where
matrix_cells s = refl

-- it does not depend on the budget
pub matrix_budget : (n r b : ℕ) (ws ms : List ℕ) → matrix (instance_with n r b ws ms) ≡ matrix (instance_with n r 0 ws ms)
unfolding matrix matrix_where remaining is_arc other_pinned is_pinned weight mark
matrix_budget n r b ws ms = refl

-- the matrix of a valid instance can be planned on
module _ (s : Instance) (v : valid_instance s ≡ true) where
  remains_valid : (i : ℕ) → i < cells → remaining s (i / 32) (i % 32) ≡ true → weight_at s i ≤ no_arc
  unfolding valid_instance cell_valid remaining is_arc
  remains_valid i l r =
      let t = i / 32 in
      let h = i % 32 in
      let arc = and_left (can_be_arc s.n s.root t h && not (eqb (weight s t h) no_arc)) (not (eqb (mark s t h) banned) && not (other_pinned s t h)) r in
      let can = and_left (can_be_arc s.n s.root t h) (not (eqb (weight s t h) no_arc)) arc in
      let ok = all_at cells (cell_valid s) i l (valid_cells s v) in
      weight_fits (weight_at s i) (mark_at s i) (rw can at ok)

  cell_fits : (i : ℕ) → i < cells → matrix_cell s i ≤ no_arc
  cell_fits i l =
      ⊎_elim (λ (r : remaining s (i / 32) (i % 32) ≡ true). let m = remains_valid i l r in rw r m)
      (λ (r : remaining s (i / 32) (i % 32) ≡ false). rw r (omega arith)) (test (remaining s (i / 32) (i % 32)))

  pub valid_matrix : MatrixOk s.n s.root (matrix s)
  valid_matrix =
      record {
        small = valid_small s v;
        root_below = valid_root s v;
        size = ap length (matrix_cells s) ∙ length_tabulate cells (matrix_cell s);
        bounded = λ i l. rw (matrix_cells s, get_d_tabulate cells (matrix_cell s) i no_arc l) (cell_fits i l);
      }
