-- The matrices that are planned on are those of the definitions, and can be planned on. Assumes nothing.
use mathlib.Core.Path.{◌≡◌, refl, sym, ap, ◌∙◌}
use mathlib.Core.Bool.{Bool, true, false, ◌&&◌, ◌||◌, not, cond, true≢false}
use mathlib.Core.List.{List}
use Prim.Native.Nat.{ℕ, ◌/◌, ◌%◌, ◌<◌}
use native.Mathlib.Omega.{arith}
use native.Mathlib.Decide.{ℕ_discrete}
use lib.Dec.{ltb, eqb}
use lib.ListN.{length, get_or, set, length-set}
use lib.Seq.{get_or-set_same, get_or-set_other}
use borrow.Author.Tests.{lt-ltb, eq-eqb, eqb-true}
use Rattle.base.proofs.BoolLaws.{and_left, and_right, is_false}
use Rattle.base.proofs.ListLaws.{default, tabulate_is, get_d_tabulate}
use Rattle.instance.specs.Limits.{max_vertices, no_arc, cells}
use Rattle.instance.specs.Instance.{Instance, cell, weight_at}
use Rattle.instance.specs.Arborescence.{remaining}
use Rattle.instance.specs.Matrix.{matrix_where, matrix, MatrixOk}
use Rattle.instance.proofs.ArcLaws.{remaining_ends}
use Rattle.instance.proofs.MatrixLaws.{matrix_cell, matrix_cells, store_fits}
use Rattle.theory.specs.Usable.{forced}
use Rattle.usable.specs.Forced.{taken_out, ForcedMatrix}
use Rattle.witness.specs.Witness.{all_but}

module _ (s : Instance) where
  -- what the matrix holds at a cell
  at_cell : (i d : ℕ) → i < cells → get_or (matrix s) i d ≡ matrix_cell s i
  at_cell i d l = ap (λ (m : List ℕ). get_or m i d) (matrix_cells s) ∙ get_d_tabulate cells (matrix_cell s) i d l

  -- the head's other arcs taken out
  pub forced_is : (w : List ℕ) (t h : ℕ) → ForcedMatrix (matrix s) w s.n t h → w ≡ matrix_where s (forced t h)
  unfolding matrix_where forced
  forced_is w t h f =
      tabulate_is cells w (λ i. cond (remaining s (i / 32) (i % 32) && (not (eqb (i % 32) h) || eqb (i / 32) t)) (weight_at s i) no_arc) no_arc f.size
      (λ i l.
      let size = f.size in
      default w i no_arc 0 (omega arith) ∙ f.at i l ∙ ap (cond (taken_out s.n t h (i / 32) (i % 32)) no_arc) (at_cell i 0 l)
      ∙ taken (remaining s (i / 32) (i % 32)) (ltb (i / 32) s.n) (eqb (i % 32) h) (eqb (i / 32) t) (weight_at s i)
      (λ r. lt-ltb (i / 32) s.n (remaining_ends s (i / 32) (i % 32) r).tail_below))
    where
      taken : (r x a b : Bool) (w : ℕ) → (r ≡ true → x ≡ true) → cond (x && (a && not b)) no_arc (cond (r && true) w no_arc) ≡ cond (r && (not a || b)) w no_arc
      taken true true true true w e = refl
      taken true true true false w e = refl
      taken true true false b w e = refl
      taken true false a b w e = absurd (true≢false (sym (e refl)))
      taken false true true true w e = refl
      taken false true true false w e = refl
      taken false true false b w e = refl
      taken false false a b w e = refl

  -- one arc taken out
  pub deleted_is : (t h : ℕ) → t < max_vertices → h < max_vertices → length (matrix s) ≡ cells → set (matrix s) (cell t h) no_arc ≡ matrix_where s (all_but t h)
  unfolding matrix_where all_but
  deleted_is t h lt lh size =
      tabulate_is cells (set (matrix s) (cell t h) no_arc)
      (λ i. cond (remaining s (i / 32) (i % 32) && not (eqb (i / 32) t && eqb (i % 32) h)) (weight_at s i) no_arc) no_arc (length-set (matrix s) (cell t h) no_arc ∙ size)
      (λ i l. at i l (ℕ_discrete i (cell t h)))
    where
      here : (r : Bool) (w : ℕ) → no_arc ≡ cond (r && false) w no_arc
      here true w = refl
      here false w = refl

      there : (r a b : Bool) (w : ℕ) → a && b ≡ false → cond (r && true) w no_arc ≡ cond (r && not (a && b)) w no_arc
      there r a b w e = rw e

      at : (i : ℕ) → i < cells → Dec (i ≡ cell t h) →
          get_or (set (matrix s) (cell t h) no_arc) i no_arc ≡ cond (remaining s (i / 32) (i % 32) && not (eqb (i / 32) t && eqb (i % 32) h)) (weight_at s i) no_arc
      at i l (yes e) =
          let d : i / 32 ≡ t = omega arith in
          let r : i % 32 ≡ h = omega arith in
          rw (eq-eqb (i / 32) t d, eq-eqb (i % 32) h r)
          (ap (λ (j : ℕ). get_or (set (matrix s) (cell t h) no_arc) j no_arc) e ∙ get_or-set_same (matrix s) (cell t h) no_arc no_arc (omega arith)
          ∙ here (remaining s (i / 32) (i % 32)) (weight_at s i))
      at i l (no n) =
          get_or-set_other (matrix s) (cell t h) i no_arc no_arc n ∙ at_cell i no_arc l
          ∙ there (remaining s (i / 32) (i % 32)) (eqb (i / 32) t) (eqb (i % 32) h) (weight_at s i)
          (is_false (eqb (i / 32) t && eqb (i % 32) h)
          (λ e.
          n (omega (arith, eqb-true (i / 32) t (and_left (eqb (i / 32) t) (eqb (i % 32) h) e), eqb-true (i % 32) h (and_right (eqb (i / 32) t) (eqb (i % 32) h) e)))))

pub deleted_ok : (n root : ℕ) (m : List ℕ) (i : ℕ) → MatrixOk n root m → MatrixOk n root (set m i no_arc)
deleted_ok n root m i ok =
    record {
      small = ok.small;
      root_below = ok.root_below;
      size = length-set m i no_arc ∙ ok.size;
      bounded = store_fits m i no_arc ok.size (omega arith) ok.bounded;
    }
