-- The state by a count of the used arcs; and the states that are written are those of the instance. Assumes nothing.
use mathlib.Core.Path.{◌≡◌, refl, sym, ap, ◌∙◌}
use mathlib.Core.Bool.{Bool, true, false, ◌&&◌, not, cond}
use mathlib.Core.List.{List}
use Prim.Native.Nat.{ℕ, ◌*◌, ◌/◌, ◌%◌, ◌≤◌, ◌<◌}
use native.Mathlib.Omega.{arith}
use lib.Dec.{eqb}
use lib.ListN.{length, get_or}
use Rattle.base.specs.Bounded.{any_below, count_below}
use Rattle.base.specs.Lists.{tabulate}
use Rattle.base.proofs.GridLaws.{grid_row, grid_column}
use Rattle.base.proofs.ListLaws.{tabulate_is, length_tabulate, get_d_tabulate}
use Rattle.base.proofs.SumLaws.{others_count, any_same}
use Rattle.instance.specs.Limits.{max_vertices, no_arc, cells}
use Rattle.instance.specs.Instance.{Instance, cell, can_be_arc, is_arc}
use Rattle.instance.specs.Matrix.{matrix, matrix_instance}
use Rattle.instance.specs.States.{total_limit, with_limit, state, states}
use Rattle.instance.proofs.ArcLaws.{ends}
use Rattle.instance.proofs.MatrixLaws.{weight_read}
use Rattle.theory.specs.Usable.{usable}
use Rattle.theory.proofs.Usable.{state_usable}
use Rattle.theory.proofs.MatrixInstances.{matrix_usable}
use Rattle.usable.specs.Table.{is_used, UsableTable}
use Rattle.states.specs.Show.{state_by, states_by}

-- the state by a count is the state by the table
pub state_counted : (n root : ℕ) (used weights : List ℕ) (t h : ℕ)
    → cond (can_be_arc n root t h && not (eqb (get_or weights (cell t h) 0) no_arc))
    (cond (is_used used t h) (cond (eqb (count_below n (λ g. is_used used g h)) 1) 3 2) 1) 0
    ≡ state_by used weights n root t h
unfolding state_by
state_counted n root used weights t h = at (can_be_arc n root t h) refl (is_used used t h) refl
  where
    swap : (b : Bool) → ◌≡◌ {A = ℕ} (cond b 3 2) (cond (not b) 2 3)
    swap true = refl
    swap false = refl

    at : (a : Bool) → can_be_arc n root t h ≡ a → (u : Bool) → is_used used t h ≡ u
        → ◌≡◌ {A = ℕ}
        (cond (a && not (eqb (get_or weights (cell t h) 0) no_arc)) (cond u (cond (eqb (count_below n (λ g. is_used used g h)) 1) 3 2) 1) 0)
        (cond (a && not (eqb (get_or weights (cell t h) 0) no_arc)) (cond u (cond (any_below n (λ g. not (eqb g t) && is_used used g h)) 2 3) 1) 0)
    at false e u f = refl
    at true e false f = refl
    at true e true f =
        rw (others_count n t (λ g. is_used used g h) (ends n root t h e).tail_below f, ← swap (eqb (count_below n (λ g. is_used used g h)) 1))

-- THE STATES of an instance with marks, where the table says which arcs are usable in its matrix under the limit on
-- totals
module _ (s : Instance) (small : s.n ≤ max_vertices) (size : length s.weights ≡ cells) (used : List ℕ)
    (k : UsableTable (matrix_instance s.n s.root (total_limit s) (matrix s)) used) where
  says : (t h : ℕ) → t < s.n → h < s.n → is_used used t h ≡ usable (with_limit s) t h
  says t h l m = k.exact t h l m ∙ matrix_usable s (total_limit s) small t h

  cell_shown : (t h : ℕ) → t < s.n → h < s.n → state_by used s.weights s.n s.root t h ≡ state s t h
  unfolding state_by is_arc
  cell_shown t h l m =
      rw (
        weight_read s t h size (omega arith),
        says t h l m,
        any_same s.n (λ g. not (eqb g t) && is_used used g h) (λ g. not (eqb g t) && usable (with_limit s) g h) (λ g b. ap (λ (x : Bool). not (eqb g t) && x) (says g h b m)),
      )
      (sym (state_usable s t h))

  pub states_shown : states_by used s.weights s.n s.root ≡ states s
  unfolding states state
  states_shown =
      let g : ℕ → ℕ = λ i. state_by used s.weights s.n s.root (i / s.n) (i % s.n) in
      tabulate_is (s.n * s.n) (tabulate (s.n * s.n) g) (λ i. state s (i / s.n) (i % s.n)) 0 (length_tabulate (s.n * s.n) g)
      (λ i l.
      get_d_tabulate (s.n * s.n) g i 0 l ∙ cell_shown (i / s.n) (i % s.n) (grid_row s.n i l) (grid_column s.n i l))
