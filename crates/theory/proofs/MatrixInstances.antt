-- A matrix as an instance with a budget: the same arcs, arborescences and totals whatever the budget; and where the
-- matrix is that of what remains of an instance, the same arcs are usable. Assumes nothing.
use mathlib.Core.Path.{◌≡◌, refl, sym, ◌∙◌}
use mathlib.Core.Bool.{true}
use mathlib.Core.List.{List}
use mathlib.Core.Logic.{◌↔◌}
use Prim.Native.Nat.{ℕ, ◌≤◌}
use Rattle.base.proofs.BoolLaws.{same_test}
use Rattle.instance.specs.Limits.{max_vertices}
use Rattle.instance.specs.Instance.{Instance, with_budget}
use Rattle.instance.specs.Arborescence.{remaining, is_arborescence, total}
use Rattle.instance.specs.Matrix.{matrix, matrix_instance, unmarked}
use Rattle.theory.specs.Usable.{usable}
use Rattle.theory.proofs.FitLaws.{fits_there}
use Rattle.theory.proofs.SameArcs.{SameArcs, same_back, with_budget_arcs, same_arborescence, same_total}
use Rattle.theory.proofs.Usable.{usable_some}
use Rattle.theory.proofs.Restriction.{matrix_same}

pub same_on : (a b c : Instance) → SameArcs a b → SameArcs b c → SameArcs a c
same_on a b c e f =
    record {
      vertices = e.vertices ∙ f.vertices;
      roots = e.roots ∙ f.roots;
      arcs = λ t h. e.arcs t h ∙ f.arcs t h;
      weights = λ t h r. e.weights t h r ∙ f.weights t h (sym (e.arcs t h) ∙ r);
    }

-- SAME ARCS AND BUDGET
usable_into : (a b : Instance) → SameArcs a b → a.budget ≡ b.budget → (t h : ℕ) → usable a t h ≡ true → usable b t h ≡ true
usable_into a b e f t h u = let w = (usable_some a t h).0 u in (usable_some b t h).1 (w.0, fits_there a b e f w.0 w.1, w.2)

same_usable : (a b : Instance) → SameArcs a b → a.budget ≡ b.budget → (t h : ℕ) → usable a t h ≡ usable b t h
same_usable a b e f t h = same_test (usable a t h) (usable b t h) (usable_into a b e f t h) (usable_into b a (same_back a b e) (sym f) t h)

-- WHATEVER THE BUDGET
module _ (n r b : ℕ) (m : List ℕ) where
  pub matrix_instance_same : SameArcs (matrix_instance n r b m) (unmarked n r m)
  unfolding unmarked
  matrix_instance_same = with_budget_arcs b (unmarked n r m)

  pub matrix_instance_remaining : (t h : ℕ) → remaining (matrix_instance n r b m) t h ≡ remaining (unmarked n r m) t h
  matrix_instance_remaining = matrix_instance_same.arcs

  pub matrix_instance_arborescence : (ps : List ℕ) → (is_arborescence (matrix_instance n r b m) ps ≡ true) ↔ (is_arborescence (unmarked n r m) ps ≡ true)
  matrix_instance_arborescence ps = (
    same_arborescence (matrix_instance n r b m) (unmarked n r m) matrix_instance_same ps,
    same_arborescence (unmarked n r m) (matrix_instance n r b m) (same_back (matrix_instance n r b m) (unmarked n r m) matrix_instance_same) ps,
  )

  pub matrix_instance_total : (ps : List ℕ) → is_arborescence (unmarked n r m) ps ≡ true → total (matrix_instance n r b m) ps ≡ total (unmarked n r m) ps
  matrix_instance_total ps a = same_total (matrix_instance n r b m) (unmarked n r m) matrix_instance_same ps ((matrix_instance_arborescence ps).1 a)

-- USABLE IN THE MATRIX IS USABLE, under any budget
pub matrix_usable : (s : Instance) (b : ℕ) → s.n ≤ max_vertices → (t h : ℕ)
    → usable (matrix_instance s.n s.root b (matrix s)) t h ≡ usable (with_budget b s) t h
matrix_usable s b small =
    let left = matrix_instance s.n s.root b (matrix s) in
    let whole = unmarked s.n s.root (matrix s) in
    let there = same_on left whole s (matrix_instance_same s.n s.root b (matrix s)) (matrix_same s small) in
    same_usable left (with_budget b s) (same_on left s (with_budget b s) there (same_back (with_budget b s) s (with_budget_arcs b s))) refl
