-- The totals of a valid instance are within the greatest budget: "32,505,794, which is 31 times that" (02, A9), of the
-- dearest price. Assumes nothing.
use mathlib.Core.Path.{◌≡◌, refl, subst}
use mathlib.Core.Bool.{Bool, true, false, cond}
use mathlib.Core.List.{List}
use Prim.Native.Nat.{ℕ, ◌*◌, ◌≤◌, ◌<◌}
use native.Mathlib.Omega.{arith}
use lib.Dec.{eqb}
use borrow.Author.Tests.{leb-true, eq-eqb}
use Rattle.base.specs.Bounded.{sum_below}
use Rattle.base.proofs.BoundedLaws.{sum_room}
use Rattle.base.proofs.SumLaws.{sum_longer}
use Rattle.instance.specs.Limits.{max_vertices, max_weight, max_budget}
use Rattle.instance.specs.Instance.{Instance, weight, is_arc}
use Rattle.instance.specs.Arborescence.{parent, is_arborescence, total}
use Rattle.instance.specs.Valid.{valid_instance}
use Rattle.instance.proofs.ArcLaws.{remaining_arc}
use Rattle.instance.proofs.ValidLaws.{valid_small, valid_root, valid_cells, arc_in_range}
use Rattle.theory.specs.Readings.{LeastTotal}
use Rattle.instance.proofs.ArborescenceLaws.{joined}

-- the dearest price at each of 32 vertices
dearest : sum_below max_vertices (λ v. max_weight) ≡ max_vertices * max_weight
unfolding sum_below
dearest = refl

module _ (s : Instance) (valid : valid_instance s ≡ true) where
  pub weight_most : (t h : ℕ) → is_arc s t h ≡ true → weight s t h ≤ max_weight
  weight_most t h a = leb-true (weight s t h) max_weight (arc_in_range s t h (valid_small s valid) (valid_cells s valid) a).weight_most

  -- an arborescence has at most 31 arcs: the root has none
  pub total_most : (ps : List ℕ) → is_arborescence s ps ≡ true → total s ps ≤ max_budget
  unfolding total
  total_most ps a =
      let room = sum_room s.n taken (λ v. max_weight) each s.root (valid_root s valid) in
      let more = sum_longer (λ v. max_weight) s.n max_vertices (valid_small s valid) in
      omega (arith, at_root, dearest)
    where
      taken : ℕ → ℕ
      taken v = cond (eqb v s.root) 0 (weight s (parent ps v) v)

      each : (v : ℕ) → v < s.n → taken v ≤ max_weight
      each v l = go (eqb v s.root) refl
        where
          go : (t : Bool) → eqb v s.root ≡ t → cond t 0 (weight s (parent ps v) v) ≤ max_weight
          go true e = omega arith
          go false e = weight_most (parent ps v) v (remaining_arc s (parent ps v) v (joined s ps a v l e).arc)

      at_root : taken s.root ≡ 0
      at_root = rw (eq-eqb s.root s.root refl)

  pub least_most : (v : ℕ) → LeastTotal s v → v ≤ max_budget
  least_most v l = subst (λ (t : ℕ). t ≤ max_budget) l.attained (total_most l.parents l.arborescence)
