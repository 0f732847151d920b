-- Why an arc of a matrix is usable or not. Assumes nothing.
use mathlib.Core.Path.{◌≡◌, ◌∙◌}
use mathlib.Core.Bool.{true, false}
use mathlib.Core.List.{List}
use mathlib.Core.Logic.{◌≢◌}
use Prim.Native.Nat.{ℕ, ◌+◌, ◌≤◌, ◌<◌}
use native.Mathlib.Omega.{arith}
use lib.Dec.{eqb}
use lib.ListN.{get_or}
use borrow.Author.Tests.{eq-eqb, ne_eqb}
use Rattle.base.proofs.BoolLaws.{not_both, is_false}
use Rattle.instance.specs.Limits.{max_vertices, no_arc}
use Rattle.instance.specs.Instance.{Instance, cell, is_arc, weight}
use Rattle.instance.specs.Arborescence.{remaining, parent, is_arborescence, total, uses}
use Rattle.instance.specs.Cuts.{reduced_cost}
use Rattle.instance.specs.Matrix.{matrix_instance, unmarked, MatrixOk}
use Rattle.instance.specs.States.{fits}
use Rattle.instance.proofs.ArcLaws.{arc_ends, arc_weight, unmarked_remaining}
use Rattle.instance.proofs.MatrixLaws.{weight_read, matrix_arc}
use Rattle.theory.specs.Usable.{usable}
use Rattle.instance.proofs.ArborescenceLaws.{root_parent}
use Rattle.theory.proofs.FitLaws.{fits_arborescence, fits_total, make_fits}
use Rattle.theory.proofs.SameArcs.{same_back, same_feasible}
use Rattle.theory.proofs.Usable.{usable_some, usable_none, lost_unusable, reduced_unusable}
use Rattle.theory.proofs.MatrixInstances.{matrix_instance_same, matrix_instance_remaining, matrix_instance_arborescence, matrix_instance_total}
use Rattle.detours.specs.Detours.{Detour}
use Rattle.edmonds.specs.declared.Planned.{Planned}
use Rattle.usable.specs.Forced.{ForcedPlan, NoneForced}
use Rattle.usable.specs.Fitting.{Reduced}
use Rattle.usable.specs.Judge.{UpperBound}

-- WHAT IS READ AT A CELL of the matrix
module _ (n root : ℕ) (m : List ℕ) (ok : MatrixOk n root m) (t h : ℕ) (l : t < n) (k : h < n) where
  pub weight_on : get_or m (cell t h) 0 ≡ weight (unmarked n root m) t h
  unfolding unmarked
  weight_on = let small = ok.small in weight_read (unmarked n root m) t h ok.size (omega arith)

  pub present : t ≢ h → h ≢ root → get_or m (cell t h) 0 ≢ no_arc → remaining (unmarked n root m) t h ≡ true
  unfolding unmarked weight
  present e z w =
      let same = weight_on in
      matrix_arc n root m t h l k e z (λ x. w (same ∙ x))

pub reduced_most : (n root v : ℕ) (m reduced : List ℕ) (t h : ℕ) → Reduced m reduced n root v → remaining (unmarked n root m) t h ≡ true
    → get_or reduced (cell t h) 0 ≤ weight (unmarked n root m) t h
unfolding reduced_cost
reduced_most n root v m reduced t h k r = let e = k.costs t h r in omega arith

-- what an exchange of arcs offers, where rest is the total without the arc into the head
pub detour_bound : (s : Instance) (ps : List ℕ) (t h rest d : ℕ) → Detour s ps t h d → rest + weight s (parent ps h) h ≡ total s ps → UpperBound s t h rest d
detour_bound s ps t h rest d k e =
    record { tree = λ r l. let x = k.exchange r l in let c = x.cost in (x.made, x.arborescence, x.used, omega arith) }

module _ (n root b : ℕ) (m : List ℕ) where
  abbrev s : Instance
  s = matrix_instance n root b m

  abbrev on : Instance
  on = unmarked n root m

  fits_tree : (ps : List ℕ) → is_arborescence on ps ≡ true → total on ps ≤ b → fits s ps ≡ true
  fits_tree ps a l =
      let e = matrix_instance_total n root b m ps a in
      make_fits s ps ((matrix_instance_arborescence n root b m ps).1 a) (omega arith)

  module _ (t h : ℕ) where
    pub usable_tree : (ps : List ℕ) → is_arborescence on ps ≡ true → total on ps ≤ b → uses ps t h ≡ true → usable s t h ≡ true
    usable_tree ps a l u = (usable_some s t h).1 (ps, fits_tree ps a l, u)

    -- by an exchange of arcs
    pub usable_bound : (rest d : ℕ) → UpperBound on t h rest d → remaining on t h ≡ true → d < no_arc → rest + weight on t h + d ≤ b → usable s t h ≡ true
    usable_bound rest d k r l most =
        let x = k.tree r l in
        let c = x.3 in
        usable_tree x.0 x.1 (omega arith) x.2

    unusable_lost : h < n → h ≢ root → remaining on t h ≡ false → usable s t h ≡ false
    unusable_lost l e r = lost_unusable s t h l (ne_eqb h root e) (matrix_instance_remaining n root b m t h ∙ r)

    -- a loop, a cell without an arc, an arc into the root
    pub unusable_loop : h < n → h ≢ root → t ≡ h → usable s t h ≡ false
    unusable_loop l e z = unusable_lost l e (unmarked_remaining n root m t h ∙ loop)
      where
        loop : is_arc on t h ≡ false
        loop = is_false (is_arc on t h) (λ x. not_both (eqb t h) (eq-eqb t h z) (arc_ends on t h x).differ)

    pub unusable_absent : h < n → h ≢ root → weight on t h ≡ no_arc → usable s t h ≡ false
    unusable_absent l e z = unusable_lost l e (unmarked_remaining n root m t h ∙ is_false (is_arc on t h) (λ x. not_both (eqb (weight on t h) no_arc) (eq-eqb (weight on t h) no_arc z) (arc_weight on t h x)))

    pub unusable_root : root < n → n ≤ max_vertices → t < n → h ≡ root → usable s t h ≡ false
    unfolding uses
    unusable_root l small k z =
        (usable_none s t h).1
        (λ ps f.
        let p = root_parent s ps (fits_arborescence s ps f) h (rw z l) (eq-eqb h root z) in
        ne_eqb (parent ps h) t (λ w. omega arith))

    -- by reduced costs
    pub unusable_reduced : (reduced : List ℕ) (v : ℕ) → Reduced m reduced n root v → remaining on t h ≡ true → b < v + get_or reduced (cell t h) 0 → usable s t h ≡ false
    unfolding reduced_cost weight unmarked
    unusable_reduced reduced v k r past =
        let e = k.costs t h r in
        let a = k.adds in
        reduced_unusable s t h k.cuts (same_feasible on s (same_back s on (matrix_instance_same n root b m)) k.cuts k.feasible) (matrix_instance_remaining n root b m t h ∙ r) (omega arith)

    -- by planning
    pub unusable_unplanned : NoneForced m n root t h → usable s t h ≡ false
    unusable_unplanned none = (usable_none s t h).1 (λ qs f. none qs ((matrix_instance_arborescence n root b m qs).0 (fits_arborescence s qs f)))

    pub unusable_dear : (p : Planned) → ForcedPlan m n root t h p → b < p.total → usable s t h ≡ false
    unusable_dear p k past =
        (usable_none s t h).1
        (λ qs f.
        is_false (uses qs t h)
        (λ u.
        let a = (matrix_instance_arborescence n root b m qs).0 (fits_arborescence s qs f) in
        let l = k.least qs a u in
        let e = matrix_instance_total n root b m qs a in
        let g = fits_total s qs f in
        omega arith))
