-- The first of the cheapest arborescences is the one that the words allow, and the only one; and it depends on the
-- remaining arcs and their weights alone, not on the budget. Assumes nothing.
use mathlib.Core.Path.{◌≡◌, refl, sym, ap, ◌∙◌, subst}
use mathlib.Core.Bool.{Bool, true, false, ◌&&◌, cond, true≢false}
use mathlib.Core.List.{List, [], ◌∷◌}
use mathlib.Core.Logic.{◌⊎◌, inl, inr, ⊎_elim}
use mathlib.Core.Option.{Option, none, some}
use Prim.Native.Nat.{ℕ, ◌≤◌}
use native.Mathlib.Omega.{arith}
use native.Mathlib.Nat.{le_antisymm}
use lib.ListN.{length, get_or, replicate, length-replicate}
use borrow.Author.Tests.{eqb-true, eq-eqb}
use Rattle.base.specs.Lists.{select, any_of, all_of}
use Rattle.base.proofs.BoolLaws.{is_false, not_both, and_left, and_right, and_both}
use Rattle.instance.specs.Limits.{max_vertices, no_parent}
use Rattle.instance.specs.Instance.{Instance, with_budget}
use Rattle.instance.specs.Arborescence.{is_arborescence, total}
use Rattle.instance.specs.Candidates.{candidates, arborescences, cheapest, is_cheapest, cheapest_trees, first_tree}
use Rattle.instance.specs.Matrix.{matrix, unmarked}
use Rattle.instance.specs.Same.{SameInstance}
use Rattle.instance.proofs.ArborescenceLaws.{parents_size}
use Rattle.theory.specs.Order.{Ascending}
use Rattle.theory.specs.Readings.{LeastTotal, NoArborescence, CheapestReads, FirstReads}
use Rattle.theory.proofs.OrderLaws.{both_same, same_or_before, passes_reads, select_ascending, arborescences_ascending, first_passes}
use Rattle.theory.proofs.CandidateLaws.{any_selected, all_selected}
use Rattle.theory.proofs.OutcomeLaws.{cheapest_reads}
use Rattle.theory.proofs.SameArcs.{SameArcs, same_back, with_budget_arcs, same_arborescence, same_total}
use Rattle.theory.proofs.Restriction.{matrix_same}
use Rattle.theory.proofs.SameOutcomes.{arcs_same}

-- two selections are one
select_both : {A : Type 0} (p q : A → Bool) (xs : List A) → select q (select p xs) ≡ select (λ x. p x && q x) xs
unfolding select
select_both p q [] = refl
select_both p q (x ∷ xs) = go (p x) (select_both p q xs)
  where
    go : (b : Bool) → select q (select p xs) ≡ select (λ y. p y && q y) xs
        → select q (cond b (x ∷ select p xs) (select p xs)) ≡ cond (b && q x) (x ∷ select (λ y. p y && q y) xs) (select (λ y. p y && q y) xs)
    go true e = rw e
    go false e = e

-- THE FIRST OF A LIST, or what stands for it
first_has : (d : List ℕ) (q : List ℕ → Bool) (pss : List (List ℕ)) → any_of (λ _. true) pss ≡ true → all_of q pss ≡ true → q (get_or pss 0 d) ≡ true
unfolding any_of all_of
first_has d q [] e a = absurd (true≢false (sym e))
first_has d q (ps ∷ pss) e a = and_left (q ps) (all_of q pss) a

first_default : (d : List ℕ) (pss : List (List ℕ)) → any_of (λ _. true) pss ≡ false → get_or pss 0 d ≡ d
unfolding any_of
first_default d [] e = refl
first_default d (ps ∷ pss) e = absurd (true≢false e)

module _ (s : Instance) where
  -- an arborescence of the cheapest total
  unfoldable cheapest_one : List ℕ → Bool
  cheapest_one ps = is_arborescence s ps && is_cheapest (cheapest s) (total s ps)

  one_arborescence : (ps : List ℕ) → cheapest_one ps ≡ true → is_arborescence s ps ≡ true
  unfolding cheapest_one
  one_arborescence ps c = and_left (is_arborescence s ps) (is_cheapest (cheapest s) (total s ps)) c

  trees_selected : cheapest_trees s ≡ select cheapest_one (candidates s)
  unfolding cheapest_trees arborescences cheapest_one
  trees_selected = select_both (is_arborescence s) (λ ps. is_cheapest (cheapest s) (total s ps)) (candidates s)

  pub cheapest_ascending : Ascending (cheapest_trees s)
  unfolding cheapest_trees
  cheapest_ascending = select_ascending (λ ps. is_cheapest (cheapest s) (total s ps)) (arborescences_ascending s)

  -- an arborescence, or none
  pub some_or_none : ((ps : List ℕ) × (is_arborescence s ps ≡ true)) ⊎ NoArborescence s
  unfolding CheapestReads
  some_or_none = at (cheapest s) (cheapest_reads s)
    where
      at : (o : Option ℕ) → CheapestReads s o → ((ps : List ℕ) × (is_arborescence s ps ≡ true)) ⊎ NoArborescence s
      at none r = inr r
      at (some v) r = inl (r.parents, r.arborescence)

  -- the cheapest total, where there is an arborescence
  cheapest_some : (ps : List ℕ) → is_arborescence s ps ≡ true → (v : ℕ) × (cheapest s ≡ some v) × LeastTotal s v
  unfolding CheapestReads
  cheapest_some ps a = at (cheapest s) refl (cheapest_reads s)
    where
      at : (o : Option ℕ) → cheapest s ≡ o → CheapestReads s o → (v : ℕ) × (cheapest s ≡ some v) × LeastTotal s v
      at none e r = absurd (not_both (is_arborescence s ps) a (r ps))
      at (some v) e r = (v, e, r)

  module _ (v : ℕ) (e : cheapest s ≡ some v) where
    one_total : (ps : List ℕ) → cheapest_one ps ≡ true → total s ps ≡ v
    unfolding cheapest_one is_cheapest
    one_total ps c = eqb-true (total s ps) v (rw e at (and_right (is_arborescence s ps) (is_cheapest (cheapest s) (total s ps)) c))

    make_one : (ps : List ℕ) → is_arborescence s ps ≡ true → total s ps ≡ v → cheapest_one ps ≡ true
    unfolding cheapest_one is_cheapest
    make_one ps a t = and_both (is_arborescence s ps) (is_cheapest (cheapest s) (total s ps)) a (rw e (eq-eqb (total s ps) v t))

  -- THE DEFINITION READS SO
  pub first_reads : (ps : List ℕ) → is_arborescence s ps ≡ true → FirstReads s (first_tree s)
  unfolding first_tree
  first_reads ps a =
      let w = cheapest_some ps a in
      let v = w.0 in
      let l = w.2 in
      let d = replicate s.n no_parent in
      let there : any_of (λ _. true) (cheapest_trees s) ≡ true =
      rw trees_selected
      ((any_selected s cheapest_one one_arborescence (λ _. true)).1 (l.parents, make_one v w.1 l.parents l.arborescence l.attained, refl)) in
      let each : all_of cheapest_one (cheapest_trees s) ≡ true =
      rw trees_selected ((all_selected s cheapest_one one_arborescence cheapest_one).1 (λ qs c. c)) in
      let c : cheapest_one (first_tree s) ≡ true = first_has d cheapest_one (cheapest_trees s) there each in
      let t = one_total v w.1 (first_tree s) c in
      let all : all_of (same_or_before (first_tree s)) (select cheapest_one (candidates s)) ≡ true =
      subst (λ (pss : List (List ℕ)). all_of (same_or_before (first_tree s)) pss ≡ true) trees_selected (first_passes d cheapest_ascending) in
      record {
        arborescence = one_arborescence (first_tree s) c;
        least = λ qs b. rw t (l.least qs b);
        first =
            λ qs b e.
            passes_reads (first_tree s) qs
            ((all_selected s cheapest_one one_arborescence (same_or_before (first_tree s))).0 all qs (make_one v w.1 qs b (e ∙ t)));
      }

  -- AND WHATEVER READS SO IS ONE LIST
  pub first_once : (ps qs : List ℕ) → FirstReads s ps → FirstReads s qs → ps ≡ qs
  first_once ps qs a b =
      let e : total s ps ≡ total s qs = le_antisymm (a.least qs b.arborescence) (b.least ps a.arborescence) in
      both_same ps qs (a.first qs b.arborescence (sym e)) (b.first ps a.arborescence e)

  pub first_only : (ps : List ℕ) → FirstReads s ps → ps ≡ first_tree s
  first_only ps r = first_once ps (first_tree s) r (first_reads ps r.arborescence)

  -- NO ARBORESCENCE
  pub first_none : NoArborescence s → first_tree s ≡ replicate s.n no_parent
  unfolding first_tree
  first_none n =
      first_default (replicate s.n no_parent) (cheapest_trees s)
      (is_false (any_of (λ _. true) (cheapest_trees s))
      (λ y.
      let w = (any_selected s cheapest_one one_arborescence (λ _. true)).0 (subst (λ (pss : List (List ℕ)). any_of (λ _. true) pss ≡ true) trees_selected y) in
      not_both (is_arborescence s w.0) (one_arborescence w.0 w.1) (n w.0)))

  -- it has a place for each vertex
  pub first_size : length (first_tree s) ≡ s.n
  first_size =
      ⊎_elim
      (λ (w : (ps : List ℕ) × (is_arborescence s ps ≡ true)). parents_size s (first_tree s) (first_reads w.0 w.1).arborescence)
      (λ (n : NoArborescence s). ap length (first_none n) ∙ length-replicate {A = ℕ} s.n no_parent)
      some_or_none

-- THE SAME ARCS, the same first arborescence
module _ (a b : Instance) (e : SameArcs a b) where
  back : (ps : List ℕ) → is_arborescence b ps ≡ true → is_arborescence a ps ≡ true
  back ps x = same_arborescence b a (same_back a b e) ps x

  first_there : (ps : List ℕ) → FirstReads a ps → FirstReads b ps
  first_there ps r =
      let t = same_total a b e ps r.arborescence in
      record {
        arborescence = same_arborescence a b e ps r.arborescence;
        least = λ qs x. let u = same_total a b e qs (back qs x) in let l = r.least qs (back qs x) in omega arith;
        first = λ qs x q. r.first qs (back qs x) (same_total a b e qs (back qs x) ∙ q ∙ sym t);
      }

  pub first_same : first_tree a ≡ first_tree b
  first_same =
      ⊎_elim
      (λ (w : (ps : List ℕ) × (is_arborescence a ps ≡ true)). first_only b (first_tree a) (first_there (first_tree a) (first_reads a w.0 w.1)))
      (λ (n : NoArborescence a).
      first_none a n ∙ ap (λ (k : ℕ). replicate k no_parent) e.vertices
      ∙ sym (first_none b (λ ps. is_false (is_arborescence b ps) (λ x. not_both (is_arborescence a ps) (back ps x) (n ps)))))
      (some_or_none a)

-- "It depends on root, marks and prices alone": not on the budget; instances that are the same but for it
pub first_budget : (b : ℕ) (s : Instance) → first_tree (with_budget b s) ≡ first_tree s
first_budget b s = first_same (with_budget b s) s (with_budget_arcs b s)

pub same_first : (a b : Instance) → SameInstance a (with_budget a.budget b) → first_tree a ≡ first_tree b
same_first a b e =
    first_same a (with_budget a.budget b) (arcs_same a (with_budget a.budget b) e) ∙ first_budget a.budget b

-- the matrix of what remains has it
pub matrix_first : (s : Instance) → s.n ≤ max_vertices → first_tree (unmarked s.n s.root (matrix s)) ≡ first_tree s
matrix_first s small = first_same (unmarked s.n s.root (matrix s)) s (matrix_same s small)
