-- A tree as a program reads it, that it is a cheapest one with all pins or none is, and its total. Assumes nothing.
use mathlib.Core.Path.{◌≡◌, refl, sym, ◌∙◌}
use mathlib.Core.Bool.{true, false, ◌||◌, cond}
use mathlib.Core.List.{List}
use Rattle.std.specs.Prelude.{None, Some}
use mathlib.Core.Logic.{◌≢◌}
use Prim.Native.Nat.{ℕ, ◌+◌, ◌*◌, ◌/◌, ◌%◌, ◌≤◌, ◌<◌}
use native.Mathlib.Omega.{arith}
use native.Mathlib.Nat.{mul-le-mul_right, le_trans}
use native.Mathlib.Decide.{ℕ_discrete}
use lib.Dec.{eqb}
use lib.ListN.{length, get_or, take, replicate, length-take}
use borrow.Author.Tests.{eq-eqb, ne_eqb}
use Rattle.base.specs.Bounded.{all_below, sum_below}
use Rattle.base.proofs.BoolLaws.{not_both, is_false}
use Rattle.base.proofs.BoundedLaws.{all_at, all_intro, sum_eq}
use Rattle.base.proofs.ListLaws.{replicate_at}
use Rattle.base.proofs.SumLaws.{sum_more, sum_most}
use Rattle.instance.specs.Limits.{max_vertices, no_arc, no_parent}
use Rattle.instance.specs.Instance.{weight}
use Rattle.instance.specs.Arborescence.{parent, uses, total}
use Rattle.paths.proofs.TreeLaws.{parent_read}
use Rattle.spanning.specs.Graph.{Graph, edge_weight, is_pinned}
use Rattle.spanning.specs.Refusal.{ValidGraph}
use Rattle.spanning.specs.SpanningTrees.{directed, joins, keeps_pins}
use Rattle.spanning.specs.Spans.{Cheapest}
use Rattle.spanning.specs.KeyTables.{KeysOf, keeps_zero}
use Rattle.spanning.proofs.GraphLaws.{edge_ends, allowed_edge, allowed_weight, edge_weight_most}
use Rattle.spanning.proofs.SpansLaws.{pins_kept, keep_pins}
use Rattle.spanning.proofs.KeyTableLaws.{zero_kept}
use Rattle.spanning.proofs.GrowthLaws.{grown_cheapest, grown_none}
use Rattle.spanning.proofs.CostLaws.{tree_allowed}
use Rattle.prim.specs.Growth.{GrownTree, Grows}
use Rattle.prim.specs.Tree.{zero_at, Finds, edge_cost, Summable}
use Rattle.prim.proofs.KeysLaws.{weight_read}

-- THE EDGES OF A TREE
pub joins_read : (n : ℕ) (ps : List ℕ) → n ≤ max_vertices → length ps ≡ max_vertices → (i j : ℕ) → i < n → j < n → joins (take n ps) i j ≡ eqb (get_or ps j 0) i || eqb (get_or ps i 0) j
unfolding joins uses
joins_read n ps small size i j ib jb = rw (parent_read n j ps small size jb, parent_read n i ps small size ib)

-- of no parents there are none
pub nothing_joined : (n i j : ℕ) → i < 255 → j < 255 → joins (replicate n no_parent) i j ≡ false
unfolding joins uses
nothing_joined n i j ib jb =
    rw (replicate_at n j no_parent, replicate_at n i no_parent, ne_eqb no_parent i (λ z. omega arith), ne_eqb no_parent j (λ z. omega arith))

module _ (ks ps : List ℕ) (i j : ℕ) where
  pub zero_same : i ≡ j → true ≡ zero_at ks ps i j
  unfolding zero_at
  zero_same e = rw (eq-eqb i j e)

  pub zero_other : i ≢ j → (get_or ks (32 * i + j) 0) ≢ 0 → true ≡ zero_at ks ps i j
  unfolding zero_at
  zero_other d e = rw (ne_eqb i j d, ne_eqb (get_or ks (32 * i + j) 0) 0 e)

  pub zero_joins : i ≢ j → get_or ks (32 * i + j) 0 ≡ 0 → joins ps i j ≡ zero_at ks ps i j
  unfolding zero_at
  zero_joins d e = rw (ne_eqb i j d, eq-eqb (get_or ks (32 * i + j) 0) 0 e)

-- every place up to k has passed
abbrev pub Zeros : (keys : List ℕ) → (n : ℕ) → (parents : List ℕ) → (k : ℕ) → Type 0
Zeros ks n ps k = (q : ℕ) → q < k → zero_at ks ps (q / n) (q % n) ≡ true

module _ (ks : List ℕ) (n : ℕ) (ps : List ℕ) where
  pub zeros_first : Zeros ks n ps 0
  zeros_first q l = absurd (omega arith)

  pub zeros_more : (k : ℕ) → Zeros ks n ps k → zero_at ks ps (k / n) (k % n) ≡ true → Zeros ks n ps (k + 1)
  zeros_more k z e q l = at (ℕ_discrete q k)
    where
      at : Dec (q ≡ k) → zero_at ks ps (q / n) (q % n) ≡ true
      at (yes s) = rw s e
      at (no s) = z q (omega arith)

  pub zeros_fail : (k : ℕ) → k < n * n → zero_at ks ps (k / n) (k % n) ≡ false → false ≡ keeps_zero ks n ps
  unfolding keeps_zero zero_at
  zeros_fail k l e =
      sym (is_false (all_below (n * n) (λ q. zero_at ks ps (q / n) (q % n)))
      (λ a. not_both (zero_at ks ps (k / n) (k % n)) (all_at (n * n) (λ q. zero_at ks ps (q / n) (q % n)) k l a) e))

  pub zeros_all : (k : ℕ) → n * n ≤ k → Zeros ks n ps k → true ≡ keeps_zero ks n ps
  unfolding keeps_zero zero_at
  zeros_all k l z = sym (all_intro (n * n) (λ q. zero_at ks ps (q / n) (q % n)) (λ q b. z q (omega arith)))

-- WHAT IS FOUND
module _ (ks : List ℕ) (n : ℕ) (small : n ≤ max_vertices) (ps : List ℕ) (t : GrownTree ks n ps) where
  size_of : (g : Graph) → KeysOf g n ks → length (take n ps) ≡ g.n
  size_of g k = let c = k.count in let p = t.places in length-take n ps ∙ omega arith

  pub finds_tree : keeps_zero ks n (take n ps) ≡ true → Finds ks n (Some ps)
  finds_tree e =
      record {
        places = t.places;
        cheapest =
            λ g k.
            let w = t.tree g k in
            grown_cheapest g k.valid w.inside (take n ps) (size_of g k) w.grown w.all (pins_kept g 0 (take n ps) (sym (zero_kept g n ks k (take n ps)) ∙ e));
      }

  pub finds_pin_missing : keeps_zero ks n (take n ps) ≡ false → Finds ks n None
  finds_pin_missing e g k =
      let w = t.tree g k in
      grown_none g k.valid w.inside (take n ps) (size_of g k) w.grown w.all
      (λ all. not_both (keeps_pins g (take n ps)) (keep_pins g 0 (take n ps) all) (sym (zero_kept g n ks k (take n ps)) ∙ e))

-- where no tree grows, none is found
pub finds_nothing : (ks : List ℕ) (n : ℕ) → Grows ks n None → Finds ks n None
finds_nothing ks n none = none

-- ITS TOTAL
zero_cost : (ws ps : List ℕ) (n v : ℕ) → v ≡ 0 → edge_cost ws ps n v ≡ 0
unfolding edge_cost
zero_cost ws ps n v z = rw (eq-eqb v 0 z)

module _ (ws ps : List ℕ) (n : ℕ) (k : Summable ws ps n) where
  cost_most : (v : ℕ) → v < n → edge_cost ws ps n v ≤ no_arc
  cost_most v vb = at (ℕ_discrete v 0)
    where
      at : Dec (v ≡ 0) → edge_cost ws ps n v ≤ no_arc
      at (yes z) = let c = zero_cost ws ps n v z in omega arith
      at (no z) = k.cost v vb z

  pub sum_fits : (v : ℕ) → v ≤ n → sum_below v (edge_cost ws ps n) ≤ 32 * no_arc
  sum_fits v l =
      let small = k.small in
      let a = sum_most v (edge_cost ws ps n) no_arc (λ q b. cost_most q (omega arith)) in
      let b : v ≤ 32 = omega arith in
      let m : v * no_arc ≤ 32 * no_arc = mul-le-mul_right no_arc b in
      le_trans a m

  pub sum_first : 0 ≡ sum_below 1 (edge_cost ws ps n)
  unfolding sum_below edge_cost
  sum_first = refl

  pub sum_next : (v s : ℕ) → v ≢ 0 → s ≡ sum_below v (edge_cost ws ps n) → s + get_or ws (get_or ps v 0 * n + v) 0 ≡ sum_below (v + 1) (edge_cost ws ps n)
  unfolding edge_cost
  sum_next v s d e =
      let m = sum_more v (edge_cost ws ps n) in
      let x : edge_cost ws ps n v ≡ get_or ws (get_or ps v 0 * n + v) 0 = rw (ne_eqb v 0 d) in
      omega arith

-- a cheapest tree can be summed, and the sum is its total
module _ (g : Graph) (valid : ValidGraph g) (ps : List ℕ) (places : length ps ≡ max_vertices) (best : Cheapest (directed g 0) (is_pinned g) (take g.n ps)) where
  abbrev tree : List ℕ
  tree = take g.n ps

  read : (v : ℕ) → v < g.n → get_or ps v 0 ≡ parent tree v
  read v vb = parent_read g.n v ps valid.small places vb

  cost_is : (v : ℕ) → v < g.n → v ≢ 0 → edge_cost g.weights ps g.n v ≡ edge_weight g (parent tree v) v
  unfolding edge_cost
  cost_is v vb d =
      let a = tree_allowed g valid 0 valid.some tree best v vb d in
      let e = edge_ends g (parent tree v) v (allowed_edge g (parent tree v) v a) in
      rw (ne_eqb v 0 d, read v vb) (weight_read g valid (parent tree v) v e.i_below vb)

  pub summable : Summable g.weights ps g.n
  summable =
      record {
        small = valid.small;
        size = valid.weights_size;
        places = places;
        tail =
            λ v vb d.
            let a = tree_allowed g valid 0 valid.some tree best v vb d in
            rw (read v vb) (edge_ends g (parent tree v) v (allowed_edge g (parent tree v) v a)).i_below;
        cost =
            λ v vb d.
            let a = tree_allowed g valid 0 valid.some tree best v vb d in
            let e = edge_ends g (parent tree v) v (allowed_edge g (parent tree v) v a) in
            rw (cost_is v vb d) (edge_weight_most g valid (parent tree v) v e.i_below vb e.differ);
      }

  pub sum_total : sum_below g.n (edge_cost g.weights ps g.n) ≡ total (directed g 0) tree
  unfolding total
  sum_total =
      sum_eq g.n (edge_cost g.weights ps g.n) (λ v. cond (eqb v 0) 0 (weight (directed g 0) (parent tree v) v)) (λ v vb. at v vb (ℕ_discrete v 0))
    where
      at : (v : ℕ) → v < g.n → Dec (v ≡ 0) → edge_cost g.weights ps g.n v ≡ cond (eqb v 0) 0 (weight (directed g 0) (parent tree v) v)
      at v vb (yes z) = zero_cost g.weights ps g.n v z ∙ rw (eq-eqb v 0 z)
      at v vb (no z) =
          let a = tree_allowed g valid 0 valid.some tree best v vb z in
          rw (ne_eqb v 0 z) (cost_is v vb z ∙ sym (allowed_weight g valid.small 0 (parent tree v) v a))
