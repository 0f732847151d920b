-- What is shown by weights and keys is what the definitions say of the graph: outcome, states and replacement costs
-- from a cheapest spanning tree, or that there is none. Assumes nothing.
use mathlib.Core.Path.{◌≡◌, refl, sym, ap, ◌∙◌}
use mathlib.Core.Bool.{Bool, true, false, ◌&&◌, not, cond}
use mathlib.Core.List.{List}
use mathlib.Core.Logic.{◌⊎◌, inl, inr, ⊎_elim, ◌≢◌}
use Prim.Native.Nat.{ℕ, max, ◌+◌, ◌*◌, ◌/◌, ◌%◌, ◌≤◌, ◌<◌}
use native.Mathlib.Omega.{arith}
use native.Mathlib.Nat.{div-add-mod'}
use native.Mathlib.Decide.{ℕ_discrete}
use lib.Dec.{leb, eqb}
use lib.ListN.{get_or}
use borrow.Author.Tests.{eqb-true, eqb-false, eq-eqb, ne_eqb}
use Rattle.base.specs.Lists.{tabulate, in_front}
use Rattle.base.proofs.BoolLaws.{test, not_both, is_true}
use Rattle.base.proofs.GridLaws.{grid_row, grid_column}
use Rattle.base.proofs.ListLaws.{default, tabulate_same}
use Rattle.instance.specs.Limits.{no_arc, no_parent}
use Rattle.instance.specs.declared.Outcome.TheVariants.{Plan, Over}
use Rattle.instance.specs.Arborescence.{parent, total}
use Rattle.instance.specs.States.{outcome_at}
use Rattle.paths.specs.Paths.{Rooted}
use Rattle.paths.proofs.ExchangeLaws.{rooted}
use Rattle.spanning.specs.Graph.{Graph, edge_weight, is_edge, is_pinned, is_allowed}
use Rattle.spanning.specs.Refusal.{ValidGraph}
use Rattle.spanning.specs.SpanningTrees.{directed, joins, least_spanning}
use Rattle.spanning.specs.EdgeStates.{graph_outcome, edge_state, edge_states}
use Rattle.spanning.specs.ReplacementCosts.{not_in_tree, replacement_cost, costs_shown}
use Rattle.spanning.specs.Shown.{CheapestTree}
use Rattle.spanning.specs.Spans.{Cheapest}
use Rattle.spanning.specs.Keys.{no_key, edge_key, cost_by}
use Rattle.spanning.specs.KeyTables.{key_at, key_table, KeysOf, least_crossing, greatest_between}
use Rattle.spanning.proofs.JoinsLaws.{joins_down, joins_up, joins_not}
use Rattle.spanning.proofs.GraphLaws.{EdgeEnds, edge_ends, make_edge, allowed_edge}
use Rattle.spanning.proofs.KeyLaws.{key_most, key_allowed, allowed_less}
use Rattle.spanning.proofs.SpansLaws.{spans_listed}
use Rattle.spanning.proofs.KeyTableLaws.{table_keys, crossing_is, between_is}
use Rattle.spanning.proofs.CostLaws.{cheapest_least, replacement_is, tree_allowed, cost_alike}
use Rattle.spanning.proofs.EdgeStateLaws.{state_absent, state_inside, state_outside}
use Rattle.runs.specs.Replacement.{cost_of}
use Rattle.runs.specs.Show.{inside_state, outside_state, tree_state, place_state, pair_cost, cost_at}
use Rattle.runs.specs.Planning.{Shown, Accepts}

-- A PLACE AND ITS PAIR
module _ (g : Graph) (valid : ValidGraph g) (k : ℕ) (l : k < g.n * g.n) where
  abbrev i : ℕ
  i = k / g.n

  abbrev j : ℕ
  j = k % g.n

  pub weight_there : get_or g.weights k 0 ≡ edge_weight g (k / g.n) (k % g.n)
  weight_there =
      let s = valid.weights_size in
      default g.weights k 0 no_arc (omega arith) ∙ ap (λ (q : ℕ). get_or g.weights q no_arc) (sym (div-add-mod' k g.n))

  -- where it is an edge
  pub pair_cases : (A : Type 0) → (is_edge g (k / g.n) (k % g.n) ≡ false → A) → (is_edge g (k / g.n) (k % g.n) ≡ true → A) → A
  pair_cases A a b = ⊎_elim (λ (e : is_edge g i j ≡ true). b e) (λ (e : is_edge g i j ≡ false). a e) (test (is_edge g i j))

  pub no_edge : is_edge g (k / g.n) (k % g.n) ≡ false → (k / g.n ≢ k % g.n) → get_or g.weights k 0 ≡ no_arc
  no_edge e d = at (ℕ_discrete (edge_weight g i j) no_arc)
    where
      at : Dec (edge_weight g i j ≡ no_arc) → get_or g.weights k 0 ≡ no_arc
      at (yes z) = weight_there ∙ z
      at (no z) = absurd (not_both (is_edge g i j) (make_edge g i j (grid_row g.n k l) (grid_column g.n k l) d z) e)

  pub an_edge : is_edge g (k / g.n) (k % g.n) ≡ true → (k / g.n ≢ k % g.n) × (get_or g.weights k 0 ≢ no_arc)
  an_edge e = let h = edge_ends g i j e in (h.differ, (λ z. h.priced (sym weight_there ∙ z)))

-- FROM A CHEAPEST TREE
module _ (g : Graph) (valid : ValidGraph g) (b : ℕ) (tree : List ℕ) (best : Cheapest (directed g 0) (is_pinned g) tree) where
  abbrev ks : List ℕ
  ks = key_table g

  abbrev n : ℕ
  n = g.n

  abbrev own : ℕ
  own = total (directed g 0) tree

  keys : KeysOf g g.n (key_table g)
  keys = table_keys g valid

  root : Rooted g.n 0 tree
  root = rooted (directed g 0) tree valid.some best.spans.arborescence

  edge_of : (v : ℕ) → v < n → v ≢ 0 → EdgeEnds g (parent tree v) v
  edge_of v vb va = edge_ends g (parent tree v) v (allowed_edge g (parent tree v) v (tree_allowed g valid 0 valid.some tree best v vb va))

  -- the cost of a vertex's edge
  pub cost_is : (v : ℕ) → v < n → v ≢ 0 → cost_of ks n tree v ≡ replacement_cost g 0 (parent tree v) v
  unfolding cost_of
  cost_is v vb va =
      let e = edge_of v vb va in
      rw (ne_eqb v 0 va)
      (ap (λ (x : ℕ). cost_by x (least_crossing ks n tree v)) (keys.at (parent tree v) v e.i_below vb e.differ)
      ∙ sym (replacement_is g valid 0 valid.some tree best v vb va (least_crossing ks n tree v) (crossing_is g n ks keys tree root v vb)))

  -- a vertex with a parent below n is not vertex 0
  child : (x y : ℕ) → x < n → y < n → parent tree y ≡ x → y ≢ 0
  child x y xb yb e z = let q : parent tree y ≡ no_parent = ap (λ (w : ℕ). parent tree w) z ∙ root.at_root in let s = valid.small in omega arith

  down_cost : (x y : ℕ) → x < n → y < n → parent tree y ≡ x → cost_of ks n tree y ≡ replacement_cost g 0 x y
  down_cost x y xb yb e = cost_is y yb (child x y xb yb e) ∙ ap (λ (w : ℕ). replacement_cost g 0 w y) e

  -- STATES
  module _ (x y : ℕ) (xb : x < n) (yb : y < n) (edge : is_edge g x y ≡ true) where
    in_tree : joins tree x y ≡ true → (c : ℕ) → c ≡ replacement_cost g 0 x y → inside_state c own (max b own) ≡ edge_state g 0 b x y
    unfolding inside_state
    in_tree e c q = rw q (sym (state_inside g valid 0 valid.some tree best b x y edge e))

    out_of_tree : joins tree x y ≡ false → outside_state (key_at ks x y) (greatest_between ks n tree x y) own (max b own) ≡ edge_state g 0 b x y
    unfolding outside_state
    out_of_tree e =
        let d = (edge_ends g x y edge).differ in
        let c = greatest_between ks n tree x y in
        let z = between_is g n ks keys tree root x y xb yb (λ v vb va. (edge_of v vb va).differ) in
        rw (keys.at x y xb yb d)
        (chain (is_allowed g x y) refl (eqb (greatest_between ks n tree x y) 0) (leb (own + edge_key g x y) (max b own + greatest_between ks n tree x y))
        ∙ sym (state_outside g valid 0 valid.some tree best b x y xb yb d e (greatest_between ks n tree x y) z ∙ rw edge))
      where
        key_test : (a : Bool) → is_allowed g x y ≡ a → eqb (edge_key g x y) no_key ≡ not a
        key_test true q = let d = (edge_ends g x y edge).differ in ne_eqb (edge_key g x y) no_key (λ z. let m = allowed_less g valid x y xb yb d q in omega arith)
        key_test false q =
            is_true (eqb (edge_key g x y) no_key)
            (λ z. not_both (is_allowed g x y) (small_allowed (eqb-false (edge_key g x y) no_key z)) q)
          where
            small_allowed : edge_key g x y ≢ no_key → is_allowed g x y ≡ true
            small_allowed f =
                let d = (edge_ends g x y edge).differ in
                let m = key_most g valid x y xb yb d in
                key_allowed g valid x y xb yb d (less (edge_key g x y) m f)
              where
                less : (k : ℕ) → k ≤ no_key → k ≢ no_key → k < no_key
                less k m f = omega arith

        chain : (a : Bool) → is_allowed g x y ≡ a → (p q : Bool) → ◌≡◌ {A = ℕ} (cond (eqb (edge_key g x y) no_key) 1 (cond p 1 (cond q 2 1))) (cond (is_allowed g x y && (not p && q)) 2 1)
        chain true e p q = rw (key_test true e, e) (inner p q)
          where
            inner : (p q : Bool) → ◌≡◌ {A = ℕ} (cond p 1 (cond q 2 1)) (cond (not p && q) 2 1)
            inner true q = refl
            inner false q = refl
        chain false e p q = rw (key_test false e, e)

    pub state_is : tree_state ks n tree own (max b own) x y ≡ edge_state g 0 b x y
    unfolding tree_state
    state_is = at (test (eqb (parent tree y) x)) (test (eqb (parent tree x) y))
      where
        at : (eqb (parent tree y) x ≡ true) ⊎ (eqb (parent tree y) x ≡ false) → (eqb (parent tree x) y ≡ true) ⊎ (eqb (parent tree x) y ≡ false)
            → cond (eqb (parent tree y) x) (inside_state (cost_of ks n tree y) own (max b own))
            (cond (eqb (parent tree x) y) (inside_state (cost_of ks n tree x) own (max b own)) (outside_state (key_at ks x y) (greatest_between ks n tree x y) own (max b own)))
            ≡ edge_state g 0 b x y
        at (inl e) _ = let q = eqb-true (parent tree y) x e in rw e (in_tree (joins_down tree x y q) (cost_of ks n tree y) (down_cost x y xb yb q))
        at (inr e) (inl f) =
            let q = eqb-true (parent tree x) y f in
            rw (e, f) (in_tree (joins_up tree x y q) (cost_of ks n tree x) (down_cost y x yb xb q ∙ cost_alike g 0 y x))
        at (inr e) (inr f) = rw (e, f) (out_of_tree (joins_not tree x y (eqb-false (parent tree y) x e) (eqb-false (parent tree x) y f)))

  place_is : (k : ℕ) → k < n * n → place_state g.weights ks n tree own (max b own) k ≡ edge_state g 0 b (k / n) (k % n)
  unfolding place_state
  place_is k l =
      pair_cases g valid k l (cond (eqb (k / n) (k % n)) 0 (cond (eqb (get_or g.weights k 0) no_arc) 0 (tree_state ks n tree own (max b own) (k / n) (k % n))) ≡ edge_state g 0 b (k / n) (k % n))
      (λ e. absent e (ℕ_discrete (k / n) (k % n)) ∙ sym (state_absent g 0 b (k / n) (k % n) e))
      (λ e.
      let h = an_edge g valid k l e in
      rw (ne_eqb (k / n) (k % n) h.0, ne_eqb (get_or g.weights k 0) no_arc h.1) (state_is (k / n) (k % n) (grid_row n k l) (grid_column n k l) e))
    where
      absent : is_edge g (k / n) (k % n) ≡ false → Dec (k / n ≡ k % n)
          → cond (eqb (k / n) (k % n)) 0 (cond (eqb (get_or g.weights k 0) no_arc) 0 (tree_state ks n tree own (max b own) (k / n) (k % n))) ≡ 0
      absent e (yes z) = rw (eq-eqb (k / n) (k % n) z)
      absent e (no z) = rw (ne_eqb (k / n) (k % n) z, eq-eqb (get_or g.weights k 0) no_arc (no_edge g valid k l e z))

  -- COSTS
  cost_there : (k : ℕ) → k < n * n → cost_at tree (cost_of ks n tree) n k ≡ cond (joins tree (k / n) (k % n)) (replacement_cost g 0 (k / n) (k % n)) not_in_tree
  unfolding pair_cost
  cost_there k l = at (k / n) (k % n) (grid_row n k l) (grid_column n k l) (test (eqb (parent tree (k % n)) (k / n))) (test (eqb (parent tree (k / n)) (k % n)))
    where
      at : (x y : ℕ) → x < n → y < n → (eqb (parent tree y) x ≡ true) ⊎ (eqb (parent tree y) x ≡ false) → (eqb (parent tree x) y ≡ true) ⊎ (eqb (parent tree x) y ≡ false)
          → cond (eqb (parent tree y) x) (cost_of ks n tree y) (cond (eqb (parent tree x) y) (cost_of ks n tree x) not_in_tree) ≡ cond (joins tree x y) (replacement_cost g 0 x y) not_in_tree
      at x y xb yb (inl e) _ = let q = eqb-true (parent tree y) x e in rw (e, joins_down tree x y q) (down_cost x y xb yb q)
      at x y xb yb (inr e) (inl f) = let q = eqb-true (parent tree x) y f in rw (e, f, joins_up tree x y q) (down_cost y x yb xb q ∙ cost_alike g 0 y x)
      at x y xb yb (inr e) (inr f) = rw (e, f, joins_not tree x y (eqb-false (parent tree y) x e) (eqb-false (parent tree x) y f))

  cheapest_shown : CheapestTree g (least_spanning g 0) tree
  unfolding CheapestTree
  cheapest_shown = rw (cheapest_least g 0 tree best) (spans_listed g 0 tree best.spans, refl)

  outcome_is : graph_outcome g 0 b ≡ cond (leb own b) (Plan own) (Over own)
  unfolding graph_outcome outcome_at
  outcome_is = rw (cheapest_least g 0 tree best)

  pub shows_tree : (ss₀ ss cs₀ cs : List ℕ) (t : ℕ) → t ≡ total (directed g 0) tree
      → ss ≡ in_front (tabulate (n * n) (place_state g.weights ks n tree t (max b t))) ss₀ → cs ≡ in_front (tabulate (n * n) (cost_at tree (cost_of ks n tree) n)) cs₀
      → Accepts g b ss₀ ss cs₀ cs (Shown (cond (leb t b) (Plan t) (Over t)))
  unfolding edge_states costs_shown
  shows_tree ss₀ ss cs₀ cs t e p q =
      record {
        result = rw (e, outcome_is);
        shows =
            record {
              states_in =
                  p ∙ ap (λ (x : ℕ). in_front (tabulate (n * n) (place_state g.weights ks n tree x (max b x))) ss₀) e
                  ∙ ap (λ (l : List ℕ). in_front l ss₀)
                  (tabulate_same (n * n) (place_state g.weights ks n tree own (max b own)) (λ k. edge_state g 0 b (k / n) (k % n)) place_is);
              tree = tree;
              cheapest = cheapest_shown;
              costs_in =
                  q ∙ ap (λ (l : List ℕ). in_front l cs₀)
                  (tabulate_same (n * n) (cost_at tree (cost_of ks n tree) n) (λ k. cond (joins tree (k / n) (k % n)) (replacement_cost g 0 (k / n) (k % n)) not_in_tree) cost_there);
            };
      }
