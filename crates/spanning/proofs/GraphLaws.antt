-- A graph that is not refused is the same both ways, and so are the arcs that its edges can be. Assumes nothing.
use mathlib.Core.Path.{◌≡◌, refl, sym, ◌∙◌, subst}
use mathlib.Core.Bool.{Bool, true, false, ◌&&◌, not, cond}
use mathlib.Core.List.{List}
use mathlib.Core.Logic.{⊎_elim, ◌≢◌}
use Prim.Native.Nat.{ℕ, ◌*◌, ◌/◌, ◌%◌, ◌≤◌, ◌<◌}
use native.Mathlib.Omega.{arith}
use native.Mathlib.Nat.{mul-le-mul_right, le_trans}
use native.Mathlib.Decide.{ℕ_discrete}
use lib.Dec.{ltb, eqb}
use lib.ListN.{get_or}
use borrow.Author.Tests.{ltb-true, lt-ltb, eqb-true, eqb-false, eq-eqb, ne_eqb, not-true}
use Rattle.base.proofs.BoolLaws.{and_left, and_right, same_test}
use Rattle.base.proofs.ListLaws.{length_tabulate, get_d_tabulate}
use Rattle.instance.specs.Limits.{max_vertices, no_arc, pinned, banned, cells}
use Rattle.instance.specs.Instance.{cell, weight}
use Rattle.instance.specs.Arborescence.{remaining, parent, is_arborescence, total}
use Rattle.instance.specs.Matrix.{unmarked, MatrixOk}
use Rattle.instance.specs.Refusals.{out_of_range, unequal_pair}
use Rattle.instance.specs.Valid.{cell_ok}
use Rattle.instance.proofs.ArcLaws.{remaining_arc, remaining_ends, arc_weight}
use Rattle.instance.proofs.ArborescenceLaws.{root_parent, joined}
use Rattle.instance.proofs.MatrixLaws.{matrix_arc, matrix_total_most}
use Rattle.instance.proofs.ValidLaws.{weight_fits}
use Rattle.spanning.specs.Graph.{Graph, edge_weight, edge_mark, is_edge, is_pinned, is_allowed}
use Rattle.spanning.specs.Refusal.{same_both_ways, cell_refusal, ValidGraph}
use Rattle.spanning.specs.SpanningTrees.{edge_matrix, directed, joins}
use Rattle.spanning.specs.EdgeExchange.{BothWays}
use Rattle.spanning.specs.Spans.{Linked}
use Rattle.spanning.proofs.JoinsLaws.{joins_cases}

-- AN EDGE
pub record EdgeEnds (g : Graph) (i j : ℕ) : Type 0 where
  pub i_below : i < g.n
  pub j_below : j < g.n
  pub differ : i ≢ j
  pub priced : edge_weight g i j ≢ no_arc

module _ (g : Graph) (i j : ℕ) where
  pub edge_ends : is_edge g i j ≡ true → EdgeEnds g i j
  unfolding is_edge
  edge_ends e =
      let E = not (eqb i j) && not (eqb (edge_weight g i j) no_arc) in
      let B = ltb i g.n && ltb j g.n in
      let b = and_left B E e in
      let d = and_right B E e in
      record {
        i_below = ltb-true i g.n (and_left (ltb i g.n) (ltb j g.n) b);
        j_below = ltb-true j g.n (and_right (ltb i g.n) (ltb j g.n) b);
        differ = eqb-false i j (not-true (eqb i j) (and_left (not (eqb i j)) (not (eqb (edge_weight g i j) no_arc)) d));
        priced = eqb-false (edge_weight g i j) no_arc (not-true (eqb (edge_weight g i j) no_arc) (and_right (not (eqb i j)) (not (eqb (edge_weight g i j) no_arc)) d));
      }

  pub make_edge : i < g.n → j < g.n → i ≢ j → edge_weight g i j ≢ no_arc → is_edge g i j ≡ true
  unfolding is_edge
  make_edge ib jb d w = rw (lt-ltb i g.n ib, lt-ltb j g.n jb, ne_eqb i j d, ne_eqb (edge_weight g i j) no_arc w)

  pub allowed_edge : is_allowed g i j ≡ true → is_edge g i j ≡ true
  unfolding is_allowed
  allowed_edge e = and_left (is_edge g i j) (not (eqb (edge_mark g i j) banned)) e

  pub allowed_mark : is_allowed g i j ≡ true → edge_mark g i j ≢ banned
  unfolding is_allowed
  allowed_mark e = eqb-false (edge_mark g i j) banned (not-true (eqb (edge_mark g i j) banned) (and_right (is_edge g i j) (not (eqb (edge_mark g i j) banned)) e))

  pub make_allowed : is_edge g i j ≡ true → edge_mark g i j ≢ banned → is_allowed g i j ≡ true
  unfolding is_allowed
  make_allowed e m = rw (e, ne_eqb (edge_mark g i j) banned m)

  pub pinned_edge : is_pinned g i j ≡ true → is_edge g i j ≡ true
  unfolding is_pinned
  pinned_edge e = and_left (is_edge g i j) (eqb (edge_mark g i j) pinned) e

  pub pinned_mark : is_pinned g i j ≡ true → edge_mark g i j ≡ pinned
  unfolding is_pinned
  pinned_mark e = eqb-true (edge_mark g i j) pinned (and_right (is_edge g i j) (eqb (edge_mark g i j) pinned) e)

  pub make_pinned : is_edge g i j ≡ true → edge_mark g i j ≡ pinned → is_pinned g i j ≡ true
  unfolding is_pinned
  make_pinned e m = rw (e, eq-eqb (edge_mark g i j) pinned m)

-- THE SAME BOTH WAYS
record Passed (g : Graph) (i j : ℕ) : Type 0 where
  cell : cell_ok (edge_weight g i j) (edge_mark g i j) ≡ true
  same : same_both_ways g i j ≡ true

module _ (g : Graph) (valid : ValidGraph g) (i j : ℕ) (ib : i < g.n) (jb : j < g.n) where
  cell_passed : i ≢ j → Passed g i j
  unfolding cell_refusal
  cell_passed d = at (cell_ok (edge_weight g i j) (edge_mark g i j)) (same_both_ways g i j) refl refl (rw (ne_eqb i j d) at (valid.edges i j ib jb))
    where
      at : (a b : Bool) → cell_ok (edge_weight g i j) (edge_mark g i j) ≡ a → same_both_ways g i j ≡ b → ◌≡◌ {A = ℕ} (cond a (cond b 0 unequal_pair) out_of_range) 0 → Passed g i j
      at true true p q e = record { cell = p; same = q }
      at true false p q e = absurd (omega arith)
      at false b p q e = absurd (omega arith)

  pub edge_cell_ok : i ≢ j → cell_ok (edge_weight g i j) (edge_mark g i j) ≡ true
  edge_cell_ok d = (cell_passed d).cell

  pub edge_weight_most : i ≢ j → edge_weight g i j ≤ no_arc
  edge_weight_most d = weight_fits (edge_weight g i j) (edge_mark g i j) (edge_cell_ok d)

  pub same_weight : edge_weight g i j ≡ edge_weight g j i
  unfolding same_both_ways
  same_weight = at (ℕ_discrete i j)
    where
      at : Dec (i ≡ j) → edge_weight g i j ≡ edge_weight g j i
      at (yes z) = rw z refl
      at (no z) = eqb-true (edge_weight g i j) (edge_weight g j i) (and_left (eqb (edge_weight g i j) (edge_weight g j i)) (eqb (edge_mark g i j) (edge_mark g j i)) (cell_passed z).same)

  pub same_mark : edge_mark g i j ≡ edge_mark g j i
  unfolding same_both_ways
  same_mark = at (ℕ_discrete i j)
    where
      at : Dec (i ≡ j) → edge_mark g i j ≡ edge_mark g j i
      at (yes z) = rw z refl
      at (no z) = eqb-true (edge_mark g i j) (edge_mark g j i) (and_right (eqb (edge_weight g i j) (edge_weight g j i)) (eqb (edge_mark g i j) (edge_mark g j i)) (cell_passed z).same)

module _ (g : Graph) (valid : ValidGraph g) where
  pub edge_turned : (i j : ℕ) → is_edge g i j ≡ true → is_edge g j i ≡ true
  edge_turned i j e =
      let k = edge_ends g i j e in
      make_edge g j i k.j_below k.i_below (λ z. k.differ (sym z)) (λ z. k.priced (same_weight g valid i j k.i_below k.j_below ∙ z))

  pub pinned_turned : (i j : ℕ) → is_pinned g i j ≡ true → is_pinned g j i ≡ true
  pinned_turned i j e =
      let d = pinned_edge g i j e in
      let k = edge_ends g i j d in
      make_pinned g j i (edge_turned i j d) (sym (same_mark g valid i j k.i_below k.j_below) ∙ pinned_mark g i j e)

  pub allowed_turned : (i j : ℕ) → is_allowed g i j ≡ true → is_allowed g j i ≡ true
  allowed_turned i j e =
      let d = allowed_edge g i j e in
      let k = edge_ends g i j d in
      make_allowed g j i (edge_turned i j d) (λ z. allowed_mark g i j e (same_mark g valid i j k.i_below k.j_below ∙ z))

  pub allowed_alike : (i j : ℕ) → is_allowed g i j ≡ is_allowed g j i
  allowed_alike i j = same_test (is_allowed g i j) (is_allowed g j i) (allowed_turned i j) (allowed_turned j i)

-- AS ARCS
module _ (g : Graph) (small : g.n ≤ max_vertices) (r : ℕ) where
  pub matrix_at : (i j : ℕ) → i < g.n → j < g.n → get_or (edge_matrix g) (cell i j) no_arc ≡ cond (is_allowed g i j) (edge_weight g i j) no_arc
  unfolding edge_matrix
  matrix_at i j ib jb =
      let q : cell i j / 32 ≡ i = omega arith in
      let m : cell i j % 32 ≡ j = omega arith in
      get_d_tabulate cells (λ c. cond (is_allowed g (c / 32) (c % 32)) (edge_weight g (c / 32) (c % 32)) no_arc) (cell i j) no_arc (omega arith) ∙ rw (q, m)

  pub allowed_weight : (i j : ℕ) → is_allowed g i j ≡ true → weight (directed g r) i j ≡ edge_weight g i j
  unfolding weight
  allowed_weight i j e = let k = edge_ends g i j (allowed_edge g i j e) in matrix_at i j k.i_below k.j_below ∙ rw e

  pub allowed_arc : (i j : ℕ) → is_allowed g i j ≡ true → j ≢ r → remaining (directed g r) i j ≡ true
  unfolding unmarked
  allowed_arc i j e d =
      let k = edge_ends g i j (allowed_edge g i j e) in
      matrix_arc g.n r (edge_matrix g) i j k.i_below k.j_below k.differ d
      (λ z. k.priced (sym (matrix_at i j k.i_below k.j_below ∙ rw e) ∙ z))

  pub arc_allowed : (i j : ℕ) → remaining (directed g r) i j ≡ true → is_allowed g i j ≡ true
  unfolding weight
  arc_allowed i j e = at (is_allowed g i j) refl
    where
      at : (b : Bool) → is_allowed g i j ≡ b → b ≡ true
      at true q = refl
      at false q =
          let k = remaining_ends (directed g r) i j e in
          let w = arc_weight (directed g r) i j (remaining_arc (directed g r) i j e) in
          absurd (eqb-false (get_or (edge_matrix g) (cell i j) no_arc) no_arc w (matrix_at i j k.tail_below k.head_below ∙ rw q))

module _ (g : Graph) (valid : ValidGraph g) (r : ℕ) where
  -- the totals are far below the two numbers that are no costs
  matrix_cell_most : (i j : ℕ) → (b : Bool) → is_allowed g i j ≡ b → cond b (edge_weight g i j) no_arc ≤ no_arc
  matrix_cell_most i j true e =
      let k = edge_ends g i j (allowed_edge g i j e) in edge_weight_most g valid i j k.i_below k.j_below k.differ
  matrix_cell_most i j false e = omega arith

  directed_ok : r < g.n → MatrixOk g.n r (edge_matrix g)
  unfolding edge_matrix
  directed_ok rb =
      let f : ℕ → ℕ = λ c. cond (is_allowed g (c / 32) (c % 32)) (edge_weight g (c / 32) (c % 32)) no_arc in
      record {
        small = valid.small;
        root_below = rb;
        size = length_tabulate cells f;
        bounded = λ c l. rw (get_d_tabulate cells f c no_arc l) (matrix_cell_most (c / 32) (c % 32) (is_allowed g (c / 32) (c % 32)) refl);
      }

  pub directed_total_most : r < g.n → (ps : List ℕ) → total (directed g r) ps ≤ max_vertices * no_arc
  unfolding unmarked
  directed_total_most rb ps =
      let a = matrix_total_most g.n r (edge_matrix g) (directed_ok rb) ps in
      let m : g.n * no_arc ≤ max_vertices * no_arc = mul-le-mul_right no_arc valid.small in
      le_trans a m

  pub directed_both : BothWays (directed g r)
  unfolding weight
  directed_both =
      record {
        arcs = λ t h e z. allowed_arc g valid.small r h t (allowed_turned g valid t h (arc_allowed g valid.small r t h e)) (eqb-false t r z);
        weights =
            λ t h tb hb.
            matrix_at g valid.small r h t hb tb ∙ rw (allowed_alike g valid h t, same_weight g valid h t hb tb)
            (sym (matrix_at g valid.small r t h tb hb));
      }

  pub allowed_linked : (i j : ℕ) → is_allowed g i j ≡ true → Linked (directed g r) i j
  allowed_linked i j e =
      let k = edge_ends g i j (allowed_edge g i j e) in
      record {
        i_below = k.i_below;
        j_below = k.j_below;
        down = λ z. allowed_arc g valid.small r i j e (eqb-false j r z);
        up = λ z. allowed_arc g valid.small r j i (allowed_turned g valid i j e) (eqb-false i r z);
      }

  -- what a tree joins is an edge that is not banned
  pub joined_allowed : r < g.n → (ps : List ℕ) → is_arborescence (directed g r) ps ≡ true → (i j : ℕ) → i < g.n → j < g.n → joins ps i j ≡ true → is_allowed g i j ≡ true
  joined_allowed rb ps a i j ib jb e =
      ⊎_elim (λ (c : parent ps j ≡ i). down i j ib jb c) (λ (c : parent ps i ≡ j). allowed_turned g valid j i (down j i jb ib c)) (joins_cases ps i j e)
    where
      down : (x y : ℕ) → x < g.n → y < g.n → parent ps y ≡ x → is_allowed g x y ≡ true
      down x y xb yb c = at (ℕ_discrete y r)
        where
          at : Dec (y ≡ r) → is_allowed g x y ≡ true
          at (yes z) =
              let q = root_parent (directed g r) ps a y yb (eq-eqb y r z) in
              let n = valid.small in
              absurd (omega arith)
          at (no z) = subst (λ (w : ℕ). is_allowed g w y ≡ true) c (arc_allowed g valid.small r (parent ps y) y (joined (directed g r) ps a y yb (ne_eqb y r z)).arc)
