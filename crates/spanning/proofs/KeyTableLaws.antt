-- What the search computes from a table of keys is what holds of the graph. Assumes nothing.
use mathlib.Core.Path.{◌≡◌, refl, sym, ◌∙◌, subst}
use mathlib.Core.Bool.{Bool, true, false, ◌&&◌, not, cond}
use mathlib.Core.List.{List}
use mathlib.Core.Logic.{inl, inr, ⊎_elim, ◌≢◌}
use Prim.Native.Nat.{ℕ, ◌*◌, ◌/◌, ◌%◌, ◌≤◌, ◌<◌}
use native.Mathlib.Omega.{arith}
use lib.Dec.{eqb}
use borrow.Author.Tests.{lt-ltb, eqb-true, eqb-false, eq-eqb, ne_eqb, not-true}
use Rattle.base.specs.Bounded.{all_below}
use Rattle.base.proofs.BoolLaws.{not_both, is_false, and_left, and_right, and_both, same_test}
use Rattle.base.proofs.BoundedLaws.{all_same}
use Rattle.base.proofs.GridLaws.{grid_row, grid_column}
use Rattle.base.proofs.ListLaws.{get_d_tabulate}
use Rattle.instance.specs.Limits.{max_vertices, cells}
use Rattle.instance.specs.Instance.{cell}
use Rattle.instance.specs.Arborescence.{parent, reaches}
use Rattle.paths.specs.Paths.{Rooted, Descends, Avoids}
use Rattle.paths.proofs.PathLaws.{descends_here, descends_not}
use Rattle.spanning.specs.Extremes.{least_below, greatest_below}
use Rattle.spanning.specs.Graph.{Graph, is_pinned, is_allowed}
use Rattle.spanning.specs.Refusal.{ValidGraph}
use Rattle.spanning.specs.SpanningTrees.{joins, keeps_pins}
use Rattle.spanning.specs.EdgeExchange.{SameEdge}
use Rattle.spanning.specs.Crossing.{Separates}
use Rattle.spanning.specs.Keys.{no_key, edge_key, LeastCrossing, GreatestBetween}
use Rattle.spanning.specs.KeyTables.{key_at, table_key, key_table, KeysOf, keeps_zero, crossing_key, least_into, least_crossing, between_key, greatest_between}
use Rattle.spanning.proofs.ExtremeLaws.{least_cap, least_le, least_found, greatest_le, greatest_found}
use Rattle.spanning.proofs.GraphLaws.{edge_ends, allowed_edge, pinned_edge}
use Rattle.spanning.proofs.KeyLaws.{pinned_key, key_zero, key_allowed}
use Rattle.spanning.proofs.CrossingLaws.{avoids_tested, descends_tested}

pub table_keys : (g : Graph) → ValidGraph g → KeysOf g g.n (key_table g)
unfolding table_key
table_keys g valid =
    record {
      valid = valid;
      count = refl;
      at =
          λ i j ib jb d.
          let small = valid.small in
          let q : cell i j / 32 ≡ i = omega arith in
          let m : cell i j % 32 ≡ j = omega arith in
          get_d_tabulate cells (table_key g) (cell i j) 0 (omega arith)
          ∙ rw (q, m, lt-ltb i g.n ib, lt-ltb j g.n jb, ne_eqb i j d);
    }

module _ (g : Graph) (n : ℕ) (ks : List ℕ) (k : KeysOf g n ks) where
  abbrev valid : ValidGraph g
  valid = k.valid

  -- below the count of the graph
  in_graph : (i : ℕ) → i < n → i < g.n
  in_graph i b = let c = k.count in omega arith

  of_graph : (i : ℕ) → i < g.n → i < n
  of_graph i b = let c = k.count in omega arith

  -- PINS
  zero_pinned : (i j : ℕ) → i < n → j < n → not (eqb i j) && eqb (key_at ks i j) 0 ≡ is_pinned g i j
  zero_pinned i j ib jb = same_test (not (eqb i j) && eqb (key_at ks i j) 0) (is_pinned g i j) there back
    where
      there : not (eqb i j) && eqb (key_at ks i j) 0 ≡ true → is_pinned g i j ≡ true
      there e =
          let d = eqb-false i j (not-true (eqb i j) (and_left (not (eqb i j)) (eqb (key_at ks i j) 0) e)) in
          key_zero g valid i j (in_graph i ib) (in_graph j jb) d
          (sym (k.at i j ib jb d) ∙ eqb-true (key_at ks i j) 0 (and_right (not (eqb i j)) (eqb (key_at ks i j) 0) e))

      back : is_pinned g i j ≡ true → not (eqb i j) && eqb (key_at ks i j) 0 ≡ true
      back e =
          let d = (edge_ends g i j (pinned_edge g i j e)).differ in
          rw (ne_eqb i j d) (eq-eqb (key_at ks i j) 0 (k.at i j ib jb d ∙ pinned_key g i j e))

  pub zero_kept : (ps : List ℕ) → keeps_zero ks n ps ≡ keeps_pins g ps
  unfolding keeps_zero keeps_pins
  zero_kept ps =
      subst (λ (m : ℕ). keeps_zero ks n ps ≡ all_below (m * m) (λ c. cond (is_pinned g (c / m) (c % m)) (joins ps (c / m) (c % m)) true)) (sym k.count)
      (all_same (n * n) (λ c. cond (not (eqb (c / n) (c % n)) && eqb (key_at ks (c / n) (c % n)) 0) (joins ps (c / n) (c % n)) true)
      (λ c. cond (is_pinned g (c / n) (c % n)) (joins ps (c / n) (c % n)) true) (λ c l. rw (zero_pinned (c / n) (c % n) (grid_row n c l) (grid_column n c l))))

  -- A TREE
  module _ (ps : List ℕ) (tree : Rooted n 0 ps) where
    small : n ≤ max_vertices
    small = let c = k.count in let m = valid.small in omega arith

    below : (v x : ℕ) → v < n → x < n → Descends ps v x → reaches n v ps x ≡ true
    below v x vb xb d = descends_tested n 0 ps tree small v x vb xb d

    -- WHAT RECONNECTS
    pub crossing_is : (v : ℕ) → v < n → LeastCrossing g ps v (least_crossing ks n ps v)
    unfolding least_crossing least_into crossing_key
    crossing_is v vb =
        record {
          most = least_cap no_key (λ j. least_below no_key n (λ i. crossing_key ks n ps v j i)) n;
          least = λ i j a o d other. at_most i j a o d other;
          attained = λ l. found l;
        }
      where
        own : ℕ
        own = parent ps v

        at_most : (i j : ℕ) → is_allowed g i j ≡ true → Avoids ps v i → Descends ps v j → (SameEdge i j (parent ps v) v → ⊥)
            → least_below no_key n (λ y. least_below no_key n (λ x. crossing_key ks n ps v y x)) ≤ edge_key g i j
        at_most i j a o d other =
            let e = edge_ends g i j (allowed_edge g i j a) in
            let ib = of_graph i e.i_below in
            let jb = of_graph j e.j_below in
            let x = least_le no_key (λ y. least_below no_key n (λ z. crossing_key ks n ps v y z)) n j jb in
            let y = least_le no_key (λ z. crossing_key ks n ps v j z) n i ib in
            let apart = is_false (eqb i (parent ps v) && eqb j v) (λ q. other (inl (eqb-true i (parent ps v) (and_left (eqb i (parent ps v)) (eqb j v) q), eqb-true j v (and_right (eqb i (parent ps v)) (eqb j v) q)))) in
            let z : crossing_key ks n ps v j i ≡ edge_key g i j = rw (below v j vb jb d, o n, apart) (k.at i j ib jb e.differ) in
            omega arith

        found : least_below no_key n (λ y. least_below no_key n (λ x. crossing_key ks n ps v y x)) < no_key →
            (i : ℕ) × (j : ℕ) × (is_allowed g i j ≡ true) × Avoids ps v i × Descends ps v j × (SameEdge i j (parent ps v) v → ⊥)
            × (edge_key g i j ≡ least_below no_key n (λ y. least_below no_key n (λ x. crossing_key ks n ps v y x)))
        found l =
            let a = least_found no_key (λ y. least_below no_key n (λ x. crossing_key ks n ps v y x)) n l in
            let la : least_below no_key n (λ x. crossing_key ks n ps v a.0 x) < no_key = omega (arith, a.2) in
            let b = least_found no_key (λ x. crossing_key ks n ps v a.0 x) n la in
            let lb : crossing_key ks n ps v a.0 b.0 < no_key = omega (arith, b.2) in
            reads b.0 a.0 b.1 a.1 (reaches n v ps a.0) (reaches n v ps b.0) (eqb b.0 (parent ps v) && eqb a.0 v) refl refl refl (b.2 ∙ a.2) lb
          where
            reads : (i j : ℕ) → i < n → j < n → (p q t : Bool) → reaches n v ps j ≡ p → reaches n v ps i ≡ q → eqb i (parent ps v) && eqb j v ≡ t
                → cond p (cond q no_key (cond t no_key (key_at ks i j))) no_key ≡ least_below no_key n (λ y. least_below no_key n (λ x. crossing_key ks n ps v y x))
                → cond p (cond q no_key (cond t no_key (key_at ks i j))) no_key < no_key →
                (i : ℕ) × (j : ℕ) × (is_allowed g i j ≡ true) × Avoids ps v i × Descends ps v j × (SameEdge i j (parent ps v) v → ⊥)
                × (edge_key g i j ≡ least_below no_key n (λ y. least_below no_key n (λ x. crossing_key ks n ps v y x)))
            reads i j ib jb false q t e f h same l = absurd (omega arith)
            reads i j ib jb true true t e f h same l = absurd (omega arith)
            reads i j ib jb true false true e f h same l = absurd (omega arith)
            reads i j ib jb true false false e f h same l =
                let d : i ≢ j = λ z. not_both (reaches n v ps j) e (subst (λ (x : ℕ). reaches n v ps x ≡ false) z f) in
                let key = k.at i j ib jb d in
                let out = avoids_tested n 0 ps tree small v i vb ib f in (
                  i,
                  j,
                  key_allowed g valid i j (in_graph i ib) (in_graph j jb) d (omega arith),
                  out,
                  (n, e),
                  (λ s.
                      ⊎_elim (λ (z : (i ≡ parent ps v) × (j ≡ v)). not_both (eqb i (parent ps v) && eqb j v) (and_both (eqb i (parent ps v)) (eqb j v) (eq-eqb i (parent ps v) z.0) (eq-eqb j v z.1)) h)
                      (λ (z : (i ≡ v) × (j ≡ parent ps v)). descends_not ps v i (descends_here ps v i z.0) out) s),
                  sym key ∙ same,
                )

    -- WHAT LIES BETWEEN
    pub between_is : (i j : ℕ) → i < n → j < n → ((v : ℕ) → v < n → v ≢ 0 → parent ps v ≢ v) → GreatestBetween g 0 ps i j (greatest_between ks n ps i j)
    unfolding greatest_between between_key
    between_is i j ib jb apart =
        record {
          greatest = λ v vb va s. let b = of_graph v vb in let m = greatest_le (λ x. between_key ks n ps i j x) n v b in let e = on v b va s in omega arith;
          attained = λ z. let f = greatest_found (λ x. between_key ks n ps i j x) n z in reads f.0 f.1 (eqb f.0 0) (reaches n f.0 ps i) (reaches n f.0 ps j) refl refl refl f.2 z;
        }
      where
        key_of : (v : ℕ) → v < n → v ≢ 0 → key_at ks (parent ps v) v ≡ edge_key g (parent ps v) v
        key_of v vb va = k.at (parent ps v) v (tree.below v vb (ne_eqb v 0 va)) vb (apart v vb va)

        on : (v : ℕ) → v < n → v ≢ 0 → Separates ps v i j → between_key ks n ps i j v ≡ edge_key g (parent ps v) v
        on v vb va s =
            ⊎_elim (λ (z : Descends ps v i × Avoids ps v j). rw (ne_eqb v 0 va, below v i vb ib z.0, z.1 n) (key_of v vb va))
            (λ (z : Avoids ps v i × Descends ps v j). rw (ne_eqb v 0 va, z.0 n, below v j vb jb z.1) (key_of v vb va)) s

        reads : (v : ℕ) → v < n → (o p q : Bool) → eqb v 0 ≡ o → reaches n v ps i ≡ p → reaches n v ps j ≡ q
            → cond o 0 (cond p (cond q 0 (key_at ks (parent ps v) v)) (cond q (key_at ks (parent ps v) v) 0)) ≡ greatest_below n (λ x. between_key ks n ps i j x)
            → greatest_below n (λ x. between_key ks n ps i j x) ≢ 0
            → (v : ℕ) × (v < g.n) × (v ≢ 0) × Separates ps v i j × (edge_key g (parent ps v) v ≡ greatest_below n (λ x. between_key ks n ps i j x))
        reads v vb true p q e f h same z = absurd (z (sym same))
        reads v vb false true true e f h same z = absurd (z (sym same))
        reads v vb false false false e f h same z = absurd (z (sym same))
        reads v vb false true false e f h same z =
            let va = eqb-false v 0 e in (v, in_graph v vb, va, inl ((n, f), avoids_tested n 0 ps tree small v j vb jb h), sym (key_of v vb va) ∙ same)
        reads v vb false false true e f h same z =
            let va = eqb-false v 0 e in (v, in_graph v vb, va, inr (avoids_tested n 0 ps tree small v i vb ib f, (n, h)), sym (key_of v vb va) ∙ same)
