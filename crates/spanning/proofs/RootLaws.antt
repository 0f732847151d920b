-- "There is no root" (02, A11): where the listing of spanning trees starts does not matter. The root of a tree moves to
-- a child by turning round the edge between them, and so, edge by edge, to any vertex; the edges and the total stay.
-- Assumes nothing.
use mathlib.Core.Path.{◌≡◌, refl, sym, ap, ◌∙◌, subst}
use mathlib.Core.Bool.{true, cond}
use mathlib.Core.List.{List}
use mathlib.Core.Logic.{inl, ⊎_elim, ◌≢◌}
use Prim.Native.Nat.{ℕ, zero, suc, ◌<◌}
use native.Mathlib.Omega.{arith}
use native.Mathlib.Decide.{ℕ_discrete}
use lib.Dec.{eqb}
use lib.ListN.{length, set, length-set}
use borrow.Author.Tests.{eqb-true, eqb-false, eq-eqb, ne_eqb}
use Rattle.base.proofs.BoolLaws.{same_test}
use Rattle.base.proofs.SumLaws.{sum_change}
use Rattle.instance.specs.Limits.{no_parent}
use Rattle.instance.specs.Instance.{weight}
use Rattle.instance.specs.Arborescence.{parent, reaches, is_arborescence, total}
use Rattle.instance.proofs.ArborescenceLaws.{parents_size, root_parent, joined, make_arborescence}
use Rattle.instance.proofs.ReachLaws.{enough}
use Rattle.paths.specs.Paths.{Rooted, Descends}
use Rattle.paths.proofs.PathLaws.{descends_here, descends_up, parent_other, parent_same}
use Rattle.paths.proofs.ExchangeLaws.{rooted}
use Rattle.spanning.specs.Graph.{Graph, is_pinned, is_allowed}
use Rattle.spanning.specs.Refusal.{ValidGraph}
use Rattle.spanning.specs.SpanningTrees.{directed, joins}
use Rattle.spanning.specs.Spans.{Spans}
use Rattle.spanning.proofs.JoinsLaws.{joins_cases, joins_down, joins_up}
use Rattle.spanning.proofs.GraphLaws.{edge_ends, allowed_edge, pinned_edge, allowed_turned, allowed_arc, arc_allowed, directed_both}

-- a tree from another vertex with the same edges and the same total
pub record Rerooted (g : Graph) (r r' : ℕ) (parents : List ℕ) : Type 0 where
  pub made : List ℕ
  pub arborescence : is_arborescence (directed g r') made ≡ true
  pub same : (i j : ℕ) → i < g.n → j < g.n → joins made i j ≡ joins parents i j
  pub cost : total (directed g r') made ≡ total (directed g r) parents

-- TO A CHILD
module _ (g : Graph) (valid : ValidGraph g) (p : ℕ) (pb : p < g.n) (qs : List ℕ) (a : is_arborescence (directed g p) qs ≡ true)
    (c : ℕ) (cb : c < g.n) (apart : c ≢ p) (child : parent qs c ≡ p) where
  abbrev one : List ℕ
  one = set qs c no_parent

  abbrev rs : List ℕ
  rs = set one p c

  size : length qs ≡ g.n
  size = parents_size (directed g p) qs a

  at_p : parent rs p ≡ c
  at_p = let s = size in parent_same one p c (simp length-set (omega arith))

  at_c : parent rs c ≡ no_parent
  at_c = let s = size in parent_other one p c c apart ∙ parent_same qs c no_parent (omega arith)

  elsewhere : (v : ℕ) → v ≢ p → v ≢ c → parent rs v ≡ parent qs v
  elsewhere v d e = parent_other one p c v d ∙ parent_other qs c no_parent v e

  none_at_p : parent qs p ≡ no_parent
  none_at_p = root_parent (directed g p) qs a p pb (eq-eqb p p refl)

  own : is_allowed g p c ≡ true
  own = subst (λ (x : ℕ). is_allowed g x c ≡ true) child (arc_allowed g valid.small p (parent qs c) c (joined (directed g p) qs a c cb (ne_eqb c p apart)).arc)

  allowed_at : (v : ℕ) → v < g.n → v ≢ c → is_allowed g (parent rs v) v ≡ true
  allowed_at v vb d = at (ℕ_discrete v p)
    where
      at : Dec (v ≡ p) → is_allowed g (parent rs v) v ≡ true
      at (yes z) = rw (z, at_p) (allowed_turned g valid p c own)
      at (no z) = rw (elsewhere v z d) (arc_allowed g valid.small p (parent qs v) v (joined (directed g p) qs a v vb (ne_eqb v p z)).arc)

  comes_to : (k v : ℕ) → reaches k p qs v ≡ true → Descends rs c v
  unfolding reaches
  comes_to zero v e = descends_up rs c v (rw (eqb-true v p e, at_p) (descends_here rs c c refl))
  comes_to (suc k) v e = at (ℕ_discrete v c) (ℕ_discrete v p) (λ q. comes_to k (parent qs v) q)
    where
      at : Dec (v ≡ c) → Dec (v ≡ p) → (reaches k p qs (parent qs v) ≡ true → Descends rs c (parent qs v)) → Descends rs c v
      at (yes z) _ rec = descends_here rs c v z
      at (no z) (yes w) rec = descends_up rs c v (rw (w, at_p) (descends_here rs c c refl))
      at (no z) (no w) rec = descends_up rs c v (rw (elsewhere v w z) (rec (rw (ne_eqb v p w) at e)))

  reach_at : (v : ℕ) → v < g.n → Descends rs c v
  reach_at v vb = comes_to g.n v ((rooted (directed g p) qs pb a).reach v vb)

  moved_tree : is_arborescence (directed g c) rs ≡ true
  moved_tree =
      make_arborescence (directed g c) rs (simp length-set size) (λ v vb e. rw (eqb-true v c e) at_c)
      (λ v vb e.
      record {
        arc = allowed_arc g valid.small c (parent rs v) v (allowed_at v vb (eqb-false v c e)) (eqb-false v c e);
        reach =
            let d = reach_at v vb in
            enough g.n c rs cb
            (λ u ub f. inl (edge_ends g (parent rs u) u (allowed_edge g (parent rs u) u (allowed_at u ub (eqb-false u c f)))).i_below) d.0 v vb d.1;
      })

  -- the same edges
  to_old : (i j : ℕ) → i < g.n → j < g.n → parent rs j ≡ i → joins qs i j ≡ true
  to_old i j ib jb e = at (ℕ_discrete j p) (ℕ_discrete j c)
    where
      at : Dec (j ≡ p) → Dec (j ≡ c) → joins qs i j ≡ true
      at (yes z) _ = joins_up qs i j (rw (← e, z, at_p) child)
      at (no z) (yes w) = let s = valid.small in let q : parent rs j ≡ no_parent = ap (λ (x : ℕ). parent rs x) w ∙ at_c in absurd (omega arith)
      at (no z) (no w) = joins_down qs i j (sym (elsewhere j z w) ∙ e)

  to_new : (i j : ℕ) → i < g.n → j < g.n → parent qs j ≡ i → joins rs i j ≡ true
  to_new i j ib jb e = at (ℕ_discrete j p) (ℕ_discrete j c)
    where
      at : Dec (j ≡ p) → Dec (j ≡ c) → joins rs i j ≡ true
      at (yes z) _ = let s = valid.small in let q : parent qs j ≡ no_parent = ap (λ (x : ℕ). parent qs x) z ∙ none_at_p in absurd (omega arith)
      at (no z) (yes w) = joins_up rs i j (rw (← e, w, child) at_p)
      at (no z) (no w) = joins_down rs i j (elsewhere j z w ∙ e)

  turn : (l : List ℕ) (i j : ℕ) → joins l j i ≡ true → joins l i j ≡ true
  turn l i j e = ⊎_elim (λ (q : parent l i ≡ j). joins_up l i j q) (λ (q : parent l j ≡ i). joins_down l i j q) (joins_cases l j i e)

  same_edges : (i j : ℕ) → i < g.n → j < g.n → joins rs i j ≡ joins qs i j
  same_edges i j ib jb =
      same_test (joins rs i j) (joins qs i j)
      (λ e. ⊎_elim (λ (q : parent rs j ≡ i). to_old i j ib jb q) (λ (q : parent rs i ≡ j). turn qs i j (to_old j i jb ib q)) (joins_cases rs i j e))
      (λ e. ⊎_elim (λ (q : parent qs j ≡ i). to_new i j ib jb q) (λ (q : parent qs i ≡ j). turn rs i j (to_new j i jb ib q)) (joins_cases qs i j e))

  -- the same total: the edge is counted at p where it was counted at c
  same_total : total (directed g c) rs ≡ total (directed g p) qs
  unfolding total weight
  same_total =
      let w : ℕ → ℕ → ℕ = λ t h. weight (directed g p) t h in
      let f : ℕ → ℕ = λ v. cond (eqb v p) 0 (weight (directed g p) (parent qs v) v) in
      let h : ℕ → ℕ = λ v. cond (eqb v c) 0 (f v) in
      let k : ℕ → ℕ = λ v. cond (eqb v c) 0 (weight (directed g c) (parent rs v) v) in
      let first = sum_change g.n h f c cb (λ v vb d. rw (ne_eqb v c d)) in
      let second = sum_change g.n k h p pb (λ v vb d. at v d (ℕ_discrete v c)) in
      let h_c : h c ≡ 0 = rw (eq-eqb c c refl) in
      let f_c : f c ≡ weight (directed g p) p c = rw (ne_eqb c p apart, child) in
      let h_p : h p ≡ 0 = rw (ne_eqb p c (λ z. apart (sym z)), eq-eqb p p refl) in
      let k_p : k p ≡ weight (directed g p) c p = rw (ne_eqb p c (λ z. apart (sym z)), at_p) in
      let both = (directed_both g valid p).weights p c pb cb in
      omega arith
    where
      at : (v : ℕ) → v ≢ p → Dec (v ≡ c)
          → cond (eqb v c) 0 (weight (directed g c) (parent rs v) v) ≡ cond (eqb v c) 0 (cond (eqb v p) 0 (weight (directed g p) (parent qs v) v))
      at v d (yes z) = rw (eq-eqb v c z)
      at v d (no z) = rw (ne_eqb v c z, ne_eqb v p d, elsewhere v d z)

  pub to_child : Rerooted g p c qs
  to_child = record { made = rs; arborescence = moved_tree; same = same_edges; cost = same_total }

-- TO ANY VERTEX
module _ (g : Graph) (valid : ValidGraph g) (r : ℕ) (rb : r < g.n) (ps : List ℕ) (a : is_arborescence (directed g r) ps ≡ true) where
  moved : (k r' : ℕ) → r' < g.n → reaches k r ps r' ≡ true → Rerooted g r r' ps
  unfolding reaches
  moved zero r' b e = subst (λ (x : ℕ). Rerooted g r x ps) (sym (eqb-true r' r e)) (record { made = ps; arborescence = a; same = λ i j _ _. refl; cost = refl })
  moved (suc k) r' b e = at (ℕ_discrete r' r) (λ q pb. moved k (parent ps r') pb q)
    where
      at : Dec (r' ≡ r) → (reaches k r ps (parent ps r') ≡ true → parent ps r' < g.n → Rerooted g r (parent ps r') ps) → Rerooted g r r' ps
      at (yes z) rec = subst (λ (x : ℕ). Rerooted g r x ps) (sym z) (record { made = ps; arborescence = a; same = λ i j _ _. refl; cost = refl })
      at (no z) rec = further (rec (rw (ne_eqb r' r z) at e) pb)
        where
          root : Rooted g.n r ps
          root = rooted (directed g r) ps rb a

          pb : parent ps r' < g.n
          pb = root.below r' b (ne_eqb r' r z)

          further : Rerooted g r (parent ps r') ps → Rerooted g r r' ps
          further m =
              let t = to_child g valid (parent ps r') pb m.made m.arborescence r' b apart (child m) in
              record {
                made = t.made;
                arborescence = t.arborescence;
                same = λ i j ib jb. t.same i j ib jb ∙ m.same i j ib jb;
                cost = t.cost ∙ m.cost;
              }
            where
              apart : r' ≢ parent ps r'
              apart q =
                  (edge_ends g (parent ps r') r' (allowed_edge g (parent ps r') r' (arc_allowed g valid.small r (parent ps r') r' (joined (directed g r) ps a r' b (ne_eqb r' r z)).arc))).differ (sym q)

              child : (m : Rerooted g r (parent ps r') ps) → parent m.made r' ≡ parent ps r'
              child m =
                  ⊎_elim (λ (q : parent m.made r' ≡ parent ps r'). q)
                  (λ (q : parent m.made (parent ps r') ≡ r').
                  let s = valid.small in
                  let o = root_parent (directed g (parent ps r')) m.made m.arborescence (parent ps r') pb (eq-eqb (parent ps r') (parent ps r') refl) in
                  absurd (omega arith))
                  (joins_cases m.made (parent ps r') r' (m.same (parent ps r') r' pb b ∙ joins_down ps (parent ps r') r' refl))

  pub rerooted : (r' : ℕ) → r' < g.n → Rerooted g r r' ps
  rerooted r' b = moved g.n r' b ((rooted (directed g r) ps rb a).reach r' b)

-- pins are kept, since the edges are the same
pub rerooted_spans : (g : Graph) (r r' : ℕ) (ps : List ℕ) → Spans (directed g r) (is_pinned g) ps → (m : Rerooted g r r' ps) → Spans (directed g r') (is_pinned g) m.made
rerooted_spans g r r' ps t m =
    record {
      arborescence = m.arborescence;
      keeps = λ i j e. let k = edge_ends g i j (pinned_edge g i j e) in m.same i j k.i_below k.j_below ∙ t.keeps i j e;
    }
