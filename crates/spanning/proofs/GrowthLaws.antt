-- The tree grown by the nearest vertex each time is part of a cheapest spanning tree: whatever spanning tree there is,
-- the edge by which it leaves the tree so far, on the way up from the new vertex, can go for the new edge, which is no
-- dearer; it has no pin, since pinned edges come first. Where nothing leads on, there is no spanning tree. Assumes
-- nothing.
use mathlib.Core.Path.{◌≡◌, refl, sym, ap, ◌∙◌, subst}
use mathlib.Core.Bool.{Bool, true, false, ◌||◌, not}
use mathlib.Core.List.{List}
use mathlib.Core.Logic.{inl, ⊎_elim, ◌≢◌}
use Prim.Native.Nat.{ℕ, zero, suc, ◌≤◌, ◌<◌}
use native.Mathlib.Omega.{arith}
use native.Mathlib.Decide.{ℕ_discrete}
use lib.Dec.{eqb}
use lib.ListN.{length}
use lib.Seq.{ext_get_or}
use borrow.Author.Tests.{eqb-true, eqb-false, eq-eqb, ne_eqb, not-true, not-false}
use Rattle.base.proofs.BoolLaws.{test, not_both, is_false}
use Rattle.instance.specs.Limits.{no_parent}
use Rattle.instance.specs.Arborescence.{parent, reaches, is_arborescence, total}
use Rattle.instance.proofs.ArborescenceLaws.{parents_size, root_parent, joined, make_arborescence}
use Rattle.instance.proofs.ReachLaws.{enough}
use Rattle.paths.specs.Paths.{Rooted, Descends, Avoids}
use Rattle.paths.proofs.PathLaws.{descends_here, descends_up, none_avoids}
use Rattle.paths.proofs.ExchangeLaws.{rooted}
use Rattle.spanning.specs.Graph.{Graph, is_pinned, is_allowed}
use Rattle.spanning.specs.Refusal.{ValidGraph}
use Rattle.spanning.specs.SpanningTrees.{directed, joins}
use Rattle.spanning.specs.Crossing.{Leaves}
use Rattle.spanning.specs.Spans.{Spans, Cheapest}
use Rattle.spanning.specs.Keys.{no_key, edge_key}
use Rattle.spanning.specs.Growth.{Agrees, Grown, Nearest, AllNearest, Next}
use Rattle.spanning.proofs.JoinsLaws.{joins_cases}
use Rattle.spanning.proofs.GraphLaws.{edge_ends, allowed_edge, pinned_turned, allowed_weight, allowed_arc, arc_allowed, directed_both}
use Rattle.spanning.proofs.KeyLaws.{pinned_key, allowed_key, key_allowed, allowed_less}
use Rattle.spanning.proofs.ExchangeLaws.{edge_exchange}
use Rattle.spanning.proofs.CrossingLaws.{not_descends, leaves}
use Rattle.spanning.proofs.ReplacementLaws.{still_spans}

module _ (g : Graph) (valid : ValidGraph g) (S : ℕ → Bool) (ps : List ℕ) (tree : Grown g S ps) where
  -- ANOTHER TREE WITH THE SAME PARENTS
  module _ (rs : List ℕ) (t : Spans (directed g 0) (is_pinned g) rs) (same : (v : ℕ) → v < g.n → S v ≡ true → parent rs v ≡ parent ps v) where
    rr : Rooted g.n 0 rs
    rr = rooted (directed g 0) rs valid.some t.arborescence

    -- what is above a vertex of the tree so far is in it
    above_in : (k h x : ℕ) → h < g.n → x < g.n → S x ≡ true → reaches k h rs x ≡ true → S h ≡ true
    unfolding reaches
    above_in zero h x hb xb i r = subst (λ (y : ℕ). S y ≡ true) (eqb-true x h r) i
    above_in (suc k) h x hb xb i r = at (ℕ_discrete x h) (ℕ_discrete x 0) (λ y yb j q. above_in k h y hb yb j q)
      where
        at : Dec (x ≡ h) → Dec (x ≡ 0) → ((y : ℕ) → y < g.n → S y ≡ true → reaches k h rs y ≡ true → S h ≡ true) → S h ≡ true
        at (yes z) _ rec = subst (λ (y : ℕ). S y ≡ true) z i
        at (no z) (yes w) rec =
            let size = parents_size (directed g 0) rs t.arborescence in
            let small = valid.small in
            let e : parent rs x ≡ no_parent = same x xb i ∙ rw w tree.at_root in
            let f : reaches k h rs (parent rs x) ≡ true = rw (ne_eqb x h z) at r in
            absurd (not_both (reaches k h rs no_parent) (rw e at f) (none_avoids rs h (omega arith) (omega arith) k))
        at (no z) (no w) rec =
            let c = tree.closed x xb i w in
            let e = same x xb i in
            let b = (edge_ends g (parent ps x) x (allowed_edge g (parent ps x) x c.1)).i_below in
            let f : reaches k h rs (parent rs x) ≡ true = rw (ne_eqb x h z) at r in
            rec (parent ps x) b c.0 (rw e at f)

    outside_in : (h x : ℕ) → h < g.n → x < g.n → S h ≡ false → S x ≡ true → Avoids rs h x
    outside_in h x hb xb o i = not_descends g.n 0 rs rr valid.small h x hb xb (λ d. not_both (S h) (above_in d.0 h x hb xb i d.1) o)

    -- the edge by which it leaves the tree so far, on the way up from v
    pub way_out : (v : ℕ) → v < g.n → S v ≡ false → Leaves g.n 0 rs (λ x. not (S x)) 0 v
    way_out v vb o =
        leaves g.n 0 rs rr valid.small (λ x. not (S x)) 0 valid.some (ap not tree.root_in) g.n v vb (rr.reach v vb) (ap not o)

    pub out_allowed : (v : ℕ) → v < g.n → v ≢ 0 → is_allowed g (parent rs v) v ≡ true
    out_allowed v vb va = arc_allowed g valid.small 0 (parent rs v) v (joined (directed g 0) rs t.arborescence v vb (ne_eqb v 0 va)).arc

  -- WHAT THE NEXT VERTEX IS NEAREST TO
  module _ (near : AllNearest g S ps) (v : ℕ) (next : Next g S ps v) where
    abbrev u : ℕ
    u = parent ps v

    nearest : Nearest g S ps v
    nearest = near v next.below next.out

    -- no edge out of the tree so far has a smaller key
    crossing_least : (x y : ℕ) → x < g.n → y < g.n → S x ≡ true → S y ≡ false → edge_key g u v ≤ edge_key g x y
    crossing_least x y xb yb i o =
        let a = next.least y yb o in
        let b = (near y yb o).least x xb i in
        omega arith

    apart : u ≢ v
    apart z = not_both (S v) (subst (λ (x : ℕ). S x ≡ true) z nearest.tail_in) next.out

    v_apart : v ≢ 0
    v_apart z = not_both (S v) (subst (λ (x : ℕ). S x ≡ true) (sym z) tree.root_in) next.out

    -- NOTHING LEADS ON
    pub none_spans : edge_key g u v ≡ no_key → (qs : List ℕ) → Spans (directed g 0) (is_pinned g) qs → ⊥
    none_spans z qs t =
        let a = tree.agrees qs t in
        let l = way_out a.made a.spans a.same v next.below next.out in
        let h = l.h in
        let al = out_allowed a.made a.spans a.same h l.below l.apart in
        let k = edge_ends g (parent a.made h) h (allowed_edge g (parent a.made h) h al) in
        let c = crossing_least (parent a.made h) h k.i_below l.below (not-false (S (parent a.made h)) l.outside) (not-true (S h) l.inside) in
        let m = allowed_less g valid (parent a.made h) h k.i_below l.below k.differ al in
        omega arith

    -- THE NEW EDGE
    module _ (good : edge_key g u v < no_key) where
      pub new_allowed : is_allowed g u v ≡ true
      new_allowed = key_allowed g valid u v nearest.tail_below next.below apart good

      -- a spanning tree with the parents so far has the new edge, or can have it
      module _ (rs : List ℕ) (t : Spans (directed g 0) (is_pinned g) rs) (same : (x : ℕ) → x < g.n → S x ≡ true → parent rs x ≡ parent ps x) where
        record Better : Type 0 where
          made : List ℕ
          spans : Spans (directed g 0) (is_pinned g) made
          cost : total (directed g 0) made ≤ total (directed g 0) rs
          before : (x : ℕ) → x < g.n → S x ≡ true → parent made x ≡ parent ps x
          has : parent made v ≡ u

        -- pinned: it has the edge, and the edge leads to v
        has_pinned : is_pinned g u v ≡ true → Better
        has_pinned e =
            record {
              made = rs;
              spans = t;
              cost = omega arith;
              before = same;
              has = ⊎_elim (λ (c : parent rs v ≡ u). c) (λ (c : parent rs u ≡ v). absurd (at c (ℕ_discrete u 0))) (joins_cases rs u v (t.keeps u v e));
            }
          where
            at : parent rs u ≡ v → Dec (u ≡ 0) → ⊥
            at c (yes z) =
                let b = next.below in
                let small = valid.small in
                let q : parent rs u ≡ no_parent = same u nearest.tail_below nearest.tail_in ∙ ap (λ (x : ℕ). parent ps x) z ∙ tree.at_root in
                omega arith
            at c (no z) =
                let i = (tree.closed u nearest.tail_below nearest.tail_in z).0 in
                not_both (S v) (subst (λ (x : ℕ). S x ≡ true) (sym (same u nearest.tail_below nearest.tail_in) ∙ c) i) next.out

        exchanged : is_pinned g u v ≡ false → Better
        exchanged free =
            let l = way_out rs t same v next.below next.out in
            let h = l.h in
            let p = parent rs h in
            let al = out_allowed rs t same h l.below l.apart in
            let k = edge_ends g p h (allowed_edge g p h al) in
            let o = not-true (S h) l.inside in
            let c = crossing_least p h k.i_below l.below (not-false (S p) l.outside) o in
            let mine = allowed_key g valid u v nearest.tail_below next.below apart new_allowed free in
            let no_pin = is_false (is_pinned g p h) (λ q. let z = pinned_key g p h q in omega arith) in
            let his = allowed_key g valid p h k.i_below l.below k.differ al no_pin in
            let e = edge_exchange (directed g 0) valid.small valid.some (directed_both g valid 0) h l.below l.apart l.under.0 rs t.arborescence u v
            (allowed_arc g valid.small 0 u v new_allowed v_apart) l.under.1 (outside_in rs t same h u l.below nearest.tail_below o nearest.tail_in) in
            let w = allowed_weight g valid.small 0 u v new_allowed in
            let x = allowed_weight g valid.small 0 p h al in
            let cost = e.cost in
            record {
              made = e.made;
              spans = still_spans (directed g 0) valid.small valid.some (directed_both g valid 0) (is_pinned g) (pinned_turned g valid) rs u v h t no_pin e;
              cost = omega arith;
              before = λ y yb i. e.outside y (outside_in rs t same h y l.below yb o i) ∙ same y yb i;
              has = e.has;
            }

        better : Better
        better = ⊎_elim (λ (e : is_pinned g u v ≡ true). has_pinned e) (λ (e : is_pinned g u v ≡ false). exchanged e) (test (is_pinned g u v))

      -- ONE VERTEX MORE, and parents that may differ outside
      module _ (S' : ℕ → Bool) (qs : List ℕ) (new : S' v ≡ true) (old : (x : ℕ) → x ≢ v → S' x ≡ S x)
          (same_in_tree : (x : ℕ) → x < g.n → S' x ≡ true → parent qs x ≡ parent ps x) where
        still_in : (x : ℕ) → S x ≡ true → S' x ≡ true
        still_in x i = old x (λ z. not_both (S v) (subst (λ (y : ℕ). S y ≡ true) z i) next.out) ∙ i

        was_in : (x : ℕ) → S' x ≡ true → x ≢ v → S x ≡ true
        was_in x i z = sym (old x z) ∙ i

        -- a path inside the tree so far is the same in both lists
        reach_same : (k x : ℕ) → x < g.n → S x ≡ true → reaches k 0 ps x ≡ true → reaches k 0 qs x ≡ true
        unfolding reaches
        reach_same zero x xb i r = r
        reach_same (suc k) x xb i r = at (ℕ_discrete x 0) (λ y yb j q. reach_same k y yb j q)
          where
            at : Dec (x ≡ 0) → ((y : ℕ) → y < g.n → S y ≡ true → reaches k 0 ps y ≡ true → reaches k 0 qs y ≡ true) → (eqb x 0 || reaches k 0 qs (parent qs x)) ≡ true
            at (yes z) rec = rw (eq-eqb x 0 z)
            at (no z) rec =
                let c = tree.closed x xb i z in
                let b = (edge_ends g (parent ps x) x (allowed_edge g (parent ps x) x c.1)).i_below in
                rw (ne_eqb x 0 z, same_in_tree x xb (still_in x i)) (rec (parent ps x) b c.0 (rw (ne_eqb x 0 z) at r))

        reach_old : (x : ℕ) → x < g.n → S x ≡ true → Descends qs 0 x
        reach_old x xb i = let d = tree.reach x xb i in (d.0, reach_same d.0 x xb i d.1)

        pub grown_more : Grown g S' qs
        grown_more =
            record {
              root_in = still_in 0 tree.root_in;
              at_root = same_in_tree 0 valid.some (still_in 0 tree.root_in) ∙ tree.at_root;
              closed = λ x xb i d. rw (same_in_tree x xb i) (closed_at x xb i d (ℕ_discrete x v));
              reach = λ x xb i. reach_at x xb i (ℕ_discrete x v);
              agrees =
                  λ rs t.
                  let a = tree.agrees rs t in
                  let b = better a.made a.spans a.same in
                  agree rs a b;
            }
          where
            closed_at : (x : ℕ) → x < g.n → S' x ≡ true → x ≢ 0 → Dec (x ≡ v) → (S' (parent ps x) ≡ true) × (is_allowed g (parent ps x) x ≡ true)
            closed_at x xb i d (yes z) = rw z (still_in u nearest.tail_in, new_allowed)
            closed_at x xb i d (no z) = let c = tree.closed x xb (was_in x i z) d in (still_in (parent ps x) c.0, c.1)

            reach_at : (x : ℕ) → x < g.n → S' x ≡ true → Dec (x ≡ v) → Descends qs 0 x
            reach_at x xb i (yes z) = descends_up qs 0 x (rw (same_in_tree x xb i, z) (reach_old u nearest.tail_below nearest.tail_in))
            reach_at x xb i (no z) = reach_old x xb (was_in x i z)

            agree : (rs : List ℕ) (a : Agrees g S ps rs) → Better a.made a.spans a.same → Agrees g S' qs rs
            agree rs a b =
                record {
                  made = b.made;
                  spans = b.spans;
                  cost = let c = a.cost in let d = b.cost in omega arith;
                  same = λ x xb i. parents_at x xb i (ℕ_discrete x v) ∙ sym (same_in_tree x xb i);
                }
              where
                parents_at : (x : ℕ) → x < g.n → S' x ≡ true → Dec (x ≡ v) → parent b.made x ≡ parent ps x
                parents_at x xb i (yes z) = rw z b.has
                parents_at x xb i (no z) = b.before x xb (was_in x i z)

-- THE BEGINNING: vertex 0 alone
pub grown_first : (g : Graph) (S : ℕ → Bool) (ps : List ℕ) → S 0 ≡ true → ((v : ℕ) → v ≢ 0 → S v ≡ false) → parent ps 0 ≡ no_parent → 0 < g.n → Grown g S ps
grown_first g S ps i o z some =
    record {
      root_in = i;
      at_root = z;
      closed = λ v vb e d. absurd (not_both (S v) e (o v d));
      reach = λ v vb e. only v e (ℕ_discrete v 0);
      agrees =
          λ qs t.
          record {
            made = qs;
            spans = t;
            cost = omega arith;
            same =
                λ v vb e.
                at qs t v e (ℕ_discrete v 0);
          };
    }
  where
    only : (v : ℕ) → S v ≡ true → Dec (v ≡ 0) → Descends ps 0 v
    only v e (yes q) = descends_here ps 0 v q
    only v e (no q) = absurd (not_both (S v) e (o v q))

    at : (qs : List ℕ) → Spans (directed g 0) (is_pinned g) qs → (v : ℕ) → S v ≡ true → Dec (v ≡ 0) → parent qs v ≡ parent ps v
    at qs t v e (yes q) = rw q (root_parent (directed g 0) qs t.arborescence 0 some (eq-eqb 0 0 refl) ∙ sym z)
    at qs t v e (no q) = absurd (not_both (S v) e (o v q))

-- THE END: every vertex is in
module _ (g : Graph) (valid : ValidGraph g) (S : ℕ → Bool) (ps : List ℕ) (size : length ps ≡ g.n) (tree : Grown g S ps) (all : (v : ℕ) → v < g.n → S v ≡ true) where
  arcs : (v : ℕ) → v < g.n → v ≢ 0 → is_allowed g (parent ps v) v ≡ true
  arcs v vb d = (tree.closed v vb (all v vb) d).1

  pub grown_tree : is_arborescence (directed g 0) ps ≡ true
  grown_tree =
      make_arborescence (directed g 0) ps size (λ v vb e. rw (eqb-true v 0 e) tree.at_root)
      (λ v vb e.
      record {
        arc = allowed_arc g valid.small 0 (parent ps v) v (arcs v vb (eqb-false v 0 e)) (eqb-false v 0 e);
        reach =
            let d = tree.reach v vb (all v vb) in
            enough g.n 0 ps valid.some
            (λ u m f. inl (edge_ends g (parent ps u) u (allowed_edge g (parent ps u) u (arcs u m (eqb-false u 0 f)))).i_below) d.0 v vb d.1;
      })

  -- a spanning tree that agrees everywhere is this one
  is_it : (qs : List ℕ) → (a : Agrees g S ps qs) → a.made ≡ ps
  is_it qs a =
      let m = parents_size (directed g 0) a.made a.spans.arborescence in
      ext_get_or no_parent a.made ps (m ∙ sym size) (λ v l. let b : v < g.n = omega arith in a.same v b (all v b))

  pub grown_cheapest : ((i j : ℕ) → is_pinned g i j ≡ true → joins ps i j ≡ true) → Cheapest (directed g 0) (is_pinned g) ps
  grown_cheapest keeps =
      record {
        spans = record { arborescence = grown_tree; keeps = keeps };
        least = λ qs t. let a = tree.agrees qs t in subst (λ (l : List ℕ). total (directed g 0) l ≤ total (directed g 0) qs) (is_it qs a) a.cost;
      }

  -- where it misses a pin there is no spanning tree: any would be this one
  pub grown_none : (((i j : ℕ) → is_pinned g i j ≡ true → joins ps i j ≡ true) → ⊥) → (qs : List ℕ) → Spans (directed g 0) (is_pinned g) qs → ⊥
  grown_none n qs t =
      let a = tree.agrees qs t in
      n (λ i j e. subst (λ (l : List ℕ). joins l i j ≡ true) (is_it qs a) (a.spans.keeps i j e))
