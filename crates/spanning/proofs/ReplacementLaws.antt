-- A cheapest spanning tree against any other. An edge that it lacks can come in for any edge without a pin on its path
-- between the two ends, and no tree that has this edge is cheaper than the dearest such exchange makes it; an edge of
-- it can go for any edge that reconnects its two sides, and no tree without it is cheaper than the cheapest such
-- exchange. For the bounds an edge of the other tree is exchanged for one of the cheapest tree; what comes out is no
-- cheaper than that. Assumes nothing.
use mathlib.Core.Path.{◌≡◌, refl, sym, ap, ◌∙◌, subst}
use mathlib.Core.Bool.{Bool, true, false}
use mathlib.Core.List.{List}
use mathlib.Core.Logic.{inl, inr, ⊎_elim, ◌≢◌}
use Prim.Native.Nat.{ℕ, ◌+◌, ◌≤◌, ◌<◌}
use native.Mathlib.Omega.{arith}
use native.Mathlib.Decide.{ℕ_discrete}
use borrow.Author.Tests.{ne_eqb}
use Rattle.base.proofs.BoolLaws.{not_both, is_false}
use Rattle.instance.specs.Limits.{max_vertices}
use Rattle.instance.specs.Instance.{Instance, weight}
use Rattle.instance.specs.Arborescence.{remaining, parent, reaches, is_arborescence, total}
use Rattle.instance.proofs.ArcLaws.{remaining_ends}
use Rattle.instance.proofs.ArborescenceLaws.{joined}
use Rattle.paths.specs.Paths.{Rooted, Descends, Avoids}
use Rattle.paths.proofs.PathLaws.{descends_here, descends_up, descends_on, descends_not, no_return}
use Rattle.paths.proofs.ExchangeLaws.{rooted}
use Rattle.spanning.specs.SpanningTrees.{joins}
use Rattle.spanning.specs.EdgeExchange.{BothWays, SameEdge, EdgeExchange}
use Rattle.spanning.specs.Crossing.{Separates, Crosses}
use Rattle.spanning.specs.Spans.{Spans, Cheapest, Linked, Replaced, LeastWith, LeastWithout}
use Rattle.spanning.proofs.JoinsLaws.{joins_cases, joins_down, joins_up, joins_turned}
use Rattle.spanning.proofs.ExchangeLaws.{edge_exchange}
use Rattle.spanning.proofs.CrossingLaws.{avoids_tested, descends_tested, under_apart, crosses}

-- an edge of a tree between what is below h and what is not is the edge from h to its parent
pub only_crossing : (ps : List ℕ) (h x y : ℕ) → Avoids ps h x → Descends ps h y → joins ps x y ≡ true → (y ≡ h) × (x ≡ parent ps h)
only_crossing ps h x y o d e =
    ⊎_elim (λ (c : parent ps y ≡ x). at c (ℕ_discrete y h)) (λ (c : parent ps x ≡ y). absurd (descends_not ps h x (descends_up ps h x (rw c d)) o)) (joins_cases ps x y e)
  where
    at : parent ps y ≡ x → Dec (y ≡ h) → (y ≡ h) × (x ≡ parent ps h)
    at c (yes z) = (z, sym c ∙ rw z refl)
    at c (no z) = absurd (descends_not ps h x (rw (← c) (descends_on ps h y z d)) o)

-- what has the ends of an edge with no pin has none
pub pin_same : (pin : ℕ → ℕ → Bool) → ((i j : ℕ) → pin i j ≡ true → pin j i ≡ true) → (i j a b : ℕ) → SameEdge i j a b → pin i j ≡ true → pin a b ≡ true
pin_same pin turn i j a b q e =
    ⊎_elim (λ (z : (i ≡ a) × (j ≡ b)). subst (λ (x : ℕ). pin x b ≡ true) z.0 (subst (λ (x : ℕ). pin i x ≡ true) z.1 e))
    (λ (z : (i ≡ b) × (j ≡ a)). turn b a (subst (λ (x : ℕ). pin x a ≡ true) z.0 (subst (λ (x : ℕ). pin i x ≡ true) z.1 e))) q

module _ (s : Instance) (small : s.n ≤ max_vertices) (root_below : s.root < s.n) (both : BothWays s)
    (pin : ℕ → ℕ → Bool) (turn : (i j : ℕ) → pin i j ≡ true → pin j i ≡ true) where
  root_of : (ps : List ℕ) → is_arborescence s ps ≡ true → Rooted s.n s.root ps
  root_of ps a = rooted s ps root_below a

  -- an exchange that takes out an edge without a pin
  pub still_spans : (ps : List ℕ) (u v h : ℕ) → Spans s pin ps → pin (parent ps h) h ≡ false → (e : EdgeExchange s ps u v h) → Spans s pin e.made
  still_spans ps u v h t free e =
      record {
        arborescence = e.arborescence;
        keeps =
            λ i j p.
            ⊎_elim (λ (c : joins e.made i j ≡ true). c)
            (λ (c : SameEdge i j (parent ps h) h). absurd (not_both (pin (parent ps h) h) (pin_same pin turn i j (parent ps h) h c p) free)) (e.still i j (t.keeps i j p));
      }

  -- EXCHANGES OF AN EDGE OF THE TREE
  module _ (ps : List ℕ) (t : Spans s pin ps) (v : ℕ) (vb : v < s.n) (apart : v ≢ s.root) (free : pin (parent ps v) v ≡ false) where
    replace_down : (i j : ℕ) → Linked s i j → Avoids ps v i → Descends ps v j → Replaced s pin ps v i j
    replace_down i j l o d =
        let k = root_of ps t.arborescence in
        let arc = l.down (ne_eqb j s.root (under_apart s.n s.root ps k small v j vb apart d)) in
        let e = edge_exchange s small root_below both v vb apart d.0 ps t.arborescence i j arc d.1 o in
        record { made = e.made; spans = still_spans ps i j v t free e; joined = joins_down e.made i j e.has; cost = e.cost; gone = e.gone }

    turn_linked : (i j : ℕ) → Linked s i j → Linked s j i
    turn_linked i j l = record { i_below = l.j_below; j_below = l.i_below; down = l.up; up = l.down }

    turn_same : (i j a b : ℕ) → SameEdge i j a b → SameEdge j i a b
    turn_same i j a b q = ⊎_elim (λ (z : (i ≡ a) × (j ≡ b)). inr (z.1, z.0)) (λ (z : (i ≡ b) × (j ≡ a)). inl (z.1, z.0)) q

    pub replaced : (i j : ℕ) → Linked s i j → Separates ps v i j → Replaced s pin ps v i j
    replaced i j l q =
        ⊎_elim
        (λ (z : Descends ps v i × Avoids ps v j).
        let r = replace_down j i (turn_linked i j l) z.1 z.0 in
        record {
          made = r.made;
          spans = r.spans;
          joined = joins_turned r.made j i r.joined;
          cost = let w = both.weights i j l.i_below l.j_below in let c = r.cost in omega arith;
          gone = λ n. r.gone (λ y. n (turn_same j i (parent ps v) v y));
        })
        (λ (z : Avoids ps v i × Descends ps v j). replace_down i j l z.0 z.1) q

  -- an edge of a tree can be both its arcs
  pub tree_linked : (ps : List ℕ) → is_arborescence s ps ≡ true → (v : ℕ) → v < s.n → v ≢ s.root → Linked s (parent ps v) v
  tree_linked ps a v vb e =
      let arc = (joined s ps a v vb (ne_eqb v s.root e)).arc in
      record {
        i_below = (remaining_ends s (parent ps v) v arc).tail_below;
        j_below = vb;
        down = λ _. arc;
        up = λ z. both.arcs (parent ps v) v arc z;
      }

  -- AGAINST ANOTHER TREE
  module _ (ps : List ℕ) (best : Cheapest s pin ps) (qs : List ℕ) (other : Spans s pin qs) where
    rp : Rooted s.n s.root ps
    rp = root_of ps best.spans.arborescence

    rq : Rooted s.n s.root qs
    rq = root_of qs other.arborescence

    -- an edge of the other tree, from h to its parent, that the cheapest lacks, out; an edge x y of the cheapest in
    module _ (h : ℕ) (hb : h < s.n) (ha : h ≢ s.root) (missing : joins ps (parent qs h) h ≡ false) where
      no_pin : pin (parent qs h) h ≡ false
      no_pin = is_false (pin (parent qs h) h) (λ p. not_both (joins ps (parent qs h) h) (best.spans.keeps (parent qs h) h p) missing)

      bound : (x y : ℕ) → Avoids qs h x → Descends qs h y → remaining s x y ≡ true → total s ps + weight s (parent qs h) h ≤ total s qs + weight s x y
      bound x y o d arc =
          let e = edge_exchange s small root_below both h hb ha d.0 qs other.arborescence x y arc d.1 o in
          let l = best.least e.made (still_spans qs x y h other no_pin e) in
          let c = e.cost in
          omega arith

      -- the edge that comes in has no pin: the other tree would have it
      free_edge : (x y : ℕ) → Avoids qs h x → Descends qs h y → joins ps x y ≡ true → pin x y ≡ false
      free_edge x y o d e =
          is_false (pin x y)
          (λ p.
          let z = only_crossing qs h x y o d (other.keeps x y p) in
          not_both (joins ps (parent qs h) h) (subst (λ (k : ℕ). joins ps (parent qs h) k ≡ true) z.0 (subst (λ (k : ℕ). joins ps k y ≡ true) z.1 e)) missing)

      abbrev below_h : ℕ → Bool
      below_h x = reaches s.n h qs x

      pub least_from : LeastWith s pin ps (parent qs h) h (total s qs)
      least_from =
          let pb = rq.below h hb (ne_eqb h s.root ha) in
          let off = is_false (below_h (parent qs h)) (λ r. no_return s.n s.root qs rq small h hb ha (s.n, r)) in
          at (crosses s.n s.root ps rp small below_h h (parent qs h) hb pb (descends_tested s.n s.root qs rq small h h hb hb (descends_here qs h h refl)) off)
        where
          at : Crosses s.n s.root ps below_h h (parent qs h) → LeastWith s pin ps (parent qs h) h (total s qs)
          at c =
              let k = tree_linked ps best.spans.arborescence c.v c.below c.apart in
              ⊎_elim
              (λ (z : Descends ps c.v h × Avoids ps c.v (parent qs h) × (below_h c.v ≡ true) × (below_h (parent ps c.v) ≡ false)).
              let o = avoids_tested s.n s.root qs rq small h (parent ps c.v) hb k.i_below z.3 in
              record {
                v = c.v;
                below = c.below;
                apart = c.apart;
                separates = inr (z.1, z.0);
                unpinned = free_edge (parent ps c.v) c.v o (s.n, z.2) (joins_down ps (parent ps c.v) c.v refl);
                cost = bound (parent ps c.v) c.v o (s.n, z.2) (k.down (ne_eqb c.v s.root c.apart));
              })
              (λ (z : Avoids ps c.v h × Descends ps c.v (parent qs h) × (below_h c.v ≡ false) × (below_h (parent ps c.v) ≡ true)).
              let o = avoids_tested s.n s.root qs rq small h c.v hb c.below z.2 in
              let off = ne_eqb (parent ps c.v) s.root (under_apart s.n s.root qs rq small h (parent ps c.v) hb ha (s.n, z.3)) in
              let w = both.weights (parent ps c.v) c.v k.i_below c.below in
              let b = bound c.v (parent ps c.v) o (s.n, z.3) (k.up off) in
              record {
                v = c.v;
                below = c.below;
                apart = c.apart;
                separates = inl (z.1, z.0);
                unpinned =
                    is_false (pin (parent ps c.v) c.v)
                    (λ p.
                    not_both (pin c.v (parent ps c.v)) (turn (parent ps c.v) c.v p)
                    (free_edge c.v (parent ps c.v) o (s.n, z.3) (joins_up ps c.v (parent ps c.v) refl)));
                cost = omega arith;
              })
              c.side

    -- an edge of the cheapest tree, from v to its parent, that the other lacks, in; an edge of the other out
    module _ (v : ℕ) (vb : v < s.n) (va : v ≢ s.root) (missing : joins qs (parent ps v) v ≡ false) where
      abbrev p : ℕ
      p = parent ps v

      own : Linked s p v
      own = tree_linked ps best.spans.arborescence v vb va

      free : pin p v ≡ false
      free = is_false (pin p v) (λ e. not_both (joins qs p v) (other.keeps p v e) missing)

      abbrev below_v : ℕ → Bool
      below_v x = reaches s.n v ps x

      not_same : (x y : ℕ) → joins qs x y ≡ true → SameEdge x y p v → ⊥
      not_same x y e q =
          ⊎_elim (λ (z : (x ≡ p) × (y ≡ v)). not_both (joins qs p v) (subst (λ (k : ℕ). joins qs p k ≡ true) z.1 (subst (λ (k : ℕ). joins qs k y ≡ true) z.0 e)) missing)
          (λ (z : (x ≡ v) × (y ≡ p)).
          not_both (joins qs p v) (joins_turned qs v p (subst (λ (k : ℕ). joins qs v k ≡ true) z.1 (subst (λ (k : ℕ). joins qs k y ≡ true) z.0 e))) missing) q

      -- the edge that goes has no pin: the cheapest tree would have it
      goes : (x y : ℕ) → Avoids ps v x → Descends ps v y → joins qs x y ≡ true → pin x y ≡ false
      goes x y o d e =
          is_false (pin x y)
          (λ q. let z = only_crossing ps v x y o d (best.spans.keeps x y q) in not_same x y e (inl (z.1, z.0)))

      pub least_without : LeastWithout s pin ps v (total s qs)
      least_without =
          let off = is_false (below_v p) (λ r. no_return s.n s.root ps rp small v vb va (s.n, r)) in
          at (crosses s.n s.root qs rq small below_v v p vb own.i_below (descends_tested s.n s.root ps rp small v v vb vb (descends_here ps v v refl)) off)
        where
          at : Crosses s.n s.root qs below_v v p → LeastWithout s pin ps v (total s qs)
          at c =
              let h = c.v in
              let hb = c.below in
              let k = tree_linked qs other.arborescence h hb c.apart in
              ⊎_elim
              (λ (z : Descends qs h v × Avoids qs h p × (below_v h ≡ true) × (below_v (parent qs h) ≡ false)).
              let o = avoids_tested s.n s.root ps rp small v (parent qs h) vb k.i_below z.3 in
              let e = edge_exchange s small root_below both h hb c.apart z.0.0 qs other.arborescence p v (own.down (ne_eqb v s.root va)) z.0.1 z.1 in
              let l = best.least e.made (still_spans qs p v h other (goes (parent qs h) h o (s.n, z.2) (joins_down qs (parent qs h) h refl)) e) in
              let w = e.cost in
              record {
                i = parent qs h;
                j = h;
                linked = k;
                separates = inr (o, (s.n, z.2));
                unpinned = free;
                other = not_same (parent qs h) h (joins_down qs (parent qs h) h refl);
                cost = omega arith;
              })
              (λ (z : Avoids qs h v × Descends qs h p × (below_v h ≡ false) × (below_v (parent qs h) ≡ true)).
              let o = avoids_tested s.n s.root ps rp small v h vb hb z.2 in
              let off = ne_eqb p s.root (under_apart s.n s.root qs rq small h p hb c.apart z.1) in
              let pf = is_false (pin (parent qs h) h) (λ q. not_both (pin h (parent qs h)) (turn (parent qs h) h q) (goes h (parent qs h) o (s.n, z.3) (joins_up qs h (parent qs h) refl))) in
              let e = edge_exchange s small root_below both h hb c.apart z.1.0 qs other.arborescence v p (own.up off) z.1.1 z.0 in
              let l = best.least e.made (still_spans qs v p h other pf e) in
              let w = e.cost in
              let x = both.weights p v own.i_below vb in
              let y = both.weights (parent qs h) h k.i_below hb in
              record {
                i = parent qs h;
                j = h;
                linked = k;
                separates = inl ((s.n, z.3), o);
                unpinned = free;
                other = not_same (parent qs h) h (joins_down qs (parent qs h) h refl);
                cost = omega arith;
              })
              c.side

    -- an edge that the other tree has and the cheapest lacks
    pub least_with : (i j : ℕ) → i < s.n → j < s.n → joins qs i j ≡ true → joins ps i j ≡ false → LeastWith s pin ps i j (total s qs)
    least_with i j ib jb e missing = ⊎_elim (λ (c : parent qs j ≡ i). down i j ib jb c missing) (λ (c : parent qs i ≡ j). up c) (joins_cases qs i j e)
      where
        child : (x y : ℕ) → x < s.n → y < s.n → parent qs y ≡ x → y ≢ s.root
        child x y xb yb c z = let r = rq.at_root in let q : parent qs y ≡ parent qs s.root = ap (λ (k : ℕ). parent qs k) z in omega arith

        down : (x y : ℕ) → x < s.n → y < s.n → parent qs y ≡ x → joins ps x y ≡ false → LeastWith s pin ps x y (total s qs)
        down x y xb yb c m =
            subst (λ (k : ℕ). LeastWith s pin ps k y (total s qs)) c
            (least_from y yb (child x y xb yb c) (subst (λ (k : ℕ). joins ps k y ≡ false) (sym c) m))

        up : parent qs i ≡ j → LeastWith s pin ps i j (total s qs)
        up c =
            let l = down j i jb ib c (is_false (joins ps j i) (λ q. not_both (joins ps i j) (joins_turned ps j i q) missing)) in
            let w = both.weights i j ib jb in
            record {
              v = l.v;
              below = l.below;
              apart = l.apart;
              separates = ⊎_elim (λ (z : Descends ps l.v j × Avoids ps l.v i). inr (z.1, z.0)) (λ (z : Avoids ps l.v j × Descends ps l.v i). inl (z.1, z.0)) l.separates;
              unpinned = l.unpinned;
              cost = let k = l.cost in omega arith;
            }
