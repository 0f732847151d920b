-- Exchanging one edge of a spanning tree for another. Let v be a descendant of h and u none. Then the edge from h to
-- its parent can go and the one between u and v come: v takes u for its parent, v's old parent takes v, and so on up to
-- h, so that the path from v to h is turned round. Each step exchanges one arc, and each list on the way is an
-- arborescence, since the vertex that has just been given its new parent has left h's subtree. Assumes nothing.
use mathlib.Core.Path.{◌≡◌, refl, sym, ap, ◌∙◌, subst}
use mathlib.Core.Bool.{true, false}
use mathlib.Core.List.{List}
use mathlib.Core.Logic.{◌⊎◌, inl, inr, ⊎_elim, ◌≢◌}
use Prim.Native.Nat.{ℕ, zero, suc, ◌≤◌, ◌<◌}
use native.Mathlib.Omega.{arith}
use native.Mathlib.Decide.{ℕ_discrete}
use lib.ListN.{set}
use borrow.Author.Tests.{eqb-true, eqb-false, ne_eqb}
use Rattle.instance.specs.Limits.{max_vertices}
use Rattle.instance.specs.Instance.{Instance, weight}
use Rattle.instance.specs.Arborescence.{remaining, parent, reaches, is_arborescence}
use Rattle.instance.proofs.ArcLaws.{remaining_ends}
use Rattle.instance.proofs.ArborescenceLaws.{joined}
use Rattle.paths.specs.Paths.{Rooted, Descends, Avoids}
use Rattle.paths.proofs.PathLaws.{descends_here, descends_up, avoids_up, avoids_above, descends_on, descends_not, avoids_same, parent_other, path_same, no_return, root_avoids}
use Rattle.paths.proofs.ExchangeLaws.{rooted, exchange, exchange_uses, exchange_total}
use Rattle.spanning.specs.SpanningTrees.{joins}
use Rattle.spanning.specs.EdgeExchange.{BothWays, SameEdge, EdgeExchange}
use Rattle.spanning.proofs.JoinsLaws.{joins_cases, joins_down, joins_up, joins_not, joins_turned}

module _ (s : Instance) (small : s.n ≤ max_vertices) (root_below : s.root < s.n) (both : BothWays s) (h : ℕ) (inside : h < s.n) (apart : h ≢ s.root) where
  -- THE CHANGED VERTEX IS h ITSELF
  module _ (ps : List ℕ) (a : is_arborescence s ps ≡ true) (u : ℕ) (r : remaining s u h ≡ true) (out : Avoids ps h u) where
    abbrev qs : List ℕ
    qs = set ps h u

    uses_new : parent qs h ≡ u
    uses_new = exchange_uses s ps root_below a u h r out

    came : (i j : ℕ) → parent qs j ≡ i → (parent ps j ≡ i) ⊎ ((i ≡ u) × (j ≡ h))
    came i j e = at (ℕ_discrete j h)
      where
        at : Dec (j ≡ h) → (parent ps j ≡ i) ⊎ ((i ≡ u) × (j ≡ h))
        at (yes z) = inr (sym e ∙ rw z uses_new, z)
        at (no z) = inl (sym (parent_other ps h u j z) ∙ e)

    went : (i j : ℕ) → parent ps j ≡ i → (parent qs j ≡ i) ⊎ ((i ≡ parent ps h) × (j ≡ h))
    went i j e = at (ℕ_discrete j h)
      where
        at : Dec (j ≡ h) → (parent qs j ≡ i) ⊎ ((i ≡ parent ps h) × (j ≡ h))
        at (yes z) = inr (sym e ∙ rw z refl, z)
        at (no z) = inl (parent_other ps h u j z ∙ e)

    back : parent ps (parent ps h) ≡ h → ⊥
    back e = no_return s.n s.root ps (rooted s ps root_below a) small h inside apart (descends_up ps h (parent ps h) (descends_here ps h (parent ps (parent ps h)) e))

    own : parent ps h ≡ h → ⊥
    own e = no_return s.n s.root ps (rooted s ps root_below a) small h inside apart (descends_here ps h (parent ps h) e)

    pub exchange_here : EdgeExchange s ps u h h
    exchange_here =
        record {
          made = qs;
          arborescence = exchange s ps root_below a u h r out;
          has = uses_new;
          outside = λ x o. parent_other ps h u x (λ z. descends_not ps h x (descends_here ps h x z) o);
          cost = exchange_total s ps root_below a u h r out;
          only =
              λ i j e.
              ⊎_elim
              (λ (c : parent qs j ≡ i). ⊎_elim (λ (d : parent ps j ≡ i). inl (joins_down ps i j d)) (λ (d : (i ≡ u) × (j ≡ h)). inr (inl d)) (came i j c))
              (λ (c : parent qs i ≡ j). ⊎_elim (λ (d : parent ps i ≡ j). inl (joins_up ps i j d)) (λ (d : (j ≡ u) × (i ≡ h)). inr (inr (d.1, d.0))) (came j i c))
              (joins_cases qs i j e);
          still =
              λ i j e.
              ⊎_elim
              (λ (c : parent ps j ≡ i). ⊎_elim (λ (d : parent qs j ≡ i). inl (joins_down qs i j d)) (λ (d : (i ≡ parent ps h) × (j ≡ h)). inr (inl d)) (went i j c))
              (λ (c : parent ps i ≡ j). ⊎_elim (λ (d : parent qs i ≡ j). inl (joins_up qs i j d)) (λ (d : (j ≡ parent ps h) × (i ≡ h)). inr (inr (d.1, d.0))) (went j i c))
              (joins_cases ps i j e);
          gone =
              λ n.
              joins_not qs (parent ps h) h (λ e. n (inl (sym uses_new ∙ e, refl)))
              (λ e. ⊎_elim (λ (d : parent ps (parent ps h) ≡ h). back d) (λ (d : (h ≡ u) × (parent ps h ≡ h)). own d.1) (came h (parent ps h) e));
        }

  -- ONE STEP FURTHER DOWN: v's parent changed first, and then the same for its old parent
  module _ (ps : List ℕ) (a : is_arborescence s ps ≡ true) (u v : ℕ) (r : remaining s u v ≡ true) (under : Descends ps h v) (out : Avoids ps h u) (other : v ≢ h) where
    abbrev first : List ℕ
    first = set ps v u

    abbrev p : ℕ
    p = parent ps v

    root : Rooted s.n s.root ps
    root = rooted s ps root_below a

    v_below : v < s.n
    v_below = (remaining_ends s u v r).head_below

    v_not : v ≢ s.root
    v_not = eqb-false v s.root (remaining_ends s u v r).not_root

    clear : Avoids ps v u
    clear = avoids_above ps h v u out under

    p_clear : Avoids ps v p
    p_clear k = at (reaches k v ps p) refl
      where
        at : (b : _) → reaches k v ps p ≡ b → b ≡ false
        at true e = absurd (no_return s.n s.root ps root small v v_below v_not (k, e))
        at false e = refl

    p_under : Descends ps h p
    p_under = descends_on ps h v other under

    pub step_made : is_arborescence s first ≡ true
    step_made = exchange s ps root_below a u v r clear

    pub step_reach : (k : ℕ) → reaches (suc k) h ps v ≡ true → reaches k h first p ≡ true
    unfolding reaches
    step_reach k d = path_same ps v u k h p p_clear ∙ (rw (ne_eqb v h other) at d)

    pub step_out : Avoids first h v
    step_out = avoids_up first h v other (rw (exchange_uses s ps root_below a u v r clear) (avoids_same ps v u h u clear out))

    p_not_root : p ≢ s.root
    p_not_root z = descends_not ps h s.root (rw (sym z) p_under) (root_avoids s.n s.root ps root small h inside apart)

    own_arc : remaining s p v ≡ true
    own_arc = (joined s ps a v v_below (ne_eqb v s.root v_not)).arc

    pub step_arc : remaining s v p ≡ true
    step_arc = both.arcs p v own_arc (ne_eqb p s.root p_not_root)

    same_at_h : parent first h ≡ parent ps h
    same_at_h = parent_other ps v u h (λ z. other (sym z))

    module _ (e : EdgeExchange s first v p h) where
      only_first : (i j : ℕ) → joins first i j ≡ true → (joins ps i j ≡ true) ⊎ SameEdge i j u v
      only_first i j c = exchange_here_only
        where
          down : (x y : ℕ) → parent first y ≡ x → (parent ps y ≡ x) ⊎ ((x ≡ u) × (y ≡ v))
          down x y d = at (ℕ_discrete y v)
            where
              at : Dec (y ≡ v) → (parent ps y ≡ x) ⊎ ((x ≡ u) × (y ≡ v))
              at (yes z) = inr (sym d ∙ rw z (exchange_uses s ps root_below a u v r clear), z)
              at (no z) = inl (sym (parent_other ps v u y z) ∙ d)

          exchange_here_only : (joins ps i j ≡ true) ⊎ SameEdge i j u v
          exchange_here_only =
              ⊎_elim
              (λ (d : parent first j ≡ i). ⊎_elim (λ (f : parent ps j ≡ i). inl (joins_down ps i j f)) (λ (f : (i ≡ u) × (j ≡ v)). inr (inl f)) (down i j d))
              (λ (d : parent first i ≡ j). ⊎_elim (λ (f : parent ps i ≡ j). inl (joins_up ps i j f)) (λ (f : (j ≡ u) × (i ≡ v)). inr (inr (f.1, f.0))) (down j i d))
              (joins_cases first i j c)

      -- the edge between v and its old parent is turned round
      turned : (i j : ℕ) → SameEdge i j v p → joins ps i j ≡ true
      turned i j q =
          ⊎_elim (λ (d : (i ≡ v) × (j ≡ p)). joins_up ps i j (rw (d.0, d.1) refl)) (λ (d : (i ≡ p) × (j ≡ v)). joins_down ps i j (rw (d.0, d.1) refl)) q

      edge_stays : (x y : ℕ) → parent ps y ≡ x → (joins e.made x y ≡ true) ⊎ SameEdge x y (parent ps h) h
      edge_stays x y d = at (ℕ_discrete y v)
        where
          at : Dec (y ≡ v) → (joins e.made x y ≡ true) ⊎ SameEdge x y (parent ps h) h
          at (yes z) = inl (joins_up e.made x y (rw (← d, z) e.has))
          at (no z) = rw (← same_at_h) (e.still x y (joins_down first x y (parent_other ps v u y z ∙ d)))

      turn : (x y : ℕ) → (joins e.made y x ≡ true) ⊎ SameEdge y x (parent ps h) h → (joins e.made x y ≡ true) ⊎ SameEdge x y (parent ps h) h
      turn x y q =
          ⊎_elim (λ (d : joins e.made y x ≡ true). inl (joins_turned e.made y x d))
          (λ (d : SameEdge y x (parent ps h) h). inr (⊎_elim (λ (f : (y ≡ parent ps h) × (x ≡ h)). inr (f.1, f.0)) (λ (f : (y ≡ h) × (x ≡ parent ps h)). inl (f.1, f.0)) d)) q

      not_back : SameEdge v p (parent first h) h → ⊥
      not_back q =
          ⊎_elim
          (λ (d : (v ≡ parent first h) × (p ≡ h)).
          no_return s.n s.root ps root small h inside apart (rw (← same_at_h, ← d.0) (descends_up ps h v (descends_here ps h p d.1))))
          (λ (d : (v ≡ h) × (p ≡ parent first h)). other d.0) q

      pub exchange_step : EdgeExchange s ps u v h
      exchange_step =
          record {
            made = e.made;
            arborescence = e.arborescence;
            has = e.outside v step_out ∙ exchange_uses s ps root_below a u v r clear;
            outside =
                λ x o.
                e.outside x (avoids_same ps v u h x (avoids_above ps h v x o under) o)
                ∙ parent_other ps v u x (λ z. descends_not ps h x (rw z under) o);
            cost =
                let f = exchange_total s ps root_below a u v r clear in
                let k = e.cost in
                let w = both.weights p v (remaining_ends s p v own_arc).tail_below v_below in
                let q = ap (λ (x : ℕ). weight s x h) same_at_h in
                omega arith;
            only =
                λ i j c.
                ⊎_elim (λ (d : joins first i j ≡ true). only_first i j d) (λ (d : SameEdge i j v p). inl (turned i j d)) (e.only i j c);
            still =
                λ i j c.
                ⊎_elim (λ (d : parent ps j ≡ i). edge_stays i j d) (λ (d : parent ps i ≡ j). turn i j (edge_stays j i d)) (joins_cases ps i j c);
            gone = λ n. rw same_at_h at (e.gone not_back);
          }

  -- THE EXCHANGE
  pub edge_exchange : (k : ℕ) (ps : List ℕ) → is_arborescence s ps ≡ true → (u v : ℕ) → remaining s u v ≡ true → reaches k h ps v ≡ true → Avoids ps h u
      → EdgeExchange s ps u v h
  unfolding reaches
  edge_exchange zero ps a u v r d out =
      let z = eqb-true v h d in subst (λ (x : ℕ). EdgeExchange s ps u x h) (sym z) (exchange_here ps a u (rw z at r) out)
  edge_exchange (suc k) ps a u v r d out =
      at (ℕ_discrete v h)
      (λ z.
      edge_exchange k (set ps v u) (step_made ps a u v r (suc k, d) out z) v (parent ps v) (step_arc ps a u v r (suc k, d) out z)
      (step_reach ps a u v r (suc k, d) out z k d) (step_out ps a u v r (suc k, d) out z))
    where
      at : Dec (v ≡ h) → (v ≢ h → EdgeExchange s (set ps v u) v (parent ps v) h) → EdgeExchange s ps u v h
      at (yes z) f = subst (λ (x : ℕ). EdgeExchange s ps u x h) (sym z) (exchange_here ps a u (rw z at r) out)
      at (no z) f = exchange_step ps a u v r (suc k, d) out z (f z)
