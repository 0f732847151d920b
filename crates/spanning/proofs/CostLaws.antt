-- The replacement costs of a cheapest spanning tree's edges are what the search finds: by the key of the edge and the
-- least key of an edge that reconnects its two sides. Assumes nothing.
use mathlib.Core.Path.{◌≡◌, refl, sym, ap, ◌∙◌, subst}
use mathlib.Core.Bool.{Bool, true, false, ◌&&◌, not, cond}
use mathlib.Core.List.{List, [], ◌∷◌}
use mathlib.Core.Logic.{◌⊎◌, inl, inr, ⊎_elim, ◌≢◌}
use mathlib.Core.Option.{Option, none, some}
use Prim.Native.Nat.{ℕ, ◌+◌, ◌-◌, ◌*◌, ◌/◌, ◌%◌, ◌≤◌, ◌<◌}
use native.Mathlib.Omega.{arith}
use native.Mathlib.Decide.{ℕ_discrete}
use lib.Dec.{leb, eqb}
use lib.ListN.{get_or}
use borrow.Author.Tests.{leb-true, eqb-true, eq-eqb, ne_eqb, not-true}
use Rattle.base.specs.Lists.{select}
use Rattle.base.proofs.BoolLaws.{test, not_both, is_true, is_false, and_left, and_right, and_both}
use Rattle.base.proofs.ListLaws.{get_d_tabulate}
use Rattle.instance.specs.Instance.{weight}
use Rattle.instance.specs.Arborescence.{parent, is_arborescence, total}
use Rattle.instance.specs.Candidates.{candidates, least_total}
use Rattle.theory.proofs.CandidateLaws.{any_selected, all_selected}
use Rattle.theory.proofs.OutcomeLaws.{LeastOf, least_of}
use Rattle.paths.specs.Paths.{Descends, Avoids}
use Rattle.paths.proofs.PathLaws.{descends_not}
use Rattle.spanning.specs.Graph.{Graph, edge_weight, is_pinned, is_allowed}
use Rattle.spanning.specs.Refusal.{ValidGraph}
use Rattle.spanning.specs.SpanningTrees.{directed, joins, is_spanning, spanning_trees, least_spanning}
use Rattle.spanning.specs.ReplacementCosts.{no_replacement, not_in_tree, spanning_without, increase, replacement_cost, costs_shown}
use Rattle.spanning.specs.EdgeExchange.{SameEdge}
use Rattle.spanning.specs.Spans.{Spans, Cheapest, Linked, LeastWithout, CheapestWithout}
use Rattle.spanning.specs.Keys.{no_key, edge_key, LeastCrossing, cost_by}
use Rattle.spanning.proofs.JoinsLaws.{joins_alike}
use Rattle.spanning.proofs.GraphLaws.{EdgeEnds, edge_ends, allowed_edge, pinned_turned, allowed_turned, allowed_weight, arc_allowed, directed_total_most, directed_both, allowed_linked}
use Rattle.spanning.proofs.KeyLaws.{pinned_key, key_zero, allowed_key, allowed_less}
use Rattle.spanning.proofs.ReplacementLaws.{only_crossing, replaced, tree_linked, least_without}
use Rattle.spanning.proofs.SpansLaws.{listed_spans, spans_listed, spanning_arborescence, some_there, least_none, least_some}

-- no spanning tree
pub none_least : (g : Graph) (r : ℕ) → ((qs : List ℕ) → Spans (directed g r) (is_pinned g) qs → ⊥) → least_spanning g r ≡ none
unfolding least_spanning spanning_trees
none_least g r no_one =
    least_none (directed g r) (is_spanning g r) (spanning_arborescence g r) (λ qs. is_false (is_spanning g r qs) (λ e. no_one qs (listed_spans g r qs e)))

-- THE COST FROM THE TREES WITHOUT THE EDGE
module _ (g : Graph) (r : ℕ) (ps : List ℕ) (best : Cheapest (directed g r) (is_pinned g) ps) where
  pub cheapest_least : least_spanning g r ≡ some (total (directed g r) ps)
  unfolding least_spanning spanning_trees
  cheapest_least =
      least_some (directed g r) (is_spanning g r) (spanning_arborescence g r) ps (spans_listed g r ps best.spans) (λ qs a. best.least qs (listed_spans g r qs a))

  module _ (i j : ℕ) where
    abbrev without : List ℕ → Bool
    without qs = is_spanning g r qs && not (joins qs i j)

    sound : (qs : List ℕ) → without qs ≡ true → is_arborescence (directed g r) qs ≡ true
    sound qs e = spanning_arborescence g r qs (and_left (is_spanning g r qs) (not (joins qs i j)) e)

    spans_of : (qs : List ℕ) → without qs ≡ true → Spans (directed g r) (is_pinned g) qs
    spans_of qs e = listed_spans g r qs (and_left (is_spanning g r qs) (not (joins qs i j)) e)

    lacks_of : (qs : List ℕ) → without qs ≡ true → joins qs i j ≡ false
    lacks_of qs e = not-true (joins qs i j) (and_right (is_spanning g r qs) (not (joins qs i j)) e)

    pub cost_none : ((qs : List ℕ) → Spans (directed g r) (is_pinned g) qs → joins qs i j ≡ true) → replacement_cost g r i j ≡ no_replacement
    unfolding replacement_cost spanning_without increase
    cost_none all =
        rw (
          cheapest_least,
          least_none (directed g r) without sound (λ qs. is_false (without qs) (λ e. not_both (joins qs i j) (all qs (spans_of qs e)) (lacks_of qs e))),
        )

    pub cost_some : (rs : List ℕ) → Spans (directed g r) (is_pinned g) rs → joins rs i j ≡ false
        → ((qs : List ℕ) → Spans (directed g r) (is_pinned g) qs → joins qs i j ≡ false → total (directed g r) rs ≤ total (directed g r) qs)
        → replacement_cost g r i j ≡ total (directed g r) rs - total (directed g r) ps
    unfolding replacement_cost spanning_without increase
    cost_some rs t lacks least =
        rw (
          cheapest_least,
          least_some (directed g r) without sound rs (and_both (is_spanning g r rs) (not (joins rs i j)) (spans_listed g r rs t) (ap not lacks))
              (λ qs e. least qs (spans_of qs e) (lacks_of qs e)),
        )

-- THE COST IN WORDS: "the cheapest price increase of a tree without it", or "4,294,967,295 if there is none"
module _ (g : Graph) (valid : ValidGraph g) (r : ℕ) (rb : r < g.n) (ps : List ℕ) (best : Cheapest (directed g r) (is_pinned g) ps) (i j : ℕ) where
  abbrev AllJoin : Type 0
  AllJoin = (qs : List ℕ) → Spans (directed g r) (is_pinned g) qs → joins qs i j ≡ true

  pub cost_reads : ((replacement_cost g r i j ≡ no_replacement) × ((qs : List ℕ) → Spans (directed g r) (is_pinned g) qs → joins qs i j ≡ true))
      ⊎ ((replacement_cost g r i j < no_replacement) × CheapestWithout (directed g r) (is_pinned g) ps i j (replacement_cost g r i j))
  unfolding replacement_cost spanning_without increase LeastOf
  cost_reads =
      rw (cheapest_least g r ps best)
      (at (least_total (directed g r) (select (without g r ps best i j) (candidates (directed g r)))) (least_of (directed g r) (select (without g r ps best i j) (candidates (directed g r)))))
    where
      own : ℕ
      own = total (directed g r) ps

      at : (o : Option ℕ) → LeastOf (directed g r) (select (without g r ps best i j) (candidates (directed g r))) o
          → ((increase (some (total (directed g r) ps)) o ≡ no_replacement) × AllJoin)
          ⊎ ((increase (some (total (directed g r) ps)) o < no_replacement) × CheapestWithout (directed g r) (is_pinned g) ps i j (increase (some (total (directed g r) ps)) o))
      at none e =
          inl (
            refl,
            (λ qs t.
                is_true (joins qs i j)
                (λ n.
                some_there (select (without g r ps best i j) (candidates (directed g r))) e
                ((any_selected (directed g r) (without g r ps best i j) (sound g r ps best i j) (λ _. true)).1
                (qs, and_both (is_spanning g r qs) (not (joins qs i j)) (spans_listed g r qs t) (ap not n), refl)))),
          )
      at (some w) e =
          let x = (any_selected (directed g r) (without g r ps best i j) (sound g r ps best i j) (λ qs. eqb (total (directed g r) qs) w)).0 e.0 in
          let q = eqb-true (total (directed g r) x.0) w x.2 in
          let t = spans_of g r ps best i j x.0 x.1 in
          let l = best.least x.0 t in
          let m = directed_total_most g valid r rb x.0 in
          inr (
            omega arith,
            record {
              made = x.0;
              spans = t;
              lacks = lacks_of g r ps best i j x.0 x.1;
              cost = omega arith;
              least =
                  λ qs u n.
                  let f = leb-true w (total (directed g r) qs)
                  ((all_selected (directed g r) (without g r ps best i j) (sound g r ps best i j) (λ y. leb w (total (directed g r) y))).0 e.1 qs
                  (and_both (is_spanning g r qs) (not (joins qs i j)) (spans_listed g r qs u) (ap not n))) in
                  omega arith;
            },
          )

-- AN EDGE OF THE TREE
module _ (g : Graph) (valid : ValidGraph g) (r : ℕ) (rb : r < g.n) (ps : List ℕ) (best : Cheapest (directed g r) (is_pinned g) ps) where
  pub linked_allowed : (i j : ℕ) → i ≢ j → Linked (directed g r) i j → is_allowed g i j ≡ true
  linked_allowed i j d l =
      ⊎_elim
      (λ (e : eqb j r ≡ true).
      allowed_turned g valid j i (arc_allowed g valid.small r j i (l.up (ne_eqb i r (λ z. d (z ∙ sym (eqb-true j r e)))))))
      (λ (e : eqb j r ≡ false). arc_allowed g valid.small r i j (l.down e)) (test (eqb j r))

  module _ (v : ℕ) (vb : v < g.n) (va : v ≢ r) where
    abbrev p : ℕ
    p = parent ps v

    pub tree_allowed : is_allowed g p v ≡ true
    tree_allowed =
        let l = tree_linked (directed g r) valid.small rb (directed_both g valid r) (is_pinned g) (pinned_turned g valid) ps best.spans.arborescence v vb va in
        arc_allowed g valid.small r p v (l.down (ne_eqb v r va))

    ends_of : EdgeEnds g p v
    ends_of = edge_ends g p v (allowed_edge g p v tree_allowed)

    -- what reconnects the sides and is not the edge itself has no pin
    crossing_free : (i j : ℕ) → Avoids ps v i → Descends ps v j → (SameEdge i j p v → ⊥) → is_pinned g i j ≡ false
    crossing_free i j o d n =
        is_false (is_pinned g i j) (λ e. let z = only_crossing ps v i j o d (best.spans.keeps i j e) in n (inl (z.1, z.0)))

    -- a crossing edge with its ends in order
    record Crossing (c : ℕ) : Type 0 where
      i : ℕ
      j : ℕ
      allowed : is_allowed g i j ≡ true
      out : Avoids ps v i
      under : Descends ps v j
      other : SameEdge i j p v → ⊥
      cost : total (directed g r) ps + edge_weight g i j ≤ c + edge_weight g p v

    apart_of : (i j : ℕ) → Avoids ps v i → Descends ps v j → i ≢ j
    apart_of i j o d z = descends_not ps v j d (subst (λ (x : ℕ). Avoids ps v x) z o)

    in_order : (c : ℕ) → LeastWithout (directed g r) (is_pinned g) ps v c → Crossing c
    in_order c l =
        let own = allowed_weight g valid.small r p v tree_allowed in
        let k = l.cost in
        ⊎_elim
        (λ (z : Descends ps v l.i × Avoids ps v l.j).
        let a = linked_allowed l.i l.j (λ q. apart_of l.j l.i z.1 z.0 (sym q)) l.linked in
        let w = allowed_weight g valid.small r l.i l.j a in
        let t = allowed_turned g valid l.i l.j a in
        let x = allowed_weight g valid.small r l.j l.i t in
        let y = (directed_both g valid r).weights l.i l.j l.linked.i_below l.linked.j_below in
        record {
          i = l.j;
          j = l.i;
          allowed = t;
          out = z.1;
          under = z.0;
          other = λ q. l.other (⊎_elim (λ (m : (l.j ≡ p) × (l.i ≡ v)). inr (m.1, m.0)) (λ (m : (l.j ≡ v) × (l.i ≡ p)). inl (m.1, m.0)) q);
          cost = omega arith;
        })
        (λ (z : Avoids ps v l.i × Descends ps v l.j).
        let a = linked_allowed l.i l.j (apart_of l.i l.j z.0 z.1) l.linked in
        let w = allowed_weight g valid.small r l.i l.j a in
        record { i = l.i; j = l.j; allowed = a; out = z.0; under = z.1; other = l.other; cost = omega arith }) l.separates

    against : (qs : List ℕ) → Spans (directed g r) (is_pinned g) qs → joins qs p v ≡ false → Crossing (total (directed g r) qs)
    against qs t lacks =
        in_order (total (directed g r) qs)
        (least_without (directed g r) valid.small rb (directed_both g valid r) (is_pinned g) (pinned_turned g valid) ps best qs t v vb va lacks)

    module _ (c : ℕ) (found : LeastCrossing g ps v c) (free : is_pinned g p v ≡ false) where
      -- the key of a crossing edge is its weight and 1
      key_of : (i j : ℕ) → is_allowed g i j ≡ true → Avoids ps v i → Descends ps v j → (SameEdge i j p v → ⊥) → edge_key g i j ≡ edge_weight g i j + 1
      key_of i j a o d n =
          let k = edge_ends g i j (allowed_edge g i j a) in
          allowed_key g valid i j k.i_below k.j_below k.differ a (crossing_free i j o d n)

      bridge : c ≡ no_key → (qs : List ℕ) → Spans (directed g r) (is_pinned g) qs → joins qs p v ≡ true
      bridge z qs t =
          is_true (joins qs p v)
          (λ lacks.
          let x = against qs t lacks in
          let k = edge_ends g x.i x.j (allowed_edge g x.i x.j x.allowed) in
          let l = found.least x.i x.j x.allowed x.out x.under x.other in
          let m = allowed_less g valid x.i x.j k.i_below k.j_below k.differ x.allowed in
          omega arith)

      replaceable : c < no_key → replacement_cost g r p v ≡ c - edge_key g p v
      replaceable l =
          let a = found.attained l in
          let i = a.0 in
          let j = a.1 in
          let al = a.2 in
          let z = replaced (directed g r) valid.small rb (directed_both g valid r) (is_pinned g) (pinned_turned g valid) ps best.spans v vb va free i j (allowed_linked g valid r i j al) (inr (a.3, a.4)) in
          let w = allowed_weight g valid.small r i j al in
          let own = allowed_weight g valid.small r p v tree_allowed in
          let key = key_of i j al a.3 a.4 a.5 in
          let ends = ends_of in
          let mine = allowed_key g valid p v ends.i_below ends.j_below ends.differ tree_allowed free in
          let same = a.6 in
          let cost = z.cost in
          let q : total (directed g r) z.made - total (directed g r) ps ≡ c - edge_key g p v = omega arith in
          cost_some g r ps best p v z.made z.spans (z.gone a.5)
          (λ qs t lacks.
          let x = against qs t lacks in
          let f = found.least x.i x.j x.allowed x.out x.under x.other in
          let h = key_of x.i x.j x.allowed x.out x.under x.other in
          let y = x.cost in
          omega arith)
          ∙ q

    pub replacement_is : (c : ℕ) → LeastCrossing g ps v c → replacement_cost g r p v ≡ cost_by (edge_key g p v) c
    unfolding cost_by
    replacement_is c found = at (test (is_pinned g p v)) (ℕ_discrete c no_key)
      where
        at : (is_pinned g p v ≡ true) ⊎ (is_pinned g p v ≡ false) → Dec (c ≡ no_key)
            → replacement_cost g r p v ≡ cond (eqb (edge_key g p v) 0) no_replacement (cond (eqb c no_key) no_replacement (c - edge_key g p v))
        at (inl e) _ = rw (eq-eqb (edge_key g p v) 0 (pinned_key g p v e)) (cost_none g r ps best p v (λ qs t. t.keeps p v e))
        at (inr e) d =
            let ends = ends_of in
            let off = ne_eqb (edge_key g p v) 0 (λ z. not_both (is_pinned g p v) (key_zero g valid p v ends.i_below ends.j_below ends.differ z) e) in
            rw off (free e d)
          where
            free : is_pinned g p v ≡ false → Dec (c ≡ no_key) → replacement_cost g r p v ≡ cond (eqb c no_key) no_replacement (c - edge_key g p v)
            free e (yes z) = rw (eq-eqb c no_key z) (cost_none g r ps best p v (bridge c found e z))
            free e (no z) = let m = found.most in rw (ne_eqb c no_key z) (replaceable c found e (omega arith))

-- BOTH WAYS ALIKE
select_alike : (p q : List ℕ → Bool) → ((ps : List ℕ) → p ps ≡ q ps) → (pss : List (List ℕ)) → select p pss ≡ select q pss
unfolding select
select_alike p q h [] = refl
select_alike p q h (ps ∷ pss) = rw (h ps, select_alike p q h pss)

pub cost_alike : (g : Graph) (r i j : ℕ) → replacement_cost g r i j ≡ replacement_cost g r j i
unfolding replacement_cost spanning_without
cost_alike g r i j =
    ap (λ (pss : List (List ℕ)). increase (least_spanning g r) (least_total (directed g r) pss))
    (select_alike (λ ps. is_spanning g r ps && not (joins ps i j)) (λ ps. is_spanning g r ps && not (joins ps j i)) (λ ps. rw (joins_alike ps i j)) (candidates (directed g r)))

-- THE RUN ALONE: two trees that have the edge show the same number for it
shown_there : (g : Graph) (r : ℕ) (ps : List ℕ) (k : ℕ) → k < g.n * g.n → joins ps (k / g.n) (k % g.n) ≡ true → get_or (costs_shown g r ps) k 0 ≡ replacement_cost g r (k / g.n) (k % g.n)
unfolding costs_shown
shown_there g r ps k l e =
    get_d_tabulate (g.n * g.n) (λ q. cond (joins ps (q / g.n) (q % g.n)) (replacement_cost g r (q / g.n) (q % g.n)) not_in_tree) k 0 l ∙ rw e

pub cost_any : (g : Graph) (r : ℕ) (ps qs : List ℕ) (k : ℕ) → k < g.n * g.n → joins ps (k / g.n) (k % g.n) ≡ true → joins qs (k / g.n) (k % g.n) ≡ true
    → get_or (costs_shown g r ps) k 0 ≡ get_or (costs_shown g r qs) k 0
cost_any g r ps qs k l e f = shown_there g r ps k l e ∙ sym (shown_there g r qs k l f)
