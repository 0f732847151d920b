-- The states of a graph's edges, from a cheapest spanning tree: an edge of the tree is never excluded, and is mandatory
-- where to replace it goes beyond the limit; another is optional where some edge on the tree's path between its ends
-- can go for it within the limit, of which the dearest decides, and excluded otherwise. Assumes nothing.
use mathlib.Core.Path.{◌≡◌, refl, sym, ◌∙◌, subst}
use mathlib.Core.Bool.{Bool, true, false, ◌&&◌, not, cond}
use mathlib.Core.List.{List}
use mathlib.Core.Logic.{◌⊎◌, inl, inr, ⊎_elim, ◌≢◌}
use Prim.Native.Nat.{ℕ, max, ◌+◌, ◌≤◌, ◌<◌}
use native.Mathlib.Omega.{arith}
use lib.Dec.{leb, eqb}
use borrow.Author.Tests.{leb-true, leb-false, le-leb, eqb-true, eqb-false, eq-eqb, ne_eqb}
use Rattle.base.specs.Lists.{select, any_of, all_of}
use Rattle.base.proofs.BoolLaws.{not_both, is_true, is_false, same_test, and_left, and_right, and_both}
use Rattle.instance.specs.Arborescence.{parent, is_arborescence, total}
use Rattle.instance.specs.Candidates.{candidates}
use Rattle.instance.specs.States.{limit_at}
use Rattle.theory.proofs.CandidateLaws.{any_selected, all_selected}
use Rattle.spanning.specs.Graph.{Graph, is_edge, is_pinned, is_allowed}
use Rattle.spanning.specs.Refusal.{ValidGraph}
use Rattle.spanning.specs.SpanningTrees.{directed, joins, is_spanning, least_spanning}
use Rattle.spanning.specs.EdgeStates.{spanning_within, edge_state_over, edge_state}
use Rattle.spanning.specs.ReplacementCosts.{no_replacement, replacement_cost}
use Rattle.spanning.specs.Spans.{Spans, Cheapest, CheapestWithout}
use Rattle.spanning.specs.Keys.{edge_key, GreatestBetween}
use Rattle.spanning.proofs.JoinsLaws.{joins_alike}
use Rattle.spanning.proofs.GraphLaws.{edge_ends, edge_turned, allowed_edge, pinned_turned, allowed_weight, directed_both, allowed_linked, joined_allowed}
use Rattle.spanning.proofs.KeyLaws.{pinned_key, allowed_key}
use Rattle.spanning.proofs.ReplacementLaws.{replaced, least_with}
use Rattle.spanning.proofs.SpansLaws.{listed_spans, spans_listed, spanning_arborescence}
use Rattle.spanning.proofs.CostLaws.{cheapest_least, cost_reads, tree_allowed}

-- THE STATE BY TREES WITHIN THE LIMIT
module _ (g : Graph) (r b i j : ℕ) where
  abbrev limit : ℕ
  limit = limit_at b (least_spanning g r)

  abbrev within : List ℕ → Bool
  within qs = is_spanning g r qs && leb (total (directed g r) qs) limit

  pub record Within (qs : List ℕ) : Type 0 where
    pub spans : Spans (directed g r) (is_pinned g) qs
    pub most : total (directed g r) qs ≤ limit_at b (least_spanning g r)

  sound : (qs : List ℕ) → within qs ≡ true → is_arborescence (directed g r) qs ≡ true
  sound qs e = spanning_arborescence g r qs (and_left (is_spanning g r qs) (leb (total (directed g r) qs) limit) e)

  within_of : (qs : List ℕ) → within qs ≡ true → Within qs
  within_of qs e =
      record {
        spans = listed_spans g r qs (and_left (is_spanning g r qs) (leb (total (directed g r) qs) limit) e);
        most = leb-true (total (directed g r) qs) limit (and_right (is_spanning g r qs) (leb (total (directed g r) qs) limit) e);
      }

  of_within : (qs : List ℕ) → Within qs → within qs ≡ true
  of_within qs w =
      and_both (is_spanning g r qs) (leb (total (directed g r) qs) limit) (spans_listed g r qs w.spans) (le-leb (total (directed g r) qs) limit w.most)

  abbrev used : List ℕ → Bool
  used qs = joins qs i j

  pub some_use : (qs : List ℕ) → Within qs → joins qs i j ≡ true → any_of used (spanning_within g r b) ≡ true
  unfolding spanning_within
  some_use qs w e = (any_selected (directed g r) within sound used).1 (qs, of_within qs w, e)

  -- a tree that uses it, where some does
  pub use_found : any_of (λ qs. joins qs i j) (spanning_within g r b) ≡ true → (qs : List ℕ) × Within qs × (joins qs i j ≡ true)
  unfolding spanning_within
  use_found e = let x = (any_selected (directed g r) within sound used).0 e in (x.0, within_of x.0 x.1, x.2)

  -- all use it
  pub use_all : all_of (λ qs. joins qs i j) (spanning_within g r b) ≡ true → (qs : List ℕ) → Within qs → joins qs i j ≡ true
  unfolding spanning_within
  use_all e qs w = (all_selected (directed g r) within sound used).0 e qs (of_within qs w)

  none_use : ((qs : List ℕ) → Within qs → joins qs i j ≡ false) → any_of used (spanning_within g r b) ≡ false
  unfolding spanning_within
  none_use h =
      is_false (any_of used (select within (candidates (directed g r))))
      (λ e. let x = (any_selected (directed g r) within sound used).0 e in not_both (joins x.0 i j) x.2 (h x.0 (within_of x.0 x.1)))

  pub all_use : ((qs : List ℕ) → Within qs → joins qs i j ≡ true) → all_of used (spanning_within g r b) ≡ true
  unfolding spanning_within
  all_use h = (all_selected (directed g r) within sound used).1 (λ qs e. h qs (within_of qs e))

  one_lacks : (qs : List ℕ) → Within qs → joins qs i j ≡ false → all_of used (spanning_within g r b) ≡ false
  unfolding spanning_within
  one_lacks qs w e =
      is_false (all_of used (select within (candidates (directed g r))))
      (λ a. not_both (joins qs i j) ((all_selected (directed g r) within sound used).0 a qs (of_within qs w)) e)

  pub state_absent : is_edge g i j ≡ false → edge_state g r b i j ≡ 0
  unfolding edge_state edge_state_over
  state_absent e = rw e

  pub state_excluded : is_edge g i j ≡ true → ((qs : List ℕ) → Within qs → joins qs i j ≡ false) → edge_state g r b i j ≡ 1
  unfolding edge_state edge_state_over
  state_excluded e h = rw (e, none_use h)

  pub state_optional : is_edge g i j ≡ true → (ps : List ℕ) → Within ps → joins ps i j ≡ true → (qs : List ℕ) → Within qs → joins qs i j ≡ false → edge_state g r b i j ≡ 2
  unfolding edge_state edge_state_over
  state_optional e ps w u qs x n = rw (e, some_use ps w u, one_lacks qs x n)

  pub state_mandatory : is_edge g i j ≡ true → (ps : List ℕ) → Within ps → ((qs : List ℕ) → Within qs → joins qs i j ≡ true) → edge_state g r b i j ≡ 3
  unfolding edge_state edge_state_over
  state_mandatory e ps w h = rw (e, some_use ps w (h ps w), all_use h)

-- no spanning tree: every edge is excluded
pub state_no_tree : (g : Graph) (r b i j : ℕ) → ((qs : List ℕ) → Spans (directed g r) (is_pinned g) qs → ⊥) → edge_state g r b i j ≡ cond (is_edge g i j) 1 0
state_no_tree g r b i j no_one = at (is_edge g i j) refl
  where
    at : (e : Bool) → is_edge g i j ≡ e → edge_state g r b i j ≡ cond e 1 0
    at true e = state_excluded g r b i j e (λ qs w. absurd (no_one qs w.spans))
    at false e = state_absent g r b i j e

-- FROM A CHEAPEST TREE
module _ (g : Graph) (valid : ValidGraph g) (r : ℕ) (rb : r < g.n) (ps : List ℕ) (best : Cheapest (directed g r) (is_pinned g) ps) (b : ℕ) where
  abbrev own : ℕ
  own = total (directed g r) ps

  limit_is : limit_at b (least_spanning g r) ≡ max b own
  unfolding limit_at
  limit_is = rw (cheapest_least g r ps best)

  make_within : (i j : ℕ) (qs : List ℕ) → Spans (directed g r) (is_pinned g) qs → total (directed g r) qs ≤ max b own → Within g r b i j qs
  make_within i j qs t l = record { spans = t; most = rw limit_is l }

  itself : (i j : ℕ) → Within g r b i j ps
  itself i j = make_within i j ps best.spans (omega arith)

  -- an edge that is not in the tree
  module _ (i j : ℕ) (ib : i < g.n) (jb : j < g.n) (d : i ≢ j) (lacks : joins ps i j ≡ false) (c : ℕ) (found : GreatestBetween g r ps i j c) where
    no_pin : is_pinned g i j ≡ false
    no_pin = is_false (is_pinned g i j) (λ e. not_both (joins ps i j) (best.spans.keeps i j e) lacks)

    -- by way of one edge on the path
    usable : is_allowed g i j ≡ true → c ≢ 0 → own + edge_key g i j ≤ max b own + c → (qs : List ℕ) × Within g r b i j qs × (joins qs i j ≡ true)
    usable a z l =
        let f = found.attained z in
        let v = f.0 in
        let p = parent ps v in
        let t = tree_allowed g valid r rb ps best v f.1 f.2 in
        let e = edge_ends g p v (allowed_edge g p v t) in
        let free = is_false (is_pinned g p v) (λ q. z (sym f.4 ∙ pinned_key g p v q)) in
        let key = allowed_key g valid p v e.i_below e.j_below e.differ t free in
        let mine = allowed_key g valid i j ib jb d a no_pin in
        let same = f.4 in
        let x = replaced (directed g r) valid.small rb (directed_both g valid r) (is_pinned g) (pinned_turned g valid) ps best.spans v f.1 f.2 free i j (allowed_linked g valid r i j a) f.3 in
        let w = allowed_weight g valid.small r i j a in
        let u = allowed_weight g valid.small r p v t in
        let cost = x.cost in
        let m : total (directed g r) x.made ≤ max b own = omega arith in
        (x.made, make_within i j x.made x.spans m, x.joined)

    -- and no other way is cheaper
    beyond : is_allowed g i j ≡ true → (c ≡ 0) ⊎ (max b own + c < own + edge_key g i j) → (qs : List ℕ) → Within g r b i j qs → joins qs i j ≡ false
    beyond a far qs w =
        is_false (joins qs i j)
        (λ e.
        let x = least_with (directed g r) valid.small rb (directed_both g valid r) (is_pinned g) (pinned_turned g valid) ps best qs w.spans i j ib jb e lacks in
        let v = x.v in
        let p = parent ps v in
        let t = tree_allowed g valid r rb ps best v x.below x.apart in
        let k = edge_ends g p v (allowed_edge g p v t) in
        let key = allowed_key g valid p v k.i_below k.j_below k.differ t x.unpinned in
        let mine = allowed_key g valid i j ib jb d a no_pin in
        let most = found.greatest v x.below x.apart x.separates in
        let u = allowed_weight g valid.small r p v t in
        let s = allowed_weight g valid.small r i j a in
        let cost = x.cost in
        let m : total (directed g r) qs ≤ max b own = subst (λ (y : ℕ). total (directed g r) qs ≤ y) limit_is w.most in
        ⊎_elim (λ (z : c ≡ 0). omega arith) (λ (z : max b own + c < own + edge_key g i j). omega arith) far)

    -- a banned edge is in no spanning tree
    not_allowed : is_allowed g i j ≡ false → (qs : List ℕ) → Within g r b i j qs → joins qs i j ≡ false
    not_allowed a qs w =
        is_false (joins qs i j)
        (λ e. not_both (is_allowed g i j) (joined_allowed g valid r rb qs w.spans.arborescence i j ib jb e) a)

    pub state_outside : edge_state g r b i j ≡ cond (is_edge g i j) (cond (is_allowed g i j && (not (eqb c 0) && leb (own + edge_key g i j) (max b own + c))) 2 1) 0
    state_outside = at (is_edge g i j) refl
      where
        decided : is_edge g i j ≡ true → (x y z : Bool) → is_allowed g i j ≡ x → eqb c 0 ≡ y → leb (own + edge_key g i j) (max b own + c) ≡ z
            → edge_state g r b i j ≡ cond (x && (not y && z)) 2 1
        decided e false y z p q s = state_excluded g r b i j e (not_allowed p)
        decided e true true z p q s = state_excluded g r b i j e (beyond p (inl (eqb-true c 0 q)))
        decided e true false false p q s = state_excluded g r b i j e (beyond p (inr (leb-false (own + edge_key g i j) (max b own + c) s)))
        decided e true false true p q s =
            let u = usable p (eqb-false c 0 q) (leb-true (own + edge_key g i j) (max b own + c) s) in
            state_optional g r b i j e u.0 u.1 u.2 ps (itself i j) lacks

        at : (e : Bool) → is_edge g i j ≡ e → edge_state g r b i j ≡ cond e (cond (is_allowed g i j && (not (eqb c 0) && leb (own + edge_key g i j) (max b own + c))) 2 1) 0
        at true e = decided e (is_allowed g i j) (eqb c 0) (leb (own + edge_key g i j) (max b own + c)) refl refl refl
        at false e = state_absent g r b i j e

  -- an edge of the tree, by its replacement cost
  module _ (i j : ℕ) (edge : is_edge g i j ≡ true) (has : joins ps i j ≡ true) where
    abbrev cost : ℕ
    cost = replacement_cost g r i j

    pub state_inside : edge_state g r b i j ≡ cond (eqb cost no_replacement) 3 (cond (leb (own + cost) (max b own)) 2 3)
    state_inside =
        ⊎_elim (λ (x : (cost ≡ no_replacement) × ((qs : List ℕ) → Spans (directed g r) (is_pinned g) qs → joins qs i j ≡ true)).
        rw (eq-eqb cost no_replacement x.0) (state_mandatory g r b i j edge ps (itself i j) (λ qs w. x.1 qs w.spans)))
        (λ (x : (cost < no_replacement) × CheapestWithout (directed g r) (is_pinned g) ps i j cost).
        rw (ne_eqb cost no_replacement (λ z. let l = x.0 in omega arith)) (at x.1 (leb (own + cost) (max b own)) refl))
        (cost_reads g valid r rb ps best i j)
      where
        at : CheapestWithout (directed g r) (is_pinned g) ps i j cost → (t : Bool) → leb (own + cost) (max b own) ≡ t → edge_state g r b i j ≡ cond t 2 3
        at x true e =
            let l = leb-true (own + cost) (max b own) e in
            let m = x.cost in
            let n : total (directed g r) x.made ≤ max b own = omega arith in
            state_optional g r b i j edge ps (itself i j) has x.made (make_within i j x.made x.spans n) x.lacks
        at x false e =
            let l = leb-false (own + cost) (max b own) e in
            let m = x.cost in
            state_mandatory g r b i j edge ps (itself i j)
            (λ qs w.
            is_true (joins qs i j)
            (λ n.
            let f = x.least qs w.spans n in
            let h : total (directed g r) qs ≤ max b own = subst (λ (y : ℕ). total (directed g r) qs ≤ y) limit_is w.most in
            omega arith))

-- BOTH WAYS ALIKE
pub state_alike : (g : Graph) → ValidGraph g → (r b i j : ℕ) → edge_state g r b i j ≡ edge_state g r b j i
unfolding edge_state edge_state_over
state_alike g valid r b i j =
    let e = same_test (is_edge g i j) (is_edge g j i) (edge_turned g valid i j) (edge_turned g valid j i) in
    λ k. cond (e k) (cond (any_of (λ ps. joins_alike ps i j k) (spanning_within g r b)) (cond (all_of (λ ps. joins_alike ps i j k) (spanning_within g r b)) 3 2) 1) 0
