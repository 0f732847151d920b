-- The listed spanning trees are those that keep the pins, and their least total is read off one that none is below.
-- Assumes nothing.
use mathlib.Core.Path.{◌≡◌, refl, sym, ap, subst}
use mathlib.Core.Bool.{Bool, true, false, cond, true≢false}
use mathlib.Core.List.{List, []}
use mathlib.Core.Option.{Option, none, some}
use Prim.Native.Nat.{ℕ, ◌+◌, ◌*◌, ◌/◌, ◌%◌, ◌≤◌}
use native.Mathlib.Nat.{le_antisymm}
use lib.Arith.{digits_lt}
use lib.Dec.{leb, eqb}
use borrow.Author.Tests.{leb-true, eqb-true}
use Rattle.base.specs.Lists.{select, any_of}
use Rattle.base.proofs.BoolLaws.{not_both, and_left, and_right, and_both}
use Rattle.base.proofs.BoundedLaws.{all_at, all_intro}
use Rattle.base.proofs.GridLaws.{grid_at_row, grid_at_column}
use Rattle.instance.specs.Instance.{Instance}
use Rattle.instance.specs.Arborescence.{is_arborescence, total}
use Rattle.instance.specs.Candidates.{candidates, least_total}
use Rattle.theory.proofs.CandidateLaws.{any_selected, all_selected}
use Rattle.theory.proofs.OutcomeLaws.{LeastOf, least_of}
use Rattle.spanning.specs.Graph.{Graph, is_pinned}
use Rattle.spanning.specs.SpanningTrees.{directed, joins, keeps_pins, is_spanning}
use Rattle.spanning.specs.Spans.{Spans}
use Rattle.spanning.proofs.GraphLaws.{pinned_edge, edge_ends}

-- WHAT IS LISTED
module _ (g : Graph) (r : ℕ) (ps : List ℕ) where
  pub pins_kept : keeps_pins g ps ≡ true → (i j : ℕ) → is_pinned g i j ≡ true → joins ps i j ≡ true
  unfolding keeps_pins
  pins_kept e i j p =
      let k = edge_ends g i j (pinned_edge g i j p) in
      let c = all_at (g.n * g.n) (λ q. cond (is_pinned g (q / g.n) (q % g.n)) (joins ps (q / g.n) (q % g.n)) true) (i * g.n + j) (digits_lt k.i_below k.j_below) e in
      rw (grid_at_row g.n i j k.j_below, grid_at_column g.n i j k.j_below, p) at c

  pub keep_pins : ((i j : ℕ) → is_pinned g i j ≡ true → joins ps i j ≡ true) → keeps_pins g ps ≡ true
  unfolding keeps_pins
  keep_pins h =
      all_intro (g.n * g.n) (λ q. cond (is_pinned g (q / g.n) (q % g.n)) (joins ps (q / g.n) (q % g.n)) true)
      (λ q _. at (q / g.n) (q % g.n) (is_pinned g (q / g.n) (q % g.n)) refl)
    where
      at : (i j : ℕ) (b : Bool) → is_pinned g i j ≡ b → cond b (joins ps i j) true ≡ true
      at i j true e = h i j e
      at i j false e = refl

  pub listed_spans : is_spanning g r ps ≡ true → Spans (directed g r) (is_pinned g) ps
  unfolding is_spanning
  listed_spans e =
      record {
        arborescence = and_left (is_arborescence (directed g r) ps) (keeps_pins g ps) e;
        keeps = pins_kept (and_right (is_arborescence (directed g r) ps) (keeps_pins g ps) e);
      }

  pub spans_listed : Spans (directed g r) (is_pinned g) ps → is_spanning g r ps ≡ true
  unfolding is_spanning
  spans_listed t = and_both (is_arborescence (directed g r) ps) (keeps_pins g ps) t.arborescence (keep_pins t.keeps)

  pub spanning_arborescence : is_spanning g r ps ≡ true → is_arborescence (directed g r) ps ≡ true
  spanning_arborescence e = (listed_spans e).arborescence

-- THE LEAST TOTAL OF SELECTED CANDIDATES
-- the empty list has none
pub some_there : (pss : List (List ℕ)) → pss ≡ [] → any_of (λ _. true) pss ≡ true → ⊥
unfolding any_of
some_there pss e a = true≢false (sym (subst (λ (l : List (List ℕ)). any_of (λ _. true) l ≡ true) e a))

module _ (s : Instance) (p : List ℕ → Bool) (sound : (ps : List ℕ) → p ps ≡ true → is_arborescence s ps ≡ true) where
  pub least_none : ((ps : List ℕ) → p ps ≡ false) → least_total s (select p (candidates s)) ≡ none
  unfolding LeastOf
  least_none no_one = at (least_total s (select p (candidates s))) (least_of s (select p (candidates s)))
    where
      at : (o : Option ℕ) → LeastOf s (select p (candidates s)) o → o ≡ none
      at none e = refl
      at (some v) e = let w = (any_selected s p sound (λ ps. eqb (total s ps) v)).0 e.0 in absurd (not_both (p w.0) w.1 (no_one w.0))

  pub least_some : (ps : List ℕ) → p ps ≡ true → ((qs : List ℕ) → p qs ≡ true → total s ps ≤ total s qs) → least_total s (select p (candidates s)) ≡ some (total s ps)
  unfolding LeastOf
  least_some ps a least = at (least_total s (select p (candidates s))) (least_of s (select p (candidates s)))
    where
      at : (o : Option ℕ) → LeastOf s (select p (candidates s)) o → o ≡ some (total s ps)
      at none e = absurd (some_there (select p (candidates s)) e ((any_selected s p sound (λ _. true)).1 (ps, a, refl)))
      at (some v) e =
          let w = (any_selected s p sound (λ qs. eqb (total s qs) v)).0 e.0 in
          let u = leb-true v (total s ps) ((all_selected s p sound (λ qs. leb v (total s qs))).0 e.1 ps a) in
          let l = least w.0 w.1 in
          ap some (le_antisymm u (subst (λ (x : ℕ). total s ps ≤ x) (eqb-true (total s w.0) v w.2) l))
