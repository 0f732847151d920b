-- When a plan made elsewhere is accepted, read in both directions; that it is then a cheapest arborescence, whoever
-- made it; and that the answer goes by the remaining arcs and their weights alone: not by the budget, nor by cells
-- that have no remaining arc. Assumes nothing.
--
-- The idea of the proof that an accepted plan is cheapest is weak duality: every arborescence has an arc into each set,
-- so the values of all cuts are paid by it, and no arc is charged above its weight. Nothing is said of how the tree or
-- the cuts were found.
use mathlib.Core.Path.{◌≡◌, refl, sym, ap, ◌∙◌, subst}
use mathlib.Core.Bool.{Bool, true, false, ◌&&◌, ◌||◌, not, cond}
use mathlib.Core.List.{List}
use mathlib.Core.Logic.{◌↔◌}
use Prim.Native.Nat.{ℕ, ◌*◌, ◌/◌, ◌%◌, ◌^◌, ◌≤◌, ◌<◌}
use native.Mathlib.Omega.{arith}
use lib.Dec.{ltb, leb, eqb}
use lib.ListN.{length, take}
use borrow.Author.Tests.{ltb-true, ltb-false, lt-ltb, le-ltb, leb-true, le-leb, eqb-true, eq-eqb, not-true, not-false}
use Rattle.base.specs.Lists.{any_of}
use Rattle.base.proofs.BoolLaws.{is_false, not_both, same_test, and_left, and_right, and_both, or_right, or_false_left, or_false_right, passed}
use Rattle.instance.specs.Limits.{max_cuts}
use Rattle.instance.specs.Refusals.{buffer_short, not_arborescence, wrong_total, bad_cut, overcharged, wrong_values}
use Rattle.instance.specs.Instance.{Instance, with_budget, weight}
use Rattle.instance.specs.Arborescence.{is_arborescence, total}
use Rattle.instance.specs.Cuts.{Cut, cuts_in, charged, values, inside, set_ok, sets_ok}
use Rattle.instance.proofs.ArcLaws.{each_at, each_intro}
use Rattle.instance.proofs.CutLaws.{cuts_length}
use Rattle.theory.specs.Readings.{LeastTotal, NoArborescence}
use Rattle.theory.proofs.Optimality.{proved_least}
use Rattle.theory.proofs.SameArcs.{SameArcs, same_back, with_budget_arcs, same_arborescence, same_total, same_sets}
use Rattle.certificate.specs.Certificate.{covered, none_overcharged, certificate_fault, certificate_refusal, certificate_numbers}
use Rattle.certificate.specs.Readings.{Accepted}

-- ONE TEST AFTER ANOTHER: the first that fails decides
module _ (s : Instance) (ps : List ℕ) (v : ℕ) (cs : List Cut) where
  abbrev cuts_ok : Bool
  cuts_ok = leb (length cs) max_cuts && sets_ok s cs

  pub tree_fails : is_arborescence s ps ≡ false → certificate_fault s ps v cs ≡ not_arborescence
  unfolding certificate_fault
  tree_fails e = rw e

  module _ (tree : is_arborescence s ps ≡ true) where
    pub total_fails : eqb (total s ps) v ≡ false → certificate_fault s ps v cs ≡ wrong_total
    unfolding certificate_fault
    total_fails e = rw (tree, e)

    module _ (costs : eqb (total s ps) v ≡ true) where
      pub cuts_fail : cuts_ok ≡ false → certificate_fault s ps v cs ≡ bad_cut
      unfolding certificate_fault
      cuts_fail e = rw (tree, costs, e)

      module _ (proper : cuts_ok ≡ true) where
        pub charges_fail : none_overcharged s cs ≡ false → certificate_fault s ps v cs ≡ overcharged
        unfolding certificate_fault
        charges_fail e = rw (tree, costs, proper, e)

        module _ (fair : none_overcharged s cs ≡ true) where
          pub values_fail : eqb (values cs) v ≡ false → certificate_fault s ps v cs ≡ wrong_values
          unfolding certificate_fault
          values_fail e = rw (tree, costs, proper, fair, e)

          pub none_fails : eqb (values cs) v ≡ true → certificate_fault s ps v cs ≡ 0
          unfolding certificate_fault
          none_fails e = rw (tree, costs, proper, fair, e)

-- BY THE REMAINING ARCS ALONE
module _ (a b : Instance) (e : SameArcs a b) where
  tree_same : (ps : List ℕ) → is_arborescence a ps ≡ is_arborescence b ps
  tree_same ps =
      same_test (is_arborescence a ps) (is_arborescence b ps) (same_arborescence a b e ps) (same_arborescence b a (same_back a b e) ps)

  fair_there : (cs : List Cut) → none_overcharged a cs ≡ true → none_overcharged b cs ≡ true
  fair_there cs x =
      each_intro b (covered b cs)
      (λ t h r.
      let q = e.arcs t h ∙ r in
      subst (λ (w : ℕ). leb (charged cs t h) w ≡ true) (e.weights t h q) (each_at a (covered a cs) x t h q))

module _ (a b : Instance) (e : SameArcs a b) where
  fair_same : (cs : List Cut) → none_overcharged a cs ≡ none_overcharged b cs
  fair_same cs =
      same_test (none_overcharged a cs) (none_overcharged b cs) (fair_there a b e cs) (fair_there b a (same_back a b e) cs)

  tree_judged : (ps : List ℕ) (v : ℕ) (cs : List Cut) → is_arborescence a ps ≡ true → is_arborescence b ps ≡ true →
      certificate_fault a ps v cs ≡ certificate_fault b ps v cs
  unfolding certificate_fault
  tree_judged ps v cs x y = rw (x, y, same_total a b e ps x, same_sets a b e cs, fair_same cs)

  pub same_fault : (ps : List ℕ) (v : ℕ) (cs : List Cut) → certificate_fault a ps v cs ≡ certificate_fault b ps v cs
  same_fault ps v cs = by (is_arborescence b ps) refl
    where
      by : (t : Bool) → is_arborescence b ps ≡ t → certificate_fault a ps v cs ≡ certificate_fault b ps v cs
      by false y = tree_fails a ps v cs (tree_same a b e ps ∙ y) ∙ sym (tree_fails b ps v cs y)
      by true y = tree_judged ps v cs (tree_same a b e ps ∙ y) y

  pub same_refusal : (ps : List ℕ) (v k : ℕ) (ws : List ℕ) → certificate_refusal a ps v k ws ≡ certificate_refusal b ps v k ws
  unfolding certificate_refusal
  same_refusal ps v k ws =
      ap (λ (n : ℕ). cond (ltb (length ps) n || ltb (length ws) (2 * k)) buffer_short (certificate_fault a (take n ps) v (cuts_in k ws))) e.vertices
      ∙ ap (cond (ltb (length ps) b.n || ltb (length ws) (2 * k)) buffer_short) (same_fault (take b.n ps) v (cuts_in k ws))

-- "the budget is not judged"
pub budget_not_judged : (b : ℕ) (s : Instance) (ps : List ℕ) (v k : ℕ) (ws : List ℕ) → certificate_refusal (with_budget b s) ps v k ws ≡ certificate_refusal s ps v k ws
budget_not_judged b s = same_refusal (with_budget b s) s (with_budget_arcs b s)

-- ACCEPTED, in both directions
module _ (s : Instance) (ps : List ℕ) (v k : ℕ) (ws : List ℕ) where
  abbrev short : Bool
  short = ltb (length ps) s.n || ltb (length ws) (2 * k)

  abbrev tree : List ℕ
  tree = take s.n ps

  abbrev cs : List Cut
  cs = cuts_in k ws

  pub few_parents : length ps < s.n → certificate_refusal s ps v k ws ≡ buffer_short
  unfolding certificate_refusal
  few_parents l = rw (lt-ltb (length ps) s.n l)

  pub few_words : length ws < 2 * k → certificate_refusal s ps v k ws ≡ buffer_short
  unfolding certificate_refusal
  few_words l = rw (or_right (ltb (length ps) s.n) (ltb (length ws) (2 * k)) (lt-ltb (length ws) (2 * k) l))

  pub long_judged : s.n ≤ length ps → 2 * k ≤ length ws → certificate_refusal s ps v k ws ≡ certificate_fault s tree v cs
  unfolding certificate_refusal
  long_judged l m = rw (le-ltb (length ps) s.n l, le-ltb (length ws) (2 * k) m)

  cut_count : length cs ≡ k
  unfolding cuts_in
  cut_count = cuts_length k 0 ws

  accept : Accepted s ps v k ws → certificate_refusal s ps v k ws ≡ 0
  accept x =
      long_judged x.parents_sent x.words_sent
      ∙ none_fails s tree v cs x.arborescence (eq-eqb (total s tree) v x.costs)
      (and_both (leb (length cs) max_cuts) (sets_ok s cs) (rw cut_count (le-leb k max_cuts x.few)) x.feasible.sets)
      (each_intro s (covered s cs) (λ t h r. le-leb (charged cs t h) (weight s t h) (x.feasible.covered t h r))) (eq-eqb (values cs) v x.adds)

  read : certificate_refusal s ps v k ws ≡ 0 → Accepted s ps v k ws
  unfolding certificate_refusal certificate_fault
  read e =
      let p1 = passed short 13 _ e in
      let p2 = passed (not (is_arborescence s tree)) 20 _ p1.1 in
      let p3 = passed (not (eqb (total s tree) v)) 21 _ p2.1 in
      let p4 = passed (not (leb (length cs) max_cuts && sets_ok s cs)) 22 _ p3.1 in
      let p5 = passed (not (none_overcharged s cs)) 23 _ p4.1 in
      let p6 = passed (not (eqb (values cs) v)) 24 _ p5.1 in
      let proper = not-false (leb (length cs) max_cuts && sets_ok s cs) p4.0 in
      record {
        parents_sent = ltb-false (length ps) s.n (or_false_left (ltb (length ps) s.n) (ltb (length ws) (2 * k)) p1.0);
        words_sent = ltb-false (length ws) (2 * k) (or_false_right (ltb (length ps) s.n) (ltb (length ws) (2 * k)) p1.0);
        arborescence = not-false (is_arborescence s tree) p2.0;
        costs = eqb-true (total s tree) v (not-false (eqb (total s tree) v) p3.0);
        few = subst (λ (j : ℕ). j ≤ max_cuts) cut_count (leb-true (length cs) max_cuts (and_left (leb (length cs) max_cuts) (sets_ok s cs) proper));
        feasible =
            record {
              sets = and_right (leb (length cs) max_cuts) (sets_ok s cs) proper;
              covered = λ t h r. leb-true (charged cs t h) (weight s t h) (each_at s (covered s cs) (not-false (none_overcharged s cs) p5.0) t h r);
            };
        adds = eqb-true (values cs) v (not-false (eqb (values cs) v) p6.0);
      }

  pub accepted_reads : (certificate_refusal s ps v k ws ≡ 0) ↔ Accepted s ps v k ws
  accepted_reads = (read, accept)

  -- "an accepted plan is cheapest, whoever made it"
  pub accepted_least : Accepted s ps v k ws → LeastTotal s v
  accepted_least x =
      subst (LeastTotal s) x.costs (proved_least s tree cs x.arborescence x.feasible (x.adds ∙ sym x.costs))

  -- without a tree no plan is one
  pub no_tree_refused : NoArborescence s → s.n ≤ length ps → 2 * k ≤ length ws → certificate_refusal s ps v k ws ≡ not_arborescence
  no_tree_refused none l m = long_judged l m ∙ tree_fails s tree v cs (none tree)

-- ONE VERTEX: no set is that of a cut, so with a tree and its total any cut is refused
pub one_vertex : (s : Instance) (c : ℕ) → s.n ≡ 1 → s.root < s.n → set_ok s c ≡ false
unfolding set_ok inside
one_vertex s c n r =
    is_false ((ltb 0 c && ltb c (2 ^ s.n)) && not (eqb (c / 2 ^ s.root % 2) 1))
    (λ e.
    let sizes = and_left (ltb 0 c && ltb c (2 ^ s.n)) (not (eqb (c / 2 ^ s.root % 2) 1)) e in
    let some = ltb-true 0 c (and_left (ltb 0 c) (ltb c (2 ^ s.n)) sizes) in
    let below : c < 2 = subst (λ (k : ℕ). c < 2 ^ k) n (ltb-true c (2 ^ s.n) (and_right (ltb 0 c) (ltb c (2 ^ s.n)) sizes)) in
    let one : c ≡ 1 = omega arith in
    let root : s.root ≡ 0 = omega arith in
    not_both (eqb (c / 2 ^ s.root % 2) 1) (rw (one, root)) (not-true (eqb (c / 2 ^ s.root % 2) 1) (and_right (ltb 0 c && ltb c (2 ^ s.n)) (not (eqb (c / 2 ^ s.root % 2) 1)) e)))

-- ITS NUMBERS
by_tests : (a b c d e f : Bool) →
    any_of
    (eqb (cond a buffer_short (cond (not b) not_arborescence (cond (not c) wrong_total (cond (not d) bad_cut (cond (not e) overcharged (cond (not f) wrong_values 0)))))))
    certificate_numbers
    ≡ true
unfolding any_of
by_tests true b c d e f = refl
by_tests false false c d e f = refl
by_tests false true false d e f = refl
by_tests false true true false e f = refl
by_tests false true true true false f = refl
by_tests false true true true true false = refl
by_tests false true true true true true = refl

pub refusal_listed : (s : Instance) (ps : List ℕ) (v k : ℕ) (ws : List ℕ) → any_of (eqb (certificate_refusal s ps v k ws)) certificate_numbers ≡ true
unfolding certificate_refusal certificate_fault
refusal_listed s ps v k ws =
    let t = take s.n ps in
    let cs = cuts_in k ws in
    by_tests (ltb (length ps) s.n || ltb (length ws) (2 * k)) (is_arborescence s t) (eqb (total s t) v) (leb (length cs) max_cuts && sets_ok s cs)
    (none_overcharged s cs) (eqb (values cs) v)
