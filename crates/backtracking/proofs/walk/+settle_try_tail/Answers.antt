-- The walk's two functions end by a pair, vertices left and then tails left, and each does what the events of its
-- vertex or its tail say. One law for each way through them (StepLaws); what is asked is kept by SettlingLaws. Assumes
-- nothing.
use mathlib.Core.Path.{◌≡◌, refl, sym, ap, ◌∙◌, subst}
use mathlib.Core.Bool.{Bool, true, false, ◌&&◌, ◌||◌}
use mathlib.Core.List.{List, [], ◌∷◌, ◌++◌}
use mathlib.Core.Logic.{⊎_elim}
use mathlib.Core.WellFounded.Prod
use Prim.Native.Nat.{ℕ, ◌+◌, ◌-◌, ◌<◌}
use native.Mathlib.Omega.{arith}
use lib.Dec.{eqb, ltb}
use lib.ListN.{get_or, take}
use borrow.Author.Tests.{eqb-true, ltb-true}
use Rattle.base.specs.Lists.{join_below}
use Rattle.base.proofs.BoolLaws.{test, and_left, and_right, or_false_left}
use Rattle.instance.specs.Limits.{no_parent}
use Rattle.instance.specs.Instance.{cell}
use Rattle.instance.specs.Arborescence.{reaches}
use Rattle.instance.specs.Matrix.{matrix_instance}
use Rattle.enumeration.specs.Events.{listed, events_from, tail_events}
use Rattle.enumeration.specs.declared.Ended.{Ended}
use Rattle.enumeration.specs.declared.Ended.TheVariants.{AtLimit}
use Rattle.backtracking.specs.Listing.{place, place_of, scan}
use Rattle.backtracking.proofs.PairLaws.{number_falls}
use Rattle.backtracking.proofs.StepLaws.{complete_is, scan_ended, leaf_over, leaf_in, at_root, by_tails, no_tails, one_tail, no_arc_there, limit_met, cycle_met, goes_on, over_met}
use Rattle.backtracking.proofs.SettlingLaws.{prefix_more, sum_small, weight_most, arc_missing, arc_there, tail_settled, root_settled, whole_sum, last_sum}
use Rattle.backtracking.proofs.walk.+settle_try_tail.Goals as goal

-- SETTLING A VERTEX
pub settle-returns-then-budget-sum : goal.settle-returns-then-budget-sum
settle-returns-then-budget-sum t c =
    let a = c.args in
    let g = c.requires.0 in
    record {
      scanned = sym (leaf_over a.v (matrix_instance a.n a.root a.budget a.m.now) (take a.v a.parents) (place_of a.progress a.out.now) c.if-v-n.true
          (omega (arith, whole_sum a.m.now a.parents a.n a.root a.v a.sum g a.budget c.if-v-n.true, c.if-budget-sum.true)));
      counted = omega arith;
    }

pub settle-returns-then-v-n : goal.settle-returns-then-v-n
settle-returns-then-v-n t c =
    let a = c.args in
    let g = c.requires.0 in
    let e : a.v ≡ a.n = c.if-v-n.true in
    record {
      scanned = c.store_tree.ensures.scanned
          ∙ ap (λ (k : ℕ). scan a.n (listed (take k a.parents) ∷ []) (place_of a.progress a.out.now)) (sym e)
          ∙ sym (leaf_in a.v (matrix_instance a.n a.root a.budget a.m.now) (take a.v a.parents) (place_of a.progress a.out.now) e
          (omega (arith, whole_sum a.m.now a.parents a.n a.root a.v a.sum g a.budget e, c.if-budget-sum.false)));
      counted = c.store_tree.ensures.counted;
    }

pub settle-settle-requires : goal.settle-settle-requires
settle-settle-requires t c =
    let a = c.args in
    let g = c.requires.0 in
    let h : a.v < a.n = omega (arith, g.up_to, c.if-v-n.false) in (
      omega (arith, number_falls (a.n - (a.v + 1), a.n + 1) (a.n - a.v, a.n + 1) (omega (arith, g.matrix_ok.small)) (Prod.Lex-left _ _ (omega arith))),
      (root_settled a.m.now a.parents a.n a.root a.v a.sum g h c.if-v-root.true, c.requires.1, c.requires.2),
    )

pub settle-returns-then-v-root : goal.settle-returns-then-v-root
settle-returns-then-v-root t c =
    let a = c.args in
    let g = c.requires.0 in
    let h : a.v < a.n = omega (arith, g.up_to, c.if-v-n.false) in
    record {
      scanned = c.settle.ensures.scanned
          ∙ ap (λ (ps : List ℕ). scan a.n (events_from (a.n - (a.v + 1)) (a.v + 1) (matrix_instance a.n a.root a.budget a.m.now) ps) (place_of a.progress a.out.now))
          (prefix_more a.parents a.v no_parent (omega (arith, g.places, g.matrix_ok.small)))
          ∙ sym (at_root a.v (matrix_instance a.n a.root a.budget a.m.now) (take a.v a.parents) (place_of a.progress a.out.now) h c.if-v-root.true);
      counted = c.settle.ensures.counted;
    }

pub settle-loop-t-init : goal.settle-loop-t-init
settle-loop-t-init t c =
    let a = c.args in (
      omega arith,
      refl,
      omega arith,
      sym (no_tails (a.n - (a.v + 1)) a.v (matrix_instance a.n a.root a.budget a.m.now) (take a.v a.parents) (place_of a.progress a.out.now)),
    )

pub settle-try_tail-p-requires : goal.settle-try_tail-p-requires
settle-try_tail-p-requires t c =
    let a = c.args in
    let g = c.requires.0 in
    let l = c.loop-t in
    let h : a.v < a.n = omega (arith, g.up_to, c.if-v-n.false) in (
      omega (arith, number_falls (a.n - a.v, a.n - l.t) (a.n - a.v, a.n + 1) (omega (arith, g.matrix_ok.small)) (Prod.Lex-right _ (omega arith))),
      (g, h, c.if-v-root.false, c.loop-t-test.true, l.invariant.2),
    )

pub settle-loop-t-preserved : goal.settle-loop-t-preserved
settle-loop-t-preserved t c =
    let a = c.args in
    let l = c.loop-t in
    let f = c.try_tail-p in (
      omega arith,
      f.auto.out ∙ l.invariant.1,
      f.ensures.counted,
      f.ensures.scanned
          ∙ ap (scan a.n (tail_events (a.n - (a.v + 1)) a.v (matrix_instance a.n a.root a.budget a.m.now) (take a.v a.parents) l.t)) l.invariant.3
          ∙ sym (one_tail (a.n - (a.v + 1)) a.v l.t (matrix_instance a.n a.root a.budget a.m.now) (take a.v a.parents) (place_of a.progress a.out.now)),
    )

pub settle-returns : goal.settle-returns
settle-returns t c =
    let a = c.args in
    let g = c.requires.0 in
    let l = c.loop-t in
    let e : l.t ≡ a.n = omega arith in
    let h : a.v < a.n = omega (arith, g.up_to, c.if-v-n.false) in
    record {
      scanned = l.invariant.3
          ∙ ap (λ (k : ℕ). scan a.n (join_below k (tail_events (a.n - (a.v + 1)) a.v (matrix_instance a.n a.root a.budget a.m.now) (take a.v a.parents))) (place_of a.progress a.out.now)) e
          ∙ sym (by_tails a.v (matrix_instance a.n a.root a.budget a.m.now) (take a.v a.parents) (place_of a.progress a.out.now) h c.if-v-root.false);
      counted = l.invariant.2;
    }

-- TRYING A TAIL
pub try_tail-returns-then-not-goes_on : goal.try_tail-returns-then-not-goes_on
try_tail-returns-then-not-goes_on t c =
    let a = c.args in
    let f = c.goes_on in
    record {
      scanned = sym (scan_ended a.n (tail_events (a.n - (a.v + 1)) a.v (matrix_instance a.n a.root a.budget a.m.now) (take a.v a.parents.now) a.t) (place_of a.progress a.out.now)
          (sym f.ensures ∙ c.if-not-goes_on.true));
      counted = omega arith;
    }

pub try_tail-returns-then-weight-eq-NO_ARC : goal.try_tail-returns-then-weight-eq-NO_ARC
try_tail-returns-then-weight-eq-NO_ARC t c =
    let a = c.args in
    let g = c.requires.0 in
    let h : a.v < a.n = c.requires.1 in
    let k : a.t < a.n = c.requires.3 in
    record {
      scanned = sym (no_arc_there a.v a.t (matrix_instance a.n a.root a.budget a.m.now) (take a.v a.parents.now) (place_of a.progress a.out.now) (arc_missing a.m.now a.parents.now a.n a.root a.v a.sum g a.t k h a.budget c.if-weight-eq-NO_ARC.true));
      counted = omega arith;
    }

pub try_tail-returns-then-progress-eq0 : goal.try_tail-returns-then-progress-eq0
try_tail-returns-then-progress-eq0 t c =
    let a = c.args in
    let g = c.requires.0 in
    let h : a.v < a.n = c.requires.1 in
    let d = c.requires.2 in
    let k : a.t < a.n = c.requires.3 in
    record {
      scanned = ap (λ (j : ℕ). place j a.progress.trees AtLimit a.out.now) c.if-progress-eq0.true ∙ sym (limit_met a.v a.t (matrix_instance a.n a.root a.budget a.m.now) (take a.v a.parents.now) a.progress.left a.progress.trees a.progress.ended a.out.now
          (arc_there a.m.now a.parents.now a.n a.root a.v a.sum g a.t k h a.budget d c.if-weight-eq-NO_ARC.false) (sym c.goes_on.ensures ∙ c.if-not-goes_on.false) c.if-progress-eq0.true);
      counted = omega arith;
    }

pub try_tail-overflow_add-after : goal.try_tail-overflow_add-after
try_tail-overflow_add-after t c =
    let a = c.args in
    let g = c.requires.0 in
    let h : a.v < a.n = c.requires.1 in
    let k : a.t < a.n = c.requires.3 in
    omega (arith, sum_small a.m.now a.parents.now a.n a.root a.v a.sum g, weight_most a.m.now a.parents.now a.n a.root a.v a.sum g a.t k h, g.matrix_ok.small)

pub try_tail-returns-then-ends_there : goal.try_tail-returns-then-ends_there
try_tail-returns-then-ends_there t c =
    let a = c.args in
    let g = c.requires.0 in
    let h : a.v < a.n = c.requires.1 in
    let d = c.requires.2 in
    let k : a.t < a.n = c.requires.3 in
    let cycle = reaches a.n a.v (take a.v a.parents.now) a.t in
    let last = eqb (a.v + 1) a.n in
    let after = a.sum + get_or a.m.now (cell a.t a.v) 0 in
    let over = ltb a.budget after in
    let arc = arc_there a.m.now a.parents.now a.n a.root a.v a.sum g a.t k h a.budget d c.if-weight-eq-NO_ARC.false in
    let on = sym c.goes_on.ensures ∙ c.if-not-goes_on.false in
    record {
      scanned = ap (λ (e : Ended). place (a.progress.left - 1) a.progress.trees e a.out.now) (complete_is a.progress.ended on) ∙ sym (⊎_elim
          (λ (q : cycle ≡ true). cycle_met a.v a.t (matrix_instance a.n a.root a.budget a.m.now) (take a.v a.parents.now) a.progress.left a.progress.trees a.progress.ended a.out.now arc on c.if-progress-eq0.false q)
          (λ (q : cycle ≡ false).
          let r : last && over ≡ true = subst (λ (x : Bool). x || (last && over) ≡ true) q (sym c.ends_there.ensures ∙ c.if-ends_there.true) in
          let e : a.v + 1 ≡ a.n = eqb-true (a.v + 1) a.n (and_left last over r) in
          over_met a.v a.t (matrix_instance a.n a.root a.budget a.m.now) (take a.v a.parents.now) a.progress.left a.progress.trees a.progress.ended a.out.now arc on c.if-progress-eq0.false q e
          (omega (arith, last_sum a.m.now a.parents.now a.n a.root a.v a.sum g a.t a.budget k h d e, ltb-true a.budget after (and_right last over r))))
          (test cycle));
      counted = omega arith;
    }

pub try_tail-settle-requires : goal.try_tail-settle-requires
try_tail-settle-requires t c =
    let a = c.args in
    let g = c.requires.0 in
    let h : a.v < a.n = c.requires.1 in
    let d = c.requires.2 in
    let k : a.t < a.n = c.requires.3 in (
      omega (arith, number_falls (a.n - (a.v + 1), a.n + 1) (a.n - a.v, a.n - a.t) (omega (arith, g.matrix_ok.small)) (Prod.Lex-left _ _ (omega arith))),
      (tail_settled a.m.now a.parents.now a.n a.root a.v a.sum g a.t k h d, sym c.goes_on.ensures ∙ c.if-not-goes_on.false, omega (arith, c.if-progress-eq0.false)),
    )

pub try_tail-returns : goal.try_tail-returns
try_tail-returns t c =
    let a = c.args in
    let g = c.requires.0 in
    let h : a.v < a.n = c.requires.1 in
    let d = c.requires.2 in
    let k : a.t < a.n = c.requires.3 in
    let cycle = reaches a.n a.v (take a.v a.parents.now) a.t in
    record {
      scanned = c.settle.ensures.scanned
          ∙ ap (λ (ps : List ℕ). scan a.n (events_from (a.n - (a.v + 1)) (a.v + 1) (matrix_instance a.n a.root a.budget a.m.now) ps) (place (a.progress.left - 1) a.progress.trees a.progress.ended a.out.now))
          (prefix_more a.parents.now a.v a.t (omega (arith, g.places, g.matrix_ok.small)))
          ∙ ap (λ (e : Ended). scan a.n (events_from (a.n - (a.v + 1)) (a.v + 1) (matrix_instance a.n a.root a.budget a.m.now) (take a.v a.parents.now ++ a.t ∷ [])) (place (a.progress.left - 1) a.progress.trees e a.out.now))
          (complete_is a.progress.ended (sym c.goes_on.ensures ∙ c.if-not-goes_on.false))
          ∙ sym (goes_on a.v a.t (matrix_instance a.n a.root a.budget a.m.now) (take a.v a.parents.now) a.progress.left a.progress.trees a.progress.ended a.out.now
          (arc_there a.m.now a.parents.now a.n a.root a.v a.sum g a.t k h a.budget d c.if-weight-eq-NO_ARC.false) (sym c.goes_on.ensures ∙ c.if-not-goes_on.false) c.if-progress-eq0.false
          (or_false_left cycle (eqb (a.v + 1) a.n && ltb a.budget (a.sum + get_or a.m.now (cell a.t a.v) 0)) (sym c.ends_there.ensures ∙ c.if-ends_there.false)));
      counted = c.settle.ensures.counted;
    }
