-- THE STATE FROM BOTH OUTCOMES ALONE. Every arborescence uses the arc or avoids it, so the cheapest total is the
-- smaller of the two outcomes' totals, and with it the limit is known with no third planning. Assumes nothing.
use mathlib.Core.Path.{◌≡◌, refl, sym, ap, ◌∙◌, subst}
use mathlib.Core.Bool.{Bool, true, false, ◌&&◌, not, cond}
use mathlib.Core.List.{List}
use mathlib.Core.Logic.{⊎_elim}
use mathlib.Core.Option.{Option, none, some}
use Prim.Native.Nat.{ℕ, max, min, ◌≤◌}
use native.Mathlib.Omega.{arith}
use lib.Dec.{ltb, leb}
use borrow.Author.Tests.{le-ltb, le-leb, lt-leb, leb-true, leb-false, ltb-true, ltb-false}
use Rattle.base.proofs.BoolLaws.{test, not_both, is_false}
use Rattle.instance.specs.Limits.{max_vertices}
use Rattle.instance.specs.Instance.{Instance, is_arc}
use Rattle.instance.specs.Arborescence.{is_arborescence, total, uses}
use Rattle.instance.specs.Candidates.{lesser, cheapest}
use Rattle.instance.specs.States.{outcome_at, outcome, limit_at, total_limit, state}
use Rattle.instance.specs.declared.Outcome.{Outcome}
use Rattle.instance.specs.declared.Outcome.TheVariants.{Plan, Over, NoTree}
use Rattle.instance.proofs.ArcLaws.{arc_ends}
use Rattle.theory.specs.Readings.{LeastTotal, CheapestReads}
use Rattle.theory.specs.Usable.{forced}
use Rattle.theory.proofs.OutcomeLaws.{cheapest_reads, cheapest_only}
use Rattle.witness.specs.Witness.{forced_instance, all_but, deleted_instance, within, outcome_cheapest, lesser_of, limit_by, state_by, beaten, unbeaten}
use Rattle.witness.proofs.OutcomeLaws.{passing_total}
use Rattle.witness.proofs.StateLaws.{forced_elsewhere, all_but_elsewhere, forced_uses, deleted_avoids, state_witnessed}

-- THE TOTAL OF AN OUTCOME
total_at : (b : ℕ) (o : Option ℕ) → outcome_cheapest (outcome_at b o) ≡ o
unfolding outcome_at
total_at b none = refl
total_at b (some v) = at (leb v b)
  where
    at : (t : Bool) → outcome_cheapest (cond t (Plan v) (Over v)) ≡ some v
    at true = refl
    at false = refl

-- THE CHEAPEST TOTAL
module _ (s : Instance) (t h : ℕ) (small : s.n ≤ max_vertices) (x : is_arc s t h ≡ true) where
  abbrev F : Instance
  F = forced_instance s t h

  abbrev S : Instance
  S = deleted_instance s t h

  pub forced_total : (ps : List ℕ) → is_arborescence (forced_instance s t h) ps ≡ true → total (forced_instance s t h) ps ≡ total s ps
  forced_total = let e = arc_ends s t h x in passing_total s (forced t h) h small e.head_below e.not_root (forced_elsewhere t h)

  pub deleted_total : (ps : List ℕ) → is_arborescence (deleted_instance s t h) ps ≡ true → total (deleted_instance s t h) ps ≡ total s ps
  deleted_total = let e = arc_ends s t h x in passing_total s (all_but t h) h small e.head_below e.not_root (all_but_elsewhere t h)

  -- an arborescence is of the one or of the other
  one_of : {A : Type 0} (ps : List ℕ) → is_arborescence s ps ≡ true → (is_arborescence F ps ≡ true → A) → (is_arborescence S ps ≡ true → A) → A
  one_of ps a f g =
      ⊎_elim (λ (u : uses ps t h ≡ true). f ((forced_uses s t h small x ps).1 (a, u)))
      (λ (u : uses ps t h ≡ false). g ((deleted_avoids s t h small x ps).1 (a, ap not u))) (test (uses ps t h))

  -- the least total of the one, if the other has none smaller
  from_forced : (v : ℕ) → LeastTotal F v → ((ps : List ℕ) → is_arborescence S ps ≡ true → v ≤ total s ps) → LeastTotal s v
  from_forced v l g =
      record {
        parents = l.parents;
        arborescence = ((forced_uses s t h small x l.parents).0 l.arborescence).0;
        attained = sym (forced_total l.parents l.arborescence) ∙ l.attained;
        least = λ ps a. one_of ps a (λ f. subst (λ (k : ℕ). v ≤ k) (forced_total ps f) (l.least ps f)) (g ps);
      }

  from_deleted : (v : ℕ) → LeastTotal S v → ((ps : List ℕ) → is_arborescence F ps ≡ true → v ≤ total s ps) → LeastTotal s v
  from_deleted v l g =
      record {
        parents = l.parents;
        arborescence = ((deleted_avoids s t h small x l.parents).0 l.arborescence).0;
        attained = sym (deleted_total l.parents l.arborescence) ∙ l.attained;
        least = λ ps a. one_of ps a (g ps) (λ f. subst (λ (k : ℕ). v ≤ k) (deleted_total ps f) (l.least ps f));
      }

  either_reads : (o p : Option ℕ) → CheapestReads F o → CheapestReads S p → CheapestReads s (lesser_of o p)
  unfolding CheapestReads lesser
  either_reads none none f g =
      λ ps. is_false (is_arborescence s ps) (λ a. one_of ps a (λ e. not_both (is_arborescence F ps) e (f ps)) (λ e. not_both (is_arborescence S ps) e (g ps)))
  either_reads none (some w) f g = from_deleted w g (λ ps e. absurd (not_both (is_arborescence F ps) e (f ps)))
  either_reads (some v) none f g = from_forced v f (λ ps e. absurd (not_both (is_arborescence S ps) e (g ps)))
  either_reads (some v) (some w) f g =
      ⊎_elim
      (λ (l : leb v w ≡ true).
      let i = leb-true v w l in
      let m : min v w ≡ v = omega arith in
      subst (LeastTotal s) (sym m) (from_forced v f (λ ps e. let k = subst (λ (j : ℕ). w ≤ j) (deleted_total ps e) (g.least ps e) in omega (arith, k, i))))
      (λ (l : leb v w ≡ false).
      let i = leb-false v w l in
      let m : min v w ≡ w = omega arith in
      subst (LeastTotal s) (sym m) (from_deleted w g (λ ps e. let k = subst (λ (j : ℕ). v ≤ j) (forced_total ps e) (f.least ps e) in omega (arith, k, i))))
      (test (leb v w))

  pub cheapest_either : cheapest s ≡ lesser_of (cheapest (forced_instance s t h)) (cheapest (deleted_instance s t h))
  cheapest_either = sym (cheapest_only s (lesser_of (cheapest F) (cheapest S)) (either_reads (cheapest F) (cheapest S) (cheapest_reads F) (cheapest_reads S)))

  pub limit_either : limit_by s.budget (outcome (forced_instance s t h)) (outcome (deleted_instance s t h)) ≡ total_limit s
  unfolding limit_by outcome total_limit
  limit_either = rw (total_at s.budget (cheapest F), total_at s.budget (cheapest S), cheapest_either)

  pub state_either : state s t h ≡ state_by s.budget (outcome (forced_instance s t h)) (outcome (deleted_instance s t h))
  unfolding state_by
  state_either = rw limit_either (state_witnessed s t h small x)

-- BY COMPARING
lesser_swap : (o q : Option ℕ) → lesser_of o q ≡ lesser_of q o
unfolding lesser
lesser_swap none none = refl
lesser_swap none (some w) = refl
lesser_swap (some v) none = refl
lesser_swap (some v) (some w) = ap some (let e : min v w ≡ min w v = omega arith in e)

pub limit_swap : (b : ℕ) (f p : Outcome) → limit_by b f p ≡ limit_by b p f
unfolding limit_by
limit_swap b f p = ap (limit_at b) (lesser_swap (outcome_cheapest f) (outcome_cheapest p))

-- a total is within the larger of the budget and the smaller of two totals, or it is beaten
both_totals : (b v w : ℕ) → leb v (max b (min v w)) ≡ not (ltb b v && ltb w v)
both_totals b v w =
    ⊎_elim
    (λ (e : ltb b v ≡ true).
    ⊎_elim
    (λ (g : ltb w v ≡ true). let i = ltb-true b v e in let j = ltb-true w v g in rw (e, g) (lt-leb v (max b (min v w)) (omega arith)))
    (λ (g : ltb w v ≡ false). let j = ltb-false w v g in rw (e, g) (le-leb v (max b (min v w)) (omega arith))) (test (ltb w v)))
    (λ (e : ltb b v ≡ false). let i = ltb-false b v e in rw e (le-leb v (max b (min v w)) (omega arith))) (test (ltb b v))

total_beaten : (b v : ℕ) (p : Outcome) → leb v (limit_at b (lesser v (outcome_cheapest p))) ≡ not (beaten b v p)
unfolding limit_at lesser beaten
total_beaten b v (Plan w) = both_totals b v w
total_beaten b v (Over w) = both_totals b v w
total_beaten b v NoTree = le-leb v (max b v) (omega arith)

pub within_unbeaten : (b : ℕ) (f p : Outcome) → within (limit_by b f p) f ≡ unbeaten b f p
unfolding within limit_by unbeaten
within_unbeaten b (Plan v) p = total_beaten b v p
within_unbeaten b (Over v) p = total_beaten b v p
within_unbeaten b NoTree p = refl

-- a total within the budget is not beaten
pub within_budget : (b v : ℕ) (p : Outcome) → v ≤ b → beaten b v p ≡ false
unfolding beaten
within_budget b v (Plan w) l = rw (le-ltb b v l)
within_budget b v (Over w) l = rw (le-ltb b v l)
within_budget b v NoTree l = refl

-- the state by both comparisons
pub state_compared : (b : ℕ) (f p : Outcome) → state_by b f p ≡ cond (unbeaten b f p) (cond (unbeaten b p f) 2 3) 1
unfolding state_by
state_compared b f p = rw (within_unbeaten b f p) (ap (λ (y : Bool). cond (unbeaten b f p) (cond y 2 3) 1) (ap (λ (l : ℕ). within l p) (limit_swap b f p) ∙ within_unbeaten b p f))
