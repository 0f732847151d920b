-- The outcome of a graph in 02's words (A11): plan with the least total of the spanning trees that keep pins and bans
-- where the budget is no less, over with it otherwise, and none exactly where there is no such tree. Here it is read as
-- a statement about all lists of parents, where `spanning` computes it from a listing. Assumes nothing.
use mathlib.Core.Path.{◌≡◌, refl, sym, ap, subst}
use mathlib.Core.Bool.{Bool, true, false, cond}
use mathlib.Core.List.{List}
use mathlib.Core.Logic.{◌↔◌, ◌≢◌}
use mathlib.Core.Option.{Option, none, some}
use Prim.Native.Nat.{ℕ, ◌≤◌, ◌<◌}
use native.Mathlib.Omega.{arith}
use native.Mathlib.Nat.{le_antisymm}
use lib.Dec.{leb, eqb}
use borrow.Author.Tests.{leb-true, leb-false, eqb-true}
use Rattle.base.specs.Lists.{select}
use Rattle.instance.specs.Limits.{banned}
use Rattle.instance.specs.Arborescence.{total}
use Rattle.instance.specs.Candidates.{candidates, least_total}
use Rattle.instance.specs.States.{outcome_at}
use Rattle.instance.specs.declared.Outcome.{Outcome}
use Rattle.instance.specs.declared.Outcome.TheVariants.{Plan, Over, NoTree}
use Rattle.theory.proofs.CandidateLaws.{any_selected, all_selected}
use Rattle.theory.proofs.OutcomeLaws.{LeastOf, least_of, plan_once, over_once, plan_not_over}
use Rattle.spanning.specs.Graph.{Graph, edge_mark, is_edge, is_pinned}
use Rattle.spanning.specs.Refusal.{ValidGraph}
use Rattle.spanning.specs.SpanningTrees.{directed, joins, is_spanning, spanning_trees, least_spanning}
use Rattle.spanning.specs.EdgeStates.{graph_outcome}
use Rattle.spanning.specs.Spans.{Spans}
use Rattle.spanning.proofs.GraphLaws.{allowed_edge, allowed_mark, joined_allowed}
use Rattle.spanning.proofs.SpansLaws.{listed_spans, spans_listed, spanning_arborescence, some_there}

-- THE WORDS
-- "a .. spanning tree of the runs, pins and bans kept", by its parents from vertex 0 on. That it has every pinned edge
-- and no banned one is `spanning_marks`.
abbrev pub Spanning : Graph → List ℕ → Type 0
Spanning g ps = Spans (directed g 0) (is_pinned g) ps

-- v is the total of "a cheapest spanning tree"
pub record LeastSpanning (g : Graph) (v : ℕ) : Type 0 where
  pub tree : List ℕ
  pub spans : Spanning g tree
  pub attained : total (directed g 0) tree ≡ v
  pub least : (qs : List ℕ) → Spanning g qs → v ≤ total (directed g 0) qs

-- "outcome and total as a look yields them": plan with its total, over with the cheapest total, none
pub record ResultReads (g : Graph) (budget : ℕ) (o : Outcome) : Type 0 where
  pub plans : (v : ℕ) → (o ≡ Plan v) ↔ (LeastSpanning g v × (v ≤ budget))
  pub exceeds : (v : ℕ) → (o ≡ Over v) ↔ (LeastSpanning g v × (budget < v))
  pub fails : (o ≡ NoTree) ↔ ((qs : List ℕ) → Spanning g qs → ⊥)

-- pins and bans are kept
pub record KeepsMarks (g : Graph) (ps : List ℕ) : Type 0 where
  pub edges : (i j : ℕ) → i < g.n → j < g.n → joins ps i j ≡ true → is_edge g i j ≡ true
  pub pins : (i j : ℕ) → is_pinned g i j ≡ true → joins ps i j ≡ true
  pub bans : (i j : ℕ) → i < g.n → j < g.n → joins ps i j ≡ true → edge_mark g i j ≢ banned

pub spanning_marks : (g : Graph) → ValidGraph g → (ps : List ℕ) → Spanning g ps → KeepsMarks g ps
spanning_marks g valid ps t =
    record {
      edges = λ i j ib jb e. allowed_edge g i j (joined_allowed g valid 0 valid.some ps t.arborescence i j ib jb e);
      pins = t.keeps;
      bans = λ i j ib jb e. allowed_mark g i j (joined_allowed g valid 0 valid.some ps t.arborescence i j ib jb e);
    }

-- THE CHEAPEST TOTAL
-- o is it, where there is a spanning tree
unfoldable pub TotalReads : Graph → Option ℕ → Type 0
TotalReads g none = (qs : List ℕ) → Spanning g qs → ⊥
TotalReads g (some v) = LeastSpanning g v

pub total_reads : (g : Graph) → TotalReads g (least_spanning g 0)
unfolding least_spanning spanning_trees TotalReads LeastOf
total_reads g = at (least_total (directed g 0) (select (is_spanning g 0) (candidates (directed g 0)))) (least_of (directed g 0) (select (is_spanning g 0) (candidates (directed g 0))))
  where
    at : (o : Option ℕ) → LeastOf (directed g 0) (select (is_spanning g 0) (candidates (directed g 0))) o → TotalReads g o
    at none e =
        λ qs t.
        some_there (select (is_spanning g 0) (candidates (directed g 0))) e
        ((any_selected (directed g 0) (is_spanning g 0) (spanning_arborescence g 0) (λ _. true)).1 (qs, spans_listed g 0 qs t, refl))
    at (some v) e =
        let w = (any_selected (directed g 0) (is_spanning g 0) (spanning_arborescence g 0) (λ qs. eqb (total (directed g 0) qs) v)).0 e.0 in
        let all = (all_selected (directed g 0) (is_spanning g 0) (spanning_arborescence g 0) (λ qs. leb v (total (directed g 0) qs))).0 e.1 in
        record {
          tree = w.0;
          spans = listed_spans g 0 w.0 w.1;
          attained = eqb-true (total (directed g 0) w.0) v w.2;
          least = λ qs t. leb-true v (total (directed g 0) qs) (all qs (spans_listed g 0 qs t));
        }

pub least_once : (g : Graph) (v w : ℕ) → LeastSpanning g v → LeastSpanning g w → v ≡ w
least_once g v w a b = le_antisymm (rw b.attained at (a.least b.tree b.spans)) (rw a.attained at (b.least a.tree a.spans))

-- THE RESULT
plan_not_none : (v : ℕ) → Plan v ≡ NoTree → ⊥
plan_not_none v e = let z : ◌≡◌ {A = ℕ} 0 1 = cc in omega arith

over_not_none : (v : ℕ) → Over v ≡ NoTree → ⊥
over_not_none v e = let z : ◌≡◌ {A = ℕ} 0 1 = cc in omega arith

pub result_reads : (g : Graph) (b : ℕ) → ResultReads g b (graph_outcome g 0 b)
unfolding graph_outcome outcome_at TotalReads
result_reads g b = at (least_spanning g 0) (total_reads g)
  where
    by : (w : ℕ) → LeastSpanning g w → (t : Bool) → leb w b ≡ t → ResultReads g b (cond t (Plan w) (Over w))
    by w a true e =
        let l = leb-true w b e in
        record {
          plans = λ v. ((λ q. subst (λ (x : ℕ). LeastSpanning g x × (x ≤ b)) (plan_once w v q) (a, l)), (λ y. ap Plan (least_once g w v a y.0)));
          exceeds = λ v. ((λ q. absurd (plan_not_over w v q)), (λ y. let s = least_once g w v a y.0 in absurd (omega (arith, y.1))));
          fails = ((λ q. absurd (plan_not_none w q)), (λ y. absurd (y a.tree a.spans)));
        }
    by w a false e =
        let l = leb-false w b e in
        record {
          plans = λ v. ((λ q. absurd (plan_not_over v w (sym q))), (λ y. let s = least_once g w v a y.0 in absurd (omega (arith, y.1))));
          exceeds = λ v. ((λ q. subst (λ (x : ℕ). LeastSpanning g x × (b < x)) (over_once w v q) (a, l)), (λ y. ap Over (least_once g w v a y.0)));
          fails = ((λ q. absurd (over_not_none w q)), (λ y. absurd (y a.tree a.spans)));
        }

    at : (o : Option ℕ) → TotalReads g o → ResultReads g b (outcome_at b o)
    at none n =
        record {
          plans = λ v. ((λ q. absurd (plan_not_none v (sym q))), (λ y. absurd (n y.0.tree y.0.spans)));
          exceeds = λ v. ((λ q. absurd (over_not_none v (sym q))), (λ y. absurd (n y.0.tree y.0.spans)));
          fails = ((λ _. n), (λ _. refl));
        }
    at (some w) a = by w a (leb w b) refl
