-- Instances with the same vertices, the same root and the same remaining arcs at the same weights have the same
-- arborescences, totals, cuts and cheapest total, whatever else their lists hold and whatever their budgets. Assumes
-- nothing.
use mathlib.Core.Path.{◌≡◌, refl, sym, ap, ◌∙◌, subst}
use mathlib.Core.Bool.{Bool, true, false, cond}
use mathlib.Core.List.{List, [], ◌∷◌}
use mathlib.Core.Option.{Option, none, some}
use Prim.Native.Nat.{ℕ, ◌≤◌, ◌<◌}
use lib.Dec.{eqb}
use lib.ListN.{length}
use Rattle.base.specs.Bounded.{sum_below}
use Rattle.base.proofs.BoolLaws.{is_false, not_both}
use Rattle.base.proofs.BoundedLaws.{sum_eq}
use Rattle.instance.specs.Limits.{cut_limit}
use Rattle.instance.specs.Instance.{Instance, with_budget, weight, mark, is_arc}
use Rattle.instance.specs.Arborescence.{is_pinned, other_pinned, remaining, parent, is_arborescence, total}
use Rattle.instance.specs.Candidates.{cheapest}
use Rattle.instance.specs.Cuts.{Cut, charged, set_ok, sets_ok, Feasible, Proves, NoEntry}
use Rattle.instance.proofs.ArborescenceLaws.{parents_size, root_parent, joined, make_arborescence}
use Rattle.theory.specs.Readings.{LeastTotal, NoArborescence, CheapestReads}
use Rattle.theory.proofs.OutcomeLaws.{cheapest_reads, cheapest_only}

pub record SameArcs (a b : Instance) : Type 0 where
  pub vertices : a.n ≡ b.n
  pub roots : a.root ≡ b.root
  pub arcs : (t h : ℕ) → remaining a t h ≡ remaining b t h
  pub weights : (t h : ℕ) → remaining a t h ≡ true → weight a t h ≡ weight b t h

pub same_back : (a b : Instance) → SameArcs a b → SameArcs b a
same_back a b e =
    record {
      vertices = sym e.vertices;
      roots = sym e.roots;
      arcs = λ t h. sym (e.arcs t h);
      weights = λ t h r. sym (e.weights t h (e.arcs t h ∙ r));
    }

-- WHATEVER THE BUDGET
module _ (b : ℕ) (s : Instance) where
  pub with_budget_arc : (t h : ℕ) → is_arc (with_budget b s) t h ≡ is_arc s t h
  unfolding is_arc weight
  with_budget_arc t h = refl

  pub with_budget_arcs : SameArcs (with_budget b s) s
  unfolding remaining is_arc other_pinned is_pinned mark weight
  with_budget_arcs = record { vertices = refl; roots = refl; arcs = λ t h. refl; weights = λ t h _. refl }

-- SAME ARBORESCENCES, TOTALS AND CUTS
module _ (a b : Instance) (e : SameArcs a b) where
  at_root : (v : ℕ) → eqb v b.root ≡ eqb v a.root
  at_root v = ap (λ (r : ℕ). eqb v r) (sym e.roots)

  below : (v : ℕ) → v < b.n → v < a.n
  below v l = rw e.vertices l

  pub same_arborescence : (ps : List ℕ) → is_arborescence a ps ≡ true → is_arborescence b ps ≡ true
  same_arborescence ps x =
      make_arborescence b ps (parents_size a ps x ∙ e.vertices) (λ v l r. root_parent a ps x v (below v l) (sym (at_root v) ∙ r))
      (λ v l r.
      let j = joined a ps x v (below v l) (sym (at_root v) ∙ r) in
      record { arc = sym (e.arcs (parent ps v) v) ∙ j.arc; reach = rw (e.vertices, e.roots) at j.reach })

  pub same_total : (ps : List ℕ) → is_arborescence a ps ≡ true → total a ps ≡ total b ps
  unfolding total
  same_total ps x =
      sum_eq a.n (λ v. cond (eqb v a.root) 0 (weight a (parent ps v) v)) (λ v. cond (eqb v b.root) 0 (weight b (parent ps v) v))
      (λ v l. at v l (eqb v a.root) refl)
      ∙ ap (λ (k : ℕ). sum_below k (λ v. cond (eqb v b.root) 0 (weight b (parent ps v) v))) e.vertices
    where
      at : (v : ℕ) → v < a.n → (c : Bool) → eqb v a.root ≡ c
          → cond (eqb v a.root) 0 (weight a (parent ps v) v) ≡ cond (eqb v b.root) 0 (weight b (parent ps v) v)
      at v l true r = rw (at_root v, r)
      at v l false r = rw (at_root v, r) (e.weights (parent ps v) v (joined a ps x v l r).arc)

  same_set : (c : ℕ) → set_ok a c ≡ set_ok b c
  unfolding set_ok
  same_set c = rw (e.vertices, e.roots)

  pub same_sets : (cs : List Cut) → sets_ok a cs ≡ sets_ok b cs
  unfolding sets_ok
  same_sets [] = refl
  same_sets (c ∷ cs) = rw (same_set c.set, same_sets cs)

  pub same_feasible : (cs : List Cut) → Feasible a cs → Feasible b cs
  same_feasible cs f =
      record {
        sets = sym (same_sets cs) ∙ f.sets;
        covered = λ t h r. let x = e.arcs t h ∙ r in subst (λ (w : ℕ). charged cs t h ≤ w) (e.weights t h x) (f.covered t h x);
      }

  pub same_proves : (cs : List Cut) (v : ℕ) → Proves a cs v → Proves b cs v
  same_proves cs v p =
      record {
        feasible = same_feasible cs p.feasible;
        positive = p.positive;
        few = subst (λ (k : ℕ). length cs ≤ cut_limit k) e.vertices p.few;
        adds = p.adds;
      }

  pub same_no_entry : (c : Cut) → NoEntry a c → NoEntry b c
  same_no_entry c p =
      record {
        set_good = sym (same_set c.set) ∙ p.set_good;
        value_zero = p.value_zero;
        shut = λ t h r. p.shut t h (e.arcs t h ∙ r);
      }

-- SAME CHEAPEST TOTAL
module _ (a b : Instance) (e : SameArcs a b) where
  back : (ps : List ℕ) → is_arborescence b ps ≡ true → is_arborescence a ps ≡ true
  back = same_arborescence b a (same_back a b e)

  least_there : (v : ℕ) → LeastTotal a v → LeastTotal b v
  least_there v l =
      record {
        parents = l.parents;
        arborescence = same_arborescence a b e l.parents l.arborescence;
        attained = sym (same_total a b e l.parents l.arborescence) ∙ l.attained;
        least = λ ps x. subst (λ (w : ℕ). v ≤ w) (same_total a b e ps (back ps x)) (l.least ps (back ps x));
      }

  none_there : NoArborescence a → NoArborescence b
  none_there n = λ ps. is_false (is_arborescence b ps) (λ x. not_both (is_arborescence a ps) (back ps x) (n ps))

  cheapest_there : (o : Option ℕ) → CheapestReads a o → CheapestReads b o
  unfolding CheapestReads
  cheapest_there none r = none_there r
  cheapest_there (some v) r = least_there v r

  pub same_cheapest : cheapest a ≡ cheapest b
  same_cheapest = cheapest_only b (cheapest a) (cheapest_there (cheapest a) (cheapest_reads a))
