-- PASSIVE RUNS (02, A11), of the call: whatever it was handed and did not refuse, what it answers and what both buffers
-- hold afterwards, in 02's words. The outcome, the states and the later places are unique. Which cheapest spanning tree
-- has its replacement costs in the buffer is free, and can be read off the buffer. Assumes nothing.
use mathlib.Core.Path.{◌≡◌, refl, sym, ap, ◌∙◌, subst}
use mathlib.Core.Bool.{true, false, cond}
use mathlib.Core.List.{List}
use mathlib.Core.Logic.{◌↔◌, ◌⊎◌, inl, inr, ⊎_elim}
use mathlib.Core.Option.{Option, none, some}
use Prim.Native.Nat.{ℕ, ◌+◌, ◌*◌, ◌/◌, ◌%◌, ◌≤◌, ◌<◌}
use native.Mathlib.Omega.{arith}
use lib.Arith.{digits_lt}
use lib.ListN.{length, get_or, drop, replicate, get_or-append}
use Rattle.base.specs.Lists.{tabulate, in_front}
use Rattle.base.proofs.BoolLaws.{not_both, is_false}
use Rattle.base.proofs.FrontLaws.{front_drop}
use Rattle.base.proofs.GridLaws.{grid_at_row, grid_at_column}
use Rattle.base.proofs.ListLaws.{replicate_at, length_tabulate, get_d_tabulate}
use Rattle.instance.specs.Limits.{no_parent}
use Rattle.instance.specs.Arborescence.{parent, total}
use Rattle.spanning.specs.Graph.{Graph, graph_of, is_pinned}
use Rattle.spanning.specs.Refusal.{ValidGraph}
use Rattle.spanning.specs.SpanningTrees.{directed, joins, least_spanning}
use Rattle.spanning.specs.EdgeStates.{graph_outcome, edge_state, edge_states}
use Rattle.spanning.specs.ReplacementCosts.{no_replacement, not_in_tree, replacement_cost, costs_shown}
use Rattle.spanning.specs.Shown.{CheapestTree}
use Rattle.spanning.specs.Spans.{Cheapest, CheapestWithout}
use Rattle.spanning.proofs.JoinsLaws.{joins_not, joins_alike}
use Rattle.spanning.proofs.GraphLaws.{directed_total_most}
use Rattle.spanning.proofs.SpansLaws.{listed_spans}
use Rattle.spanning.proofs.CostLaws.{cost_reads, cost_alike}
use Rattle.spanning.proofs.EdgeStateLaws.{state_alike}
use Rattle.runs.specs.Planning.{RunsView, Shown, view_number}
use Rattle.runs.proofs.RefusalLaws.{not_refused}
use Rattle.runs.proofs.Learnt.{RunsPlanned, runs_planned}
use Rattle.demands.proofs.PassiveNumbers.{runs_passed, runs_accepted}
use Rattle.demands.proofs.PassiveResults.{Spanning, LeastSpanning, ResultReads, KeepsMarks, spanning_marks, TotalReads, total_reads, least_once, result_reads}
use Rattle.demands.proofs.PassiveStates.{CodeReads, code_reads}

-- THE WORDS
-- what a place of two vertices holds; "n times n each"
abbrev pub at_place : (n : ℕ) → (buffer : List ℕ) → (i j : ℕ) → ℕ
at_place n l i j = get_or l (i * n + j) 0

-- c is the replacement cost of an edge of the tree: "the cheapest price increase of a tree without it, with other marks
-- kept and budget ignored, or 4,294,967,295 if there is none or the run is pinned"
pub record CostReads (g : Graph) (tree : List ℕ) (i j c : ℕ) : Type 0 where
  pub least_increase : c < not_in_tree → CheapestWithout (directed g 0) (is_pinned g) tree i j c
  pub none_without : (c ≡ no_replacement) ↔ ((qs : List ℕ) → Spanning g qs → joins qs i j ≡ true)
  pub one_of_both : (c < not_in_tree) ⊎ (c ≡ no_replacement)
  pub pinned_none : is_pinned g i j ≡ true → c ≡ no_replacement

pub record PassiveRuns (g : Graph) (budget : ℕ) (states states' costs costs' : List ℕ) (r : RunsView) : Type 0 where
  -- "outcome and total as a look yields them"
  pub shown : r ≡ Shown (graph_outcome g 0 budget)
  pub right : ResultReads g budget (graph_outcome g 0 budget)
  -- "States .. fill the first n times n places .. both ways alike .. later places keep their contents"
  pub codes : (i j : ℕ) → i < g.n → j < g.n → CodeReads g budget i j (at_place g.n states' i j)
  pub codes_alike : (i j : ℕ) → i < g.n → j < g.n → at_place g.n states' i j ≡ at_place g.n states' j i
  pub states_later : drop (g.n * g.n) states' ≡ drop (g.n * g.n) states
  -- "Which cheapest tree joins the free results, named with its properties"
  pub tree : List ℕ
  pub cheapest : (v : ℕ) → LeastSpanning g v → Spanning g tree × (total (directed g 0) tree ≡ v)
  pub marks_right : (v : ℕ) → LeastSpanning g v → KeepsMarks g tree
  pub without_tree : ((qs : List ℕ) → Spanning g qs → ⊥) → (i j : ℕ) → i < g.n → j < g.n → joins tree i j ≡ false
  -- "4,294,967,294 for whatever is not in the tree", and for nothing else: the tree can be read off
  pub read_off : (i j : ℕ) → i < g.n → j < g.n → (at_place g.n costs' i j ≡ not_in_tree) ↔ (joins tree i j ≡ false)
  -- "for each run in the tree its replacement price"
  pub costs_right : (i j : ℕ) → i < g.n → j < g.n → joins tree i j ≡ true → CostReads g tree i j (at_place g.n costs' i j)
  pub costs_alike : (i j : ℕ) → i < g.n → j < g.n → at_place g.n costs' i j ≡ at_place g.n costs' j i
  pub costs_later : drop (g.n * g.n) costs' ≡ drop (g.n * g.n) costs

-- A PLACE of what was put in front
module _ (n : ℕ) (f : ℕ → ℕ → ℕ) (old new : List ℕ) (e : new ≡ in_front (tabulate (n * n) (λ k. f (k / n) (k % n))) old) where
  abbrev front : List ℕ
  front = tabulate (n * n) (λ k. f (k / n) (k % n))

  place_is : (i j : ℕ) → i < n → j < n → at_place n new i j ≡ f i j
  place_is i j ib jb =
      let l : i * n + j < n * n = digits_lt ib jb in
      let s = length_tabulate (n * n) (λ k. f (k / n) (k % n)) in
      ap (λ (x : List ℕ). at_place n x i j) e ∙ get_or-append front (drop (length front) old) 0 (i * n + j) (rw s l)
      ∙ get_d_tabulate (n * n) (λ k. f (k / n) (k % n)) (i * n + j) 0 l ∙ rw (grid_at_row n i j jb, grid_at_column n i j jb)

  later_is : drop (n * n) new ≡ drop (n * n) old
  later_is = ap (drop (n * n)) e ∙ front_drop front old (n * n) (length_tabulate (n * n) (λ k. f (k / n) (k % n)))

-- THE TREE
module _ (g : Graph) (valid : ValidGraph g) (tree : List ℕ) where
  -- there is none, or it is a cheapest one
  tree_cases : (o : Option ℕ) → CheapestTree g o tree → TotalReads g o
      → (((qs : List ℕ) → Spanning g qs → ⊥) × (tree ≡ replicate g.n no_parent)) ⊎ Cheapest (directed g 0) (is_pinned g) tree
  unfolding CheapestTree TotalReads
  tree_cases none c n = inl (n, c)
  tree_cases (some v) c a = inr (record { spans = listed_spans g 0 tree c.0; least = λ qs t. subst (λ (x : ℕ). x ≤ total (directed g 0) qs) (sym c.1) (a.least qs t) })

  nothing_joined : tree ≡ replicate g.n no_parent → (i j : ℕ) → i < g.n → j < g.n → joins tree i j ≡ false
  nothing_joined e i j ib jb =
      let s = valid.small in
      let p : parent tree i ≡ no_parent = ap (λ (l : List ℕ). parent l i) e ∙ replicate_at g.n i no_parent in
      let q : parent tree j ≡ no_parent = ap (λ (l : List ℕ). parent l j) e ∙ replicate_at g.n j no_parent in
      joins_not tree i j (λ z. omega arith) (λ z. omega arith)

  module _ (c : CheapestTree g (least_spanning g 0) tree) where
    cases : (((qs : List ℕ) → Spanning g qs → ⊥) × (tree ≡ replicate g.n no_parent)) ⊎ Cheapest (directed g 0) (is_pinned g) tree
    cases = tree_cases (least_spanning g 0) c (total_reads g)

    best_of : (v : ℕ) → LeastSpanning g v → Cheapest (directed g 0) (is_pinned g) tree
    best_of v a = ⊎_elim (λ x. absurd (x.0 a.tree a.spans)) (λ (x : Cheapest (directed g 0) (is_pinned g) tree). x) cases

    total_of : (v : ℕ) → LeastSpanning g v → total (directed g 0) tree ≡ v
    total_of v a =
        let b = best_of v a in least_once g (total (directed g 0) tree) v (record { tree = tree; spans = b.spans; attained = refl; least = b.least }) a

    none_joined : ((qs : List ℕ) → Spanning g qs → ⊥) → (i j : ℕ) → i < g.n → j < g.n → joins tree i j ≡ false
    none_joined n i j ib jb = ⊎_elim (λ x. nothing_joined x.1 i j ib jb) (λ (x : Cheapest (directed g 0) (is_pinned g) tree). absurd (n tree x.spans)) cases

    -- THE COST of an edge that it has
    module _ (i j : ℕ) (ib : i < g.n) (jb : j < g.n) (has : joins tree i j ≡ true) where
      abbrev cost : ℕ
      cost = replacement_cost g 0 i j

      best : Cheapest (directed g 0) (is_pinned g) tree
      best = ⊎_elim (λ x. absurd (not_both (joins tree i j) has (nothing_joined x.1 i j ib jb))) (λ (x : Cheapest (directed g 0) (is_pinned g) tree). x) cases

      cost_is : CostReads g tree i j cost
      cost_is =
          ⊎_elim
          (λ (x : (cost ≡ no_replacement) × ((qs : List ℕ) → Spanning g qs → joins qs i j ≡ true)).
          record {
            least_increase = λ l. let e = x.0 in absurd (omega arith);
            none_without = ((λ _. x.1), (λ _. x.0));
            one_of_both = inr x.0;
            pinned_none = λ _. x.0;
          })
          (λ (x : (cost < no_replacement) × CheapestWithout (directed g 0) (is_pinned g) tree i j cost).
          let y = x.1 in
          let m = directed_total_most g valid 0 valid.some y.made in
          let e = y.cost in
          let lacks : ((qs : List ℕ) → Spanning g qs → joins qs i j ≡ true) → ⊥ = λ h. not_both (joins y.made i j) (h y.made y.spans) y.lacks in
          record {
            least_increase = λ _. y;
            none_without = ((λ z. let l = x.0 in absurd (omega arith)), (λ h. absurd (lacks h)));
            one_of_both = inl (omega arith);
            pinned_none = λ p. absurd (lacks (λ qs t. t.keeps i j p));
          })
          (cost_reads g valid 0 valid.some tree best i j)

      cost_not : cost ≡ not_in_tree → ⊥
      cost_not z = ⊎_elim (λ (l : cost < not_in_tree). omega arith) (λ (e : cost ≡ no_replacement). omega arith) cost_is.one_of_both

-- THE THEOREM
pub passive_runs :
    {ws ms : List ℕ} {n b : ℕ} {ss ss' cs cs' : List ℕ} {r : RunsView} → RunsPlanned ws ms n b ss ss' cs cs' r → view_number r ≡ 0 →
    PassiveRuns (graph_of n ws ms) b ss ss' cs cs' r
unfolding edge_states costs_shown
passive_runs {ws} {ms} {n} {b} {ss} {ss'} {cs} {cs'} {r} p z =
    let g = graph_of n ws ms in
    let a = runs_accepted g b ss ss' cs cs' r (runs_planned p) z in
    let valid = not_refused g (length ss) (length cs) (runs_passed g b ss ss' cs cs' r (runs_planned p) z) in
    let t = a.shows.tree in
    let c = a.shows.cheapest in
    let put = place_is n (edge_state g 0 b) ss ss' a.shows.states_in in
    let f : ℕ → ℕ → ℕ = λ i j. cond (joins t i j) (replacement_cost g 0 i j) not_in_tree in
    let paid = place_is n f cs cs' a.shows.costs_in in
    let same : (i j : ℕ) → f i j ≡ f j i = λ i j. rw (joins_alike t i j, cost_alike g 0 i j) in
    record {
      shown = a.result;
      right = result_reads g b;
      codes = λ i j ib jb. subst (λ (x : ℕ). CodeReads g b i j x) (sym (put i j ib jb)) (code_reads g b i j);
      codes_alike = λ i j ib jb. put i j ib jb ∙ state_alike g valid 0 b i j ∙ sym (put j i jb ib);
      states_later = later_is n (edge_state g 0 b) ss ss' a.shows.states_in;
      tree = t;
      cheapest = λ v l. ((best_of g valid t c v l).spans, total_of g valid t c v l);
      marks_right = λ v l. spanning_marks g valid t (best_of g valid t c v l).spans;
      without_tree = none_joined g valid t c;
      read_off =
          λ i j ib jb. (
            (λ x. is_false (joins t i j) (λ h. cost_not g valid t c i j ib jb h (rw h at (sym (paid i j ib jb) ∙ x)))),
            (λ h. paid i j ib jb ∙ rw h),
          );
      costs_right = λ i j ib jb h. subst (λ (x : ℕ). CostReads g t i j x) (sym (paid i j ib jb ∙ rw h)) (cost_is g valid t c i j ib jb h);
      costs_alike = λ i j ib jb. paid i j ib jb ∙ same i j ∙ sym (paid j i jb ib);
      costs_later = later_is n f cs cs' a.shows.costs_in;
    }
