-- DEMAND 2, from the look's own contract: plan, over and none exactly when they should be; for plan and over alike, the
-- parents in the buffer are those of an arborescence that keeps pins and bans and has the total shown, the first of the
-- cheapest ones (02, A10), and the cuts in the buffer, each of a value of at least 1 and zeros after them, prove by
-- weak duality that none is cheaper. Assumes nothing.
use mathlib.Core.Path.{◌≡◌}
use mathlib.Core.Bool.{true, false}
use mathlib.Core.List.{List}
use mathlib.Core.Logic.{◌⊎◌, inl, inr}
use Prim.Native.Nat.{ℕ, ◌*◌, ◌≤◌}
use native.Mathlib.Omega.{arith}
use lib.ListN.{length, take, replicate}
use Rattle.instance.specs.Limits.{banned, no_parent, cut_words}
use Rattle.instance.specs.Instance.{Instance, mark, is_arc}
use Rattle.instance.specs.Arborescence.{is_pinned, is_arborescence, total, uses}
use Rattle.instance.specs.Candidates.{first_tree}
use Rattle.instance.specs.Cuts.{Cut, words_of, values, Proves}
use Rattle.instance.specs.declared.Outcome.{Outcome}
use Rattle.instance.specs.declared.Outcome.TheVariants.{Plan, Over, NoTree}
use Rattle.instance.specs.States.{outcome, state, states}
use Rattle.theory.specs.Readings.{LeastTotal, OutcomeReads, FirstReads}
use Rattle.theory.proofs.Duality.{weak_duality, no_entry}
use Rattle.theory.proofs.MarkLaws.{pinned_used, banned_unused}
use Rattle.theory.proofs.OutcomeLaws.{outcome_reads}
use Rattle.theory.proofs.FirstLaws.{first_reads, first_none}
use Rattle.theory.proofs.OutcomeStates.{cheapest_not_excluded}
use Rattle.commands.specs.Valid.{valid}
use Rattle.board.specs.ModelOf.{model_of, instance_of}
use Rattle.board.specs.declared.Board.{Board}
use Rattle.commands.proofs.ValidLaws.{valid_parts}
use Rattle.survey.specs.FirstPlan.{CutsShown}
use Rattle.planner.specs.declared.View.{View}
use Rattle.planner.specs.declared.View.TheVariants.{Shown}
use Rattle.planner.specs.Looking.{Buffers, short_for}
use Rattle.planner.proofs.CallSteps.{tree_front, states_front, words_front, looks_long}
use Rattle.planner.proofs.Learnt.{Looked, looked}

-- pins and bans are kept
pub record KeepsMarks (s : Instance) (parents : List ℕ) : Type 0 where
  pub pins : (t h : ℕ) → is_pinned s t h ≡ true → uses parents t h ≡ true
  pub bans : (t h : ℕ) → is_arc s t h ≡ true → mark s t h ≡ banned → uses parents t h ≡ false

-- a tree and what proves it cheapest: an arborescence of the total v that keeps the marks, none of whose arcs is shown
-- excluded, and cuts that prove v
pub record ProvedTree (s : Instance) (tree : List ℕ) (cuts : List Cut) (v : ℕ) : Type 0 where
  pub arborescence : is_arborescence s tree ≡ true
  pub costs : total s tree ≡ v
  pub marks_kept : KeepsMarks s tree
  pub arcs_not_excluded : (t h : ℕ) → is_arc s t h ≡ true → uses tree t h ≡ true → 2 ≤ state s t h
  pub price : Proves s cuts v

-- the cuts are free, and what the buffers hold is told by them and the instance: "The tree is then no longer one of the
-- free results; the cuts still are." (02, A10)
pub record Demand2 (s : Instance) (new : Buffers) (v : View) : Type 0 where
  pub cuts : List Cut
  pub shown : v ≡ Shown (outcome s) (length cuts)
  pub in_parents : take s.n new.parents ≡ first_tree s
  pub in_states : take (s.n * s.n) new.states ≡ states s
  pub in_cuts : take cut_words new.cuts ≡ words_of cuts
  pub right : OutcomeReads s (outcome s)
  -- "among all cheapest feed trees, the first when compared position by position" (02, A10); with none 255 everywhere
  pub first : (w : ℕ) → (outcome s ≡ Plan w) ⊎ (outcome s ≡ Over w) → FirstReads s (first_tree s)
  pub without_tree : outcome s ≡ NoTree → first_tree s ≡ replicate s.n no_parent
  pub cuts_shown : CutsShown (outcome s) s cuts
  pub proved : (w : ℕ) → (outcome s ≡ Plan w) ⊎ (outcome s ≡ Over w) → ProvedTree s (first_tree s) cuts w
  pub cheapest : (ps : List ℕ) → is_arborescence s ps ≡ true → values cuts ≤ total s ps

no_cheaper : (o : Outcome) (s : Instance) (cs : List Cut) → CutsShown o s cs → (ps : List ℕ) → is_arborescence s ps ≡ true → values cs ≤ total s ps
unfolding CutsShown
no_cheaper (Plan u) s cs c ps a = weak_duality s ps a cs c.feasible
no_cheaper (Over u) s cs c ps a = weak_duality s ps a cs c.feasible
no_cheaper NoTree s cs c ps a = absurd (no_entry s ps a c.0 c.2)

-- what is shown with plan and with over
module _ (s : Instance) where
  least_by : (w : ℕ) → (outcome s ≡ Plan w) ⊎ (outcome s ≡ Over w) → LeastTotal s w
  least_by w (inl e) = (((outcome_reads s).plans w).0 e).0
  least_by w (inr e) = (((outcome_reads s).exceeds w).0 e).0

  first_by : (w : ℕ) → LeastTotal s w → FirstReads s (first_tree s)
  first_by w least = first_reads s least.parents least.arborescence

  -- its total is the least one
  first_costs : (w : ℕ) → LeastTotal s w → total s (first_tree s) ≡ w
  first_costs w least =
      let f = first_by w least in
      let low = least.least (first_tree s) f.arborescence in
      let high = f.least least.parents least.arborescence in
      omega (arith, low, high, least.attained)

  module _ (cuts : List Cut) where
    proved_tree : (w : ℕ) → LeastTotal s w → Proves s cuts w → ProvedTree s (first_tree s) cuts w
    proved_tree w least c =
        let tree = first_tree s in
        let a = (first_by w least).arborescence in
        let e = first_costs w least in
        record {
          arborescence = a;
          costs = e;
          marks_kept = record { pins = pinned_used s tree a; bans = banned_unused s tree a };
          arcs_not_excluded = λ t h x u. cheapest_not_excluded s t h x tree w least a e u;
          price = c;
        }

    proves_by : (w : ℕ) → (outcome s ≡ Plan w) ⊎ (outcome s ≡ Over w) → CutsShown (outcome s) s cuts → Proves s cuts w
    unfolding CutsShown
    proves_by w (inl e) c = rw e at c
    proves_by w (inr e) c = rw e at c

-- whatever instance it is, the first tree and shown cuts with a total are a proved tree
pub shown_proved :
    (s : Instance) (cuts : List Cut) (w : ℕ) → (outcome s ≡ Plan w) ⊎ (outcome s ≡ Over w) → CutsShown (outcome s) s cuts → ProvedTree s (first_tree s) cuts w
shown_proved s cuts w e c = proved_tree s cuts w (least_by s w e) (proves_by s cuts w e c)

pub demand_2 :
    (b : Board) (v : View) (old new : Buffers) → Looked b old new v → valid (model_of b) ≡ true → short_for b.n old ≡ false → Demand2 (instance_of b) new v
demand_2 b v old new l g t =
    let s = instance_of b in
    let small = (valid_parts (model_of b) g).n_high in
    let x = looks_long b v old new g t (looked l) in
    record {
      cuts = x.cut_list;
      shown = x.result;
      in_parents = tree_front s v old new x;
      in_states = states_front s v old new x;
      in_cuts = words_front s v old new x small;
      right = outcome_reads s;
      first = λ w e. first_by s w (least_by s w e);
      without_tree = λ e. first_none s ((outcome_reads s).fails.0 e);
      cuts_shown = x.cuts_shown;
      proved = λ w e. shown_proved s x.cut_list w e x.cuts_shown;
      cheapest = no_cheaper (outcome s) s x.cut_list x.cuts_shown;
    }
