-- ONE PLAN (02, A10): "Two classes load one card and see different cheapest trees. The feeder list is now, among all
-- cheapest feed trees, the first when compared position by position. It depends on root, marks and prices alone, not on
-- the order of presses or take-backs". Here of looks at the end of any two runs that come to the same; of a run that
-- goes on with budget presses alone, or with presses that are all taken back; and of boards that are called equal.
-- Assumes nothing.
use mathlib.Core.Path.{◌≡◌, refl, sym, ap, ◌∙◌}
use mathlib.Core.Bool.{Bool, true, false, ◌&&◌, not, cond, true≢false}
use mathlib.Core.List.{List, [], ◌∷◌, ◌++◌, map}
use Prim.Native.Nat.{ℕ, ◌*◌}
use native.Mathlib.Omega.{arith}
use lib.Dec.{ltb, leb}
use lib.ListN.{take}
use Rattle.instance.specs.Limits.{max_budget, max_records}
use Rattle.instance.specs.Refusals.{bad_budget, history_full}
use Rattle.instance.specs.Instance.{Instance, is_arc, with_budget}
use Rattle.instance.specs.Candidates.{first_tree}
use Rattle.instance.specs.Same.{SameInstance}
use Rattle.theory.proofs.FirstLaws.{first_same, first_budget, same_first}
use Rattle.theory.proofs.SameOutcomes.{arcs_same, same_outcome, same_states}
use Rattle.commands.specs.Valid.{valid}
use Rattle.commands.specs.Commands.{Command, set_mark, set_marks, set_budget, undo}
use Rattle.commands.specs.Changes.{is_undo}
use Rattle.commands.specs.Heads.{heads_below, names_any}
use Rattle.commands.specs.Log.{Entry, entry_mark, entry_marks, entry_budget, Log, Noted, with_entries, log_length, unnoted, noted, note_arcs, note_mark, note_marks, note_budget, note_undo, note}
use Rattle.commands.specs.LogLists.{Input, single, list, note_list, input_after}
use Rattle.commands.specs.Effective.{effective_mark, effective_budget, effective}
use Rattle.commands.specs.SameBoard.{SameBoard}
use Rattle.commands.proofs.SameBoardLaws.{same_valid}
use Rattle.board.specs.ModelOf.{model_of, instance_of}
use Rattle.board.specs.declared.Board.{Board}
use Rattle.board.specs.declared.Answered.{Answered}
use Rattle.history_format.specs.HistoryCard.{open_refusal, model_in}
use Rattle.planner.specs.declared.View.{View}
use Rattle.planner.specs.Looking.{Buffers, short_for}
use Rattle.planner.specs.Replaying.{log_in}
use Rattle.planner.proofs.Learnt.{OpenedBy, Looked}
use Rattle.demands.proofs.Runs.{Run}
use Rattle.demands.proofs.DemandTwo.{demand_2}
use Rattle.demands.proofs.PlansElsewhere.{outcome_in}
use Rattle.demands.proofs.DemandThree.{demand_3}

-- A LOOK AFTER A RUN: a card that opens, any calls, and a look into buffers that are long enough
pub record Seen (card : List ℕ) (is : List Input) (old new : Buffers) : Type 0 where
  pub opens : open_refusal card ≡ 0
  pub opened : Answered
  pub by_opening : OpenedBy card opened
  pub answers : List ℕ
  pub last : Board
  pub by_calls : Run is opened.board answers last
  pub view : View
  pub by_looking : Looked last old new view
  pub long : short_for (model_in card).instance.n old ≡ false

-- the feeder list that it shows, and the instance that it goes by
abbrev pub parents_seen : (card : List ℕ) → Buffers → List ℕ
parents_seen ws new = take (model_in ws).instance.n new.parents

abbrev pub reached : (card : List ℕ) → List Input → Instance
reached ws is = effective (input_after is (log_in ws))

pub seen_first : {ws : List ℕ} {is : List Input} {old new : Buffers} → Seen ws is old new → parents_seen ws new ≡ first_tree (reached ws is)
seen_first {ws} {is} {old} {new} l =
    (demand_3 ws is l.opened l.answers l.last l.view old new l.opens l.by_opening l.by_calls l.by_looking).parents_shown l.long

-- THE CLAIM. "It depends on root, marks and prices alone": equal positions and root and, where a link can be, equal
-- prices and marks; the budgets need not be equal
abbrev pub SameButBudget : (s t : Instance) → Type 0
SameButBudget s t = SameInstance s (with_budget s.budget t)

pub one_plan :
    {ws us : List ℕ} {is js : List Input} {old new old' new' : Buffers} → Seen ws is old new → Seen us js old' new' →
    SameButBudget (reached ws is) (reached us js) → parents_seen ws new ≡ parents_seen us new'
one_plan {ws} {us} {is} {js} a b e = seen_first a ∙ same_first (reached ws is) (reached us js) e ∙ sym (seen_first b)

-- MORE CALLS AFTER A RUN
after_all : (is js : List Input) (k : Log) → input_after (is ++ js) k ≡ input_after js (input_after is k)
unfolding input_after
after_all [] js k = refl
after_all (single c ∷ is) js k = after_all is js (note c k).log
after_all (list cs ∷ is) js k = after_all is js (note_list cs k).log

-- whatever keeps the first tree of the log that a run left shows the same list
first_stays :
    {ws : List ℕ} {is : List Input} {old new old' new' : Buffers} (js : List Input) → Seen ws is old new → Seen ws (is ++ js) old' new' →
    first_tree (effective (input_after js (input_after is (log_in ws)))) ≡ first_tree (reached ws is) → parents_seen ws new ≡ parents_seen ws new'
first_stays {ws} {is} js a b e = seen_first a ∙ sym e ∙ ap (λ (k : Log). first_tree (effective k)) (sym (after_all is js (log_in ws))) ∙ sym (seen_first b)

-- budgets, accepted or refused
budget_first : (v : ℕ) (k : Log) → first_tree (effective (note (set_budget v) k).log) ≡ first_tree (effective k)
unfolding note note_budget noted unnoted with_entries effective effective_mark effective_budget
budget_first v k = go (ltb max_budget v) (leb max_records (log_length k))
  where
    go : (t u : Bool)
        → first_tree (effective (cond t (unnoted bad_budget k) (cond u (unnoted history_full k) (noted (entry_budget v ∷ k.entries) k))).log) ≡ first_tree (effective k)
    go true u = refl
    go false true = refl
    go false false = first_budget v (effective k)

abbrev pub budgets : List ℕ → List Input
budgets vs = map (λ v. single (set_budget v)) vs

budgets_first : (vs : List ℕ) (k : Log) → first_tree (effective (input_after (budgets vs) k)) ≡ first_tree (effective k)
unfolding input_after
budgets_first [] k = refl
budgets_first (v ∷ vs) k = budgets_first vs (note (set_budget v) k).log ∙ budget_first v k

pub after_budgets :
    {ws : List ℕ} {is : List Input} {old new old' new' : Buffers} (vs : List ℕ) → Seen ws is old new → Seen ws (is ++ budgets vs) old' new' →
    parents_seen ws new ≡ parents_seen ws new'
after_budgets {ws} {is} vs a b = first_stays (budgets vs) a b (budgets_first vs (input_after is (log_in ws)))

-- presses that were taken back, each after those that came after it
pub data TakenBack : List Input → Log → Type 0 where
  nothing : {k : Log} → TakenBack [] k
  press :
      {c : Command} {is js : List Input} {k : Log} → is_undo c ≡ false → (note c k).answer ≡ 0 → TakenBack is (note c k).log → TakenBack js k →
      TakenBack (single c ∷ (is ++ (single undo ∷ js))) k

arcs_struck : (x y z : Bool) (e : Entry) (k : Log) → (note_arcs x y z e k).answer ≡ 0 → (note undo (note_arcs x y z e k).log).log ≡ k
unfolding note note_arcs note_undo noted unnoted with_entries
arcs_struck true y z e k a = absurd (omega (arith, a))
arcs_struck false true z e k a = absurd (omega (arith, a))
arcs_struck false false true e k a = absurd (omega (arith, a))
arcs_struck false false false e k a = refl

struck : (c : Command) (k : Log) → is_undo c ≡ false → (note c k).answer ≡ 0 → (note undo (note c k).log).log ≡ k
unfolding note note_mark note_marks note_budget note_undo noted unnoted with_entries is_undo
struck (set_mark m t h) k n a =
    arcs_struck (not (ltb t k.card.n && ltb h k.card.n)) (not (is_arc k.card t h)) (leb max_records (log_length k)) (entry_mark m t h) k a
struck (set_marks m t c) k n a =
    arcs_struck (not (ltb t k.card.n && heads_below k.card.n c)) (not (names_any k.card t c)) (leb max_records (log_length k)) (entry_marks m t c) k a
struck (set_budget v) k n a = budget (ltb max_budget v) (leb max_records (log_length k)) a
  where
    after : (x y : Bool) → Noted
    after x y = cond x (unnoted bad_budget k) (cond y (unnoted history_full k) (noted (entry_budget v ∷ k.entries) k))

    budget : (x y : Bool) → (after x y).answer ≡ 0 → (note undo (after x y).log).log ≡ k
    budget true y a = absurd (omega (arith, a))
    budget false true a = absurd (omega (arith, a))
    budget false false a = refl
struck undo k n a = absurd (true≢false n)

back_again : {is : List Input} {k : Log} → TakenBack is k → input_after is k ≡ k
unfolding input_after
back_again nothing = refl
back_again (press {c} {is} {js} {k} n a x y) =
    after_all is (single undo ∷ js) (note c k).log ∙ ap (λ (l : Log). input_after js (note undo l).log) (back_again x)
    ∙ ap (input_after js) (struck c k n a) ∙ back_again y

pub after_take_backs :
    {ws : List ℕ} {is js : List Input} {old new old' new' : Buffers} → Seen ws is old new → Seen ws (is ++ js) old' new' →
    TakenBack js (input_after is (log_in ws)) → parents_seen ws new ≡ parents_seen ws new'
after_take_backs {js = js} a b t = first_stays js a b (ap (λ (k : Log). first_tree (effective k)) (back_again t))

-- BOARDS THAT ARE CALLED EQUAL show alike but for the cuts, which are free
pub record ShownAlike (a b : Board) (u v : View) (new new' : Buffers) : Type 0 where
  pub same_result : outcome_in u ≡ outcome_in v
  pub same_parents : take a.n new.parents ≡ take b.n new'.parents
  pub states_alike : take (a.n * a.n) new.states ≡ take (b.n * b.n) new'.states

pub same_look :
    {a b : Board} {u v : View} {old new old' new' : Buffers} → SameBoard (model_of a) (model_of b) → valid (model_of a) ≡ true →
    Looked a old new u → short_for a.n old ≡ false → Looked b old' new' v → short_for b.n old' ≡ false → ShownAlike a b u v new new'
same_look {a} {b} {u} {v} {old} {new} {old'} {new'} s g x t y t' =
    let d = demand_2 a u old new x g t in
    let e = demand_2 b v old' new' y (sym (same_valid (model_of a) (model_of b) s) ∙ g) t' in
    let i = instance_of a in
    let j = instance_of b in
    record {
      same_result = ap outcome_in d.shown ∙ same_outcome i j s.same_instances ∙ sym (ap outcome_in e.shown);
      same_parents = d.in_parents ∙ first_same i j (arcs_same i j s.same_instances) ∙ sym e.in_parents;
      states_alike = d.in_states ∙ same_states i j s.same_instances ∙ sym e.in_states;
    }
