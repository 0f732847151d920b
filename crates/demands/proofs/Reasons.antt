-- WHY A LINK IS CLOSED, OPEN OR SURE, of the calls: what `why` and `plan_without` give decides the state that a look
-- shows; and after any run on a freshly opened card both go by the log, and by whom is the log's. Assumes nothing.
use mathlib.Core.Path.{◌≡◌, refl, sym, ap, ◌∙◌, subst}
use mathlib.Core.Bool.{Bool, true, false}
use mathlib.Core.List.{List}
use mathlib.Core.Logic.{inl, inr}
use Prim.Native.Nat.{ℕ, ◌+◌, ◌*◌, ◌≤◌}
use native.Mathlib.Omega.{arith}
use lib.Dec.{eqb}
use lib.ListN.{length, take, get_or}
use Rattle.instance.specs.Limits.{max_vertices, banned}
use Rattle.instance.specs.Instance.{Instance, mark, is_arc}
use Rattle.instance.specs.Arborescence.{other_pinned}
use Rattle.instance.specs.States.{outcome, state, states}
use Rattle.theory.proofs.StateLaws.{state_only, states_read}
use Rattle.commands.specs.LogLists.{Input, input_after}
use Rattle.commands.specs.Effective.{effective}
use Rattle.commands.specs.Setters.{setter, log_place}
use Rattle.commands.proofs.SettersLaws.{tied_setter}
use Rattle.board.specs.ModelOf.{model_of, instance_of}
use Rattle.board.specs.declared.Board.{Board}
use Rattle.board.specs.declared.Answered.{Answered}
use Rattle.history_format.specs.HistoryCard.{open_refusal}
use Rattle.witness.specs.Witness.{forced_instance, deleted_instance, state_by}
use Rattle.witness.proofs.LimitLaws.{state_either}
use Rattle.witness.proofs.WitnessLaws.{witnessed}
use Rattle.planner.specs.declared.View.{View}
use Rattle.planner.specs.declared.Reason.{Reason}
use Rattle.planner.specs.declared.Reason.TheVariants.{Banned, Rival, Priced, Refused}
use Rattle.planner.specs.Looking.{Buffers, answer_of, short_for}
use Rattle.planner.specs.Explaining.{reason_answer, TreeBuffers, explain_answer, explain_refusal, ExplainsArc, ExplainsBy, Explains, PlansWithoutAt, PlansWithout}
use Rattle.planner.specs.Replaying.{log_in}
use Rattle.planner.proofs.OpeningLaws.{opened_starts}
use Rattle.planner.proofs.ExplainingLaws.{Explainable, explainable, explainable_small, explains_answer, plan_without_answer, explains_alike}
use Rattle.planner.proofs.Learnt.{OpenedBy, opened_by, Looked, Explained, explained, PlannedWithout, planned_without}
use Rattle.demands.proofs.DemandTwo.{demand_2}
use Rattle.demands.proofs.PlansElsewhere.{outcome_in}
use Rattle.demands.proofs.Runs.{Run, run_follows}

-- THE STATE by what both calls give: closed where the link is banned or has a rival, else by both outcomes
abbrev pub reason_state : (budget : ℕ) → Reason → View → ℕ
reason_state b (Banned k) v = 1
reason_state b (Rival g k) v = 1
reason_state b (Priced o k) v = state_by b o (outcome_in v)
reason_state b (Refused a) v = 0

arc_state :
    (x y : Bool) (s : Instance) (who : ℕ → ℕ → ℕ) (t h : ℕ) (old new : TreeBuffers) (r : Reason) (v : View) → eqb (mark s t h) banned ≡ x → other_pinned s t h ≡ y →
    s.n ≤ max_vertices → is_arc s t h ≡ true → ExplainsArc x y s who t h old new r → outcome_in v ≡ outcome (deleted_instance s t h) →
    state s t h ≡ reason_state s.budget r v
unfolding ExplainsArc
arc_state true y s who t h old new r v b p small a e o = (witnessed s t h small a).excluded.1 (inl b) ∙ sym (ap (λ (q : Reason). reason_state s.budget q v) e.0)
arc_state false true s who t h old new r v b p small a e o =
    (witnessed s t h small a).excluded.1 (inr (inl p)) ∙ sym (ap (λ (q : Reason). reason_state s.budget q v) e.0)
arc_state false false s who t h old new r v b p small a e o =
    state_either s t h small a ∙ ap (state_by s.budget (outcome (forced_instance s t h))) (sym o)
    ∙ sym (ap (λ (q : Reason). reason_state s.budget q v) e.1)

module _ {b : Board} {t h : ℕ} {old new old' new' : TreeBuffers} {r : Reason} {v : View} (x : Explained b t h old new r) (y : PlannedWithout b t h old' new' v)
    (not_refused : reason_answer r ≡ 0) (shown : answer_of v ≡ 0) where
  abbrev s : Instance
  s = instance_of b

  able : Explainable (model_of b) t h (length old.parents) (length old.cuts)
  unfolding Explains
  able = explainable (model_of b) t h _ _ (sym (explains_answer _ s _ t h old new r (explained x)) ∙ not_refused)

  without_shown : outcome_in v ≡ outcome (deleted_instance s t h)
  unfolding PlansWithout PlansWithoutAt
  without_shown =
      let k = explain_refusal (model_of b) t h (length old'.parents) (length old'.cuts) in
      let e : k ≡ 0 = sym (plan_without_answer k s t h old' new' v (planned_without y)) ∙ shown in
      let z : PlansWithoutAt 0 s t h old' new' v = subst (λ (j : ℕ). PlansWithoutAt j s t h old' new' v) e (planned_without y) in
      ap outcome_in z.1

  pub state_explained : state (instance_of b) t h ≡ reason_state b.budget r v
  unfolding Explains ExplainsBy
  state_explained =
      let k = explain_refusal (model_of b) t h (length old.parents) (length old.cuts) in
      let who = setter (model_of b).history in
      let e : k ≡ 0 = sym (explains_answer k s who t h old new r (explained x)) ∙ not_refused in
      let z : ExplainsBy 0 s who t h old new r = subst (λ (j : ℕ). ExplainsBy j s who t h old new r) e (explained x) in
      arc_state (eqb (mark s t h) banned) (other_pinned s t h) s who t h old new r v refl refl
      (explainable_small (model_of b) t h _ _ able) able.arc z without_shown

  -- "so every state of a look has its witness"
  pub state_shown :
      {u : View} {before after : Buffers} → Looked b before after u → short_for b.n before ≡ false →
      get_or (take (b.n * b.n) after.states) (t * b.n + h) 0 ≡ reason_state b.budget r v
  state_shown {u} {before} {after} l z =
      let d = demand_2 b u before after l able.is_valid z in
      ap (λ (vs : List ℕ). get_or vs (t * b.n + h) 0) d.in_states
      ∙ state_only s t h (get_or (states s) (t * b.n + h) 0) ((states_read s).reads t h able.tail_below able.head_below) ∙ state_explained

-- AFTER ANY RUN on a freshly opened card, one claim about the list: the marks, the budget and who set them are the
-- log's; "By whom" is "the last standing press that names the link, or the card" (`set_by`, Setters)
pub why_follows :
    (ws : List ℕ) (is : List Input) (o : Answered) (xs : List ℕ) (last : Board) → open_refusal ws ≡ 0 → OpenedBy ws o → Run is o.board xs last →
    {t h : ℕ} {old new : TreeBuffers} {r : Reason} → Explained last t h old new r → let k = input_after is (log_in ws) in
    ExplainsBy (explain_answer true (effective k) t h (length old.parents) (length old.cuts)) (effective k) (log_place k) t h old new r
unfolding Explains
why_follows ws is o xs last z p run {t} {h} {old} {new} {r} x =
    let s = opened_starts ws o (opened_by p) z in
    let f = (run_follows run (log_in ws) (record { is_valid = s.good; tied = s.tied })).follows in
    let k = input_after is (log_in ws) in
    let m = model_of last in
    let a = length old.parents in
    let c = length old.cuts in
    let named : explain_refusal m t h a c ≡ 0 → (g : ℕ) → setter m.history g h ≡ log_place k g h =
    λ e g. let y = explainable m t h a c e in tied_setter m k f.tied g h (omega (arith, y.head_below, explainable_small m t h a c y)) in
    let by_log = explains_alike (explain_refusal m t h a c) m.instance (setter m.history) (log_place k) t h old new r named (explained x) in
    subst (λ (i : Instance). ExplainsBy (explain_answer true i t h a c) i (log_place k) t h old new r) f.tied.same_instance
    (subst (λ (g : Bool). ExplainsBy (explain_answer g m.instance t h a c) m.instance (log_place k) t h old new r) f.is_valid by_log)

pub without_follows :
    (ws : List ℕ) (is : List Input) (o : Answered) (xs : List ℕ) (last : Board) → open_refusal ws ≡ 0 → OpenedBy ws o → Run is o.board xs last →
    {t h : ℕ} {old new : TreeBuffers} {v : View} → PlannedWithout last t h old new v → let k = input_after is (log_in ws) in
    PlansWithoutAt (explain_answer true (effective k) t h (length old.parents) (length old.cuts)) (effective k) t h old new v
unfolding PlansWithout
without_follows ws is o xs last z p run {t} {h} {old} {new} {v} x =
    let s = opened_starts ws o (opened_by p) z in
    let f = (run_follows run (log_in ws) (record { is_valid = s.good; tied = s.tied })).follows in
    let m = model_of last in
    let a = length old.parents in
    let c = length old.cuts in
    subst (λ (i : Instance). PlansWithoutAt (explain_answer true i t h a c) i t h old new v) f.tied.same_instance
    (subst (λ (g : Bool). PlansWithoutAt (explain_answer g m.instance t h a c) m.instance t h old new v) f.is_valid (planned_without x))
