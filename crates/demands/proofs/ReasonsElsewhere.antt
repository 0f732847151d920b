-- WHAT `why` AND `plan_without` SHOW IS CHECKED BY ANYONE (02, A6): after any run on a freshly opened card, the tree,
-- the total and the cuts of a priced link are accepted for the sheet with the link pinned, and those without a link
-- that is not pinned for the sheet with the link banned; a set that nothing enters is one there. So it is by a check
-- where there is room for that press. Assumes nothing.
use mathlib.Core.Path.{◌≡◌, refl, sym, ap, ◌∙◌, subst}
use mathlib.Core.Bool.{Bool, true, false, true≢false}
use mathlib.Core.List.{List, [], ◌∷◌}
use mathlib.Core.Logic.{◌⊎◌, inl, inr}
use Prim.Native.Nat.{ℕ, ◌≤◌}
use native.Mathlib.Omega.{arith}
use lib.Dec.{eqb}
use lib.ListN.{length, take}
use Rattle.base.proofs.FrontLaws.{front_take}
use Rattle.base.proofs.ListLaws.{length_tabulate}
use Rattle.instance.specs.Limits.{max_vertices, cells, cut_words, pinned, banned}
use Rattle.instance.specs.Marks.{mark_number}
use Rattle.instance.specs.Instance.{Instance, mark}
use Rattle.instance.specs.Arborescence.{is_pinned, other_pinned}
use Rattle.instance.specs.Candidates.{first_tree}
use Rattle.instance.specs.Cuts.{Cut, words_of, NoEntry}
use Rattle.instance.specs.States.{outcome}
use Rattle.instance.specs.declared.Mark.{Mark}
use Rattle.instance.specs.declared.Mark.TheVariants.{Pinned, Banned}
use Rattle.instance.specs.declared.Outcome.{Outcome}
use Rattle.instance.specs.declared.Outcome.TheVariants.{Plan, Over, NoTree}
use Rattle.theory.proofs.FirstLaws.{first_size}
use Rattle.theory.proofs.SameArcs.{SameArcs, same_no_entry}
use Rattle.certificate.specs.Certificate.{certificate_refusal}
use Rattle.certificate.specs.Readings.{Accepted}
use Rattle.certificate.proofs.CertificateLaws.{same_refusal, accepted_reads}
use Rattle.commands.specs.Model.{Model, with_mark}
use Rattle.commands.specs.Valid.{valid}
use Rattle.commands.specs.Commands.{set_mark, Result, refused, accepted, applied, marked}
use Rattle.commands.specs.LogLists.{Input}
use Rattle.commands.specs.Effective.{effective}
use Rattle.commands.specs.Setters.{setter}
use Rattle.commands.proofs.CommandLaws.{mark_cases}
use Rattle.commands.proofs.AnsweredLaws.{answered_applied}
use Rattle.board.specs.ModelOf.{model_of, instance_of}
use Rattle.board.specs.declared.Board.{Board}
use Rattle.board.specs.declared.Answered.{Answered}
use Rattle.board.proofs.CallLaws.{call_board, call_answer, call_valid}
use Rattle.board.proofs.RunLaws.{Called, called_answers}
use Rattle.history_format.specs.HistoryCard.{open_refusal}
use Rattle.survey.specs.FirstPlan.{CutsShown}
use Rattle.survey.proofs.ShownLaws.{words_length}
use Rattle.witness.specs.Witness.{forced_instance, deleted_instance}
use Rattle.planner.specs.declared.View.TheVariants.{Shown}
use Rattle.planner.specs.declared.Reason.{Reason}
use Rattle.planner.specs.declared.Reason.TheVariants as reasons
use Rattle.planner.specs.Explaining.{TreeBuffers, explain_refusal, ShowsPlan, ExplainsArc, ExplainsBy, Explains, PlansWithoutAt, PlansWithout}
use Rattle.planner.specs.Replaying.{log_in}
use Rattle.planner.proofs.OpeningLaws.{opened_starts}
use Rattle.planner.proofs.ExplainingLaws.{explainable, explainable_small, explains_answer, plan_without_answer}
use Rattle.planner.proofs.Learnt.{OpenedBy, opened_by, Checked, checked, Explained, explained, PlannedWithout, planned_without}
use Rattle.demands.proofs.DemandTwo.{shown_proved}
use Rattle.demands.proofs.MarkedArcs.{pinned_arcs, banned_arcs}
use Rattle.demands.proofs.PlansElsewhere.{outcome_in, pairs_in, own_plan}
use Rattle.demands.proofs.Runs.{Run, run_follows}

abbrev TotalIs : Outcome → ℕ → Type 0
TotalIs o w = (o ≡ Plan w) ⊎ (o ≡ Over w)

-- what stands in the buffers proves an outcome for an instance: the plan is accepted as one made elsewhere (02, A6); or
-- with none the one pair is a set that no remaining arc enters
abbrev pub ProvedFor : Instance → Outcome → TreeBuffers → (pairs : ℕ) → Type 0
ProvedFor s (Plan w) x k = certificate_refusal s x.parents w k x.cuts ≡ 0
ProvedFor s (Over w) x k = certificate_refusal s x.parents w k x.cuts ≡ 0
ProvedFor s NoTree x k = (c : Cut) × (k ≡ 1) × (take cut_words x.cuts ≡ words_of (c ∷ [])) × NoEntry s c

-- A PLAN THAT IS SHOWN, of any instance, is accepted for each with the same remaining arcs
shown_accepted :
    (a s : Instance) → SameArcs a s → a.n ≤ max_vertices → (old new : TreeBuffers) (k w : ℕ) → ShowsPlan a old new k → TotalIs (outcome a) w →
    certificate_refusal s new.parents w k new.cuts ≡ 0
shown_accepted a s e small old new k w p o =
    let cs = p.cut_list in
    let size = words_length (outcome a) a cs small p.cuts_shown in
    let plan = own_plan a new.parents new.cuts cs small (ap (take a.n) p.parents_buffer ∙ front_take (first_tree a) old.parents a.n (first_size a))
    (ap (take cut_words) p.cuts_buffer ∙ front_take (words_of cs) old.cuts cut_words size) p.cuts_shown w (shown_proved a cs w o p.cuts_shown) in
    sym (same_refusal a s e new.parents w k new.cuts)
    ∙ (accepted_reads a new.parents w k new.cuts).1 (subst (λ (j : ℕ). Accepted a new.parents w j new.cuts) (sym p.counted) plan)

front_words : (a : Instance) → a.n ≤ max_vertices → (old new : TreeBuffers) (k : ℕ) (p : ShowsPlan a old new k) → take cut_words new.cuts ≡ words_of p.cut_list
front_words a small old new k p =
    let cs = p.cut_list in
    ap (take cut_words) p.cuts_buffer ∙ front_take (words_of cs) old.cuts cut_words (words_length (outcome a) a cs small p.cuts_shown)

shown_proved_for :
    (a s : Instance) → SameArcs a s → a.n ≤ max_vertices → (old new : TreeBuffers) (k : ℕ) → ShowsPlan a old new k → (o : Outcome) → o ≡ outcome a → ProvedFor s o new k
unfolding CutsShown
shown_proved_for a s e small old new k p (Plan w) i = shown_accepted a s e small old new k w p (inl (sym i))
shown_proved_for a s e small old new k p (Over w) i = shown_accepted a s e small old new k w p (inr (sym i))
shown_proved_for a s e small old new k p NoTree i =
    let c : CutsShown NoTree a p.cut_list = subst (λ (o : Outcome). CutsShown o a p.cut_list) (sym i) p.cuts_shown in
    (c.0, p.counted ∙ ap length c.1, front_words a small old new k p ∙ ap words_of c.1, same_no_entry a s e c.0 c.2)

proved_accepted : (s : Instance) (o : Outcome) (x : TreeBuffers) (k w : ℕ) → ProvedFor s o x k → TotalIs o w → certificate_refusal s x.parents w k x.cuts ≡ 0
proved_accepted s o x k w p (inl e) = subst (λ (i : Outcome). ProvedFor s i x k) e p
proved_accepted s o x k w p (inr e) = subst (λ (i : Outcome). ProvedFor s i x k) e p

-- A MARK THAT WAS SET
marked_instance : (m : Mark) (t h : ℕ) (b : Model) → (marked m t h b).answer ≡ 0 → (marked m t h b).board.instance ≡ with_mark (mark_number m) t h b.instance
unfolding refused accepted
marked_instance m t h b =
    mark_cases (λ d. d.answer ≡ 0 → d.board.instance ≡ with_mark (mark_number m) t h b.instance) b (λ k e. absurd (omega (arith, e))) m t h (λ _ _ _. refl)

set_instance :
    (m : Mark) (t h : ℕ) (b : Board) (p : Answered) → Called (set_mark m t h) b p → valid (model_of b) ≡ true → p.answer ≡ 0 →
    instance_of p.board ≡ with_mark (mark_number m) t h (instance_of b)
unfolding applied
set_instance m t h b p c v z =
    let a = called_answers c in
    let e = answered_applied (set_mark m t h) (model_of b) v in
    ap (λ (d : Model). d.instance) (call_board (set_mark m t h) b p a ∙ ap (λ (d : Result). d.board) e)
    ∙ marked_instance m t h (model_of b) (sym (ap (λ (d : Result). d.answer) e) ∙ sym (call_answer (set_mark m t h) b p a) ∙ z)

-- a check goes by the instance of a valid board
set_checked :
    (b : Board) (s : Instance) (ps ps' : List ℕ) (w k : ℕ) (ws ws' : List ℕ) (q : ℕ) → valid (model_of b) ≡ true → instance_of b ≡ s →
    certificate_refusal s ps w k ws ≡ 0 → Checked b ps ps' w k ws ws' q → q ≡ 0
set_checked b s ps ps' w k ws ws' q v e r c = (checked c).result ∙ rw v (ap (λ (i : Instance). certificate_refusal i ps w k ws) e ∙ r)

-- A LINK THAT IS PRICED is neither banned nor has it a rival
abbrev is_priced : Reason → Bool
is_priced (reasons.Banned k) = false
is_priced (reasons.Rival g k) = false
is_priced (reasons.Priced o k) = true
is_priced (reasons.Refused a) = false

abbrev priced_outcome : Reason → Outcome
priced_outcome (reasons.Banned k) = NoTree
priced_outcome (reasons.Rival g k) = NoTree
priced_outcome (reasons.Priced o k) = o
priced_outcome (reasons.Refused a) = NoTree

abbrev priced_pairs : Reason → ℕ
priced_pairs (reasons.Banned k) = 0
priced_pairs (reasons.Rival g k) = 0
priced_pairs (reasons.Priced o k) = k
priced_pairs (reasons.Refused a) = 0

record PricedArc (x y : Bool) (a : Instance) (old new : TreeBuffers) (o : Outcome) (k : ℕ) : Type 0 where
  pub not_banned : x ≡ false
  pub no_rival : y ≡ false
  pub is_outcome : o ≡ outcome a
  pub shows : ShowsPlan a old new k

priced_arc :
    (x y : Bool) (s : Instance) (who : ℕ → ℕ → ℕ) (t h : ℕ) (old new : TreeBuffers) (o : Outcome) (k : ℕ) → ExplainsArc x y s who t h old new (reasons.Priced o k) →
    PricedArc x y (forced_instance s t h) old new o k
unfolding ExplainsArc
priced_arc true y s who t h old new o k e = absurd (true≢false (ap is_priced e.0))
priced_arc false true s who t h old new o k e = absurd (true≢false (ap is_priced e.0))
priced_arc false false s who t h old new o k e =
    record {
      not_banned = refl;
      no_rival = refl;
      is_outcome = ap priced_outcome e.1;
      shows = subst (ShowsPlan (forced_instance s t h) old new) (sym (ap priced_pairs e.1)) e.2;
    }

without_plan :
    (s : Instance) (t h : ℕ) (old new : TreeBuffers) (o : Outcome) (k : ℕ) → PlansWithoutAt 0 s t h old new (Shown o k) →
    (o ≡ outcome (deleted_instance s t h)) × ShowsPlan (deleted_instance s t h) old new k
unfolding PlansWithoutAt
without_plan s t h old new o k e =
    (ap outcome_in e.1, subst (ShowsPlan (deleted_instance s t h) old new) (sym (ap pairs_in e.1)) e.2)

-- A RUN'S LAST BOARD is valid and has a mark for each cell
module _ (ws : List ℕ) (is : List Input) (o : Answered) (xs : List ℕ) (last : Board) (z : open_refusal ws ≡ 0) (p : OpenedBy ws o) (run : Run is o.board xs last) where
  good : valid (model_of last) ≡ true
  good =
      let s = opened_starts ws o (opened_by p) z in
      (run_follows run (log_in ws) (record { is_valid = s.good; tied = s.tied })).follows.is_valid

  long : length last.marks ≡ cells
  unfolding effective
  long =
      let s = opened_starts ws o (opened_by p) z in
      let f = (run_follows run (log_in ws) (record { is_valid = s.good; tied = s.tied })).follows in
      ap (λ (i : Instance). length i.marks) f.tied.same_instance ∙ length_tabulate cells _

  -- WITH THE LINK PINNED
  pub why_proved :
      {t h : ℕ} {old new : TreeBuffers} {o : Outcome} {k : ℕ} → Explained last t h old new (reasons.Priced o k) →
      ProvedFor (with_mark pinned t h (instance_of last)) o new k
  unfolding Explains ExplainsBy
  why_proved {t} {h} {old} {new} {o} {k} x =
      let s = instance_of last in
      let r = reasons.Priced o k in
      let who = setter (model_of last).history in
      let a = explain_refusal (model_of last) t h (length old.parents) (length old.cuts) in
      let none : a ≡ 0 = sym (explains_answer a s who t h old new r (explained x)) in
      let y = explainable (model_of last) t h _ _ none in
      let small = explainable_small (model_of last) t h _ _ y in
      let z : ExplainsBy 0 s who t h old new r = subst (λ (j : ℕ). ExplainsBy j s who t h old new r) none (explained x) in
      let p = priced_arc (eqb (mark s t h) banned) (other_pinned s t h) s who t h old new o k z in
      shown_proved_for (forced_instance s t h) (with_mark pinned t h s) (pinned_arcs s t h small y.arc long p.not_banned p.no_rival) small old new k p.shows o
      p.is_outcome

  -- and so by a check on the board that the pin leaves
  pub why_accepted :
      {t h : ℕ} {old new : TreeBuffers} {u : Outcome} {w k : ℕ} {a : Answered} {ps' us' : List ℕ} {q : ℕ} → Explained last t h old new (reasons.Priced u k) →
      (u ≡ Plan w) ⊎ (u ≡ Over w) → Called (set_mark Pinned t h) last a → a.answer ≡ 0 → Checked a.board new.parents ps' w k new.cuts us' q → q ≡ 0
  why_accepted {t} {h} {old} {new} {u} {w} {k} {a} {ps'} {us'} {q} x e c zero chk =
      let s = with_mark pinned t h (instance_of last) in
      set_checked a.board s new.parents ps' w k new.cuts us' q (call_valid (set_mark Pinned t h) last a (called_answers c) good)
      (set_instance Pinned t h last a c good zero) (proved_accepted s u new k w (why_proved x) e) chk

  -- WITH THE LINK BANNED, where it is not pinned
  pub without_proved :
      {t h : ℕ} {old new : TreeBuffers} {o : Outcome} {k : ℕ} → PlannedWithout last t h old new (Shown o k) → is_pinned (instance_of last) t h ≡ false →
      ProvedFor (with_mark banned t h (instance_of last)) o new k
  unfolding PlansWithout
  without_proved {t} {h} {old} {new} {o} {k} x unpinned =
      let s = instance_of last in
      let a = explain_refusal (model_of last) t h (length old.parents) (length old.cuts) in
      let none : a ≡ 0 = sym (plan_without_answer a s t h old new (Shown o k) (planned_without x)) in
      let y = explainable (model_of last) t h _ _ none in
      let small = explainable_small (model_of last) t h _ _ y in
      let z : PlansWithoutAt 0 s t h old new (Shown o k) = subst (λ (j : ℕ). PlansWithoutAt j s t h old new (Shown o k)) none (planned_without x) in
      let p = without_plan s t h old new o k z in
      shown_proved_for (deleted_instance s t h) (with_mark banned t h s) (banned_arcs s t h small y.arc long unpinned) small old new k p.1 o p.0

  pub without_accepted :
      {t h : ℕ} {old new : TreeBuffers} {u : Outcome} {w k : ℕ} {a : Answered} {ps' us' : List ℕ} {q : ℕ} → PlannedWithout last t h old new (Shown u k) →
      (u ≡ Plan w) ⊎ (u ≡ Over w) → is_pinned (instance_of last) t h ≡ false → Called (set_mark Banned t h) last a → a.answer ≡ 0 →
      Checked a.board new.parents ps' w k new.cuts us' q → q ≡ 0
  without_accepted {t} {h} {old} {new} {u} {w} {k} {a} {ps'} {us'} {q} x e unpinned c zero chk =
      let s = with_mark banned t h (instance_of last) in
      set_checked a.board s new.parents ps' w k new.cuts us' q (call_valid (set_mark Banned t h) last a (called_answers c) good)
      (set_instance Banned t h last a c good zero) (proved_accepted s u new k w (without_proved x unpinned) e) chk
