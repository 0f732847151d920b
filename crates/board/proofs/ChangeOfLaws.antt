-- What is worked out for a command on a valid board gives what the model gives, and so does the board that it is put
-- on. Assumes nothing.
use mathlib.Core.Path.{◌≡◌, refl, sym, ap, ◌∙◌}
use mathlib.Core.Bool.{Bool, true, false, ◌&&◌, not, cond}
use mathlib.Core.List.{List}
use Prim.Native.Nat.{ℕ, zero, suc, ◌+◌, ◌-◌, ◌*◌, ◌≤◌, ◌<◌}
use native.Mathlib.Omega.{arith}
use lib.Dec.{ltb, leb}
use lib.ListN.{length, get_or, set}
use borrow.Author.Tests.{eq-eqb, ne_eqb, ltb-true, leb-false}
use Rattle.base.specs.Digits.{from_digits}
use Rattle.base.proofs.AllOfLaws.{all_of_first}
use Rattle.instance.specs.Limits.{max_vertices, max_budget, free, max_records}
use Rattle.instance.specs.Refusals.{bad_budget, history_full, invalid_board}
use Rattle.instance.specs.RefusalNumbers.{refusal_number}
use Rattle.instance.specs.declared.refusals.Refusal.{Refusal}
use Rattle.instance.specs.Marks.{mark_number}
use Rattle.instance.specs.Instance.{Instance, instance_with, cell, mark}
use Rattle.instance.specs.Cuts.{inside}
use Rattle.instance.specs.declared.Mark.{Mark}
use Rattle.instance.proofs.ArcLaws.{arc_ends}
use Rattle.heads.proofs.RecordMarksLaws.{record_marks_put}
use Rattle.commands.specs.Heads.{with_marks}
use Rattle.commands.specs.Model.{with_mark, restored}
use Rattle.commands.specs.Valid.{record_ok, valid}
use Rattle.commands.specs.Commands.{Command, Result, refused, accepted, decided, arc_refusal, mark_refusal, marked, marks_refusal, several_marked, budget_refusal, budgeted, undone, applied, answered}
use Rattle.commands.proofs.CommandLaws.{unrefused, mark_refusal_of, marks_unrefused, marks_accepted}
use Rattle.commands.proofs.AnsweredLaws.{answered_applied}
use Rattle.commands.proofs.ValidLaws.{valid_parts, record_cell, record_arcs, record_tail}
use Rattle.board.specs.declared.Board.{Board}
use Rattle.board.specs.declared.Replaced.{Replaced}
use Rattle.board.specs.declared.Replaced.TheVariants.{OldMark, OldBudget, OldMarks}
use Rattle.board.specs.Changes.{Change, Refuses, Records}
use Rattle.board.specs.ModelOf.{replaced_of, blank_record, history_of, instance_of, model_of}
use Rattle.board.specs.Calls.{Answers}
use Rattle.board.specs.Changes.{changed, mark_change, arcs_to, every_head, marks_change, budget_change, undo_change, budget_put, marks_put, Within, Recorded, TakenBack, Gives}
use Rattle.instance.proofs.RefusalLaws.{not_0}
use Rattle.board.proofs.ModelOfLaws.{length_history, history_none, history_step, history_more}
use Rattle.board.proofs.SetMarksLaws.{number_is, record_made, accepted_is, put_is_all}
use Rattle.board.proofs.CallLaws.{records_added, records_left}

-- A NUMBER REFUSES or does not, in the program and in the model
pub changed_refused : (k : ℕ) (o p : Replaced) → (k ≡ 0 → ⊥) → Refuses k ≡ changed k o p
unfolding changed
changed_refused zero o p n = absurd (n refl)
changed_refused (suc k) o p n = refl

-- by an error, which has a number other than 0
pub outcome_refused : (k : ℕ) (o p : Replaced) (e : Refusal) → refusal_number e ≡ k → Refuses (refusal_number e) ≡ changed k o p
outcome_refused k o p e h = ap Refuses h ∙ changed_refused k o p (λ z. not_0 e (h ∙ z))

pub changed_recorded : (k : ℕ) (o p : Replaced) → k ≡ 0 → Records o p ≡ changed k o p
unfolding changed
changed_recorded k o p e = rw e

-- a command on arcs that no number refuses has a vertex for its tail
passed : (x y missing full : Bool) → arc_refusal (not (x && y)) missing full ≡ 0 → x ≡ true
unfolding arc_refusal
passed true y missing full e = refl
passed false y missing full e = absurd (omega arith)

pub tail_passed : (n t : ℕ) (y missing full : Bool) → arc_refusal (not (ltb t n && y)) missing full ≡ 0 → t < n
tail_passed n t y missing full e = ltb-true t n (passed (ltb t n) y missing full e)

module _ (b : Board) (o p : Replaced) (d : Result) where
  decided_same : (k : ℕ) → (k ≡ 0 → Recorded d b o p) → Gives (decided k d (model_of b)) b (changed k o p)
  unfolding decided changed Gives refused
  decided_same zero r = r refl
  decided_same (suc k) r = refl

  gives_decided : (j k : ℕ) → j ≡ k → (k ≡ 0 → Recorded d b o p) → Gives (decided k d (model_of b)) b (changed j o p)
  gives_decided j k e r = rw e (decided_same k r)

-- the count, as the model has it
few_records : (b : Board) → length (model_of b).history < max_records → b.count < max_records
few_records b l = rw (length_history b.count b.records) at l

-- ONE MARK
pub mark_gives :
    (b : Board) → b.n ≤ max_vertices → (m : Mark) (t h : ℕ) →
    Gives (marked m t h (model_of b)) b (mark_change b.n b.root b.weights b.marks b.count m t h)
unfolding marked mark_change mark with_mark restored Within
mark_gives b l m t h =
    let s = instance_of b in
    let L = length (model_of b).history in
    let e : mark_refusal s b.count t h ≡ mark_refusal s L t h = ap (λ (k : ℕ). mark_refusal s k t h) (sym (length_history b.count b.records)) in
    gives_decided b (OldMark t h (mark s t h)) (OldMark t h (mark_number m)) _ _ (mark_refusal s L t h) (mark_refusal_of s b.count t h ∙ e)
    (λ z.
    let u = unrefused s L t h z in
    let a = arc_ends s t h u.arc in
    record { few = few_records b u.few; made = refl; within = omega (arith, a, l); result = refl })

-- SEVERAL
pub marks_gives :
    (b : Board) → valid (model_of b) ≡ true → (m : Mark) (t c : ℕ) →
    Gives (several_marked m t c (model_of b)) b (marks_change b.n b.root b.weights b.marks b.count m t c)
unfolding several_marked marks_change arcs_to restored with_marks Within
marks_gives b ok m t c =
    let s = instance_of b in
    let a = arcs_to b.n b.root b.weights t c in
    let O = from_digits 4 max_vertices (λ h. cond (inside a h) (get_or b.marks (cell t h) free) free) in
    let K = every_head * mark_number m in
    let L = length (model_of b).history in
    gives_decided b (OldMarks t a O) (OldMarks t a K) _ _ (marks_refusal s L t c) (number_is b ok t c a refl)
    (λ z.
    let u = marks_unrefused s L t c z in
    let n = (valid_parts (model_of b) ok).n_high in
    let i = sym (record_marks_put a K t b.marks) ∙ put_is_all b ok t c a refl m (mark_number m) _ refl refl in
    record {
      few = few_records b u.few;
      made = record_made b ok t c a refl O refl;
      within = omega (arith, u.tail_below, n);
      result =
          sym (marks_accepted m t c (model_of b) z)
          ∙ accepted_is b ok t c a refl O refl m z
          ∙ (λ j. accepted (replaced_of (OldMarks t a O)) (instance_with b.n b.root b.budget b.weights (sym i j)) (model_of b));
    })

-- THE BUDGET
not_full : (x z : Bool) → cond x bad_budget (cond z history_full 0) ≡ 0 → z ≡ false
not_full true z e = absurd (omega arith)
not_full false true e = absurd (omega arith)
not_full false false e = refl

pub budget_gives : (b : Board) (v : ℕ) → Gives (budgeted v (model_of b)) b (budget_change b.count b.budget v)
unfolding budgeted budget_change budget_refusal restored Within
budget_gives b v =
    let L = length (model_of b).history in
    gives_decided b (OldBudget b.budget) (OldBudget v) _ (budget_refusal b.count v) (budget_refusal L v)
    (ap (λ (k : ℕ). budget_refusal k v) (sym (length_history b.count b.records)))
    (λ z.
    record {
      few = few_records b (leb-false max_records L (not_full (ltb max_budget v) (leb max_records L) z));
      made = refl;
      within = refl;
      result = refl;
    })

-- UNDO: a record of a valid board names cells of the marks
within_ok : (s : Instance) (p : Replaced) → s.n ≤ max_vertices → record_ok s (replaced_of p) ≡ true → Within p
unfolding Within
within_ok s (OldMark t h m) l e = record_cell s t h m l e
within_ok s (OldBudget v) l e = refl
within_ok s (OldMarks t c k) l e = omega (arith, l, record_tail s t c _ (record_arcs s t c _ e))

undo_none : (b : Board) → b.count ≡ 0 → Gives (undone (history_of b.count b.records) (model_of b)) b (undo_change b.records b.count)
unfolding undone undo_change Gives refused
undo_none b e = rw (eq-eqb _ _ e, history_none b.count b.records e)

undo_some :
    (b : Board) → valid (model_of b) ≡ true → 0 < b.count →
    Gives (undone (history_of b.count b.records) (model_of b)) b (undo_change b.records b.count)
unfolding undone undo_change Gives
undo_some b ok l =
    let p = (get_or b.records (b.count - 1) blank_record).replaced in
    let v = valid_parts (model_of b) ok in
    let q = history_step b.count b.records l in
    let x : TakenBack (undone (history_of b.count b.records) (model_of b)) b p =
    record { some = l; within = within_ok (instance_of b) p v.n_high (all_of_first (record_ok (instance_of b)) _ _ (rw q at v.records_ok)); result = rw q } in
    rw (ne_eqb b.count 0 (λ e. omega arith)) x

pub undo_gives :
    (b : Board) → valid (model_of b) ≡ true → Gives (undone (history_of b.count b.records) (model_of b)) b (undo_change b.records b.count)
undo_gives b ok = go b.count refl
  where
    go : (k : ℕ) → b.count ≡ k → Gives (undone (history_of b.count b.records) (model_of b)) b (undo_change b.records b.count)
    go zero e = undo_none b e
    go (suc k) e = undo_some b ok (omega arith)

-- WHATEVER THE BOARD
module _ (c : Command) (b : Board) where
  pub gives_valid : (r : Change) → valid (model_of b) ≡ true → Gives (applied c (model_of b)) b r → Gives (answered c (model_of b)) b r
  gives_valid r v g = rw (answered_applied c (model_of b) v) g

  pub gives_invalid : valid (model_of b) ≡ false → Gives (answered c (model_of b)) b (Refuses invalid_board)
  unfolding answered Gives
  gives_invalid e = rw e

-- PUT ON THE BOARD
put_restored :
    (p : Replaced) (n r v : ℕ) (ws ms : List ℕ) → instance_with n r (budget_put p v) ws (marks_put p ms) ≡ restored (replaced_of p) (instance_with n r v ws ms)
unfolding budget_put marks_put restored with_mark with_marks
put_restored (OldMark t h m) n r v ws ms = refl
put_restored (OldBudget w) n r v ws ms = refl
put_restored (OldMarks t c k) n r v ws ms = λ j. instance_with n r v ws (record_marks_put c k t ms j)

module _ (d : Result) (b : Board) (p : Replaced) (v : ℕ) (ms : List ℕ) (x : v ≡ budget_put p b.budget) (y : ms ≡ marks_put p b.marks) where
  instance_put : instance_with b.n b.root v b.weights ms ≡ restored (replaced_of p) (instance_of b)
  instance_put = (λ j. instance_with b.n b.root (x j) b.weights (y j)) ∙ put_restored p b.n b.root b.budget b.weights b.marks

  pub answers_recorded :
      (o : Replaced) → length b.records ≡ max_records → Recorded d b o p →
      Answers d b (record { answer = 0; board = record { n = b.n; root = b.root; budget = v; weights = b.weights; marks = ms; records = set b.records b.count (record { replaced = o }); count = b.count + 1 } })
  unfolding accepted
  answers_recorded o l q =
      let h = history_more b.count b.records (record { replaced = o }) (omega (arith, l, q.few)) in
      rw q.result
      (record {
        result = λ j. record { answer = 0; board = record { instance = instance_put j; history = h j } };
        records = ap (set b.records b.count) (sym q.made) ∙ sym (records_added b (replaced_of o));
        unchanged = λ z. absurd (z refl);
      })

  pub answers_taken_back :
      TakenBack d b p →
      Answers d b (record { answer = 0; board = record { n = b.n; root = b.root; budget = v; weights = b.weights; marks = ms; records = b.records; count = b.count - 1 } })
  answers_taken_back q =
      rw q.result
      (record {
        result = λ j. record { answer = 0; board = record { instance = instance_put j; history = history_of (b.count - 1) b.records } };
        records = sym (records_left b.records b.count (history_of (b.count - 1) b.records) (omega (arith, length_history (b.count - 1) b.records)));
        unchanged = λ z. absurd (z refl);
      })
