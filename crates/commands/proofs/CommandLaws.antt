-- What every command does to any board of the model: it is refused, or it is accepted; undo right after an accepted one
-- restores the whole board; and which commands add a record. Assumes nothing.
use mathlib.Core.Path.{◌≡◌, refl, ap, ◌∙◌}
use mathlib.Core.Bool.{Bool, true, false, ◌&&◌, not, cond, true≢false}
use mathlib.Core.List.{List, [], ◌∷◌}
use Prim.Native.Nat.{ℕ, zero, suc, ◌<◌, ◌≤◌}
use native.Mathlib.Omega.{arith}
use lib.Dec.{ltb, leb}
use lib.ListN.{length, set}
use lib.Seq.{set-set, set-get_or}
use borrow.Author.Tests.{ltb-true, ltb-false, leb-false, not-false}
use Rattle.base.proofs.BoolLaws.{and_left}
use Rattle.instance.specs.Limits.{max_budget, free, max_records}
use Rattle.instance.specs.Refusals.{bad_budget, history_full}
use Rattle.instance.specs.Marks.{mark_number}
use Rattle.instance.specs.Instance.{Instance, with_budget, cell, mark_at, weight, mark, is_arc}
use Rattle.instance.specs.Matrix.{unmarked}
use Rattle.instance.specs.declared.Mark.{Mark}
use Rattle.commands.specs.Heads.{heads_below, names_arc, names_any, heads_of, marks_of, with_marks}
use Rattle.commands.specs.Model.{Replaced, old_mark, old_marks, old_budget, Model, with_mark, restored}
use Rattle.commands.specs.Commands.{Command, set_mark, set_marks, set_budget, undo, Result, refused, accepted, decided, arc_refusal, mark_refusal, marked, marks_refusal, several_marked, budget_refusal, budgeted, undone, applied}
use Rattle.commands.specs.Changes.{is_undo}
use Rattle.commands.proofs.HeadsLaws.{marks_back}

-- REFUSED OR ACCEPTED
-- whatever holds of each refusal and of the other result holds of what is decided
decided_cases :
    (P : Result → Type 0) (k : ℕ) (d : Result) (b : Model) → ((j : ℕ) → P (refused (suc j) b)) → (k ≡ 0 → P d) → P (decided k d b)
unfolding decided
decided_cases P zero d b r a = a refl
decided_cases P (suc k) d b r a = r k

decided_refused : (k : ℕ) (d : Result) (b : Model) → (k ≡ 0 → ⊥) → decided k d b ≡ refused k b
unfolding decided
decided_refused zero d b n = absurd (n refl)
decided_refused (suc k) d b n = refl

-- what a command that names arcs passed
arc_passed : (x y z : Bool) → arc_refusal x y z ≡ 0 → (x ≡ false) × (y ≡ false) × (z ≡ false)
unfolding arc_refusal
arc_passed true y z e = absurd (omega arith)
arc_passed false true z e = absurd (omega arith)
arc_passed false false true e = absurd (omega arith)
arc_passed false false false e = (refl, refl, refl)

budget_passed : (x z : Bool) → cond x bad_budget (cond z history_full 0) ≡ 0 → (x ≡ false) × (z ≡ false)
budget_passed true z e = absurd (omega arith)
budget_passed false true e = absurd (omega arith)
budget_passed false false e = (refl, refl)

pub record Unrefused (s : Instance) (k t h : ℕ) : Type 0 where
  pub arc : is_arc s t h ≡ true
  pub few : k < max_records

pub unrefused : (s : Instance) (k t h : ℕ) → mark_refusal s k t h ≡ 0 → Unrefused s k t h
unfolding mark_refusal
unrefused s k t h e =
    let p = arc_passed (not (ltb t s.n && ltb h s.n)) (not (is_arc s t h)) (leb max_records k) e in
    record { arc = not-false (is_arc s t h) p.1; few = leb-false max_records k p.2 }

pub record MarksUnrefused (s : Instance) (k t c : ℕ) : Type 0 where
  pub tail_below : t < s.n
  pub some : names_any s t c ≡ true
  pub few : k < max_records

pub marks_unrefused : (s : Instance) (k t c : ℕ) → marks_refusal s k t c ≡ 0 → MarksUnrefused s k t c
unfolding marks_refusal
marks_unrefused s k t c e =
    let L = ltb t s.n in
    let R = heads_below s.n c in
    let p = arc_passed (not (L && R)) (not (names_any s t c)) (leb max_records k) e in
    record {
      tail_below = ltb-true t s.n (and_left L R (not-false (L && R) p.0));
      some = not-false (names_any s t c) p.1;
      few = leb-false max_records k p.2;
    }

-- a refusal looks at vertices, root and weights alone
pub mark_refusal_of : (s : Instance) (k t h : ℕ) → mark_refusal (unmarked s.n s.root s.weights) k t h ≡ mark_refusal s k t h
unfolding mark_refusal is_arc weight unmarked
mark_refusal_of s k t h = refl

pub names_arc_of : (s : Instance) (t c : ℕ) → names_arc (unmarked s.n s.root s.weights) t c ≡ names_arc s t c
unfolding names_arc is_arc weight unmarked
names_arc_of s t c = refl

module _ (m : Mark) (t h : ℕ) (b : Model) where
  pub mark_accepted :
      mark_refusal b.instance (length b.history) t h ≡ 0 →
      marked m t h b ≡ accepted (old_mark t h (mark b.instance t h)) (with_mark (mark_number m) t h b.instance) b
  unfolding marked decided
  mark_accepted e = rw e

  pub mark_refused :
      (mark_refusal b.instance (length b.history) t h ≡ 0 → ⊥) → marked m t h b ≡ refused (mark_refusal b.instance (length b.history) t h) b
  unfolding marked
  mark_refused n = decided_refused (mark_refusal b.instance (length b.history) t h) _ b n

module _ (m : Mark) (t c : ℕ) (b : Model) where
  abbrev pub marks_result : Result
  marks_result =
      let s = b.instance in
      let q = names_arc s t c in
      accepted (old_marks t (heads_of q) (marks_of s t q)) (with_marks t q (λ h. mark_number m) s) b

  pub marks_accepted : marks_refusal b.instance (length b.history) t c ≡ 0 → several_marked m t c b ≡ marks_result
  unfolding several_marked decided
  marks_accepted e = rw e

  pub marks_refused :
      (marks_refusal b.instance (length b.history) t c ≡ 0 → ⊥) →
      several_marked m t c b ≡ refused (marks_refusal b.instance (length b.history) t c) b
  unfolding several_marked
  marks_refused n = decided_refused (marks_refusal b.instance (length b.history) t c) _ b n

module _ (P : Result → Type 0) (b : Model) (r : (k : ℕ) → P (refused (suc k) b)) where
  pub mark_cases :
      (m : Mark) (t h : ℕ) → (is_arc b.instance t h ≡ true → length b.history < max_records →
      P (accepted (old_mark t h (mark b.instance t h)) (with_mark (mark_number m) t h b.instance) b)) → P (marked m t h b)
  unfolding marked
  mark_cases m t h a =
      decided_cases P (mark_refusal b.instance (length b.history) t h) _ b r
      (λ e. let u = unrefused b.instance (length b.history) t h e in a u.arc u.few)

  pub marks_cases :
      (m : Mark) (t c : ℕ) → (names_any b.instance t c ≡ true → length b.history < max_records → P (marks_result m t c b)) → P (several_marked m t c b)
  unfolding several_marked
  marks_cases m t c a =
      decided_cases P (marks_refusal b.instance (length b.history) t c) _ b r
      (λ e. let u = marks_unrefused b.instance (length b.history) t c e in a u.some u.few)

  pub budget_cases :
      (v : ℕ) → (v ≤ max_budget → length b.history < max_records →
      P (accepted (old_budget b.instance.budget) (with_budget v b.instance) b)) → P (budgeted v b)
  unfolding budgeted budget_refusal
  budget_cases v a =
      let L = length b.history in
      decided_cases P (budget_refusal L v) _ b r
      (λ e.
      let p = budget_passed (ltb max_budget v) (leb max_records L) e in
      a (ltb-false max_budget v p.0) (leb-false max_records L p.1))

-- UNDO RIGHT AFTER AN ACCEPTED COMMAND RESTORES THE WHOLE BOARD
abbrev UndoneByUndo : Model → Result → Type 0
UndoneByUndo b d = d.answer ≡ 0 → applied undo d.board ≡ record { answer = 0; board = b }

refused_undone : (b : Model) (k : ℕ) → UndoneByUndo b (refused (suc k) b)
unfolding refused
refused_undone b k e = absurd (omega arith)

-- setting a mark and setting the old one again leaves the marks as they were, even past their end
pub mark_back : (s : Instance) (m t h : ℕ) → with_mark (mark s t h) t h (with_mark m t h s) ≡ s
unfolding with_mark mark
mark_back s m t h =
    let e : set (set s.marks (cell t h) m) (cell t h) (mark_at s (cell t h)) ≡ s.marks =
    set-set s.marks (cell t h) m _ ∙ set-get_or s.marks (cell t h) free in
    λ j. record { n = s.n; root = s.root; budget = s.budget; weights = s.weights; marks = e j }

mark_undone : (b : Model) (m t h : ℕ) → UndoneByUndo b (accepted (old_mark t h (mark b.instance t h)) (with_mark m t h b.instance) b)
unfolding accepted applied undone restored
mark_undone b m t h e = λ j. record { answer = 0; board = record { instance = mark_back b.instance m t h j; history = b.history } }

marks_undone : (b : Model) (m : Mark) (t c : ℕ) → UndoneByUndo b (marks_result m t c b)
unfolding accepted applied undone restored
marks_undone b m t c e =
    λ j.
    record {
      answer = 0;
      board = record { instance = marks_back b.instance t (names_arc b.instance t c) (λ h. mark_number m) j; history = b.history };
    }

budget_undone : (b : Model) (v : ℕ) → UndoneByUndo b (accepted (old_budget b.instance.budget) (with_budget v b.instance) b)
unfolding accepted applied undone restored
budget_undone b v e = refl

pub undo_restores :
    (c : Command) (b : Model) → is_undo c ≡ false → (applied c b).answer ≡ 0 → applied undo (applied c b).board ≡ record { answer = 0; board = b }
unfolding applied is_undo
undo_restores (set_mark m t h) b n = mark_cases (UndoneByUndo b) b (refused_undone b) m t h (λ _ _. mark_undone b (mark_number m) t h)
undo_restores (set_marks m t c) b n = marks_cases (UndoneByUndo b) b (refused_undone b) m t c (λ _ _. marks_undone b m t c)
undo_restores (set_budget v) b n = budget_cases (UndoneByUndo b) b (refused_undone b) v (λ _ _. budget_undone b v)
undo_restores undo b n = absurd (true≢false n)

-- RECORDS: an accepted command adds one, and undo adds none
abbrev pub Recorded : Model → Result → Type 0
Recorded b d = d.answer ≡ 0 → (o : Replaced) × (d.board.history ≡ o ∷ b.history)

refused_recorded : (b : Model) (k : ℕ) → Recorded b (refused (suc k) b)
unfolding refused
refused_recorded b k e = absurd (omega arith)

accepted_recorded : (b : Model) (o : Replaced) (s : Instance) → Recorded b (accepted o s b)
unfolding accepted
accepted_recorded b o s e = (o, refl)

pub command_recorded : (c : Command) (b : Model) → is_undo c ≡ false → Recorded b (applied c b)
unfolding applied is_undo
command_recorded (set_mark m t h) b n = mark_cases (Recorded b) b (refused_recorded b) m t h (λ _ _. accepted_recorded b _ _)
command_recorded (set_marks m t c) b n = marks_cases (Recorded b) b (refused_recorded b) m t c (λ _ _. accepted_recorded b _ _)
command_recorded (set_budget v) b n = budget_cases (Recorded b) b (refused_recorded b) v (λ _ _. accepted_recorded b _ _)
command_recorded undo b n = absurd (true≢false n)

-- the record of several arcs
pub several_recorded :
    (m : Mark) (t c : ℕ) (b : Model) → (applied (set_marks m t c) b).answer ≡ 0 → let s = b.instance in let q = names_arc s t c in
    (applied (set_marks m t c) b).board.history ≡ old_marks t (heads_of q) (marks_of s t q) ∷ b.history
unfolding applied accepted refused
several_recorded m t c b =
    let s = b.instance in
    let q = names_arc s t c in
    marks_cases (λ d. d.answer ≡ 0 → d.board.history ≡ old_marks t (heads_of q) (marks_of s t q) ∷ b.history) b
    (λ k e. absurd (omega arith)) m t c (λ _ _ _. refl)

undone_shorter : (rs : List Replaced) (b : Model) → b.history ≡ rs → length (undone rs b).board.history ≤ length b.history
unfolding undone refused
undone_shorter [] b e = omega arith
undone_shorter (r ∷ rs) b e = omega (arith, ap length e)

pub undo_shorter : (b : Model) → length (applied undo b).board.history ≤ length b.history
unfolding applied
undo_shorter b = undone_shorter b.history b refl
