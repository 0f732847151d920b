-- Every list of commands gets the log's answers, and leaves the effective instance; the log's answers are the commands'
-- own numbers.
--
-- The idea: a board and a log are tied if the board's instance is the effective one and its history is one record for
-- each entry, over the records that came on the card (02, A8). Each of the newer ones names the arcs of its entry and,
-- applied to what is effective with the entries down to its own, leaves what is effective without that entry. One
-- command keeps them tied: a new entry comes with the record that takes it back, and undo is that very fact about the
-- first of both lists. With no entry left the effective instance is the card, so that a record that came on it does
-- the same to both. Assumes nothing.
use mathlib.Core.Path.{◌≡◌, refl, sym, ap, ◌∙◌, subst}
use mathlib.Core.Bool.{Bool, true, false, ◌&&◌, not, cond}
use mathlib.Core.List.{List, [], ◌∷◌, ◌++◌}
use Prim.Native.Nat.{ℕ, suc, ◌+◌, ◌≤◌, ◌<◌}
use native.Mathlib.Omega.{arith}
use lib.Dec.{ltb, leb, eqb}
use lib.ListN.{length, length-append}
use borrow.Author.Tests.{ltb-true, not-false}
use Rattle.base.specs.Lists.{any_of}
use Rattle.base.proofs.BoolLaws.{and_left, and_right}
use Rattle.instance.specs.Limits.{max_vertices, max_budget, max_records, cells}
use Rattle.instance.specs.Refusals.{bad_budget, history_full}
use Rattle.instance.specs.Marks.{mark_number}
use Rattle.instance.specs.Instance.{Instance, with_budget, weight, mark, is_arc}
use Rattle.instance.specs.declared.Mark.{Mark}
use Rattle.commands.specs.Heads.{heads_below, names_arc, names_any}
use Rattle.commands.specs.Model.{Replaced, old_mark, old_budget, Model, with_mark, restored}
use Rattle.commands.specs.Valid.{valid}
use Rattle.commands.specs.Commands.{Command, set_mark, set_marks, set_budget, undo, Result, refused, accepted, decided, arc_refusal, mark_refusal, marked, marks_refusal, several_marked, budget_refusal, budgeted, undone, applied, answered, command_numbers, answers, board_after}
use Rattle.commands.specs.Log.{Entry, entry_mark, entry_marks, entry_budget, Log, Noted, new_log, with_entries, log_length, unnoted, noted, noted_below, note_arcs, note_mark, note_marks, note_budget, note_undo, note, log_answers, log_after}
use Rattle.commands.specs.Effective.{effective}
use Rattle.commands.specs.Setters.{record_names, entry_names}
use Rattle.commands.proofs.HeadsLaws.{marks_back, inside_heads}
use Rattle.commands.proofs.CommandLaws.{mark_back, marks_result}
use Rattle.commands.proofs.ValidLaws.{valid_parts}
use Rattle.commands.proofs.AnsweredLaws.{answered_applied, applied_valid}
use Rattle.commands.proofs.RestoredLaws.{restored_n, restored_long}
use Rattle.commands.proofs.EffectiveLaws.{over, over_none, over_mark, over_marks, over_budget}

-- TIED
-- a record and an entry name the same arcs
abbrev pub NamesSame : Replaced → Entry → Instance → Type 0
NamesSame r e s = (t h : ℕ) → h < max_vertices → record_names t h r ≡ entry_names s t h e

-- each record takes its entry back
abbrev pub Undoes : List Replaced → List Entry → Instance → Type 0
Undoes [] [] s = Unit {0}
Undoes [] (e ∷ es) s = ⊥
Undoes (r ∷ rs) [] s = ⊥
Undoes (r ∷ rs) (e ∷ es) s = (restored r (over (e ∷ es) s) ≡ over es s) × NamesSame r e s × Undoes rs es s

pub undoes_length : (rs : List Replaced) (es : List Entry) (s : Instance) → Undoes rs es s → length rs ≡ length es
undoes_length [] [] s u = refl
undoes_length [] (e ∷ es) s u = absurd u
undoes_length (r ∷ rs) [] s u = absurd u
undoes_length (r ∷ rs) (e ∷ es) s u = ap suc (undoes_length rs es s u.2)

-- newer are the records of the entries
pub record Tied (b : Model) (k : Log) : Type 0 where
  pub same_instance : b.instance ≡ effective k
  pub newer : List Replaced
  pub history : b.history ≡ newer ++ k.below
  pub undoes : Undoes newer k.entries k.card
  pub small : k.card.n ≤ max_vertices
  pub long : length k.card.marks ≡ cells

pub record Step (d : Result) (t : Noted) : Type 0 where
  pub same_answer : d.answer ≡ t.answer
  pub tied : Tied d.board t.log

pub tied_length : (b : Model) (k : Log) → Tied b k → length b.history ≡ log_length k
unfolding log_length
tied_length b k t =
    ap length t.history ∙ length-append t.newer k.below
    ∙ ap (λ (l : ℕ). l + length k.below) (undoes_length t.newer k.entries k.card t.undoes)

-- a board is tied to the new log of its instance with its records
pub opened_tied :
    (b : Model) → b.instance.n ≤ max_vertices → length b.instance.marks ≡ cells → Tied b (new_log b.instance b.history)
unfolding new_log effective
opened_tied b l e =
    record { same_instance = sym (over_none b.instance e); newer = []; history = refl; undoes = tt; small = l; long = e }

-- ONE COMMAND. The board of a log with its history: the instance is given, so that the tests of both sides are the same
abbrev on : Log → List Replaced → Model
on k rs = record { instance = effective k; history = rs }

refused_step : (a : ℕ) (b : Model) (k : Log) → Tied b k → Step (refused a b) (unnoted a k)
unfolding refused unnoted
refused_step a b k t = record { same_answer = refl; tied = t }

arc_tests :
    (x y z : Bool) (b : Model) (k : Log) (d : Result) (e : Entry) → Tied b k → (x ≡ false → Step d (noted (e ∷ k.entries) k)) →
    Step (decided (arc_refusal x y z) d b) (note_arcs x y z e k)
unfolding decided arc_refusal note_arcs
arc_tests true y z b k d e t q = refused_step _ b k t
arc_tests false true z b k d e t q = refused_step _ b k t
arc_tests false false true b k d e t q = refused_step _ b k t
arc_tests false false false b k d e t q = q refl

budget_tests :
    (x z : Bool) (b : Model) (k : Log) (d : Result) (n : Noted) → Tied b k → Step d n →
    Step (decided (cond x bad_budget (cond z history_full 0)) d b) (cond x (unnoted bad_budget k) (cond z (unnoted history_full k) n))
unfolding decided
budget_tests true z b k d n t q = refused_step _ b k t
budget_tests false true b k d n t q = refused_step _ b k t
budget_tests false false b k d n t q = q

-- an accepted command that is no undo: its entry, and the record that takes it back
entry_step :
    (r : Replaced) (e : Entry) (s : Instance) (k : Log) (rs : List Replaced) → Tied (on k rs) k → s ≡ over (e ∷ k.entries) k.card →
    restored r s ≡ over k.entries k.card → NamesSame r e k.card → Step (accepted r s (on k rs)) (noted (e ∷ k.entries) k)
unfolding accepted noted with_entries effective
entry_step r e s k rs d after back names =
    record {
      same_answer = refl;
      tied =
          record {
            same_instance = after;
            newer = r ∷ d.newer;
            history = ap (λ (l : List Replaced). r ∷ l) d.history;
            undoes = (ap (restored r) (sym after) ∙ back, names, d.undoes);
            small = d.small;
            long = d.long;
          };
    }

mark_accepted :
    (m : Mark) (t h : ℕ) (k : Log) (rs : List Replaced) → Tied (on k rs) k → t < max_vertices → h < max_vertices →
    Step (accepted (old_mark t h (mark (effective k) t h)) (with_mark (mark_number m) t h (effective k)) (on k rs)) (noted (entry_mark m t h ∷ k.entries) k)
unfolding restored effective record_names entry_names
mark_accepted m t h k rs d lt lh =
    entry_step _ _ _ k rs d (over_mark k.card k.entries m t h lt lh) (mark_back (effective k) (mark_number m) t h) (λ u v l. refl)

marks_accepted :
    (m : Mark) (t c : ℕ) (k : Log) (rs : List Replaced) → Tied (on k rs) k → Step (marks_result m t c (on k rs)) (noted (entry_marks m t c ∷ k.entries) k)
unfolding restored effective record_names entry_names names_arc is_arc weight
marks_accepted m t c k rs d =
    entry_step _ _ _ k rs d (over_marks k.card k.entries m t c) (marks_back (effective k) t (names_arc (effective k) t c) (λ h. mark_number m))
    (λ u v l. ap (λ (b : Bool). eqb u t && b) (inside_heads (names_arc (effective k) t c) v l))

budget_accepted :
    (v : ℕ) (k : Log) (rs : List Replaced) → Tied (on k rs) k →
    Step (accepted (old_budget (effective k).budget) (with_budget v (effective k)) (on k rs)) (noted (entry_budget v ∷ k.entries) k)
unfolding restored effective record_names entry_names
budget_accepted v k rs d = entry_step _ _ _ k rs d (over_budget k.card k.entries v) refl (λ u w l. refl)

mark_step : (m : Mark) (t h : ℕ) (k : Log) (rs : List Replaced) → Tied (on k rs) k → Step (marked m t h (on k rs)) (note_mark m t h k)
unfolding marked mark_refusal note_mark is_arc weight effective
mark_step m t h k rs d =
    let s = k.card in
    let L = ltb t s.n in
    let R = ltb h s.n in
    rw (tied_length (on k rs) k d)
    (arc_tests (not (L && R)) (not (is_arc s t h)) (leb max_records (log_length k)) (on k rs) k
    (accepted (old_mark t h (mark (effective k) t h)) (with_mark (mark_number m) t h (effective k)) (on k rs)) (entry_mark m t h) d
    (λ e.
    let i = not-false (L && R) e in
    mark_accepted m t h k rs d (omega (arith, ltb-true t s.n (and_left L R i), d.small)) (omega (arith, ltb-true h s.n (and_right L R i), d.small))))

marks_step : (m : Mark) (t c : ℕ) (k : Log) (rs : List Replaced) → Tied (on k rs) k → Step (several_marked m t c (on k rs)) (note_marks m t c k)
unfolding several_marked marks_refusal note_marks names_any names_arc is_arc weight effective
marks_step m t c k rs d =
    let s = k.card in
    rw (tied_length (on k rs) k d)
    (arc_tests (not (ltb t s.n && heads_below s.n c)) (not (names_any s t c)) (leb max_records (log_length k)) (on k rs) k
    (marks_result m t c (on k rs)) (entry_marks m t c) d
    (λ _. marks_accepted m t c k rs d))

budget_step : (v : ℕ) (k : Log) (rs : List Replaced) → Tied (on k rs) k → Step (budgeted v (on k rs)) (note_budget v k)
unfolding budgeted budget_refusal note_budget
budget_step v k rs d =
    rw (tied_length (on k rs) k d)
    (budget_tests (ltb max_budget v) (leb max_records (log_length k)) (on k rs) k
    (accepted (old_budget (effective k).budget) (with_budget v (effective k)) (on k rs)) (noted (entry_budget v ∷ k.entries) k) d
    (budget_accepted v k rs d))

abbrev log_of : List Entry → List Replaced → Instance → Log
log_of es bs s = record { card = s; below = bs; entries = es }

-- with no entry left what is effective is the card, and a record that came on it is undone on both
undone_step :
    (es : List Entry) (rs bs : List Replaced) (s : Instance) → Undoes rs es s → s.n ≤ max_vertices → length s.marks ≡ cells →
    Step (undone (rs ++ bs) (on (log_of es bs s) (rs ++ bs))) (note_undo es bs (log_of es bs s))
unfolding undone note_undo refused unnoted noted noted_below with_entries effective
undone_step [] [] [] s u l e =
    record { same_answer = refl; tied = record { same_instance = refl; newer = []; history = refl; undoes = tt; small = l; long = e } }
undone_step [] [] (r ∷ bs) s u l e =
    let long = restored_long r s ∙ e in
    record {
      same_answer = refl;
      tied =
          record {
            same_instance = ap (restored r) (over_none s e) ∙ sym (over_none (restored r s) long);
            newer = [];
            history = refl;
            undoes = tt;
            small = omega (arith, restored_n r s, l);
            long = long;
          };
    }
undone_step (x ∷ es) [] bs s u l e = absurd u
undone_step [] (r ∷ rs) bs s u l e = absurd u
undone_step (x ∷ es) (r ∷ rs) bs s u l e =
    record { same_answer = refl; tied = record { same_instance = u.0; newer = rs; history = refl; undoes = u.2; small = l; long = e } }

undo_step : (k : Log) (rs : List Replaced) → Tied (on k rs) k → Step (undone rs (on k rs)) (note_undo k.entries k.below k)
undo_step k rs d =
    subst (λ (l : List Replaced). Step (undone l (on k l)) (note_undo k.entries k.below k)) (sym d.history)
    (undone_step k.entries d.newer k.below k.card d.undoes d.small d.long)

on_step : (c : Command) (k : Log) (rs : List Replaced) → Tied (on k rs) k → Step (applied c (on k rs)) (note c k)
unfolding applied note
on_step (set_mark m t h) k rs d = mark_step m t h k rs d
on_step (set_marks m t c) k rs d = marks_step m t c k rs d
on_step (set_budget v) k rs d = budget_step v k rs d
on_step undo k rs d = undo_step k rs d

-- a command keeps the board and the log tied
pub step_tied : (c : Command) (b : Model) (k : Log) → Tied b k → Step (applied c b) (note c k)
step_tied c b k t =
    let e : on k b.history ≡ b = λ j. record { instance = sym t.same_instance j; history = b.history } in
    let d : Tied (on k b.history) k =
    record { same_instance = refl; newer = t.newer; history = t.history; undoes = t.undoes; small = t.small; long = t.long } in
    rw e at (on_step c k b.history d)

-- LISTS OF COMMANDS: the answers xs and the last board b are the log's
pub record FollowsLog (cs : List Command) (k : Log) (xs : List ℕ) (b : Model) : Type 0 where
  pub answers : xs ≡ log_answers cs k
  pub instance : b.instance ≡ effective (log_after cs k)
  pub history_length : length b.history ≡ log_length (log_after cs k)

pub tied_lists : (cs : List Command) (b : Model) (k : Log) → Tied b k → FollowsLog cs k (answers applied cs b) (board_after applied cs b)
unfolding answers board_after log_answers log_after
tied_lists [] b k t = record { answers = refl; instance = t.same_instance; history_length = tied_length b k t }
tied_lists (c ∷ cs) b k t =
    let a = step_tied c b k t in
    let r = tied_lists cs (applied c b).board (note c k).log a.tied in
    record { answers = λ j. a.same_answer j ∷ r.answers j; instance = r.instance; history_length = r.history_length }

-- ANY INSTANCE WITH ANY RECORDS, whatever they hold, with at most 32 vertices and a mark for each cell
pub lists_follow :
    (b : Model) (cs : List Command) → b.instance.n ≤ max_vertices → length b.instance.marks ≡ cells →
    FollowsLog cs (new_log b.instance b.history) (answers applied cs b) (board_after applied cs b)
lists_follow b cs l e = tied_lists cs b (new_log b.instance b.history) (opened_tied b l e)

-- ANY VALID INSTANCE WITH VALID RECORDS, with the test of validity before each command
pub answers_agree : (cs : List Command) (b : Model) → valid b ≡ true → answers answered cs b ≡ answers applied cs b
unfolding answers
answers_agree [] b v = refl
answers_agree (c ∷ cs) b v = rw (answered_applied c b v) (λ j. (applied c b).answer ∷ answers_agree cs (applied c b).board (applied_valid c b v) j)

pub boards_agree : (cs : List Command) (b : Model) → valid b ≡ true → board_after answered cs b ≡ board_after applied cs b
unfolding board_after
boards_agree [] b v = refl
boards_agree (c ∷ cs) b v = rw (answered_applied c b v) (boards_agree cs (applied c b).board (applied_valid c b v))

pub valid_lists_follow :
    (b : Model) (cs : List Command) → valid b ≡ true → length b.instance.marks ≡ cells →
    FollowsLog cs (new_log b.instance b.history) (answers answered cs b) (board_after answered cs b)
valid_lists_follow b cs v e = rw (answers_agree cs b v, boards_agree cs b v) (lists_follow b cs (valid_parts b v).n_high e)

-- EVERY ANSWER OF THE LOG IS ONE OF THE COMMAND'S OWN NUMBERS
note_arcs_listed :
    (x y z : Bool) (m : Mark) (t h : ℕ) (e : Entry) (k : Log) → any_of (eqb (note_arcs x y z e k).answer) (command_numbers (set_mark m t h)) ≡ true
unfolding note_arcs unnoted noted command_numbers any_of
note_arcs_listed true y z m t h e k = refl
note_arcs_listed false true z m t h e k = refl
note_arcs_listed false false true m t h e k = refl
note_arcs_listed false false false m t h e k = refl

note_budget_listed :
    (x z : Bool) (v : ℕ) (k : Log) →
    any_of (eqb (cond x (unnoted bad_budget k) (cond z (unnoted history_full k) (noted (entry_budget v ∷ k.entries) k))).answer) (command_numbers (set_budget v)) ≡ true
unfolding unnoted noted command_numbers any_of
note_budget_listed true z v k = refl
note_budget_listed false true v k = refl
note_budget_listed false false v k = refl

note_undo_listed : (es : List Entry) (rs : List Replaced) (k : Log) → any_of (eqb (note_undo es rs k).answer) (command_numbers undo) ≡ true
unfolding note_undo unnoted noted noted_below command_numbers any_of
note_undo_listed [] [] k = refl
note_undo_listed [] (r ∷ rs) k = refl
note_undo_listed (e ∷ es) rs k = refl

pub note_listed : (c : Command) (k : Log) → any_of (eqb (note c k).answer) (command_numbers c) ≡ true
unfolding note note_mark note_marks note_budget command_numbers
note_listed (set_mark m t h) k =
    note_arcs_listed (not (ltb t k.card.n && ltb h k.card.n)) (not (is_arc k.card t h)) (leb max_records (log_length k)) m t h (entry_mark m t h) k
note_listed (set_marks m t c) k =
    note_arcs_listed (not (ltb t k.card.n && heads_below k.card.n c)) (not (names_any k.card t c)) (leb max_records (log_length k)) m t c (entry_marks m t c) k
note_listed (set_budget v) k = note_budget_listed (ltb max_budget v) (leb max_records (log_length k)) v k
note_listed undo k = note_undo_listed k.entries k.below k
