-- Every answer of a command, on any board, is one of the command's own numbers, and 15 is never that of a valid board.
-- Assumes nothing.
use mathlib.Core.Path.{◌≡◌, refl}
use mathlib.Core.Bool.{Bool, true, false, ◌&&◌, not, cond}
use mathlib.Core.List.{List, [], ◌∷◌}
use Prim.Native.Nat.{ℕ, zero, suc, ◌<◌}
use native.Mathlib.Omega.{arith}
use lib.Dec.{ltb, leb, eqb}
use lib.ListN.{length}
use Rattle.base.specs.Lists.{any_of}
use Rattle.instance.specs.Limits.{max_budget, max_records}
use Rattle.instance.specs.Refusals.{bad_budget, history_full, invalid_board}
use Rattle.instance.specs.Marks.{mark_number}
use Rattle.instance.specs.Instance.{Instance, with_budget, mark, is_arc}
use Rattle.instance.specs.declared.Mark.{Mark}
use Rattle.commands.specs.Heads.{heads_below, names_arc, names_any, heads_of, marks_of, with_marks}
use Rattle.commands.specs.Model.{Replaced, old_mark, old_marks, old_budget, Model, with_mark}
use Rattle.commands.specs.Valid.{valid}
use Rattle.commands.specs.Commands.{Command, set_mark, set_marks, set_budget, undo, refused, accepted, decided, arc_refusal, mark_refusal, marked, marks_refusal, several_marked, budget_refusal, budgeted, undone, applied, answered, command_numbers}

-- EVERY ANSWER IS ONE OF THE COMMAND'S OWN NUMBERS
mark_listed : (x y z : Bool) (m : Mark) (t h : ℕ) → any_of (eqb (arc_refusal x y z)) (command_numbers (set_mark m t h)) ≡ true
unfolding arc_refusal command_numbers any_of
mark_listed true y z m t h = refl
mark_listed false true z m t h = refl
mark_listed false false true m t h = refl
mark_listed false false false m t h = refl

budget_listed : (x z : Bool) (v : ℕ) → any_of (eqb (cond x bad_budget (cond z history_full 0))) (command_numbers (set_budget v)) ≡ true
unfolding command_numbers any_of
budget_listed true z v = refl
budget_listed false true v = refl
budget_listed false false v = refl

undo_listed : (rs : List Replaced) (b : Model) → any_of (eqb (undone rs b).answer) (command_numbers undo) ≡ true
unfolding undone refused command_numbers any_of
undo_listed [] b = refl
undo_listed (r ∷ rs) b = refl

invalid_listed : (c : Command) → any_of (eqb invalid_board) (command_numbers c) ≡ true
unfolding command_numbers any_of
invalid_listed (set_mark m t h) = refl
invalid_listed (set_marks m t c) = refl
invalid_listed (set_budget v) = refl
invalid_listed undo = refl

decided_answer : (k : ℕ) (o : Replaced) (s : Instance) (b : Model) → (decided k (accepted o s b) b).answer ≡ k
unfolding decided refused accepted
decided_answer zero o s b = refl
decided_answer (suc k) o s b = refl

applied_listed : (c : Command) (b : Model) → any_of (eqb (applied c b).answer) (command_numbers c) ≡ true
unfolding applied marked mark_refusal several_marked marks_refusal command_numbers budgeted budget_refusal
applied_listed (set_mark m t h) b =
    let s = b.instance in
    rw (decided_answer (mark_refusal s (length b.history) t h) (old_mark t h (mark s t h)) (with_mark (mark_number m) t h s) b)
    (mark_listed (not (ltb t s.n && ltb h s.n)) (not (is_arc s t h)) (leb max_records (length b.history)) m t h)
applied_listed (set_marks m t c) b =
    let s = b.instance in
    let q = names_arc s t c in
    rw (decided_answer (marks_refusal s (length b.history) t c) (old_marks t (heads_of q) (marks_of s t q)) (with_marks t q (λ h. mark_number m) s) b)
    (mark_listed (not (ltb t s.n && heads_below s.n c)) (not (names_any s t c)) (leb max_records (length b.history)) m t c)
applied_listed (set_budget v) b =
    let s = b.instance in
    rw (decided_answer (budget_refusal (length b.history) v) (old_budget s.budget) (with_budget v s) b)
    (budget_listed (ltb max_budget v) (leb max_records (length b.history)) v)
applied_listed undo b = undo_listed b.history b

pub answered_listed : (c : Command) (b : Model) → any_of (eqb (answered c b).answer) (command_numbers c) ≡ true
unfolding answered refused
answered_listed c b = go (valid b)
  where
    go : (v : Bool) → any_of (eqb (cond v (applied c b) (refused invalid_board b)).answer) (command_numbers c) ≡ true
    go true = applied_listed c b
    go false = invalid_listed c

-- A COMMAND ON A VALID BOARD IS NEVER ANSWERED 15, the greatest of the numbers
arc_below : (x y z : Bool) → arc_refusal x y z < invalid_board
unfolding arc_refusal
arc_below true y z = omega arith
arc_below false true z = omega arith
arc_below false false true = omega arith
arc_below false false false = omega arith

budget_below : (x z : Bool) → cond x bad_budget (cond z history_full 0) < invalid_board
budget_below true z = omega arith
budget_below false true = omega arith
budget_below false false = omega arith

undo_below : (rs : List Replaced) (b : Model) → (undone rs b).answer < invalid_board
unfolding undone refused
undo_below [] b = omega arith
undo_below (r ∷ rs) b = omega arith

applied_below : (c : Command) (b : Model) → (applied c b).answer < invalid_board
unfolding applied marked mark_refusal several_marked marks_refusal budgeted budget_refusal
applied_below (set_mark m t h) b =
    let s = b.instance in
    rw (decided_answer (mark_refusal s (length b.history) t h) (old_mark t h (mark s t h)) (with_mark (mark_number m) t h s) b)
    (arc_below (not (ltb t s.n && ltb h s.n)) (not (is_arc s t h)) (leb max_records (length b.history)))
applied_below (set_marks m t c) b =
    let s = b.instance in
    let q = names_arc s t c in
    rw (decided_answer (marks_refusal s (length b.history) t c) (old_marks t (heads_of q) (marks_of s t q)) (with_marks t q (λ h. mark_number m) s) b)
    (arc_below (not (ltb t s.n && heads_below s.n c)) (not (names_any s t c)) (leb max_records (length b.history)))
applied_below (set_budget v) b =
    let s = b.instance in
    rw (decided_answer (budget_refusal (length b.history) v) (old_budget s.budget) (with_budget v s) b)
    (budget_below (ltb max_budget v) (leb max_records (length b.history)))
applied_below undo b = undo_below b.history b

pub applied_not_15 : (c : Command) (b : Model) → (applied c b).answer ≡ invalid_board → ⊥
applied_not_15 c b e = omega (arith, applied_below c b, e)
