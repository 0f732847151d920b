-- The commands, and what each answers and leaves on a board of the model. Assumes nothing: these are definitions.
use Rattle.std.specs.Prelude.{Bool, ◌&&◌, not, cond, List, [], ◌∷◌, ℕ, zero, suc, ltb, leb, length}
use Rattle.instance.specs.Limits.{max_budget, max_records}
use Rattle.instance.specs.Refusals.{no_vertex, no_such_arc, bad_budget, history_full, history_empty, invalid_board}
use Rattle.instance.specs.Marks.{mark_number}
use Rattle.instance.specs.Instance.{Instance, with_budget, mark, is_arc}
use Rattle.instance.specs.declared.Mark.{Mark}
use Rattle.commands.specs.Heads.{heads_below, names_arc, names_any, heads_of, marks_of, with_marks}
use Rattle.commands.specs.Model.{Replaced, old_mark, old_marks, old_budget, Model, with_mark, restored}
use Rattle.commands.specs.Valid.{valid}

-- Commands (document 01: presses and take-backs). "Pin, ban and clear set one link's mark .. A budget press sets the
-- budget." 02, A5: "Add a group press: one feeder, a set of fed positions as a 32-bit number, and pin, ban or clear".
pub data Command : Type 0 where
  set_mark : (mark : Mark) → (tail head : ℕ) → Command
  set_marks : (mark : Mark) → (tail heads : ℕ) → Command
  set_budget : (budget : ℕ) → Command
  undo : Command

-- what is answered, 0 for accepted or a refusal's number, and the board that is left
pub record Result : Type 0 where
  pub answer : ℕ
  pub board : Model

-- "board as before"
unfoldable pub refused : (answer : ℕ) → Model → Result
refused a b = record { answer = a; board = b }

-- "Each accepted press is recorded, even if it changes nothing."
unfoldable pub accepted : Replaced → Instance → Model → Result
accepted r s b = record { answer = 0; board = record { instance = s; history = r ∷ b.history } }

-- refused by a number, or where that is 0 the other result
unfoldable pub decided : (answer : ℕ) → (otherwise : Result) → Model → Result
decided zero d b = d
decided (suc k) d b = refused (suc k) b

-- "9, 10, 12 for marks": what refuses a command that names arcs (a vertex not below n, no arc, no room for one record
-- more), or 0
unfoldable pub arc_refusal : (outside missing full : Bool) → ℕ
arc_refusal outside missing full = cond outside no_vertex (cond missing no_such_arc (cond full history_full 0))

unfoldable pub mark_refusal : Instance → (count tail head : ℕ) → ℕ
mark_refusal s k t h = arc_refusal (not (ltb t s.n && ltb h s.n)) (not (is_arc s t h)) (leb max_records k)

-- "set one link's mark, over any earlier mark"
unfoldable pub marked : (mark : Mark) → (tail head : ℕ) → Model → Result
marked m t h b =
    let s = b.instance in
    decided (mark_refusal s (length b.history) t h) (accepted (old_mark t h (mark s t h)) (with_mark (mark_number m) t h s) b) b

-- 02, A5: "9 for a feeder or a set bit not below the count, 10 if no member is a link, 12"
unfoldable pub marks_refusal : Instance → (count tail heads : ℕ) → ℕ
marks_refusal s k t c = arc_refusal (not (ltb t s.n && heads_below s.n c)) (not (names_any s t c)) (leb max_records k)

-- "recorded as one press": one record, of the arcs that are named
unfoldable pub several_marked : (mark : Mark) → (tail heads : ℕ) → Model → Result
several_marked m t c b =
    let s = b.instance in
    let q = names_arc s t c in
    decided (marks_refusal s (length b.history) t c)
    (accepted (old_marks t (heads_of q) (marks_of s t q)) (with_marks t q (λ h. mark_number m) s) b) b

-- "11, 12 for budgets"; 02, A9: "11 .. use the new limits"
unfoldable pub budget_refusal : (count budget : ℕ) → ℕ
budget_refusal k v = cond (ltb max_budget v) bad_budget (cond (leb max_records k) history_full 0)

unfoldable pub budgeted : (budget : ℕ) → Model → Result
budgeted v b =
    let s = b.instance in
    decided (budget_refusal (length b.history) v) (accepted (old_budget s.budget) (with_budget v s) b) b

-- "A take-back removes the latest recorded press"; "13 for a take-back"
unfoldable pub undone : (history : List Replaced) → Model → Result
undone [] b = refused history_empty b
undone (r ∷ rs) b = record { answer = 0; board = record { instance = restored r b.instance; history = rs } }

-- a command on a valid board
unfoldable pub applied : Command → Model → Result
applied (set_mark m t h) b = marked m t h b
applied (set_marks m t c) b = several_marked m t c b
applied (set_budget v) b = budgeted v b
applied undo b = undone b.history b

-- "On a board, 15 comes first"
unfoldable pub answered : Command → Model → Result
answered c b = cond (valid b) (applied c b) (refused invalid_board b)

-- what a command may answer: "15 comes first; then 9, 10, 12 for marks, 11, 12 for budgets, 13 for a take-back"; 02,
-- A5: "in order 15, 9 .., 10 .., 12"
unfoldable pub command_numbers : Command → List ℕ
command_numbers (set_mark m t h) = 0 ∷ no_vertex ∷ no_such_arc ∷ history_full ∷ invalid_board ∷ []
command_numbers (set_marks m t c) = 0 ∷ no_vertex ∷ no_such_arc ∷ history_full ∷ invalid_board ∷ []
command_numbers (set_budget v) = 0 ∷ bad_budget ∷ history_full ∷ invalid_board ∷ []
command_numbers undo = 0 ∷ history_empty ∷ invalid_board ∷ []

-- a list of commands, each on the board that the one before left; step is applied or answered
unfoldable pub answers : (step : Command → Model → Result) → List Command → Model → List ℕ
answers step [] b = []
answers step (c ∷ cs) b = (step c b).answer ∷ answers step cs (step c b).board

unfoldable pub board_after : (step : Command → Model → Result) → List Command → Model → Model
board_after step [] b = b
board_after step (c ∷ cs) b = board_after step cs (step c b).board
