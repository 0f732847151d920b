-- What a command comes to on a valid board, as the program holds it: what is recorded and what is put. Assumes nothing:
-- these are definitions.
use Rattle.std.specs.Prelude.{◌≡◌, ◌&&◌, not, cond, List, ℕ, zero, suc, ◌*◌, ◌-◌, ◌<◌, ltb, leb, eqb, get_or, set, Result as Returned, Ok, Err}
use Rattle.base.specs.Digits.{from_digits, digit}
use Rattle.instance.specs.Limits.{max_vertices, free, max_records, cells}
use Rattle.instance.specs.Refusals.{history_empty}
use Rattle.instance.specs.Marks.{mark_number}
use Rattle.instance.specs.RefusalNumbers.{refusal_number}
use Rattle.instance.specs.declared.refusals.Refusal.{Refusal}
use Rattle.instance.specs.Instance.{cell}
use Rattle.instance.specs.Cuts.{inside}
use Rattle.instance.specs.Matrix.{unmarked}
use Rattle.instance.specs.declared.Mark.{Mark}
use Rattle.commands.specs.Heads.{heads_below, names_arc, heads_of, put_marks}
use Rattle.commands.specs.Model.{restored}
use Rattle.commands.specs.Commands.{Result, refused, accepted, arc_refusal, mark_refusal, budget_refusal}
use Rattle.board.specs.declared.Board.{Board}
use Rattle.board.specs.declared.UndoRecord.{UndoRecord}
use Rattle.board.specs.declared.Replaced.{Replaced}
use Rattle.board.specs.declared.Replaced.TheVariants.{OldMark, OldBudget, OldMarks}
use Rattle.board.specs.declared.changes.Change as declared-change
use Rattle.board.specs.declared.changes.Change.TheVariants as declared-changes
use Rattle.board.specs.ModelOf.{replaced_of, blank_record, history_of, instance_of, model_of}
use Rattle.board.specs.Calls.{record_of}

-- What a command comes to: a refusal's number; or what is recorded, as it was, and what is put in its place; or what
-- undo puts back.
pub data Change : Type 0 where
  Refuses : (answer : ℕ) → Change
  Records : (old new : Replaced) → Change
  TakesBack : (old : Replaced) → Change

abbrev pub outcome_of : Returned declared-change.Change Refusal → Change
outcome_of (Err r) = Refuses (refusal_number r)
outcome_of (Ok (declared-changes.Records o p)) = Records o p
outcome_of (Ok (declared-changes.TakesBack p)) = TakesBack p

-- BY THE BOARD'S PARTS
-- refused by a number, or where that is 0 one record more
unfoldable pub changed : (refusal : ℕ) → (old new : Replaced) → Change
changed zero o p = Records o p
changed (suc k) o p = Refuses (suc k)

unfoldable pub mark_change : (n root : ℕ) → (weights marks : List ℕ) → (count : ℕ) → Mark → (tail head : ℕ) → Change
mark_change n r ws ms k m t h =
    changed (mark_refusal (unmarked n r ws) k t h) (OldMark t h (get_or ms (cell t h) free)) (OldMark t h (mark_number m))

-- the heads that have an arc
unfoldable pub arcs_to : (n root : ℕ) → (weights : List ℕ) → (tail heads : ℕ) → ℕ
arcs_to n r ws t c = heads_of (names_arc (unmarked n r ws) t c)

-- the mark 1 at every head, two bits a head
abbrev pub every_head : ℕ
every_head = 6148914691236517205

unfoldable pub marks_change : (n root : ℕ) → (weights marks : List ℕ) → (count : ℕ) → Mark → (tail heads : ℕ) → Change
marks_change n r ws ms k m t c =
    let a = arcs_to n r ws t c in
    changed (arc_refusal (not (ltb t n && heads_below n c)) (eqb a 0) (leb max_records k))
    (OldMarks t a (from_digits 4 max_vertices (λ h. cond (inside a h) (get_or ms (cell t h) free) free))) (OldMarks t a (every_head * mark_number m))

unfoldable pub budget_change : (count old new : ℕ) → Change
budget_change k v w = changed (budget_refusal k w) (OldBudget v) (OldBudget w)

unfoldable pub undo_change : List UndoRecord → (count : ℕ) → Change
undo_change rs k = cond (eqb k 0) (Refuses history_empty) (TakesBack (get_or rs (k - 1) blank_record).replaced)

-- WHAT IS PUT
unfoldable pub budget_put : Replaced → (budget : ℕ) → ℕ
budget_put (OldMark t h m) v = v
budget_put (OldBudget w) v = w
budget_put (OldMarks t c k) v = v

unfoldable pub marks_put : Replaced → (marks : List ℕ) → List ℕ
marks_put (OldMark t h m) ms = set ms (cell t h) m
marks_put (OldBudget w) ms = ms
marks_put (OldMarks t c k) ms = put_marks t (inside c) (digit 4 k) ms

-- it names cells of the marks alone
unfoldable pub Within : Replaced → Type 0
Within (OldMark t h m) = cell t h < cells
Within (OldBudget w) = w ≡ w
Within (OldMarks t c k) = t < max_vertices

-- WHAT A CHANGE GIVES: the model's result d on the board b
-- one record more, the one that stands for what it means
pub record Recorded (d : Result) (b : Board) (old new : Replaced) : Type 0 where
  pub few : b.count < max_records
  pub made : record_of (replaced_of old) ≡ record { replaced = old }
  pub within : Within new
  pub result : d ≡ accepted (replaced_of old) (restored (replaced_of new) (instance_of b)) (model_of b)

-- one record less
pub record TakenBack (d : Result) (b : Board) (new : Replaced) : Type 0 where
  pub some : 0 < b.count
  pub within : Within new
  pub result :
      d ≡ record { answer = 0; board = record { instance = restored (replaced_of new) (instance_of b); history = history_of (b.count - 1) b.records } }

unfoldable pub Gives : Result → Board → Change → Type 0
Gives d b (Refuses k) = d ≡ refused k (model_of b)
Gives d b (Records o p) = Recorded d b o p
Gives d b (TakesBack p) = TakenBack d b p
