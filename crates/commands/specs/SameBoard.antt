-- When two boards are called equal. Assumes nothing: these are definitions.
use Rattle.std.specs.Prelude.{◌≡◌, length}
use Rattle.instance.specs.Same.{SameInstance}
use Rattle.commands.specs.Model.{Model}
use Rattle.commands.specs.Commands.{Result}

-- "Price and mark cells that can never be a link .. and record places past the count are never looked at, nor compared
-- when boards are called equal." The history holds no places past the count, and of a record of several arcs no mark at
-- a head that is not in its set (`record_marks`, heads/RecordMarks). A board has 1,024 marks, so two boards have
-- equally many.
pub record SameBoard (a b : Model) : Type 0 where
  pub same_instances : SameInstance a.instance b.instance
  pub same_sizes : length a.instance.marks ≡ length b.instance.marks
  pub same_history : a.history ≡ b.history

pub record SameResult (d e : Result) : Type 0 where
  pub same_answer : d.answer ≡ e.answer
  pub same_board : SameBoard d.board e.board
