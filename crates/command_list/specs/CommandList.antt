-- Lists of commands on a board: each in order, up to the first refused one (02, A1). Assumes nothing: these are
-- definitions.
use Rattle.std.specs.Prelude.{◌≡◌, cond, List, [], ◌∷◌, ◌++◌, ℕ, suc, ◌+◌, eqb}
use Rattle.instance.specs.Refusals.{invalid_board}
use Rattle.instance.specs.RefusalNumbers.{answer_of}
use Rattle.commands.specs.Valid.{valid}
use Rattle.commands.specs.Commands.{Command, answered, command_numbers}
use Rattle.board.specs.declared.Board.{Board}
use Rattle.board.specs.ModelOf.{command_of}
use Rattle.board.specs.Contents.{Contents, contents_of, contents_after}
use Rattle.command_list.specs.declared.Press.{Press}
use Rattle.command_list.specs.declared.Applied.{Applied}

-- "The outcome gives how many were applied and the refusal number, or 0", beside the board
pub record ListResult : Type 0 where
  pub applied : ℕ
  pub answer : ℕ
  pub board : Contents

unfoldable pub none_applied : (answer : ℕ) → Contents → ListResult
none_applied a w = record { applied = 0; answer = a; board = w }

unfoldable pub one_more : ListResult → ListResult
one_more r = record { applied = suc r.applied; answer = r.answer; board = r.board }

-- On a valid board: "apply them in order, and stop at the first refused one. What the earlier ones did stands; the rule
-- on refusals speaks of the refused press alone." "Take-backs may stand in the list and count among the applied."
unfoldable pub list_applied : List Command → Contents → ListResult
list_applied [] w = none_applied 0 w
list_applied (c ∷ cs) w =
    let a = (answered c w.model).answer in
    cond (eqb a 0) (one_more (list_applied cs (contents_after c w))) (none_applied a w)

-- "On a damaged board even an empty list gives 15."
unfoldable pub list_answered : List Command → Contents → ListResult
list_answered cs w = cond (valid w.model) (list_applied cs w) (none_applied invalid_board w)

-- what a list may answer: what its commands may, and 15 for the empty one too. "Answers: the numbers of 01, unchanged."
unfoldable pub list_numbers : List Command → List ℕ
list_numbers [] = 0 ∷ invalid_board ∷ []
list_numbers (c ∷ cs) = command_numbers c ++ list_numbers cs

-- WHAT THE PROGRAM'S PRESSES AND RESULTS MEAN
abbrev pub commands_in : List Press → List Command
commands_in [] = []
commands_in (p ∷ ps) = command_of p.command ∷ commands_in ps

-- how many presses were applied, 0 or the number of the refusal that stopped the list, and the board that is left
pub record ListAnswered : Type 0 where
  pub applied : ℕ
  pub answer : ℕ
  pub board : Board

-- what `press_list` gives back, and the board that it leaves
abbrev pub left_by : Applied → Board → ListAnswered
left_by r b = record { applied = r.applied; answer = answer_of r.result; board = b }

abbrev pub list_result_of : ListAnswered → ListResult
list_result_of r = record { applied = r.applied; answer = r.answer; board = contents_of r.board }

-- What `press_list` promises of the list ps, which holds ps' afterwards, on the board b: the whole result, every record
-- place too, is an equation.
pub record AnswersList (ps ps' : List Press) (b : Board) (r : ListAnswered) : Type 0 where
  pub result : list_result_of r ≡ list_answered (commands_in ps) (contents_of b)
  pub list_kept : ps' ≡ ps

-- INSIDE `press_list`
-- so many applied before
unfoldable pub more_applied : (count : ℕ) → ListResult → ListResult
more_applied k r = record { applied = k + r.applied; answer = r.answer; board = r.board }

-- what a list gave, and more commands after it: none once one was refused
unfoldable pub continued : ListResult → List Command → ListResult
continued r cs = cond (eqb r.answer 0) (more_applied r.applied (list_applied cs r.board)) r
