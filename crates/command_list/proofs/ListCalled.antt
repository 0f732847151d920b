-- What a caller learns of `press_list`, from the function's own contract (`Learnt`): so the theorems that cite it are
-- about this function and no other. Assumes nothing.
use mathlib.Core.List.{List}
use contract.Lifetimes.{Lfts}
use borrow.Fn.Kinds.{Dens, ended_of}
use denote.Triple.Clauses.{AtExit}
use Rattle.board.specs.declared.Board.{Board}
use Rattle.command_list.specs.declared.Press.{Press}
use Rattle.command_list.specs.declared.Applied.{Applied}
use Rattle.command_list.specs.CommandList.{ListAnswered, left_by, AnswersList}
use Rattle.command_list.proofs.press_list.Reads as press_list_reads
use Rattle.command_list.proofs.press_list.Kinds as press_list_kinds

-- the presses ps were handed over on the board b: r is what came back, with the board that it left, and the list holds
-- ps'. A slice that is lent to be read has one value, so the contract names it for both.
pub data ListCalled : (ps ps' : List Press) → Board → ListAnswered → Type 0 where
  by_press_list :
      (κs : Lfts 2) (a : Dens κs press_list_kinds.ps) (r : Applied) (e : AtExit (ended_of 2 press_list_kinds.ps press_list_kinds.r) κs) →
      press_list_reads.Learnt κs a r e → ListCalled a.1.0.now a.1.0.now a.0.now (left_by r e.0.now)

pub list_called : {ps ps' : List Press} {b : Board} {r : ListAnswered} → ListCalled ps ps' b r → AnswersList ps ps' b r
list_called (by_press_list κs a r e l) = l
