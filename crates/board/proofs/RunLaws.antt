-- ONE CALL on the program's own boards, for a claim about every list of calls (document 01, demand 3): its answer is
-- the log's, and its board holds the effective instance. `Learnt` is what a caller learns of a call from the function's
-- own contract, so that the claim is about these functions and no others. Assumes nothing.
use mathlib.Core.Path.{◌≡◌, sym, ap, ◌∙◌, subst}
use mathlib.Core.Bool.{true}
use contract.Lifetimes.{Lfts}
use borrow.Fn.Kinds.{Dens, ended_of}
use denote.Triple.Clauses.{AtExit}
use Rattle.std.specs.Prelude.{Result, ⊤}
use Rattle.instance.specs.declared.refusals.Refusal.{Refusal}
use Rattle.instance.specs.declared.Mark.TheVariants.{Free, Pinned, Banned}
use Rattle.commands.specs.Valid.{valid}
use Rattle.commands.specs.Commands.{Command, set_mark, set_marks, set_budget, undo, Result as ModelResult, applied, answered}
use Rattle.commands.specs.Log.{Log, note}
use Rattle.commands.proofs.AnsweredLaws.{answered_applied}
use Rattle.commands.proofs.LogLaws.{Tied, step_tied}
use Rattle.board.specs.declared.Board.{Board}
use Rattle.board.specs.declared.Answered.{Answered}
use Rattle.board.specs.ModelOf.{model_of, result_of, command_of}
use Rattle.board.specs.Calls.{Answers, answered_as}
use Rattle.board.proofs.CallLaws.{call_valid}
use Rattle.board.proofs.calls.pin.Reads as pin-reads
use Rattle.board.proofs.calls.pin.Kinds as pin-kinds
use Rattle.board.proofs.calls.ban.Reads as ban-reads
use Rattle.board.proofs.calls.ban.Kinds as ban-kinds
use Rattle.board.proofs.calls.clear.Reads as clear_reads
use Rattle.board.proofs.calls.clear.Kinds as clear-kinds
use Rattle.board.proofs.calls.pin_group.Reads as pin-group-reads
use Rattle.board.proofs.calls.pin_group.Kinds as pin-group-kinds
use Rattle.board.proofs.calls.ban_group.Reads as ban-group-reads
use Rattle.board.proofs.calls.ban_group.Kinds as ban-group-kinds
use Rattle.board.proofs.calls.clear_group.Reads as clear-group-reads
use Rattle.board.proofs.calls.clear_group.Kinds as clear-group-kinds
use Rattle.board.proofs.calls.set_budget.Reads as set-budget-reads
use Rattle.board.proofs.calls.set_budget.Kinds as set-budget-kinds
use Rattle.board.proofs.calls.take_back.Reads as take-back-reads
use Rattle.board.proofs.calls.take_back.Kinds as take-back-kinds
use Rattle.board.proofs.calls.execute.Reads as execute-reads
use Rattle.board.proofs.calls.execute.Kinds as execute-kinds

-- a public call made the command c on the board b, and gave r: what it answered, and the board that it left
pub data Called : Command → Board → Answered → Type 0 where
  by_pin :
      (κs : Lfts 1) (a : Dens κs pin-kinds.ps) (r : Result ⊤ Refusal) (e : AtExit (ended_of 1 pin-kinds.ps pin-kinds.r) κs) → pin-reads.Learnt κs a r e →
      Called (set_mark Pinned a.1.0.0 a.1.1.0.0) a.0.now (answered_as r e.0.now)
  by_ban :
      (κs : Lfts 1) (a : Dens κs ban-kinds.ps) (r : Result ⊤ Refusal) (e : AtExit (ended_of 1 ban-kinds.ps ban-kinds.r) κs) → ban-reads.Learnt κs a r e →
      Called (set_mark Banned a.1.0.0 a.1.1.0.0) a.0.now (answered_as r e.0.now)
  by_clear :
      (κs : Lfts 1) (a : Dens κs clear-kinds.ps) (r : Result ⊤ Refusal) (e : AtExit (ended_of 1 clear-kinds.ps clear-kinds.r) κs) → clear_reads.Learnt κs a r e →
      Called (set_mark Free a.1.0.0 a.1.1.0.0) a.0.now (answered_as r e.0.now)
  by_pin_group :
      (κs : Lfts 1) (a : Dens κs pin-group-kinds.ps) (r : Result ⊤ Refusal) (e : AtExit (ended_of 1 pin-group-kinds.ps pin-group-kinds.r) κs) → pin-group-reads.Learnt κs a r e →
      Called (set_marks Pinned a.1.0.0 a.1.1.0) a.0.now (answered_as r e.0.now)
  by_ban_group :
      (κs : Lfts 1) (a : Dens κs ban-group-kinds.ps) (r : Result ⊤ Refusal) (e : AtExit (ended_of 1 ban-group-kinds.ps ban-group-kinds.r) κs) → ban-group-reads.Learnt κs a r e →
      Called (set_marks Banned a.1.0.0 a.1.1.0) a.0.now (answered_as r e.0.now)
  by_clear_group :
      (κs : Lfts 1) (a : Dens κs clear-group-kinds.ps) (r : Result ⊤ Refusal) (e : AtExit (ended_of 1 clear-group-kinds.ps clear-group-kinds.r) κs) → clear-group-reads.Learnt κs a r e →
      Called (set_marks Free a.1.0.0 a.1.1.0) a.0.now (answered_as r e.0.now)
  by_set_budget :
      (κs : Lfts 1) (a : Dens κs set-budget-kinds.ps) (r : Result ⊤ Refusal) (e : AtExit (ended_of 1 set-budget-kinds.ps set-budget-kinds.r) κs) → set-budget-reads.Learnt κs a r e →
      Called (set_budget a.1.0) a.0.now (answered_as r e.0.now)
  by_take_back :
      (κs : Lfts 1) (a : Dens κs take-back-kinds.ps) (r : Result ⊤ Refusal) (e : AtExit (ended_of 1 take-back-kinds.ps take-back-kinds.r) κs) → take-back-reads.Learnt κs a r e →
      Called undo a.0.now (answered_as r e.0.now)
  by_execute :
      (κs : Lfts 1) (a : Dens κs execute-kinds.ps) (r : Result ⊤ Refusal) (e : AtExit (ended_of 1 execute-kinds.ps execute-kinds.r) κs) → execute-reads.Learnt κs a r e →
      Called (command_of a.1.0) a.0.now (answered_as r e.0.now)

pub called_answers : {c : Command} {b : Board} {r : Answered} → Called c b r → Answers (answered c (model_of b)) b r
called_answers (by_pin κs a r e l) = l
called_answers (by_ban κs a r e l) = l
called_answers (by_clear κs a r e l) = l
called_answers (by_pin_group κs a r e l) = l
called_answers (by_ban_group κs a r e l) = l
called_answers (by_clear_group κs a r e l) = l
called_answers (by_set_budget κs a r e l) = l
called_answers (by_take_back κs a r e l) = l
called_answers (by_execute κs a r e l) = l

-- a board that follows a log goes on following it
pub record Follows (b : Board) (k : Log) : Type 0 where
  pub is_valid : valid (model_of b) ≡ true
  pub tied : Tied (model_of b) k

pub record NextFollows (c : Command) (k : Log) (r : Answered) : Type 0 where
  pub same_answer : r.answer ≡ (note c k).answer
  pub follows : Follows r.board (note c k).log

pub call_follows : (c : Command) (b : Board) (r : Answered) (k : Log) → Answers (answered c (model_of b)) b r → Follows b k → NextFollows c k r
call_follows c b r k a f =
    let s = step_tied c (model_of b) k f.tied in
    let e : result_of r ≡ applied c (model_of b) = a.result ∙ answered_applied c (model_of b) f.is_valid in
    let next : Tied (model_of r.board) (note c k).log = subst (λ (d : ModelResult). Tied d.board (note c k).log) (sym e) s.tied in
    record {
      same_answer = ap (λ (d : ModelResult). d.answer) e ∙ s.same_answer;
      follows = record { is_valid = call_valid c b r a f.is_valid; tied = next };
    }
