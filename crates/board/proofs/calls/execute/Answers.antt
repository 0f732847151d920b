-- `execute` puts what the command comes to on the board, and that is what the model gives. Assumes nothing.
use mathlib.Core.Path.{◌≡◌, subst}
use native.Mathlib.Omega.{arith}
use Rattle.std.proofs.Common.{rules, Ok}
use Rattle.std.proofs.lemmas.Result.{err_from_is_err_and}
use Rattle.commands.specs.Commands.{Result}
use Rattle.board.specs.declared.Board.{Board}
use Rattle.board.specs.declared.Replaced.{Replaced}
use Rattle.board.specs.declared.changes.Change as declared-change
use Rattle.board.specs.declared.changes.Change.TheVariants as declared-changes
use Rattle.board.specs.Changes.{outcome_of, Recorded, TakenBack, Gives}
use Rattle.board.proofs.CallLaws.{answers_refused}
use Rattle.board.proofs.ChangeOfLaws.{answers_recorded, answers_taken_back}
use Rattle.board.proofs.calls.execute.Goals as goal

-- WHAT THE COMMAND COMES TO
module _ {d : Result} {b : Board} {r : declared-change.Change} (g : Gives d b (outcome_of (Ok r))) where
  recorded : {o p : Replaced} → r ≡ declared-changes.Records o p → Recorded d b o p
  unfolding Gives
  recorded e = subst (λ (x : declared-change.Change). Gives d b (outcome_of (Ok x))) e g

  taken_back : {p : Replaced} → r ≡ declared-changes.TakesBack p → TakenBack d b p
  unfolding Gives
  taken_back e = subst (λ (x : declared-change.Change). Gives d b (outcome_of (Ok x))) e g

pub returns-in_err-old : goal.returns-in_err-old
unfolding Gives
returns-in_err-old c =
    let p = err_from_is_err_and c.from_residual.result c.from_residual.ensures.1 in
    rw (p.1, p.2) (answers_refused _ _ _ c.in_err-old.ensures)

pub offset_bounds-b-b : goal.offset_bounds-b-b
offset_bounds-b-b c = record { fits = omega (arith, (recorded c.in_ok-old.ensures c.in-Records.is).few) }

pub bounds-b-b : goal.bounds-b-b
bounds-b-b c = omega (arith, (recorded c.in_ok-old.ensures c.in-Records.is).few)

pub overflow_add-b : goal.overflow_add-b
overflow_add-b c = record { fits = omega (arith, (recorded c.in_ok-old.ensures c.in-Records.is).few) }

pub put_new_marks-requires : goal.put_new_marks-requires
put_new_marks-requires c = ((recorded c.in_ok-old.ensures c.in-Records.is).within, search rules)

pub overflow_sub-b : goal.overflow_sub-b
overflow_sub-b c = omega (arith, (taken_back c.in_ok-old.ensures c.in-TakesBack.is).some)

pub put_new_marks-requires-in-TakesBack : goal.put_new_marks-requires-in-TakesBack
put_new_marks-requires-in-TakesBack c = ((taken_back c.in_ok-old.ensures c.in-TakesBack.is).within, search rules)

pub returns-in-Records : goal.returns-in-Records
returns-in-Records c =
    answers_recorded _ c.args.b.now _ _ _ c.put_budget-b.ensures c.put_new_marks.ensures _ (search rules)
    (recorded c.in_ok-old.ensures c.in-Records.is)

pub returns-in-TakesBack : goal.returns-in-TakesBack
returns-in-TakesBack c =
    answers_taken_back _ c.args.b.now _ _ _ c.put_budget-b-in-TakesBack.ensures c.put_new_marks-in-TakesBack.ensures
    (taken_back c.in_ok-old.ensures c.in-TakesBack.is)
