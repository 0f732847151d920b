-- An invalid board is refused; a valid one is written with its history. Assumes nothing.
use mathlib.Core.Path.{◌≡◌, sym, ◌∙◌}
use mathlib.Core.Bool.{true, false}
use borrow.Author.Tests.{not-true, not-false}
use Rattle.commands.specs.Valid.{valid}
use Rattle.board.specs.ModelOf.{model_of}
use Rattle.planner.proofs.writing.write_history_card.Goals as goal

pub returns-then-not-is_valid : goal.returns-then-not-is_valid
returns-then-not-is_valid c =
    let v = c.is_valid in
    let e : valid (model_of c.args.b) ≡ false = sym v.ensures ∙ not-true v.result c.if-not-is_valid.true-raw in
    record { result = rw e; buffer = rw e }

pub write_history-requires : goal.write_history-requires
write_history-requires c =
    let v = c.is_valid in
    sym v.ensures ∙ not-false v.result c.if-not-is_valid.false-raw

pub returns : goal.returns
returns c =
    let w = c.write_history.ensures in
    let v = c.is_valid in
    let e : valid (model_of c.args.b) ≡ true = sym v.ensures ∙ not-false v.result c.if-not-is_valid.false-raw in
    record { result = rw e w.result; buffer = rw e w.buffer }
