-- An invalid board is refused; a valid one has the ranges that writing a card asks for. Assumes nothing.
use mathlib.Core.Path.{◌≡◌, sym, ◌∙◌}
use mathlib.Core.Bool.{true, false}
use borrow.Author.Rules.{rules}
use borrow.Author.Tests.{not-true, not-false}
use Rattle.commands.specs.Valid.{valid}
use Rattle.board.specs.ModelOf.{model_of}
use Rattle.commands.proofs.ValidLaws.{valid_parts}
use Rattle.planner.proofs.writing.write_card.Goals as goal

pub returns-then-not-is_valid : goal.returns-then-not-is_valid
returns-then-not-is_valid c =
    let e : valid (model_of c.args.b) ≡ false = sym c.is_valid.ensures ∙ not-true c.is_valid.result c.if-not-is_valid.true-raw in
    record { result = rw e; buffer = rw e }

pub write_instance-requires : goal.write_instance-requires
write_instance-requires c =
    let v = valid_parts (model_of c.args.b) (sym c.is_valid.ensures ∙ not-false c.is_valid.result c.if-not-is_valid.false-raw) in
    (v.n_low, v.n_high, v.root_below, search rules, search rules)

pub returns : goal.returns
returns c =
    let w = c.write_instance.ensures in
    let e : valid (model_of c.args.b) ≡ true = sym c.is_valid.ensures ∙ not-false c.is_valid.result c.if-not-is_valid.false-raw in
    record { result = rw e w.result; buffer = rw e w.buffer }
