-- Some mark is other than free, or there is a record. Assumes nothing.
use borrow.Author.Rules.{rules}
use borrow.Author.Tests.{tests}
use mathlib.Core.Logic.{◌≢◌}
use mathlib.Core.Path.{◌≡◌}
use Rattle.std.proofs.lemmas.Iterator.{YieldsList-from_slice, cases_from_any}
use Rattle.instance.specs.Limits.{free}
use Rattle.price_card.proofs.FromCardLaws.{marks_found, marked_found, records_marked}
use Rattle.price_card.proofs.from_card.is_marked.Goals as goal

pub returns-then-records-ne0 : goal.returns-then-records-ne0
returns-then-records-ne0 c = records_marked c.args.marks.now c.args.records c.if-records-ne0.true

pub returns-else-records-ne0 : goal.returns-else-records-ne0
returns-else-records-ne0 c =
    let ms = c.args.marks.now in
    marked_found ms c.requires c.any.result c.args.records c.if-records-ne0.false
    (marks_found ms c.requires c.any.result (cases_from_any _ _ _ (λ m. m ≢ free) (λ m. m ≡ free) c.any.ensures.ran (YieldsList-from_slice ms cc) (λ x q k. search (rules, tests)) (λ x q k. search (rules, tests))))
