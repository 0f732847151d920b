-- The empty word, or the digits of another. Assumes nothing.
use borrow.Author.Rules.{rules}
use borrow.Author.Tests.{tests}
use Rattle.arguments.proofs.WordLaws.{reads_none, reads_other, reads_digits}
use Rattle.arguments.proofs.number_in.Goals as goal

pub returns-then-is_empty : goal.returns-then-is_empty
returns-then-is_empty c = reads_none _ (search (rules, tests))

pub returns-then-digits-word : goal.returns-then-digits-word
returns-then-digits-word c = let d = c.scan_digits-digits in reads_other _ d.result d.ensures c.if-digits-word.true

pub returns : goal.returns
returns c = let d = c.scan_digits-digits in reads_digits _ d.result (search (rules, tests)) d.ensures c.if-digits-word.false
