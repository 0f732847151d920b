-- `record_width` meets its contract, by what was replaced. Assumes nothing.
use mathlib.Core.Path.{sym}
use native.Mathlib.Omega.{arith}
use Rattle.instance.specs.Limits.{max_vertices}
use Rattle.history_format.proofs.MemberMarks.{offset_most}
use Rattle.history_format.proofs.RecordLaws.{length_mark, length_budget, length_marks}
use Rattle.history_card.proofs.put.record_width.Goals as goal

pub overflow_add-result : goal.overflow_add-result
overflow_add-result c = record { fits = omega (arith, c.marks_width.ensures, offset_most c.in-OldMarks.heads max_vertices) }

pub returns-in-OldMark : goal.returns-in-OldMark
returns-in-OldMark c = rw c.in-OldMark.is (sym (length_mark _ _ _))

pub returns-in-OldBudget : goal.returns-in-OldBudget
returns-in-OldBudget c = rw c.in-OldBudget.is (sym (length_budget _))

pub returns-in-OldMarks : goal.returns-in-OldMarks
returns-in-OldMarks c = rw (c.in-OldMarks.is, c.marks_width.ensures) (sym (length_marks _ _ _))
