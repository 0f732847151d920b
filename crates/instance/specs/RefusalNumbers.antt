-- The refusals as the program has them, an enum, by their numbers; and what a call answers: 0, "accepted", or the
-- number of its refusal. Assumes nothing: these are definitions.
use Rattle.std.specs.Prelude.{ℕ, Result, Ok, Err}
use Rattle.instance.specs.declared.refusals.Refusal.{Refusal}
use Rattle.instance.specs.declared.refusals.Refusal.TheVariants.{CardShort, BadCount, BadLength, BadRoot, BadCardBudget, BadWeight, BadMark, BadFilling, NoVertex, NoSuchArc, BadBudget, HistoryFull, HistoryEmpty, BufferShort, InvalidBoard, BadLine, LineNoVertex, LineNoArc, WeightTooHigh, NamedBefore, NotArborescence, WrongTotal, BadCut, Overcharged, WrongValues, BadTryLimit, BadRecord, HasRecords, CountOutOfRange, OutOfRange, UnequalPair}
use Rattle.instance.specs.Refusals.{card_short, bad_count, bad_length, bad_root, bad_card_budget, bad_weight, bad_mark, bad_filling, no_vertex, no_such_arc, bad_budget, history_full, history_empty, buffer_short, invalid_board, bad_line, line_no_vertex, line_no_arc, weight_too_high, named_before, not_arborescence, wrong_total, bad_cut, overcharged, wrong_values, bad_try_limit, bad_record, has_records, count_out_of_range, out_of_range, unequal_pair}

abbrev pub refusal_number : Refusal → ℕ
refusal_number CardShort = card_short
refusal_number BadCount = bad_count
refusal_number BadLength = bad_length
refusal_number BadRoot = bad_root
refusal_number BadCardBudget = bad_card_budget
refusal_number BadWeight = bad_weight
refusal_number BadMark = bad_mark
refusal_number BadFilling = bad_filling
refusal_number NoVertex = no_vertex
refusal_number NoSuchArc = no_such_arc
refusal_number BadBudget = bad_budget
refusal_number HistoryFull = history_full
refusal_number HistoryEmpty = history_empty
refusal_number BufferShort = buffer_short
refusal_number InvalidBoard = invalid_board
refusal_number BadLine = bad_line
refusal_number LineNoVertex = line_no_vertex
refusal_number LineNoArc = line_no_arc
refusal_number WeightTooHigh = weight_too_high
refusal_number NamedBefore = named_before
refusal_number NotArborescence = not_arborescence
refusal_number WrongTotal = wrong_total
refusal_number BadCut = bad_cut
refusal_number Overcharged = overcharged
refusal_number WrongValues = wrong_values
refusal_number BadTryLimit = bad_try_limit
refusal_number BadRecord = bad_record
refusal_number HasRecords = has_records
refusal_number CountOutOfRange = count_out_of_range
refusal_number OutOfRange = out_of_range
refusal_number UnequalPair = unequal_pair

abbrev pub answer_of : {A : Type 0} → Result A Refusal → ℕ
answer_of (Ok _) = 0
answer_of (Err r) = refusal_number r
