-- `print_card` is safe: what was read and what is written lie within their buffers. Assumes nothing.
use mathlib.Core.Path.{refl, sym}
use lib.Seq.{length-take-le}
use Rattle.print_card.proofs.JudgeLaws.{taken_most, judged_within}
use Rattle.print_card.proofs.print_card.Goals as goal

pub slice_bounds-judge_input-end : goal.slice_bounds-judge_input-end
slice_bounds-judge_input-end c = sym (length-take-le _ _ c.in-Ok.ensures)

pub judge_input-requires : goal.judge_input-requires
judge_input-requires c = taken_most _ _ _ c.in-Ok.ensures c.read_input.auto.buf

pub slice_bounds-card-end : goal.slice_bounds-card-end
slice_bounds-card-end c = judged_within _ _ _ _ _ _ _ c.in-Ok-judge_input.ensures refl

pub slice_bounds-write_all-end-in-Ok-judge_input : goal.slice_bounds-write_all-end-in-Ok-judge_input
slice_bounds-write_all-end-in-Ok-judge_input c = sym (length-take-le _ _ (judged_within _ _ _ _ _ _ _ c.in-Ok-judge_input.ensures refl))
