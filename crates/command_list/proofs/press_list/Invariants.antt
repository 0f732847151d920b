-- The loop of `press_list` has made the presses before the place `applied`: what they gave and the rest of the list
-- give together is what the whole list gives (`Upto`).
use Rattle.command_list.proofs.LoopLaws.{Upto}
use Rattle.command_list.proofs.press_list.Given as goal

abbrev pub invariant-loop-applied : goal.invariant-loop-applied
invariant-loop-applied l = Upto l.list l.fn.b l.applied (record { applied = l.applied; answer = 0; board = l.b })
