-- `test_edmonds::main` meets its contract: every matrix that it plans begins with no arc. Assumes nothing.
use mathlib.Core.Path.{refl}
use Rattle.instance.proofs.MatrixLaws.{no_arcs_fit}
use Rattle.test_edmonds.proofs.main.Goals as goal

pub put_q-requires : goal.put_q-requires
put_q-requires c = (refl, no_arcs_fit)

pub put_cycles-requires : goal.put_cycles-requires
put_cycles-requires c = (refl, no_arcs_fit)

pub put_cycles-requires-2 : goal.put_cycles-requires-2
put_cycles-requires-2 c = (refl, no_arcs_fit)

pub put_cycles-requires-3 : goal.put_cycles-requires-3
put_cycles-requires-3 c = (refl, no_arcs_fit)
