-- What is refused from the place at hand on is what the whole graph is refused by. Assumes nothing.
use mathlib.Core.Path.{◌≡◌}
use Prim.Native.Nat.{◌-◌, ◌*◌, ◌<◌}
use Rattle.spanning.specs.Graph.{graph_of}
use Rattle.spanning.specs.Refusal.{refusal_from, graph_refusal}
use Rattle.prim.specs.Place.{Placed}
use Rattle.runs.proofs.refusal.check_edges.Given as goal

abbrev pub invariant-loop : goal.invariant-loop
invariant-loop l =
    (l.counter < l.n * l.n → Placed l.n l.counter l.place.row l.place.column)
    × (graph_refusal (graph_of l.n l.weights l.marks) ≡ refusal_from (graph_of l.n l.weights l.marks) (l.n * l.n - l.counter) l.counter)
