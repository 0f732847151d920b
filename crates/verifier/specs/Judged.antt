-- What a plan is judged by, as an instance: the remaining arcs with their weights, no marks. Assumes nothing: these are
-- definitions.
use Rattle.instance.specs.Instance.{Instance}
use Rattle.instance.specs.Matrix.{unmarked}
use Rattle.verifier.specs.declared.arcs.Arcs.{Arcs}

abbrev pub judged : Arcs → Instance
judged a = unmarked a.n a.root a.weights.now
