-- Each way answers by the outcome's own total. Assumes nothing.
use mathlib.Core.Path.{◌≡◌, ap}
use mathlib.Core.Bool.{not}
use mathlib.Core.Logic.{⊎_elim}
use Rattle.instance.specs.declared.Outcome.TheVariants.{Plan, Over}
use Rattle.witness.specs.Witness.{unbeaten}
use Rattle.witness.proofs.is_unbeaten.Goals as goal

pub returns-in-Plan : goal.returns-in-Plan
unfolding unbeaten
returns-in-Plan c =
    let rest = ap not c.is_beaten.ensures in
    ⊎_elim (λ (e : c.args.own ≡ Plan c.in-Plan.total). rw e rest) (λ (e : c.args.own ≡ Over c.in-Plan.total). rw e rest) c.in-Plan.is

pub returns-in-NoTree : goal.returns-in-NoTree
unfolding unbeaten
returns-in-NoTree c = rw c.in-NoTree.is
