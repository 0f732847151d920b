-- How many pairs of cuts an answer comes with. Assumes nothing: these are definitions.
use Rattle.std.specs.Prelude.{ℕ}
use Rattle.planner.specs.declared.Reason.{Reason}
use Rattle.planner.specs.declared.Reason.TheVariants.{Banned, Rival, Priced, Refused}
use Rattle.planner.specs.declared.View.{View}
use Rattle.planner.specs.declared.View.TheVariants.{Shown}
use Rattle.planner.specs.declared.View as views

abbrev pub reason_pairs : Reason → ℕ
reason_pairs (Banned p) = 0
reason_pairs (Rival g p) = 0
reason_pairs (Priced o k) = k
reason_pairs (Refused a) = 0

abbrev pub view_pairs : View → ℕ
view_pairs (Shown o k) = k
view_pairs (views.TheVariants.Refused a) = 0
