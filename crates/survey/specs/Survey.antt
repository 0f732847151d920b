-- What planning finds of an instance, and what a look shows of it. Free, each with what holds of it: which cuts and how
-- many, which set that no arc enters. "The tree is then no longer one of the free results; the cuts still are." (02,
-- A10) Assumes nothing: these are definitions.
use Rattle.instance.specs.Instance.{Instance}
use Rattle.instance.specs.States.{total_limit}
use Rattle.instance.specs.Matrix.{matrix, matrix_instance}
use Rattle.usable.specs.Table.{UsableTable}
use Rattle.survey.specs.FirstPlan.{PlansFirst}
use Rattle.survey.specs.declared.Survey.{Survey}

pub record Surveys (s : Instance) (r : Survey) : Type 0 where
  pub plan : PlansFirst s r.plan
  pub table : UsableTable (matrix_instance s.n s.root (total_limit s) (matrix s)) r.used
