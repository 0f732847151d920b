-- What was found by planning, copied into the caller's buffers. Assumes nothing: these are definitions.
use Rattle.std.specs.Prelude.{◌≡◌, List, ℕ, take}
use Rattle.base.specs.Lists.{in_front}
use Rattle.states.specs.Show.{states_by}
use Rattle.survey.specs.declared.Survey.{Survey}
use Rattle.survey.specs.declared.first_plan.FirstPlan.{FirstPlan}
use Rattle.planner.specs.Looking.{Buffers}

pub record DisplaysPlan (r : FirstPlan) (n : ℕ) (ps ps' cs cs' : List ℕ) : Type 0 where
  pub parents : ps' ≡ in_front (take n r.parents) ps
  pub cuts : cs' ≡ in_front r.cuts cs

pub record Displays (r : Survey) (weights : List ℕ) (n root : ℕ) (old new : Buffers) : Type 0 where
  pub plan : DisplaysPlan r.plan n old.parents new.parents old.cuts new.cuts
  pub states : new.states ≡ in_front (states_by r.used weights n root) old.states
