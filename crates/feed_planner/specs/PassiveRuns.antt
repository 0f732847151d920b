-- A hall of passive runs (02, A11): the planner's own promise, its result as words. Assumes nothing: these are
-- definitions.
use Rattle.std.specs.Prelude.{◌≡◌, List, ℕ}
use Rattle.spanning.specs.Graph.{Graph}
use Rattle.runs.specs.Planning.{RunsView, view_number, PlansRuns}
use Rattle.feed_planner.specs.Words.{Words, runs_words}

pub record TellsRuns (g : Graph) (budget : ℕ) (states₀ states costs₀ costs : List ℕ) (old new : Words) (answer : ℕ) : Type 0 where
  pub view : RunsView
  pub plans : PlansRuns g budget states₀ states costs₀ costs view
  pub number : answer ≡ view_number view
  pub words : new ≡ runs_words view old
