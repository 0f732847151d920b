-- What `plan_runs` promises, for every input (02, A11). Unique, and so an equation: the result, the states, and what
-- both buffers hold after a refusal. Free, with what holds of it: which cheapest spanning tree has its replacement
-- costs in the buffer (Shows-graph: tree, cheapest). Assumes nothing: these are definitions.
use Rattle.std.specs.Prelude.{◌≡◌, Bool, true, false, List, ℕ, Result, Ok, Err, eqb, length}
use Rattle.instance.specs.RefusalNumbers.{refusal_number}
use Rattle.instance.specs.declared.Outcome.{Outcome}
use Rattle.instance.specs.declared.refusals.Refusal.{Refusal}
use Rattle.spanning.specs.EdgeStates.{graph_outcome}
use Rattle.spanning.specs.Graph.{Graph}
use Rattle.spanning.specs.Refusal.{call_refusal}
use Rattle.spanning.specs.Shown.{ShowsGraph}

-- the outcome, or the number of a refusal
pub data RunsView : Type 0 where
  Shown : Outcome → RunsView
  Refused : ℕ → RunsView

abbrev pub view_of : Result Outcome Refusal → RunsView
view_of (Ok o) = Shown o
view_of (Err r) = Refused (refusal_number r)

-- the number of a result: 0 where something is shown
unfoldable pub view_number : RunsView → ℕ
view_number (Shown o) = 0
view_number (Refused a) = a

-- "outcome and total as a look yields them"
pub record Accepts (g : Graph) (budget : ℕ) (states₀ states costs₀ costs : List ℕ) (r : RunsView) : Type 0 where
  pub result : r ≡ Shown (graph_outcome g 0 budget)
  pub shows : ShowsGraph g budget states₀ states costs₀ costs

-- "a refusal touches no buffer"
pub record Refuses (a : ℕ) (states₀ states costs₀ costs : List ℕ) (r : RunsView) : Type 0 where
  pub result : r ≡ Refused a
  pub states_same : states ≡ states₀
  pub costs_same : costs ≡ costs₀

unfoldable pub PlansAt : (accepted : Bool) → (answer : ℕ) → (g : Graph) → (budget : ℕ) → (states₀ states costs₀ costs : List ℕ) → RunsView → Type 0
PlansAt true a g b ss₀ ss cs₀ cs r = Accepts g b ss₀ ss cs₀ cs r
PlansAt false a g b ss₀ ss cs₀ cs r = Refuses a ss₀ ss cs₀ cs r

unfoldable pub PlansRuns : (g : Graph) → (budget : ℕ) → (states₀ states costs₀ costs : List ℕ) → RunsView → Type 0
PlansRuns g b ss₀ ss cs₀ cs r =
    PlansAt (eqb (call_refusal g (length ss₀) (length cs₀)) 0) (call_refusal g (length ss₀) (length cs₀)) g b ss₀ ss cs₀ cs r
