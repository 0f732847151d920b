-- The outcome of an instance, and the state of each arc. Assumes nothing: these are definitions.
use Rattle.std.specs.Prelude.{Bool, true, false, ◌&&◌, cond, List, ℕ, max, ◌*◌, ◌/◌, ◌%◌, leb}
use Rattle.std.proofs.Math.Option.{Option, none, some}
use Rattle.base.specs.Lists.{tabulate, select, any_of, all_of}
use Rattle.instance.specs.Instance.{Instance, with_budget, is_arc}
use Rattle.instance.specs.Arborescence.{is_arborescence, total, uses}
use Rattle.instance.specs.Candidates.{candidates, cheapest}
use Rattle.instance.specs.declared.Outcome.{Outcome}
use Rattle.instance.specs.declared.Outcome.TheVariants.{Plan, Over, NoTree}

-- the total that an outcome comes with; none has no total, and 0 stands for it
abbrev pub total_in : Outcome → ℕ
total_in (Plan v) = v
total_in (Over v) = v
total_in NoTree = 0

-- "plan with its total; over with the cheapest total; none": the program's own enum, so that there is one. Within
-- budget "if its total is at most the budget"
unfoldable pub outcome_at : (budget : ℕ) → (cheapest : Option ℕ) → Outcome
outcome_at b none = NoTree
outcome_at b (some v) = cond (leb v b) (Plan v) (Over v)

unfoldable pub outcome : Instance → Outcome
outcome s = outcome_at s.budget (cheapest s)

-- a fitting arborescence (document 01: a feed tree within budget)
unfoldable pub fits : Instance → (parents : List ℕ) → Bool
fits s ps = is_arborescence s ps && leb (total s ps) s.budget

unfoldable pub fitting : Instance → List (List ℕ)
fitting s = select (fits s) (candidates s)

-- what a total may be at most for the states: "the larger of the budget and the cheapest total" (02, A2); where there
-- is no tree there is no cheapest total, and it is the budget
unfoldable pub limit_at : (budget : ℕ) → (cheapest : Option ℕ) → ℕ
limit_at b none = b
limit_at b (some v) = max b v

unfoldable pub total_limit : Instance → ℕ
total_limit s = limit_at s.budget (cheapest s)

-- the instance with that for its budget
abbrev pub with_limit : Instance → Instance
with_limit s = with_budget (total_limit s) s

-- "0 not a link; 1 closed, no tree uses it; 2 open, some use it and some don't; 3 sure, there is at least one tree and
-- all use it": no arc, excluded, optional, mandatory, over a list of arborescences
unfoldable pub state_over : List (List ℕ) → Instance → (tail head : ℕ) → ℕ
state_over pss s t h =
    cond (is_arc s t h) (cond (any_of (λ ps. uses ps t h) pss) (cond (all_of (λ ps. uses ps t h) pss) 3 2) 1) 0

-- "Over the feed trees within budget .. If there is no tree within budget, every link is closed." 02, A2 amends it:
-- "when over budget, the states are to be those for a budget equal to the cheapest total". With no tree it stays.
unfoldable pub state : Instance → (tail head : ℕ) → ℕ
state s t h = state_over (fitting (with_limit s)) s t h

-- "n times n bytes, feeder by feeder"
unfoldable pub states : Instance → List ℕ
states s = let pss = fitting (with_limit s) in tabulate (s.n * s.n) (λ i. state_over pss s (i / s.n) (i % s.n))
