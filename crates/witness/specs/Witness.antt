-- Why an arc is excluded, optional or mandatory (document 01: a link is closed, open or sure): the pinned arc that
-- keeps it out, and the instances whose outcomes are the witnesses. Assumes nothing: these are definitions.
use Rattle.std.specs.Prelude.{Bool, false, ◌&&◌, not, cond, ℕ, zero, suc, ltb, leb, eqb}
use Rattle.std.proofs.Math.Option.{Option, none, some}
use Rattle.instance.specs.Instance.{Instance}
use Rattle.instance.specs.Arborescence.{is_pinned}
use Rattle.instance.specs.Candidates.{lesser}
use Rattle.instance.specs.Matrix.{matrix_where, matrix_instance}
use Rattle.instance.specs.States.{limit_at}
use Rattle.instance.specs.declared.Outcome.{Outcome}
use Rattle.instance.specs.declared.Outcome.TheVariants.{Plan, Over, NoTree}
use Rattle.theory.specs.Usable.{forced}

-- the least number from a on that passes the test, of so many; the one after them where none does
unfoldable pub least_from : (count a : ℕ) → (P : ℕ → Bool) → ℕ
least_from zero a P = a
least_from (suc k) a P = cond (P a) a (least_from k (suc a) P)

-- "another link into the same position is pinned: which (the smallest such feeder)"; n where there is none
unfoldable pub is_rival : Instance → (tail head : ℕ) → (other : ℕ) → Bool
is_rival s t h g = not (eqb g t) && is_pinned s g h

unfoldable pub rival : Instance → (tail head : ℕ) → ℕ
rival s t h = least_from s.n 0 (is_rival s t h)

-- "the sheet with this link as the only one into its position": of the remaining arcs those into the head but this one
-- are taken out
abbrev pub forced_instance : Instance → (tail head : ℕ) → Instance
forced_instance s t h = matrix_instance s.n s.root s.budget (matrix_where s (forced t h))

-- "the sheet with this link taken out": of the remaining arcs this one is
unfoldable pub all_but : (tail₀ head₀ : ℕ) → (tail head : ℕ) → Bool
all_but t₀ h₀ t h = not (eqb t t₀ && eqb h h₀)

abbrev pub deleted_instance : Instance → (tail head : ℕ) → Instance
deleted_instance s t h = matrix_instance s.n s.root s.budget (matrix_where s (all_but t h))

-- the outcome has a tree, and its total is at most a limit: "Against the bound of 'Link states' (A2's) this says closed
-- or not", and that bound is `total_limit`
unfoldable pub within : (limit : ℕ) → Outcome → Bool
within l (Plan v) = leb v l
within l (Over v) = leb v l
within l NoTree = false

-- THE STATE from both outcomes, with the arc alone into its head and without it: every arborescence is of one of the
-- two instances, so the cheapest total is the smaller of theirs
abbrev pub outcome_cheapest : Outcome → Option ℕ
outcome_cheapest (Plan v) = some v
outcome_cheapest (Over v) = some v
outcome_cheapest NoTree = none

abbrev pub lesser_of : Option ℕ → Option ℕ → Option ℕ
lesser_of none o = o
lesser_of (some v) o = lesser v o

-- "the larger of the budget and the cheapest total" (02, A2)
unfoldable pub limit_by : (budget : ℕ) → (forced deleted : Outcome) → ℕ
limit_by b f p = limit_at b (lesser_of (outcome_cheapest f) (outcome_cheapest p))

unfoldable pub state_by : (budget : ℕ) → (forced deleted : Outcome) → ℕ
state_by b f p = let l = limit_by b f p in cond (within l f) (cond (within l p) 2 3) 1

-- the same by comparing: a total is beaten where it is above the budget and the other outcome's total is smaller
unfoldable pub beaten : (budget total : ℕ) → (other : Outcome) → Bool
beaten b v (Plan w) = ltb b v && ltb w v
beaten b v (Over w) = ltb b v && ltb w v
beaten b v NoTree = false

unfoldable pub unbeaten : (budget : ℕ) → (own other : Outcome) → Bool
unbeaten b (Plan v) o = not (beaten b v o)
unbeaten b (Over v) o = not (beaten b v o)
unbeaten b NoTree o = false
