-- Results of the planner's calls as words: an outcome by its kind and its total. Assumes nothing: these are
-- definitions.
use Rattle.std.specs.Prelude.{ℕ}
use Rattle.instance.specs.declared.Outcome.{Outcome}
use Rattle.instance.specs.declared.Outcome.TheVariants.{Plan, Over, NoTree}
use Rattle.enumeration.specs.declared.Ended.{Ended}
use Rattle.enumeration.specs.declared.Ended.TheVariants.{Complete, AtLimit, NoRoom}
use Rattle.runs.specs.Planning as runs
use Rattle.planner.specs.declared.View as view
use Rattle.planner.specs.Enumerating as listing
use Rattle.planner.specs.declared.Reason as reason

-- 0 none, 1 plan, 2 over
abbrev pub outcome_kind : Outcome → ℕ
outcome_kind (Plan t) = 1
outcome_kind (Over t) = 2
outcome_kind NoTree = 0

-- "plan with its total; over with the cheapest total"; of none it is 0
abbrev pub outcome_total : Outcome → ℕ
outcome_total (Plan t) = t
outcome_total (Over t) = t
outcome_total NoTree = 0

-- three words: the kind, the total and the number of pairs of a look; of passive runs the first two; of a listing how
-- it ended (0 all tried, 1 at the limit, 2 no room), how many trees there are and how many tries were made
pub record Words : Type 0 where
  pub first : ℕ
  pub second : ℕ
  pub third : ℕ

abbrev pub words : (first second third : ℕ) → Words
words a b c = record { first = a; second = b; third = c }

abbrev pub ended_number : Ended → ℕ
ended_number Complete = 0
ended_number AtLimit = 1
ended_number NoRoom = 2

-- refused, they are as they were
abbrev pub view_words : view.View → Words → Words
view_words (view.TheVariants.Shown o k) w = words (outcome_kind o) (outcome_total o) k
view_words (view.TheVariants.Refused a) w = w

abbrev pub listing_words : listing.Listing → Words → Words
listing_words (listing.Listed e k t) w = words (ended_number e) k t
listing_words (listing.Refused a) w = w

abbrev pub runs_words : runs.RunsView → Words → Words
runs_words (runs.Shown o) w = words (outcome_kind o) (outcome_total o) w.third
runs_words (runs.Refused a) w = w

-- six words of a reason: 1 banned, 2 rival, 3 priced; the place of the recorded press that set the mark, from 1, or 0
-- for the card; the rival's tail; and the three words of a look. A word that the reason has nothing for is 0.
pub record ReasonWords : Type 0 where
  pub reason : ℕ
  pub setter : ℕ
  pub rival : ℕ
  pub plan : Words

abbrev pub words_with : (reason setter rival : ℕ) → (plan : Words) → ReasonWords
words_with a b c w = record { reason = a; setter = b; rival = c; plan = w }

abbrev pub reason_words : reason.Reason → ReasonWords → ReasonWords
reason_words (reason.TheVariants.Banned k) w = words_with 1 k 0 (words 0 0 0)
reason_words (reason.TheVariants.Rival g k) w = words_with 2 k g.0 (words 0 0 0)
reason_words (reason.TheVariants.Priced o k) w = words_with 3 0 0 (words (outcome_kind o) (outcome_total o) k)
reason_words (reason.TheVariants.Refused a) w = w
