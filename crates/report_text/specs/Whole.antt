-- The whole text that the planner prints, as a list of bytes (document 01, "Sheet Q and its outcomes"). Assumes
-- nothing: these are definitions.
use Rattle.std.specs.Prelude.{List, ◌++◌, ℕ}
use Rattle.instance.specs.Instance.{Instance}
use Rattle.instance.specs.Candidates.{first_tree}
use Rattle.instance.specs.declared.Outcome.{Outcome}
use Rattle.instance.specs.States.{outcome, states}
use Rattle.text.specs.Lines.{codes, line}
use Rattle.report_text.specs.Heading.{header_line, outcome_line}
use Rattle.report_text.specs.Feeds.{feed_lines}
use Rattle.report_text.specs.Rows.{row_lines}

-- the text, from the weights, the parents of the tree that is shown, and n times n states
unfoldable pub whole_text : (weights parents states : List ℕ) → (n root budget : ℕ) → Outcome → List ℕ
whole_text ws ps ss n r b o = header_line n r b ++ outcome_line o ++ feed_lines ws ps n r o ++ row_lines ss n

-- THE TEXT of an instance, with its outcome, the parents that a look shows and its states: no part of it is free, since
-- "The tree is then no longer one of the free results" (02, A10)
unfoldable pub report_text : Instance → List ℕ
report_text s = whole_text s.weights (first_tree s) (states s) s.n s.root s.budget (outcome s)

-- "A refused card prints one line only, as 'refused 3'."
unfoldable pub refused_text : (answer : ℕ) → List ℕ
refused_text k = line (codes "refused ") k

-- the longest text of a valid instance: 32 vertices, and every number as long as it can be
abbrev pub max_text : ℕ
max_text = 2241
