-- The feed lines of a report: the arcs of the tree that is shown (document 01, "Sheet Q and its outcomes"). Assumes
-- nothing: these are definitions.
use Rattle.std.specs.Prelude.{Bool, true, false, cond, List, [], ℕ, eqb, get_or}
use Rattle.base.specs.Lists.{join_below}
use Rattle.instance.specs.Limits.{no_arc}
use Rattle.instance.specs.Instance.{cell}
use Rattle.instance.specs.Arborescence.{parent}
use Rattle.instance.specs.declared.Outcome.{Outcome}
use Rattle.instance.specs.declared.Outcome.TheVariants.{Plan, Over, NoTree}
use Rattle.text.specs.Lines.{codes, line_of_three}

-- "fed, feeder, price"
unfoldable pub feed_line : (head tail weight : ℕ) → List ℕ
feed_line h t w = line_of_three (codes "feed ") h (codes " from ") t (codes " price ") w

-- the weight of the arc from tail to head in a list of weights, as an instance has it
abbrev pub listed_weight : (weights : List ℕ) → (tail head : ℕ) → ℕ
listed_weight ws t h = get_or ws (cell t h) no_arc

-- the arc into v; the root has none
unfoldable pub feed_at : (weights parents : List ℕ) → (root v : ℕ) → List ℕ
feed_at ws ps r v = cond (eqb v r) [] (feed_line v (parent ps v) (listed_weight ws (parent ps v) v))

-- which outcomes have feed lines. Document 01: after "over" and "none" "no feed lines follow"; 02, A2 amends it: "The
-- printing program writes the feed lines for 'over' too"
abbrev pub shows_tree : Outcome → Bool
shows_tree (Plan v) = true
shows_tree (Over v) = true
shows_tree NoTree = false

-- "by fed position"
unfoldable pub feed_lines : (weights parents : List ℕ) → (n root : ℕ) → Outcome → List ℕ
feed_lines ws ps n r o = cond (shows_tree o) (join_below n (feed_at ws ps r)) []
