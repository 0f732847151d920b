-- The first two lines of a report: the instance's numbers and its outcome (document 01, "Sheet Q and its outcomes").
-- Assumes nothing: these are definitions.
use Rattle.std.specs.Prelude.{List, ℕ}
use Rattle.instance.specs.declared.Outcome.{Outcome}
use Rattle.instance.specs.declared.Outcome.TheVariants.{Plan, Over, NoTree}
use Rattle.text.specs.Lines.{codes, line, line_of_three}

-- "count, root, budget"
unfoldable pub header_line : (n root budget : ℕ) → List ℕ
header_line n r b = line_of_three (codes "positions ") n (codes " root ") r (codes " budget ") b

-- "total"; "The second line is 'over' with a total, or 'none'"
unfoldable pub outcome_line : Outcome → List ℕ
outcome_line (Plan v) = line (codes "plan ") v
outcome_line (Over v) = line (codes "over ") v
outcome_line NoTree = codes "none\n"
