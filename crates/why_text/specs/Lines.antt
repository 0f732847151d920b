-- Every line of the answer to why a link is closed, open or sure. Assumes nothing: these are definitions.
use Rattle.std.specs.Prelude.{List, [], ◌∷◌, ◌++◌, ℕ}
use Rattle.text.specs.Lines.{codes, line_feed}
use Rattle.report_text.specs.Feeds.{feed_line}
use Rattle.report_text.specs.Whole.{refused_text}
use Rattle.why_text.specs.declared.lines.Line.{Line}
use Rattle.why_text.specs.declared.lines.Line.TheVariants.{Banned, Rival, Excluded, ExcludedNone, Optional, Mandatory, MandatoryNone, With, Without, Feed, Cut, Refused}
use Rattle.why_text.specs.Grouped.{amount, amount_line}
use Rattle.why_text.specs.Endings.{arc_text, setter_end, limit_end}
use Rattle.why_text.specs.Cut.{cut_line}

unfoldable pub line_text : Line → List ℕ
-- "closed: banned on the card"
line_text (Banned p k) = codes "closed: banned on the card" ++ setter_end p k
-- "another link into the same position is pinned: which .. and by whom"
line_text (Rival g h p k) = arc_text (codes "closed: ") g h ++ codes " is pinned on the card" ++ setter_end p k
-- "closed: the cheapest tree with 0→3 costs 1,712, the budget is 1,600"
line_text (Excluded t h v l b) = arc_text (codes "closed: the cheapest tree with ") t h ++ amount (codes " costs ") v ++ limit_end l b
-- "none with the set that no link enters", which follows
line_text (ExcludedNone t h) = arc_text (codes "closed: no tree has ") t h ++ (line_feed ∷ [])
-- "open: this tree uses it: .."
line_text (Optional v) = amount_line (codes "open: this tree uses it: total ") v
-- "sure: without it the cheapest costs 1,950"
line_text (Mandatory v l b) = amount (codes "sure: without it the cheapest costs ") v ++ limit_end l b
line_text MandatoryNone = codes "sure: without it there is no tree\n"
-- the second tree of an answer
line_text (With v) = amount_line (codes "with it: total ") v
line_text (Without v) = amount_line (codes "without it: total ") v
-- "with the tree as feed lines and the cuts as lines of positions and pence"
line_text (Feed h t w) = feed_line h t w
line_text (Cut c v) = cut_line c v
-- "A refused card prints one line only, as 'refused 3'."
line_text (Refused a) = refused_text a

-- no line is longer, whatever its numbers of 32 bits are: an excluded arc with a total, a cheapest total and a budget
-- of 13 bytes each
abbrev pub max_line : ℕ
max_line = 145
