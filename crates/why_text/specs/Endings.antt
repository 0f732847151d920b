-- Parts of the first line: an arc, who set its mark, and what the budget is. Assumes nothing: these are definitions.
use Rattle.std.specs.Prelude.{cond, List, [], ◌∷◌, ◌++◌, ℕ, eqb, ltb}
use Rattle.text.specs.Lines.{codes, line_feed, labelled, line}
use Rattle.why_text.specs.Grouped.{amount, amount_line}

-- the three bytes of an arrow to the right in UTF-8
abbrev pub arrow : List ℕ
arrow = 226 ∷ 134 ∷ 146 ∷ []

-- an arc behind a label, as in 0→3: its tail, an arrow and its head
abbrev pub arc_text : (label : List ℕ) → (tail head : ℕ) → List ℕ
arc_text l t h = labelled l t ++ labelled arrow h

-- "by whom: the card, or the recorded press (its place among those standing, from 1)": of so many records; 0 where none
-- names the arc
unfoldable pub setter_end : (place count : ℕ) → List ℕ
setter_end p k = cond (eqb p 0) (line_feed ∷ []) (labelled (codes ", by its recorded press ") p ++ line (codes " of ") k)

-- what a total is held to: the budget, and where no tree is within that, the cheapest total of all too ("the larger of
-- the budget and the cheapest total", 02, A2)
unfoldable pub least_text : (least budget : ℕ) → List ℕ
least_text v b = cond (ltb b v) (amount (codes ", the cheapest of all costs ") v) []

unfoldable pub limit_end : (least budget : ℕ) → List ℕ
limit_end v b = least_text v b ++ amount_line (codes ", the budget is ") b
