-- Numbers with commas and lines, computed: what a user reads, byte for byte. The arrow is three bytes. Assumes nothing.
use mathlib.Core.Path.{◌≡◌, refl}
use mathlib.Core.List.{List, [], ◌∷◌, ◌++◌, map}
use Prim.Native.Nat.{ℕ}
use Prim.Native.String.{String}
use lib.ListN.{length}
use Rattle.base.specs.Lists.{join_below}
use Rattle.instance.specs.Cuts.{inside}
use Rattle.instance.specs.declared.Outcome.TheVariants.{Plan, Over, NoTree}
use Rattle.text.specs.Decimal.{decimal_in, decimal}
use Rattle.text.specs.Lines.{codes}
use Rattle.report_text.specs.Feeds.{feed_line}
use Rattle.report_text.specs.Whole.{refused_text}
use Rattle.why_text.specs.declared.lines.Line.TheVariants.{Banned, Rival, Excluded, With, Without, Feed, Cut, Refused}
use Rattle.why_text.specs.Grouped.{grouped_in, grouped}
use Rattle.why_text.specs.Endings.{arrow, setter_end, least_text, limit_end}
use Rattle.why_text.specs.Cut.{member_text, cut_line}
use Rattle.why_text.specs.Lines.{line_text, max_line}
use Rattle.why_text.specs.Verdict.{excluded_line, mandatory_line, first_line}

-- NUMBERS
pub worked_numbers :
    map grouped (0 ∷ 7 ∷ 999 ∷ 1000 ∷ 1712 ∷ 32505794 ∷ 4294967295 ∷ 1000000 ∷ [])
    ≡ map codes ("0" ∷ "7" ∷ "999" ∷ "1,000" ∷ "1,712" ∷ "32,505,794" ∷ "4,294,967,295" ∷ "1,000,000" ∷ [])
unfolding grouped grouped_in decimal decimal_in codes
worked_numbers = refl

-- a text in which the arrow stands between two others
abbrev joined : (before after : String) → List ℕ
joined a b = codes a ++ arrow ++ codes b

-- THE FIRST LINE of a link that is closed, where the budget is 1,600, and over it; open; sure in three ways
pub worked_firsts :
    map line_text
    (first_line (Over 1712) (Plan 1580) 0 3 1600 1
    ∷ first_line (Over 1712) (Over 1650) 0 3 1600 1
    ∷ first_line NoTree (Plan 1580) 0 3 1600 1
    ∷ first_line (Plan 15) (Plan 16) 1 2 16 2
    ∷ first_line (Plan 1580) (Over 1950) 0 3 1600 3
    ∷ first_line (Over 1650) (Over 1950) 0 3 1600 3
    ∷ first_line (Over 1650) NoTree 0 3 1600 3
    ∷ [])
    ≡ (joined "closed: the cheapest tree with 0" "3 costs 1,712, the budget is 1,600\n"
    ∷ joined "closed: the cheapest tree with 0" "3 costs 1,712, the cheapest of all costs 1,650, the budget is 1,600\n"
    ∷ joined "closed: no tree has 0" "3\n"
    ∷ codes "open: this tree uses it: total 15\n"
    ∷ codes "sure: without it the cheapest costs 1,950, the budget is 1,600\n"
    ∷ codes "sure: without it the cheapest costs 1,950, the cheapest of all costs 1,650, the budget is 1,600\n"
    ∷ codes "sure: without it there is no tree\n"
    ∷ [])
unfolding grouped grouped_in decimal decimal_in codes least_text limit_end line_text excluded_line mandatory_line first_line
worked_firsts = refl

-- THE OTHER LINES: marks of the card and of its records, the second tree, an arc of a tree, cuts, a refusal
pub worked_others :
    map line_text
    (Banned 0 7
    ∷ Banned 4 7
    ∷ Rival 2 3 0 0
    ∷ Rival 2 3 4 7
    ∷ With 1580
    ∷ Without 16
    ∷ Feed 1 0 10
    ∷ Cut 6 5
    ∷ Cut 4294967294 0
    ∷ Refused 10
    ∷ [])
    ≡ (codes "closed: banned on the card\n"
    ∷ codes "closed: banned on the card, by its recorded press 4 of 7\n"
    ∷ joined "closed: 2" "3 is pinned on the card\n"
    ∷ joined "closed: 2" "3 is pinned on the card, by its recorded press 4 of 7\n"
    ∷ codes "with it: total 1,580\n"
    ∷ codes "without it: total 16\n"
    ∷ codes "feed 1 from 0 price 10\n"
    ∷ codes "cut 1 2 pence 5\n"
    ∷ codes "cut 1 2 3 4 5 6 7 8 9 10 11 12 13 14 15 16 17 18 19 20 21 22 23 24 25 26 27 28 29 30 31 pence 0\n"
    ∷ codes "refused 10\n"
    ∷ [])
unfolding
    grouped grouped_in decimal decimal_in codes join_below inside member_text cut_line setter_end feed_line refused_text line_text
worked_others = refl

-- THE LONGEST LINE: no shorter buffer would do
pub longest_line : length (line_text (Excluded 4294967295 4294967295 4294967295 4294967295 4294967294)) ≡ max_line
unfolding grouped grouped_in decimal decimal_in codes least_text limit_end line_text
longest_line = refl
