-- The texts of the documents' cases, computed from instance to bytes: P1 as document 01 shows it, P4 (over, with feed
-- lines and P3's rows by 02, A2), P6 (two cheapest trees, the first of them by 02, A10), P7 (none), P8 (one vertex) and
-- a refused card, as one list with one claim. Assumes nothing.
use mathlib.Core.Path.{◌≡◌, refl}
use mathlib.Core.List.{List, [], ◌∷◌, ◌++◌}
use Prim.Native.Nat.{ℕ}
use Rattle.base.specs.Bounded.{all_below, any_below, sum_below}
use Rattle.base.specs.Lists.{tabulate_from, tabulate, join_below, select, any_of, all_of}
use Rattle.instance.specs.Limits.{pinned, banned}
use Rattle.instance.specs.Instance.{weight, mark, can_be_arc, is_arc}
use Rattle.instance.specs.Arborescence.{is_pinned, other_pinned, remaining, reaches, parent_ok, is_arborescence, total, uses}
use Rattle.instance.specs.Candidates.{prefixed, choices, candidates_from, candidates, arborescences, lesser, least_total, cheapest, is_cheapest, cheapest_trees, first_tree}
use Rattle.instance.specs.States.{outcome_at, outcome, fits, fitting, limit_at, total_limit, state_over, states}
use Rattle.instance.proofs.WorkedCases.{arc, filled, instance_from, instance_q}
use Rattle.text.specs.Decimal.{decimal_in, decimal}
use Rattle.text.specs.Lines.{codes}
use Rattle.report_text.specs.Heading.{header_line, outcome_line}
use Rattle.report_text.specs.Feeds.{feed_line, feed_at, feed_lines}
use Rattle.report_text.specs.Rows.{row_line, row_lines}
use Rattle.report_text.specs.Whole.{whole_text, report_text, refused_text}

-- what is printed
unfoldable pub printed : List (List ℕ)
printed =
    report_text (instance_q 16 [])
    ∷ report_text (instance_q 14 [])
    ∷ report_text (instance_q 16 (arc 0 1 banned ∷ []))
    ∷ report_text (instance_q 16 (arc 2 1 pinned ∷ arc 1 2 pinned ∷ []))
    ∷ report_text (instance_from 1 0 0 [] [])
    ∷ refused_text 3
    ∷ []

-- what documents 01 and 02 show
unfoldable pub shown : List (List ℕ)
shown =
    (codes "positions 4 root 0 budget 16\n" ++
    codes "plan 15\n" ++
    codes "feed 1 from 0 price 10\n" ++
    codes "feed 2 from 1 price 1\n" ++
    codes "feed 3 from 1 price 4\n" ++
    codes "row 0 0222\n" ++
    codes "row 1 0022\n" ++
    codes "row 2 0201\n" ++
    codes "row 3 0200\n")
    ∷ (codes "positions 4 root 0 budget 14\n" ++
    codes "over 15\n" ++
    codes "feed 1 from 0 price 10\n" ++
    codes "feed 2 from 1 price 1\n" ++
    codes "feed 3 from 1 price 4\n" ++
    codes "row 0 0311\n" ++
    codes "row 1 0033\n" ++
    codes "row 2 0101\n" ++
    codes "row 3 0100\n")
    ∷ (codes "positions 4 root 0 budget 16\n" ++
    codes "plan 16\n" ++
    codes "feed 1 from 2 price 2\n" ++
    codes "feed 2 from 0 price 10\n" ++
    codes "feed 3 from 1 price 4\n" ++
    codes "row 0 0122\n" ++
    codes "row 1 0022\n" ++
    codes "row 2 0201\n" ++
    codes "row 3 0200\n")
    ∷ (codes "positions 4 root 0 budget 16\n" ++
    codes "none\n" ++
    codes "row 0 0111\n" ++
    codes "row 1 0011\n" ++
    codes "row 2 0101\n" ++
    codes "row 3 0100\n")
    ∷ (codes "positions 1 root 0 budget 0\n" ++ codes "plan 0\n" ++ codes "row 0 0\n")
    ∷ codes "refused 3\n"
    ∷ []

-- THE CLAIM
pub worked_texts : printed ≡ shown
unfolding
    printed shown codes decimal_in decimal join_below header_line outcome_line feed_line feed_at feed_lines row_line row_lines whole_text report_text
    refused_text instance_q instance_from filled all_below any_below sum_below tabulate_from tabulate select any_of all_of weight mark can_be_arc is_arc
    is_pinned other_pinned remaining reaches parent_ok is_arborescence total uses prefixed choices candidates_from candidates arborescences lesser
    least_total cheapest is_cheapest cheapest_trees first_tree outcome_at outcome fits fitting limit_at total_limit state_over states
worked_texts = refl
