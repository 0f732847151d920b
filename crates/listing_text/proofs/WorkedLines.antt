-- Listings of documents 01's and 02's cases, computed from instance to bytes: sheet Q at 16 as 02, A7 has it, the same
-- with a limit of 23 tries and with room for two trees, at 14, which no tree fits, and one vertex. Assumes nothing.
use mathlib.Core.Path.{◌≡◌, refl}
use mathlib.Core.List.{List, [], ◌∷◌, ◌++◌}
use Prim.Native.Nat.{ℕ}
use lib.ListN.{length}
use Rattle.base.specs.Bounded.{all_below, any_below, sum_below}
use Rattle.base.specs.Lists.{join_below}
use Rattle.instance.specs.Limits.{max_tries}
use Rattle.instance.specs.Instance.{Instance, weight, mark, can_be_arc, is_arc}
use Rattle.instance.specs.Arborescence.{is_pinned, other_pinned, remaining, reaches, total}
use Rattle.instance.proofs.WorkedCases.{filled, instance_from, instance_q}
use Rattle.enumeration.specs.Events.{events_from, events}
use Rattle.enumeration.specs.Walk.{Walked, walk, walked}
use Rattle.text.specs.Decimal.{decimal_in, decimal}
use Rattle.text.specs.Lines.{codes}
use Rattle.report_text.specs.Heading.{header_line}
use Rattle.listing_text.specs.Heading.{ending_label, ending_line, heading_lines}
use Rattle.listing_text.specs.Trees.{parent_text, tree_line}

-- the lines of a listing, one after the other, as the program prints them
unfoldable pub tree_lines : Instance → List (List ℕ) → List ℕ
tree_lines s [] = []
tree_lines s (ps ∷ pss) = tree_line s ps ++ tree_lines s pss

unfoldable pub listing_of : Instance → Walked → List ℕ
listing_of s w = heading_lines s.n s.root s.budget w.ended (length w.trees) w.tries ++ tree_lines s w.trees

unfoldable pub listing : Instance → (limit room : ℕ) → List ℕ
listing s limit room = listing_of s (walked s limit room)

-- what is printed
unfoldable pub printed : List (List ℕ)
printed =
    listing (instance_q 16 []) max_tries 16384
    ∷ listing (instance_q 16 []) 23 16384
    ∷ listing (instance_q 16 []) max_tries 11
    ∷ listing (instance_q 14 []) max_tries 16384
    ∷ listing (instance_from 1 0 0 [] []) max_tries 16384
    ∷ []

-- what documents 01 and 02 say
unfoldable pub shown : List (List ℕ)
shown =
    (codes "positions 4 root 0 budget 16\n" ++
    codes "complete trees 3 tries 24\n" ++
    codes "tree 255 0 1 1 total 15\n" ++
    codes "tree 255 2 0 1 total 16\n" ++
    codes "tree 255 3 1 0 total 16\n")
    ∷ (codes "positions 4 root 0 budget 16\n" ++
    codes "limit trees 3 tries 23\n" ++
    codes "tree 255 0 1 1 total 15\n" ++
    codes "tree 255 2 0 1 total 16\n" ++
    codes "tree 255 3 1 0 total 16\n")
    ∷ (codes "positions 4 root 0 budget 16\n" ++
    codes "room trees 2 tries 22\n" ++
    codes "tree 255 0 1 1 total 15\n" ++
    codes "tree 255 2 0 1 total 16\n")
    ∷ (codes "positions 4 root 0 budget 14\n" ++ codes "complete trees 0 tries 24\n")
    ∷ (codes "positions 1 root 0 budget 0\n" ++
    codes "complete trees 1 tries 0\n" ++
    codes "tree 255 total 0\n")
    ∷ []

-- THE CLAIM
pub worked_lines : printed ≡ shown
unfolding
    printed shown listing listing_of tree_lines codes decimal_in decimal join_below header_line ending_label ending_line heading_lines parent_text tree_line
    events_from events walk walked instance_q instance_from filled all_below any_below sum_below weight mark can_be_arc is_arc is_pinned other_pinned
    remaining reaches total
worked_lines = refl
