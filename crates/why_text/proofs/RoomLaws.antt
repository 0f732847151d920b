-- Room for the first parts of the lines of three parts. Assumes nothing.
use mathlib.Core.List.{List, ◌++◌}
use Prim.Native.Nat.{ℕ}
use Rattle.base.specs.Lists.{join_below}
use Rattle.instance.specs.Limits.{max_vertices}
use Rattle.text.specs.Buffer.{Room}
use Rattle.text.specs.Lines.{codes, line}
use Rattle.text.proofs.BufferLaws.{room_first}
use Rattle.why_text.specs.declared.lines.Line.TheVariants.{Rival, Excluded}
use Rattle.why_text.specs.Grouped.{amount}
use Rattle.why_text.specs.Endings.{arc_text, setter_end, limit_end}
use Rattle.why_text.specs.Cut.{member_text, cut_line}
use Rattle.why_text.specs.Lines.{line_text}

module _ {old : List ℕ} {at : ℕ} where
  module _ (g h p k : ℕ) (room : Room (line_text (Rival g h p k)) old at) where
    pub rival_words : Room (arc_text (codes "closed: ") g h ++ codes " is pinned on the card") old at
    unfolding line_text
    rival_words = room_first (setter_end p k) room

    pub rival_arc : Room (arc_text (codes "closed: ") g h) old at
    rival_arc = room_first (codes " is pinned on the card") rival_words

  module _ (t h v l b : ℕ) (room : Room (line_text (Excluded t h v l b)) old at) where
    pub excluded_total : Room (arc_text (codes "closed: the cheapest tree with ") t h ++ amount (codes " costs ") v) old at
    unfolding line_text
    excluded_total = room_first (limit_end l b) room

    pub excluded_arc : Room (arc_text (codes "closed: the cheapest tree with ") t h) old at
    excluded_arc = room_first (amount (codes " costs ") v) excluded_total

  module _ (c v : ℕ) (room : Room (cut_line c v) old at) where
    pub cut_members : Room (codes "cut" ++ join_below max_vertices (member_text c)) old at
    unfolding cut_line
    cut_members = room_first (line (codes " pence ") v) room

    pub cut_word : Room (codes "cut") old at
    cut_word = room_first (join_below max_vertices (member_text c)) cut_members
