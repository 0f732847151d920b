-- The model of a board: an instance with the history of what was replaced on it. Assumes nothing: these are
-- definitions.
use Rattle.std.specs.Prelude.{List, [], ℕ, get_or, set}
use Rattle.instance.specs.Limits.{free}
use Rattle.instance.specs.Instance.{Instance, with_budget, cell}
use Rattle.instance.specs.Cuts.{inside}
use Rattle.commands.specs.Heads.{with_marks}

-- An undo record (document 01: a record): what a command replaced. Of several arcs of one tail it has the heads as a
-- set and their marks by head: "The record must now hold each replaced mark, so its rule changes everywhere" (02, A5).
pub data Replaced : Type 0 where
  old_mark : (tail head mark : ℕ) → Replaced
  old_marks : (tail heads : ℕ) → (marks : List ℕ) → Replaced
  old_budget : (budget : ℕ) → Replaced

-- the history has the latest record first
pub record Model : Type 0 where
  pub instance : Instance
  pub history : List Replaced

-- of a plain card (02, A8: an old card): "A board opened from a card has that card's marks and budget and no recorded
-- press."
unfoldable pub opened : Instance → Model
opened s = record { instance = s; history = [] }

unfoldable pub with_mark : (mark tail head : ℕ) → Instance → Instance
with_mark m t h s =
    record { n = s.n; root = s.root; budget = s.budget; weights = s.weights; marks = set s.marks (cell t h) m }

-- "restores exactly the mark or budget it replaced"; of several arcs "each replaced mark" (02, A5); and of records that
-- came on a card: "they restore what the record says" (02, A8)
unfoldable pub restored : Replaced → Instance → Instance
restored (old_mark t h m) s = with_mark m t h s
restored (old_marks t c ms) s = with_marks t (inside c) (λ h. get_or ms h free) s
restored (old_budget b) s = with_budget b s
