-- The log (document 01: the book), "kept from the card and the calls' arguments alone, never from an answer or the
-- board's record"; of a card that came with records (02, A8) these too. Assumes nothing: these are definitions.
use Rattle.std.specs.Prelude.{Bool, ◌&&◌, not, cond, List, [], ◌∷◌, ℕ, ◌+◌, ltb, leb, length}
use Rattle.instance.specs.Limits.{max_budget, max_records}
use Rattle.instance.specs.Refusals.{no_vertex, no_such_arc, bad_budget, history_full, history_empty}
use Rattle.instance.specs.Instance.{Instance, is_arc}
use Rattle.instance.specs.declared.Mark.{Mark}
use Rattle.commands.specs.Heads.{heads_below, names_any}
use Rattle.commands.specs.Model.{Replaced, restored}
use Rattle.commands.specs.Commands.{Command, set_mark, set_marks, set_budget, undo}

-- An entry (document 01: a standing press): "a link with the mark it sets, or a budget"; and since 02, A5, a set of
-- heads of one tail with the mark that it sets: "The press claim, the 200 limit and prepared lists take a group as one
-- press."
pub data Entry : Type 0 where
  entry_mark : (mark : Mark) → (tail head : ℕ) → Entry
  entry_marks : (mark : Mark) → (tail heads : ℕ) → Entry
  entry_budget : (budget : ℕ) → Entry

-- "It holds the card and a list of standing presses": here the latest stands first. Below are the records that came on
-- the card, the latest first too: they "lie under the standing presses and set nothing" (02, A8).
pub record Log : Type 0 where
  pub card : Instance
  pub below : List Replaced
  pub entries : List Entry

pub record Noted : Type 0 where
  pub answer : ℕ
  pub log : Log

-- the list of entries is "empty at first"; below are the records that came on the card, none on a plain one
unfoldable pub new_log : Instance → (below : List Replaced) → Log
new_log s rs = record { card = s; below = rs; entries = [] }

unfoldable pub with_entries : List Entry → Log → Log
with_entries es k = record { card = k.card; below = k.below; entries = es }

-- how many "stand"; of the records below: "they count among the 200" (02, A8)
unfoldable pub log_length : Log → ℕ
log_length k = length k.entries + length k.below

-- "A refused call leaves the book as it was."
unfoldable pub unnoted : (answer : ℕ) → Log → Noted
unnoted a k = record { answer = a; log = k }

-- "accepted and written at the end", or struck out
unfoldable pub noted : List Entry → Log → Noted
noted es k = record { answer = 0; log = with_entries es k }

-- "refused with 9 if a position is not below n, else with 10 if the card has no such link, else with 12 if 200 stand;
-- otherwise accepted and written at the end"
unfoldable pub note_arcs : (outside missing full : Bool) → Entry → Log → Noted
note_arcs outside missing full e k =
    cond outside (unnoted no_vertex k)
    (cond missing (unnoted no_such_arc k)
    (cond full (unnoted history_full k)
    (noted (e ∷ k.entries) k)))

unfoldable pub note_mark : (mark : Mark) → (tail head : ℕ) → Log → Noted
note_mark m t h k =
    note_arcs (not (ltb t k.card.n && ltb h k.card.n)) (not (is_arc k.card t h)) (leb max_records (log_length k)) (entry_mark m t h) k

-- 02, A5: "9 for a feeder or a set bit not below the count, 10 if no member is a link, 12"; judged by the card
unfoldable pub note_marks : (mark : Mark) → (tail heads : ℕ) → Log → Noted
note_marks m t c k =
    note_arcs (not (ltb t k.card.n && heads_below k.card.n c)) (not (names_any k.card t c)) (leb max_records (log_length k)) (entry_marks m t c) k

-- "refused with 11 if above 31,000,000, else with 12 if 200 stand"; 02, A9: "11 .. use the new limits"
unfoldable pub note_budget : (budget : ℕ) → Log → Noted
note_budget v k =
    cond (ltb max_budget v) (unnoted bad_budget k)
    (cond (leb max_records (log_length k)) (unnoted history_full k)
    (noted (entry_budget v ∷ k.entries) k))

-- 02, A8: "a take-back that reaches one is accepted, strikes it out and puts what it says in place of the card's marks
-- or budget"
unfoldable pub noted_below : Replaced → (below : List Replaced) → Log → Noted
noted_below r rs k = record { answer = 0; log = record { card = restored r k.card; below = rs; entries = [] } }

-- "refused with 13 if none stands; otherwise accepted, and the last one is struck out": with no entry left, the latest
-- record below
unfoldable pub note_undo : List Entry → (below : List Replaced) → Log → Noted
note_undo [] [] k = unnoted history_empty k
note_undo [] (r ∷ rs) k = noted_below r rs k
note_undo (e ∷ es) rs k = noted es k

unfoldable pub note : Command → Log → Noted
note (set_mark m t h) k = note_mark m t h k
note (set_marks m t c) k = note_marks m t c k
note (set_budget v) k = note_budget v k
note undo k = note_undo k.entries k.below k

-- a list of commands
unfoldable pub log_answers : List Command → Log → List ℕ
log_answers [] k = []
log_answers (c ∷ cs) k = (note c k).answer ∷ log_answers cs (note c k).log

unfoldable pub log_after : List Command → Log → Log
log_after [] k = k
log_after (c ∷ cs) k = log_after cs (note c k).log
