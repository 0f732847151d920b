-- Who set an arc's mark: of the records of a board, and of a log's entries, the latest that names the arc, told by its
-- place. Assumes nothing: these are definitions.
use Rattle.std.specs.Prelude.{Bool, false, ◌&&◌, cond, List, [], ◌∷◌, ℕ, suc, ◌+◌, eqb, length}
use Rattle.instance.specs.Instance.{Instance}
use Rattle.instance.specs.Cuts.{inside}
use Rattle.commands.specs.Heads.{names_arc}
use Rattle.commands.specs.Model.{Replaced, old_mark, old_marks, old_budget}
use Rattle.commands.specs.Log.{Entry, entry_mark, entry_marks, entry_budget, Log}

-- the place of the latest element that passes the test, from 1 at the oldest: lists here have the latest first; 0 where
-- none passes
unfoldable pub latest_place : {A : Type 0} → (q : A → Bool) → List A → ℕ
latest_place q [] = 0
latest_place q (x ∷ xs) = cond (q x) (suc (length xs)) (latest_place q xs)

-- the arc is one whose mark a record restores
unfoldable pub record_names : (tail head : ℕ) → Replaced → Bool
record_names t h (old_mark u v m) = eqb t u && eqb h v
record_names t h (old_marks u c ms) = eqb t u && inside c h
record_names t h (old_budget v) = false

-- "the recorded press (its place among those standing, from 1), the latest that names the link"; 0 for the card
unfoldable pub setter : List Replaced → (tail head : ℕ) → ℕ
setter rs t h = latest_place (record_names t h) rs

-- the arc is one whose mark an entry sets; of a set of heads the card's arcs are named, as for `effective_mark`
unfoldable pub entry_names : Instance → (tail head : ℕ) → Entry → Bool
entry_names s t h (entry_mark m u v) = eqb t u && eqb h v
entry_names s t h (entry_marks m u c) = eqb t u && names_arc s u c h
entry_names s t h (entry_budget v) = false

-- "the last standing press that names the link, or the card": the place of that entry, from 1, or 0
unfoldable pub log_setter : Log → (tail head : ℕ) → ℕ
log_setter k t h = latest_place (entry_names k.card t h) k.entries

-- the same place among all that is recorded: the records that came on the card lie under the entries, and "are the
-- card's until taken back". A place up to their number is the card's, and is told as the record that names the arc; 0
-- where not even such a record does.
unfoldable pub recorded_place : (below place : ℕ) → (otherwise : ℕ) → ℕ
recorded_place b p o = cond (eqb p 0) o (p + b)

unfoldable pub log_place : Log → (tail head : ℕ) → ℕ
log_place k t h = recorded_place (length k.below) (log_setter k t h) (setter k.below t h)
