-- What a command may alter: "No press or take-back alters the positions, the root, a price, or any mark that neither it
-- nor the record taken back names." Assumes nothing: these are definitions.
use Rattle.std.specs.Prelude.{◌≡◌, Bool, true, false, ◌&&◌, List, [], ◌∷◌, ℕ, ◌/◌, ◌%◌, eqb, length}
use Rattle.instance.specs.Instance.{Instance, mark_at}
use Rattle.instance.specs.Cuts.{inside}
use Rattle.commands.specs.Heads.{names_arc, is_named}
use Rattle.commands.specs.Model.{Replaced, old_mark, old_marks, old_budget, Model}
use Rattle.commands.specs.Commands.{Command, set_mark, set_marks, set_budget, undo}

unfoldable pub is_undo : Command → Bool
is_undo (set_mark m t h) = false
is_undo (set_marks m t c) = false
is_undo (set_budget v) = false
is_undo undo = true

-- The cell i is that of tail t and head h: judged by both, for the index of a head of 32 or more is also that of
-- another arc.
unfoldable pub is_cell : (t h i : ℕ) → Bool
is_cell t h i = eqb (i / 32) t && eqb (i % 32) h

-- the cell i is one whose mark a record restores
unfoldable pub restores_cell : Replaced → (i : ℕ) → Bool
restores_cell (old_mark t h m) i = is_cell t h i
restores_cell (old_marks t c ms) i = is_named t (inside c) i
restores_cell (old_budget v) i = false

unfoldable pub restores_budget : Replaced → Bool
restores_budget (old_mark t h m) = false
restores_budget (old_marks t c ms) = false
restores_budget (old_budget v) = true

-- the cell i is named by a command, or by the record that it takes back; of a set of heads only the arcs are named:
-- "Members that are no link are skipped" (02, A5)
unfoldable pub names_cell : Command → Instance → (history : List Replaced) → (i : ℕ) → Bool
names_cell (set_mark m t h) s rs i = is_cell t h i
names_cell (set_marks m t c) s rs i = is_named t (names_arc s t c) i
names_cell (set_budget v) s rs i = false
names_cell undo s [] i = false
names_cell undo s (r ∷ rs) i = restores_cell r i

unfoldable pub names_budget : Command → (history : List Replaced) → Bool
names_budget (set_mark m t h) rs = false
names_budget (set_marks m t c) rs = false
names_budget (set_budget v) rs = true
names_budget undo [] = false
names_budget undo (r ∷ rs) = restores_budget r

-- two instances that differ at most in the marks of the cells that pass the test, and in the budget if that is named
pub record DiffersOnly (named : ℕ → Bool) (budget_named : Bool) (s t : Instance) : Type 0 where
  pub n : t.n ≡ s.n
  pub root : t.root ≡ s.root
  pub weights : t.weights ≡ s.weights
  pub marks_length : length t.marks ≡ length s.marks
  pub marks : (i : ℕ) → named i ≡ false → mark_at t i ≡ mark_at s i
  pub budget : budget_named ≡ false → t.budget ≡ s.budget

abbrev pub ChangesOnlyNamed : Command → (before after : Model) → Type 0
ChangesOnlyNamed c b a =
    DiffersOnly (names_cell c b.instance b.history) (names_budget c b.history) b.instance a.instance
