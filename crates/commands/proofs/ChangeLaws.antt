-- A command alters nothing but what it names. The arcs and records of a valid board have heads below 32, so the cell
-- that is written is the one that is named. Assumes nothing.
use mathlib.Core.Path.{◌≡◌, refl}
use mathlib.Core.Bool.{Bool, true, false, cond, true≢false}
use mathlib.Core.List.{List, [], ◌∷◌}
use Prim.Native.Nat.{ℕ, ◌/◌, ◌%◌, ◌≤◌, ◌<◌}
use native.Mathlib.Omega.{arith}
use lib.Dec.{leb, eqb}
use lib.ListN.{get_or, length-set}
use lib.Seq.{get_or-set_other}
use borrow.Author.Tests.{eq-eqb}
use Rattle.base.specs.Lists.{all_of}
use Rattle.base.proofs.BoolLaws.{not_both, and_left, and_both}
use Rattle.base.proofs.AllOfLaws.{all_of_first}
use Rattle.instance.specs.Limits.{max_vertices, free, banned}
use Rattle.instance.specs.Refusals.{invalid_board}
use Rattle.instance.specs.Marks.{mark_number}
use Rattle.instance.specs.Instance.{Instance, with_budget, cell, is_arc}
use Rattle.instance.specs.Cuts.{inside}
use Rattle.instance.specs.declared.Mark.{Mark}
use Rattle.instance.proofs.ArcLaws.{arc_ends}
use Rattle.commands.specs.Heads.{names_arc, is_named, with_marks}
use Rattle.commands.specs.Model.{Replaced, old_mark, old_marks, old_budget, Model, with_mark, restored}
use Rattle.commands.specs.Valid.{record_ok, valid}
use Rattle.commands.specs.Commands.{Command, set_mark, set_marks, set_budget, undo, refused, accepted, marked, several_marked, budgeted, undone, applied, answered}
use Rattle.commands.specs.Changes.{is_cell, restores_cell, restores_budget, names_cell, names_budget, DiffersOnly, ChangesOnlyNamed}
use Rattle.commands.proofs.HeadsLaws.{put_length, put_elsewhere}
use Rattle.commands.proofs.CommandLaws.{mark_cases, marks_cases, budget_cases}
use Rattle.commands.proofs.ValidLaws.{Valid, valid_parts}

pub same_differs : (q : ℕ → Bool) (w : Bool) (s : Instance) → DiffersOnly q w s s
same_differs q w s = record { n = refl; root = refl; weights = refl; marks_length = refl; marks = λ i _. refl; budget = λ _. refl }

-- a cell that is not the named one has another index
other_cell : (t h i : ℕ) → h < max_vertices → is_cell t h i ≡ false → i ≡ cell t h → ⊥
unfolding is_cell
other_cell t h i l e q =
    let d : i / 32 ≡ t = omega arith in
    let r : i % 32 ≡ h = omega arith in
    not_both (is_cell t h i) (and_both (eqb (i / 32) t) (eqb (i % 32) h) (eq-eqb (i / 32) t d) (eq-eqb (i % 32) h r)) e

mark_differs : (s : Instance) (m t h : ℕ) → h < max_vertices → DiffersOnly (is_cell t h) false s (with_mark m t h s)
unfolding with_mark
mark_differs s m t h l =
    record {
      n = refl;
      root = refl;
      weights = refl;
      marks_length = length-set s.marks (cell t h) m;
      marks = λ i e. get_or-set_other s.marks (cell t h) i m free (other_cell t h i l e);
      budget = λ _. refl;
    }

marks_differs : (s : Instance) (t : ℕ) (q : ℕ → Bool) (g : ℕ → ℕ) → DiffersOnly (is_named t q) false s (with_marks t q g s)
unfolding with_marks
marks_differs s t q g =
    record {
      n = refl;
      root = refl;
      weights = refl;
      marks_length = put_length t q g s.marks;
      marks = λ i e. put_elsewhere t q g s.marks i e;
      budget = λ _. refl;
    }

budget_differs : (s : Instance) (v : ℕ) → DiffersOnly (λ i. false) true s (with_budget v s)
budget_differs s v =
    record { n = refl; root = refl; weights = refl; marks_length = refl; marks = λ i _. refl; budget = λ e. absurd (true≢false e) }

refused_differs : (q : ℕ → Bool) (w : Bool) (b : Model) (k : ℕ) → DiffersOnly q w b.instance (refused k b).board.instance
unfolding refused
refused_differs q w b k = same_differs q w b.instance

head_below : (s : Instance) (t h : ℕ) → s.n ≤ max_vertices → is_arc s t h ≡ true → h < max_vertices
head_below s t h small a = let l = (arc_ends s t h a).head_below in omega arith

-- what a record restores that names arcs
pub restored_differs :
    (s : Instance) (r : Replaced) → s.n ≤ max_vertices → record_ok s r ≡ true → DiffersOnly (restores_cell r) (restores_budget r) s (restored r s)
unfolding restored restores_cell restores_budget record_ok
restored_differs s (old_mark t h m) small e = mark_differs s m t h (head_below s t h small (and_left (is_arc s t h) (leb m banned) e))
restored_differs s (old_marks t c ms) small e = marks_differs s t (inside c) (λ h. get_or ms h free)
restored_differs s (old_budget v) small e = budget_differs s v

module _ (b : Model) (small : b.instance.n ≤ max_vertices) where
  marked_differs : (m : Mark) (t h : ℕ) → DiffersOnly (is_cell t h) false b.instance (marked m t h b).board.instance
  unfolding accepted
  marked_differs m t h =
      mark_cases (λ d. DiffersOnly (is_cell t h) false b.instance d.board.instance) b (λ k. refused_differs (is_cell t h) false b _) m t h
      (λ a _. mark_differs b.instance (mark_number m) t h (head_below b.instance t h small a))

  several_marked_differs : (m : Mark) (t c : ℕ) → DiffersOnly (is_named t (names_arc b.instance t c)) false b.instance (several_marked m t c b).board.instance
  unfolding accepted
  several_marked_differs m t c =
      let q = names_arc b.instance t c in
      marks_cases (λ d. DiffersOnly (is_named t q) false b.instance d.board.instance) b (λ k. refused_differs (is_named t q) false b _) m t c
      (λ _ _. marks_differs b.instance t q (λ h. mark_number m))

  budgeted_differs : (v : ℕ) → DiffersOnly (λ i. false) true b.instance (budgeted v b).board.instance
  unfolding accepted
  budgeted_differs v =
      budget_cases (λ d. DiffersOnly (λ i. false) true b.instance d.board.instance) b (λ k. refused_differs (λ i. false) true b _) v
      (λ _ _. budget_differs b.instance v)

  undone_differs :
      (rs : List Replaced) → all_of (record_ok b.instance) rs ≡ true →
      DiffersOnly (names_cell undo b.instance rs) (names_budget undo rs) b.instance (undone rs b).board.instance
  unfolding undone refused names_cell names_budget
  undone_differs [] e = same_differs (λ i. false) false b.instance
  undone_differs (r ∷ rs) e = restored_differs b.instance r small (all_of_first (record_ok b.instance) r rs e)

applied_changes : (c : Command) (b : Model) → Valid b → ChangesOnlyNamed c b (applied c b).board
unfolding applied names_cell names_budget
applied_changes (set_mark m t h) b v = marked_differs b v.n_high m t h
applied_changes (set_marks m t c) b v = several_marked_differs b v.n_high m t c
applied_changes (set_budget w) b v = budgeted_differs b v.n_high w
applied_changes undo b v = undone_differs b v.n_high b.history v.records_ok

-- an invalid board is refused as it is
pub answered_changes : (c : Command) (b : Model) → ChangesOnlyNamed c b (answered c b).board
unfolding answered
answered_changes c b = at (valid b) refl
  where
    at : (v : Bool) → valid b ≡ v → ChangesOnlyNamed c b (cond v (applied c b) (refused invalid_board b)).board
    at true e = applied_changes c b (valid_parts b e)
    at false e = refused_differs (names_cell c b.instance b.history) (names_budget c b.history) b invalid_board
