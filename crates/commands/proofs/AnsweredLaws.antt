-- Every command on a valid board leaves a valid one. A new mark goes to an arc, whose weight a valid board has in
-- range; what is recorded are marks of arcs, or the budget, of a valid board; what undo restores was judged with the
-- records. Assumes nothing.
use mathlib.Core.Path.{◌≡◌, refl, sym, ap, ◌∙◌, subst}
use mathlib.Core.Bool.{Bool, true, false, cond}
use mathlib.Core.List.{List, [], ◌∷◌}
use mathlib.Core.Logic.{⊎_elim}
use Prim.Native.Nat.{ℕ, suc, ◌/◌, ◌%◌, ◌≤◌, ◌<◌}
use native.Mathlib.Omega.{arith}
use native.Mathlib.Decide.{ℕ_discrete}
use lib.Dec.{ltb, leb}
use lib.ListN.{length, get_or}
use lib.Seq.{get_or-set_same, get_or-set_other, set_out}
use borrow.Author.Tests.{le-leb, ltb-true, leb-true, ltb-false}
use Rattle.base.specs.Bounded.{all_below}
use Rattle.base.specs.Lists.{all_of}
use Rattle.base.proofs.BoolLaws.{and_left, and_right, cond_true, test}
use Rattle.base.proofs.BoundedLaws.{all_at, all_intro, any_found}
use Rattle.base.proofs.AllOfLaws.{all_of_first, all_of_rest, all_of_more}
use Rattle.instance.specs.Limits.{max_vertices, max_weight, max_budget, free, banned, max_records, cells}
use Rattle.instance.specs.Refusals.{invalid_board}
use Rattle.instance.specs.Marks.{mark_number}
use Rattle.instance.specs.Instance.{Instance, with_budget, cell, weight_at, weight, mark, can_be_arc, is_arc}
use Rattle.instance.specs.Cuts.{inside}
use Rattle.instance.specs.Valid.{cell_ok, cell_valid}
use Rattle.instance.specs.declared.Mark.{Mark}
use Rattle.instance.specs.declared.Mark.TheVariants.{Free, Pinned, Banned}
use Rattle.instance.proofs.ValidLaws.{arc_in_range}
use Rattle.commands.specs.Heads.{names_arc, names_any, heads_of, marks_of, is_named, with_marks}
use Rattle.commands.specs.Model.{Replaced, old_mark, old_marks, old_budget, Model, with_mark, restored}
use Rattle.commands.specs.Valid.{record_ok, valid}
use Rattle.commands.specs.Commands.{Command, set_mark, set_marks, set_budget, undo, refused, accepted, marked, several_marked, budgeted, undone, applied, answered}
use Rattle.commands.specs.Changes.{is_undo}
use Rattle.commands.proofs.HeadsLaws.{put_at, put_past, put_elsewhere, named_cell, named_head, inside_heads, marks_of_at}
use Rattle.commands.proofs.CommandLaws.{mark_cases, marks_cases, budget_cases, undo_restores, undo_shorter}
use Rattle.commands.proofs.ValidLaws.{Valid, valid_parts, parts_valid, records_ok_of, cells_valid_of, record_arcs, arcs_record}

-- a mark that a command sets is in range
pub mark_low : (m : Mark) → mark_number m ≤ banned
mark_low Free = omega arith
mark_low Pinned = omega arith
mark_low Banned = omega arith

-- A MARK ON AN ARC
-- the named cell: a mark in range beside a weight in range (past the end of the marks nothing is set)
mark_here :
    (s : Instance) (m t h : ℕ) → s.n ≤ max_vertices → all_below cells (cell_valid s) ≡ true → is_arc s t h ≡ true → m ≤ banned →
    cell t h < cells → cell_valid (with_mark m t h s) (cell t h) ≡ true
unfolding cell_valid with_mark cell_ok weight
mark_here s m t h l a e k j =
    ⊎_elim
    (λ i.
    rw (get_or-set_same s.marks (cell t h) m free (ltb-true (cell t h) (length s.marks) i), (arc_in_range s t h l a e).weight_most, le-leb m banned k)
    (cond_true (can_be_arc s.n s.root (cell t h / 32) (cell t h % 32))))
    (λ i. rw (set_out s.marks (cell t h) m (ltb-false (cell t h) (length s.marks) i)) (all_at cells (cell_valid s) (cell t h) j a))
    (test (ltb (cell t h) (length s.marks)))

mark_elsewhere : (s : Instance) (m t h i : ℕ) → (i ≡ cell t h → ⊥) → cell_valid s i ≡ true → cell_valid (with_mark m t h s) i ≡ true
unfolding cell_valid with_mark
mark_elsewhere s m t h i k e = rw (get_or-set_other s.marks (cell t h) i m free k) e

mark_cells :
    (s : Instance) (m t h : ℕ) → s.n ≤ max_vertices → all_below cells (cell_valid s) ≡ true → is_arc s t h ≡ true → m ≤ banned →
    all_below cells (cell_valid (with_mark m t h s)) ≡ true
mark_cells s m t h l a e k = all_intro cells (cell_valid (with_mark m t h s)) (λ i j. go i j (ℕ_discrete i (cell t h)))
  where
    go : (i : ℕ) → i < cells → Dec (i ≡ cell t h) → cell_valid (with_mark m t h s) i ≡ true
    go i j (yes q) = rw q (mark_here s m t h l a e k (omega arith))
    go i j (no q) = mark_elsewhere s m t h i q (all_at cells (cell_valid s) i j a)

-- MARKS ON SEVERAL ARCS OF ONE TAIL
module _ (s : Instance) (t : ℕ) (q : ℕ → Bool) (g : ℕ → ℕ) (l : s.n ≤ max_vertices) (a : all_below cells (cell_valid s) ≡ true) where
  marks_here : (i : ℕ) → i < cells → is_named t q i ≡ true → is_arc s t (i % 32) ≡ true → g (i % 32) ≤ banned → cell_valid (with_marks t q g s) i ≡ true
  unfolding cell_valid with_marks cell_ok weight
  marks_here i j e arc low =
      let ok = subst (λ (k : ℕ). leb (weight_at s k) max_weight ≡ true) (sym (named_cell t q i e)) (arc_in_range s t (i % 32) l a arc).weight_most in
      ⊎_elim
      (λ k.
      rw (put_at t q g s.marks i (ltb-true i (length s.marks) k), e, ok, le-leb (g (i % 32)) banned low)
      (cond_true (can_be_arc s.n s.root (i / 32) (i % 32))))
      (λ k. rw (put_past t q g s.marks i (ltb-false i (length s.marks) k)) (all_at cells (cell_valid s) i j a))
      (test (ltb i (length s.marks)))

  marks_elsewhere : (i : ℕ) → is_named t q i ≡ false → cell_valid s i ≡ true → cell_valid (with_marks t q g s) i ≡ true
  unfolding cell_valid with_marks
  marks_elsewhere i e k = rw (put_elsewhere t q g s.marks i e) k

  marks_cells :
      ((h : ℕ) → h < max_vertices → q h ≡ true → is_arc s t h ≡ true) → ((h : ℕ) → h < max_vertices → q h ≡ true → g h ≤ banned) →
      all_below cells (cell_valid (with_marks t q g s)) ≡ true
  marks_cells arcs low = all_intro cells (cell_valid (with_marks t q g s)) (λ i j. go i j (is_named t q i) refl)
    where
      go : (i : ℕ) → i < cells → (x : Bool) → is_named t q i ≡ x → cell_valid (with_marks t q g s) i ≡ true
      go i j true e =
          let b : i % 32 < max_vertices = omega arith in
          let h = named_head t q i e in
          marks_here i j e (arcs (i % 32) b h) (low (i % 32) b h)
      go i j false e = marks_elsewhere i e (all_at cells (cell_valid s) i j a)

-- WHAT A COMMAND LEAVES
marks_valid :
    (t : ℕ) (q : ℕ → Bool) (g : ℕ → ℕ) (b : Model) → Valid b → ((h : ℕ) → h < max_vertices → q h ≡ true → is_arc b.instance t h ≡ true) →
    ((h : ℕ) → h < max_vertices → q h ≡ true → g h ≤ banned) → (rs : List Replaced) → length rs ≤ max_records →
    all_of (record_ok b.instance) rs ≡ true → Valid (record { instance = with_marks t q g b.instance; history = rs })
unfolding with_marks
marks_valid t q g b v arcs low rs few ok =
    let s = b.instance in
    record {
      n_low = v.n_low;
      n_high = v.n_high;
      root_below = v.root_below;
      budget_most = v.budget_most;
      cells_ok = marks_cells s t q g v.n_high v.cells_ok arcs low;
      few = few;
      records_ok = sym (records_ok_of (with_marks t q g s) rs) ∙ records_ok_of s rs ∙ ok;
    }

mark_valid :
    (m t h : ℕ) (b : Model) → m ≤ banned → Valid b → is_arc b.instance t h ≡ true → (rs : List Replaced) → length rs ≤ max_records →
    all_of (record_ok b.instance) rs ≡ true → Valid (record { instance = with_mark m t h b.instance; history = rs })
unfolding with_mark
mark_valid m t h b k v e rs few ok =
    let s = b.instance in
    record {
      n_low = v.n_low;
      n_high = v.n_high;
      root_below = v.root_below;
      budget_most = v.budget_most;
      cells_ok = mark_cells s m t h v.n_high v.cells_ok e k;
      few = few;
      records_ok = sym (records_ok_of (with_mark m t h s) rs) ∙ records_ok_of s rs ∙ ok;
    }

budget_valid :
    (v : ℕ) (b : Model) → v ≤ max_budget → Valid b → (rs : List Replaced) → length rs ≤ max_records → all_of (record_ok b.instance) rs ≡ true →
    Valid (record { instance = with_budget v b.instance; history = rs })
budget_valid v b k d rs few ok =
    let s = b.instance in
    record {
      n_low = d.n_low;
      n_high = d.n_high;
      root_below = d.root_below;
      budget_most = k;
      cells_ok = cells_valid_of s v ∙ d.cells_ok;
      few = few;
      records_ok = sym (records_ok_of (with_budget v s) rs) ∙ records_ok_of s rs ∙ ok;
    }

mark_recorded : (s : Instance) (t h m : ℕ) → is_arc s t h ≡ true → leb m banned ≡ true → record_ok s (old_mark t h m) ≡ true
unfolding record_ok
mark_recorded s t h m e k = rw (e, k)

-- the heads that are recorded are those of arcs, one at least, and their marks those of a valid board
marks_recorded : (b : Model) (t c : ℕ) → Valid b → let s = b.instance in let q = names_arc s t c in
    names_any s t c ≡ true → record_ok s (old_marks t (heads_of q) (marks_of s t q)) ≡ true
unfolding names_any names_arc
marks_recorded b t c v some =
    let s = b.instance in
    let q = names_arc s t c in
    let f = any_found max_vertices q some in
    let named : (h : ℕ) → h < max_vertices → inside (heads_of q) h ≡ true → q h ≡ true = λ h l e. sym (inside_heads q h l) ∙ e in
    let arcs : (h : ℕ) → h < max_vertices → inside (heads_of q) h ≡ true → is_arc s t h ≡ true =
    λ h l e. and_right (inside c h) (is_arc s t h) (named h l e) in
    arcs_record s t (heads_of q) (marks_of s t q)
    (record {
      some = (f.0, f.1, inside_heads q f.0 f.1 ∙ f.2);
      arcs = arcs;
      low =
          λ h l e.
          rw (marks_of_at s t q h l (named h l e))
          (leb-true (mark s t h) banned (arc_in_range s t h v.n_high v.cells_ok (arcs h l e)).mark_most);
    })

budget_recorded : (s : Instance) (v : ℕ) → v ≤ max_budget → record_ok s (old_budget v) ≡ true
unfolding record_ok
budget_recorded s v k = le-leb v max_budget k

refused_valid : (b : Model) → Valid b → (k : ℕ) → Valid (refused (suc k) b).board
unfolding refused
refused_valid b v k = v

marked_valid : (m : Mark) (t h : ℕ) (b : Model) → Valid b → Valid (marked m t h b).board
unfolding accepted
marked_valid m t h b v =
    let s = b.instance in
    let r = old_mark t h (mark s t h) in
    mark_cases (λ d. Valid d.board) b (refused_valid b v) m t h
    (λ a l.
    let o = mark_recorded s t h (mark s t h) a (arc_in_range s t h v.n_high v.cells_ok a).mark_most in
    mark_valid (mark_number m) t h b (mark_low m) v a (r ∷ b.history) l (all_of_more (record_ok s) r b.history o v.records_ok))

several_marked_valid : (m : Mark) (t c : ℕ) (b : Model) → Valid b → Valid (several_marked m t c b).board
unfolding accepted names_arc
several_marked_valid m t c b v =
    let s = b.instance in
    let q = names_arc s t c in
    let r = old_marks t (heads_of q) (marks_of s t q) in
    marks_cases (λ d. Valid d.board) b (refused_valid b v) m t c
    (λ some l.
    marks_valid t q (λ h. mark_number m) b v (λ h _ e. and_right (inside c h) (is_arc s t h) e) (λ h _ _. mark_low m) (r ∷ b.history) l
    (all_of_more (record_ok s) r b.history (marks_recorded b t c v some) v.records_ok))

budgeted_valid : (w : ℕ) (b : Model) → Valid b → Valid (budgeted w b).board
unfolding accepted
budgeted_valid w b v =
    let s = b.instance in
    let r = old_budget s.budget in
    budget_cases (λ d. Valid d.board) b (refused_valid b v) w
    (λ k l.
    budget_valid w b k v (r ∷ b.history) l
    (all_of_more (record_ok s) r b.history (budget_recorded s s.budget v.budget_most) v.records_ok))

undone_valid : (b : Model) (rs : List Replaced) → b.history ≡ rs → Valid b → Valid (undone rs b).board
unfolding undone refused restored record_ok
undone_valid b [] e v = v
undone_valid b (old_mark t h m ∷ rs) e v =
    let s = b.instance in
    let a = rw e at v.records_ok in
    let o = all_of_first (record_ok s) (old_mark t h m) rs a in
    let arc = and_left (is_arc s t h) (leb m banned) o in
    let low = leb-true m banned (and_right (is_arc s t h) (leb m banned) o) in
    mark_valid m t h b low v arc rs (omega (arith, ap length e, v.few)) (all_of_rest (record_ok s) (old_mark t h m) rs a)
undone_valid b (old_marks t c ms ∷ rs) e v =
    let s = b.instance in
    let a = rw e at v.records_ok in
    let o = record_arcs s t c ms (all_of_first (record_ok s) (old_marks t c ms) rs a) in
    marks_valid t (inside c) (λ h. get_or ms h free) b v o.arcs o.low rs (omega (arith, ap length e, v.few))
    (all_of_rest (record_ok s) (old_marks t c ms) rs a)
undone_valid b (old_budget w ∷ rs) e v =
    let s = b.instance in
    let a = rw e at v.records_ok in
    let low = leb-true w max_budget (all_of_first (record_ok s) (old_budget w) rs a) in
    budget_valid w b low v rs (omega (arith, ap length e, v.few)) (all_of_rest (record_ok s) (old_budget w) rs a)

applied_parts : (c : Command) (b : Model) → Valid b → Valid (applied c b).board
unfolding applied
applied_parts (set_mark m t h) b v = marked_valid m t h b v
applied_parts (set_marks m t c) b v = several_marked_valid m t c b v
applied_parts (set_budget w) b v = budgeted_valid w b v
applied_parts undo b v = undone_valid b b.history refl v

-- EVERY COMMAND ON A VALID BOARD LEAVES A VALID ONE
pub applied_valid : (c : Command) (b : Model) → valid b ≡ true → valid (applied c b).board ≡ true
applied_valid c b e = parts_valid (applied c b).board (applied_parts c b (valid_parts b e))

pub answered_applied : (c : Command) (b : Model) → valid b ≡ true → answered c b ≡ applied c b
unfolding answered
answered_applied c b e = rw e

pub answered_valid : (c : Command) (b : Model) → valid b ≡ true → valid (answered c b).board ≡ true
answered_valid c b e = rw (answered_applied c b e) (applied_valid c b e)

-- what is accepted was asked of a valid board
pub accepted_valid : (c : Command) (b : Model) → (answered c b).answer ≡ 0 → valid b ≡ true
unfolding answered refused
accepted_valid c b = go (valid b)
  where
    go : (v : Bool) → (cond v (applied c b) (refused invalid_board b)).answer ≡ 0 → v ≡ true
    go true e = refl
    go false e = absurd (omega arith)

-- UNDO RIGHT AFTER AN ACCEPTED COMMAND RESTORES THE WHOLE BOARD
pub answered_undo_restores :
    (c : Command) (b : Model) → is_undo c ≡ false → (answered c b).answer ≡ 0 → answered undo (answered c b).board ≡ record { answer = 0; board = b }
answered_undo_restores c b n e =
    let v = accepted_valid c b e in
    let a = answered_applied c b v in
    rw a (answered_applied undo (applied c b).board (applied_valid c b v) ∙ undo_restores c b n (rw a at e))

pub answered_undo_shorter : (b : Model) → length (answered undo b).board.history ≤ length b.history
unfolding answered refused
answered_undo_shorter b = go (valid b)
  where
    go : (v : Bool) → length (cond v (applied undo b) (refused invalid_board b)).board.history ≤ length b.history
    go true = undo_shorter b
    go false = omega arith
