-- What is effective by a log, entry by entry; and that the mark of a cell that is no arc is always the card's, as
-- neither entries nor the records that came on a card name such a cell. Assumes nothing.
use mathlib.Core.Path.{◌≡◌, refl, sym, ap, ◌∙◌}
use mathlib.Core.Bool.{Bool, true, false, ◌&&◌, not, cond, true≢false}
use mathlib.Core.List.{List, [], ◌∷◌}
use Prim.Native.Nat.{ℕ, ◌/◌, ◌%◌, ◌≤◌, ◌<◌}
use native.Mathlib.Omega.{arith}
use native.Mathlib.Decide.{ℕ_discrete}
use lib.Dec.{ltb, leb, eqb}
use lib.ListN.{length, get_or, set, length-set}
use lib.Seq.{get_or-set_same, get_or-set_other}
use borrow.Author.Tests.{eq-eqb, eqb-true, not-false}
use Rattle.base.specs.Lists.{tabulate, all_of}
use Rattle.base.proofs.BoolLaws.{and_left, and_right, and_not, not_both}
use Rattle.base.proofs.AllOfLaws.{all_of_first, all_of_rest, all_of_more}
use Rattle.base.proofs.ListLaws.{length_tabulate, get_d_tabulate, tabulate_is}
use Rattle.instance.specs.Limits.{max_vertices, max_budget, free, banned, max_records, cells}
use Rattle.instance.specs.Refusals.{bad_budget, history_full}
use Rattle.instance.specs.Marks.{mark_number}
use Rattle.instance.specs.Instance.{Instance, with_budget, cell, mark_at, weight, mark, is_arc}
use Rattle.instance.specs.Cuts.{inside}
use Rattle.instance.specs.Matrix.{unmarked}
use Rattle.instance.specs.declared.Mark.{Mark}
use Rattle.commands.specs.Heads.{heads_below, names_arc, names_any, is_named, put_marks, with_marks}
use Rattle.commands.specs.Model.{Replaced, old_mark, old_marks, old_budget, with_mark, restored}
use Rattle.commands.specs.Valid.{record_ok}
use Rattle.commands.specs.Commands.{Command, set_mark, set_marks, set_budget, undo}
use Rattle.commands.specs.Log.{Entry, entry_mark, entry_marks, entry_budget, Log, Noted, new_log, with_entries, unnoted, noted, noted_below, note_arcs, note_mark, note_marks, note_budget, note_undo, note, log_length, log_after}
use Rattle.commands.specs.Changes.{is_cell, restores_cell, DiffersOnly}
use Rattle.commands.specs.Effective.{effective_mark, effective_budget, effective}
use Rattle.commands.proofs.HeadsLaws.{put_length, put_at}
use Rattle.commands.proofs.ValidLaws.{record_ok_of, record_arcs}
use Rattle.commands.proofs.ChangeLaws.{same_differs, restored_differs}

-- what is effective with these entries on a card, whatever lies below
abbrev pub over : List Entry → Instance → Instance
over es s = effective (record { card = s; below = []; entries = es })

-- THE EFFECTIVE INSTANCE, entry by entry
pub over_none : (s : Instance) → length s.marks ≡ cells → over [] s ≡ s
unfolding effective effective_budget effective_mark mark
over_none s l =
    let g : (i : ℕ) → ℕ = λ i. mark_at s (cell (i / 32) (i % 32)) in
    let e : s.marks ≡ tabulate cells g =
    tabulate_is cells s.marks g free l (λ i b. let c : cell (i / 32) (i % 32) ≡ i = omega arith in rw c) in
    λ j. record { n = s.n; root = s.root; budget = s.budget; weights = s.weights; marks = sym e j }

-- the marks after one more entry, cell by cell
mark_over :
    (s : Instance) (es : List Entry) (m t h : ℕ) → t < max_vertices → h < max_vertices → (i : ℕ) → i < cells → Dec (i ≡ cell t h) →
    get_or (set (tabulate cells (λ i. effective_mark es s (i / 32) (i % 32))) (cell t h) m) i free
    ≡ cond (eqb (i / 32) t && eqb (i % 32) h) m (effective_mark es s (i / 32) (i % 32))
mark_over s es m t h lt lh i b (yes e) =
    let g : (i : ℕ) → ℕ = λ i. effective_mark es s (i / 32) (i % 32) in
    let l = tabulate cells g in
    let q : i / 32 ≡ t = omega arith in
    let r : i % 32 ≡ h = omega arith in
    ap (λ (k : ℕ). get_or (set l (cell t h) m) k free) e ∙ get_or-set_same l (cell t h) m free (omega (arith, length_tabulate cells g))
    ∙ simp (eq-eqb (i / 32) t q, eq-eqb (i % 32) h r)
mark_over s es m t h lt lh i b (no k) =
    let g : (i : ℕ) → ℕ = λ i. effective_mark es s (i / 32) (i % 32) in
    get_or-set_other (tabulate cells g) (cell t h) i m free k ∙ get_d_tabulate cells g i free b
    ∙ simp (and_not (eqb (i / 32) t) (eqb (i % 32) h) (λ u v. k (omega (arith, eqb-true (i / 32) t u, eqb-true (i % 32) h v))))

pub over_mark :
    (s : Instance) (es : List Entry) (m : Mark) (t h : ℕ) → t < max_vertices → h < max_vertices →
    with_mark (mark_number m) t h (over es s) ≡ over (entry_mark m t h ∷ es) s
unfolding effective effective_budget effective_mark with_mark
over_mark s es m t h lt lh =
    let g : (i : ℕ) → ℕ = λ i. effective_mark es s (i / 32) (i % 32) in
    let l = set (tabulate cells g) (cell t h) (mark_number m) in
    let e : l ≡ tabulate cells (λ i. cond (eqb (i / 32) t && eqb (i % 32) h) (mark_number m) (g i)) =
    tabulate_is cells l _ free (length-set (tabulate cells g) (cell t h) (mark_number m) ∙ length_tabulate cells g)
    (λ i b. mark_over s es (mark_number m) t h lt lh i b (ℕ_discrete i (cell t h))) in
    λ j. record { n = s.n; root = s.root; budget = effective_budget es s; weights = s.weights; marks = e j }

-- several arcs of one tail
pub over_marks :
    (s : Instance) (es : List Entry) (m : Mark) (t c : ℕ) → with_marks t (names_arc (over es s) t c) (λ h. mark_number m) (over es s) ≡ over (entry_marks m t c ∷ es) s
unfolding effective effective_budget effective_mark with_marks names_arc is_arc weight is_named
over_marks s es m t c =
    let g : (i : ℕ) → ℕ = λ i. effective_mark es s (i / 32) (i % 32) in
    let q = names_arc (over es s) t c in
    let l = put_marks t q (λ h. mark_number m) (tabulate cells g) in
    let long = length_tabulate cells g in
    let e : l ≡ tabulate cells (λ i. cond (eqb (i / 32) t && names_arc s t c (i % 32)) (mark_number m) (g i)) =
    tabulate_is cells l _ free (put_length t q (λ h. mark_number m) (tabulate cells g) ∙ long)
    (λ i b. put_at t q (λ h. mark_number m) (tabulate cells g) i (omega (arith, long)) ∙ rw (get_d_tabulate cells g i free b)) in
    λ j. record { n = s.n; root = s.root; budget = effective_budget es s; weights = s.weights; marks = e j }

pub over_budget : (s : Instance) (es : List Entry) (v : ℕ) → with_budget v (over es s) ≡ over (entry_budget v ∷ es) s
unfolding effective effective_budget effective_mark
over_budget s es v = refl

-- A CELL THAT IS NO ARC: every entry of a log that began empty names arcs of its card, for a set of heads with no test,
-- as `effective_mark` asks the card itself; and the records that came on the card name arcs of it
abbrev pub on_arc : Instance → Entry → Bool
on_arc s (entry_mark m t h) = is_arc s t h
on_arc s (entry_marks m t c) = true
on_arc s (entry_budget v) = true

abbrev pub arc_cell : Instance → (i : ℕ) → Bool
arc_cell s i = is_arc s (i / 32) (i % 32)

-- a log that began with the card s: at most the marks of arcs and the budget are others by now, and all its records
-- and entries name arcs
pub record OnArcs (s : Instance) (k : Log) : Type 0 where
  pub card : DiffersOnly (arc_cell s) true s k.card
  pub below : all_of (record_ok s) k.below ≡ true
  pub entries : all_of (on_arc k.card) k.entries ≡ true

pub new_on_arcs : (s : Instance) (rs : List Replaced) → all_of (record_ok s) rs ≡ true → OnArcs s (new_log s rs)
unfolding new_log all_of
new_on_arcs s rs e = record { card = same_differs (arc_cell s) true s; below = e; entries = refl }

-- such a card has the same arcs, and judges records alike
module _ (s c : Instance) (d : DiffersOnly (arc_cell s) true s c) where
  same_arc : (t h : ℕ) → is_arc c t h ≡ is_arc s t h
  unfolding is_arc weight
  same_arc t h = rw (d.n, d.root, d.weights)

  same_record : (r : Replaced) → record_ok c r ≡ record_ok s r
  same_record r =
      let e : record_ok (unmarked c.n c.root c.weights) r ≡ record_ok (unmarked s.n s.root s.weights) r = rw (d.n, d.root, d.weights) in
      sym (record_ok_of c r) ∙ e ∙ record_ok_of s r

restores_arcs : (s : Instance) (r : Replaced) (i : ℕ) → record_ok s r ≡ true → arc_cell s i ≡ false → restores_cell r i ≡ false
unfolding restores_cell is_cell is_named record_ok
restores_arcs s (old_mark t h m) i ok e =
    and_not (eqb (i / 32) t) (eqb (i % 32) h)
    (λ p q. not_both (arc_cell s i) (rw (eqb-true (i / 32) t p, eqb-true (i % 32) h q) (and_left (is_arc s t h) (leb m banned) ok)) e)
restores_arcs s (old_marks t c ms) i ok e =
    and_not (eqb (i / 32) t) (inside c (i % 32))
    (λ p q. not_both (arc_cell s i) (rw (eqb-true (i / 32) t p) ((record_arcs s t c ms ok).arcs (i % 32) (omega arith) q)) e)
restores_arcs s (old_budget v) i ok e = refl

-- such a record put in place of the card's marks or budget
below_differs :
    (s c : Instance) (r : Replaced) → s.n ≤ max_vertices → DiffersOnly (arc_cell s) true s c → record_ok s r ≡ true →
    DiffersOnly (arc_cell s) true s (restored r c)
below_differs s c r small d ok =
    let e = restored_differs c r (omega (arith, d.n, small)) (same_record s c d r ∙ ok) in
    record {
      n = e.n ∙ d.n;
      root = e.root ∙ d.root;
      weights = e.weights ∙ d.weights;
      marks_length = e.marks_length ∙ d.marks_length;
      marks = λ i off. e.marks i (restores_arcs s r i ok off) ∙ d.marks i off;
      budget = λ named. absurd (true≢false named);
    }

mark_elsewhere : (s : Instance) (es : List Entry) (t h : ℕ) → all_of (on_arc s) es ≡ true → is_arc s t h ≡ false → effective_mark es s t h ≡ mark s t h
unfolding effective_mark names_arc
mark_elsewhere s [] t h a e = refl
mark_elsewhere s (entry_mark m u v ∷ es) t h a e =
    let other : eqb t u && eqb h v ≡ false =
    and_not (eqb t u) (eqb h v)
    (λ p q. not_both (is_arc s t h) (rw (eqb-true t u p, eqb-true h v q) (all_of_first (on_arc s) (entry_mark m u v) es a)) e) in
    rw other (mark_elsewhere s es t h (all_of_rest (on_arc s) (entry_mark m u v) es a) e)
mark_elsewhere s (entry_marks m u c ∷ es) t h a e =
    let other : eqb t u && names_arc s u c h ≡ false =
    and_not (eqb t u) (names_arc s u c h)
    (λ p q. not_both (is_arc s t h) (rw (eqb-true t u p) (and_right (inside c h) (is_arc s u h) q)) e) in
    rw other (mark_elsewhere s es t h (all_of_rest (on_arc s) (entry_marks m u c) es a) e)
mark_elsewhere s (entry_budget v ∷ es) t h a e = mark_elsewhere s es t h (all_of_rest (on_arc s) (entry_budget v) es a) e

module _ (s : Instance) where
  -- by the index of the cell
  pub cell_elsewhere : (k : Log) → OnArcs s k → (i : ℕ) → i < cells → arc_cell s i ≡ false → mark_at (effective k) i ≡ mark_at s i
  unfolding effective mark
  cell_elsewhere k n i b e =
      let c = k.card in
      let at : cell (i / 32) (i % 32) ≡ i = omega arith in
      let none : is_arc c (i / 32) (i % 32) ≡ false = same_arc s c n.card (i / 32) (i % 32) ∙ e in
      let as_card : effective_mark k.entries c (i / 32) (i % 32) ≡ mark_at c i = rw at at (mark_elsewhere c k.entries (i / 32) (i % 32) n.entries none) in
      get_d_tabulate cells (λ j. effective_mark k.entries c (j / 32) (j % 32)) i free b ∙ as_card ∙ n.card.marks i e

  unnoted_on_arcs : (a : ℕ) (k : Log) → OnArcs s k → OnArcs s (unnoted a k).log
  unfolding unnoted
  unnoted_on_arcs a k n = n

  noted_on_arcs : (e : Entry) (k : Log) → on_arc k.card e ≡ true → OnArcs s k → OnArcs s (noted (e ∷ k.entries) k).log
  unfolding noted with_entries
  noted_on_arcs e k a n = record { card = n.card; below = n.below; entries = all_of_more (on_arc k.card) e k.entries a n.entries }

  arcs_on_arcs : (x y z : Bool) (e : Entry) (k : Log) → OnArcs s k → (y ≡ false → on_arc k.card e ≡ true) → OnArcs s (note_arcs x y z e k).log
  unfolding note_arcs
  arcs_on_arcs true y z e k n h = unnoted_on_arcs _ k n
  arcs_on_arcs false true z e k n h = unnoted_on_arcs _ k n
  arcs_on_arcs false false true e k n h = unnoted_on_arcs _ k n
  arcs_on_arcs false false false e k n h = noted_on_arcs e k (h refl) n

  budget_on_arcs : (x z : Bool) (d : Noted) (k : Log) → OnArcs s k → OnArcs s d.log →
      OnArcs s (cond x (unnoted bad_budget k) (cond z (unnoted history_full k) d)).log
  budget_on_arcs true z d k n h = unnoted_on_arcs _ k n
  budget_on_arcs false true d k n h = unnoted_on_arcs _ k n
  budget_on_arcs false false d k n h = h

module _ (s : Instance) (small : s.n ≤ max_vertices) where
  undo_on_arcs : (es : List Entry) (rs : List Replaced) (k : Log) → k.entries ≡ es → k.below ≡ rs → OnArcs s k → OnArcs s (note_undo es rs k).log
  unfolding note_undo unnoted noted noted_below with_entries all_of
  undo_on_arcs [] [] k p q n = n
  undo_on_arcs [] (r ∷ rs) k p q n =
      let ok = rw q at n.below in
      record {
        card = below_differs s k.card r small n.card (all_of_first (record_ok s) r rs ok);
        below = all_of_rest (record_ok s) r rs ok;
        entries = refl;
      }
  undo_on_arcs (e ∷ es) rs k p q n =
      record { card = n.card; below = n.below; entries = all_of_rest (on_arc k.card) e es (rw p at n.entries) }

  pub note_on_arcs : (c : Command) (k : Log) → OnArcs s k → OnArcs s (note c k).log
  unfolding note note_mark note_marks note_budget
  note_on_arcs (set_mark m t h) k n =
      arcs_on_arcs s (not (ltb t k.card.n && ltb h k.card.n)) (not (is_arc k.card t h)) (leb max_records (log_length k)) (entry_mark m t h) k n
      (λ y. not-false (is_arc k.card t h) y)
  note_on_arcs (set_marks m t c) k n =
      arcs_on_arcs s (not (ltb t k.card.n && heads_below k.card.n c)) (not (names_any k.card t c)) (leb max_records (log_length k)) (entry_marks m t c) k n
      (λ _. refl)
  note_on_arcs (set_budget v) k n =
      budget_on_arcs s (ltb max_budget v) (leb max_records (log_length k)) _ k n (noted_on_arcs s (entry_budget v) k refl n)
  note_on_arcs undo k n = undo_on_arcs k.entries k.below k refl refl n

  pub log_on_arcs : (cs : List Command) (k : Log) → OnArcs s k → OnArcs s (log_after cs k)
  unfolding log_after
  log_on_arcs [] k n = n
  log_on_arcs (c ∷ cs) k n = log_on_arcs cs (note c k).log (note_on_arcs c k n)

  -- ANY LIST OF COMMANDS on a card, with any records that name arcs of it, leaves the marks of the cells that are no
  -- arc as the card has them
  pub effective_cell_elsewhere :
      (rs : List Replaced) → all_of (record_ok s) rs ≡ true → (cs : List Command) (i : ℕ) → i < cells → arc_cell s i ≡ false →
      mark_at (effective (log_after cs (new_log s rs))) i ≡ mark_at s i
  effective_cell_elsewhere rs ok cs i b e = cell_elsewhere s (log_after cs (new_log s rs)) (log_on_arcs cs (new_log s rs) (new_on_arcs s rs ok)) i b e
