-- What is restored by a record that is taken back (02, A8: it "puts what it says in place of the card's marks or
-- budget"), field by field and arc by arc: board and log share `restored`, so that it is right is said here, for any
-- record and whatever stands there now. Assumes nothing.
use mathlib.Core.Path.{◌≡◌, refl, ap, ◌∙◌}
use mathlib.Core.Bool.{true, ◌&&◌, cond}
use mathlib.Core.List.{List, [], ◌∷◌}
use Prim.Native.Nat.{ℕ, ◌/◌, ◌%◌, ◌≤◌, ◌<◌}
use native.Mathlib.Omega.{arith}
use native.Mathlib.Decide.{ℕ_discrete}
use lib.Dec.{leb, eqb}
use lib.ListN.{length, get_or, set, length-set}
use lib.Seq.{get_or-set_same, get_or-set_other}
use borrow.Author.Tests.{eq-eqb, eqb-true}
use Rattle.base.proofs.BoolLaws.{and_left, and_not}
use Rattle.instance.specs.Limits.{max_vertices, free, banned, cells}
use Rattle.instance.specs.Instance.{Instance, cell, mark, is_arc}
use Rattle.instance.specs.Cuts.{inside}
use Rattle.instance.proofs.ArcLaws.{arc_ends}
use Rattle.commands.specs.Heads.{is_named, with_marks}
use Rattle.commands.specs.Model.{Replaced, old_mark, old_marks, old_budget, with_mark, restored}
use Rattle.commands.specs.Valid.{record_ok}
use Rattle.commands.specs.Commands.{undo, undone, applied}
use Rattle.commands.specs.Log.{noted_below, note_undo, note}
use Rattle.commands.proofs.HeadsLaws.{put_length, put_at}

-- WHAT A RECORD SAYS
-- of the mark of t→h: its own mark if it names that arc, else the one that stands there
abbrev pub said_mark : Replaced → Instance → (t h : ℕ) → ℕ
said_mark (old_mark u v m) s t h = cond (eqb t u && eqb h v) m (mark s t h)
said_mark (old_marks u c ms) s t h = cond (eqb t u && inside c h) (get_or ms h free) (mark s t h)
said_mark (old_budget v) s t h = mark s t h

abbrev pub said_budget : Replaced → Instance → ℕ
said_budget (old_mark u v m) s = s.budget
said_budget (old_marks u c ms) s = s.budget
said_budget (old_budget v) s = v

-- s is what stood there, r is the record, and a is what is left
pub record RestoredReads (r : Replaced) (s a : Instance) : Type 0 where
  pub marks : (t h : ℕ) → t < max_vertices → h < max_vertices → mark a t h ≡ said_mark r s t h
  pub budget : a.budget ≡ said_budget r s
  pub n : a.n ≡ s.n
  pub root : a.root ≡ s.root
  pub weights : a.weights ≡ s.weights
  pub as_long : length a.marks ≡ length s.marks

-- A record of one arc names a head below 32: the index of a higher one is that of another arc too.
abbrev pub HeadBelow : Replaced → Type 0
HeadBelow (old_mark u v m) = v < max_vertices
HeadBelow (old_marks u c ms) = Unit
HeadBelow (old_budget v) = Unit

-- so does every record that is not damage
pub ok_head_below : (s : Instance) (r : Replaced) → s.n ≤ max_vertices → record_ok s r ≡ true → HeadBelow r
unfolding record_ok
ok_head_below s (old_mark u v m) few e = let a = arc_ends s u v (and_left (is_arc s u v) (leb m banned) e) in omega (arith, a.head_below)
ok_head_below s (old_marks u c ms) few e = tt
ok_head_below s (old_budget v) few e = tt

-- ARC BY ARC
module _ (s : Instance) (long : length s.marks ≡ cells) (t h : ℕ) (lt : t < max_vertices) (lh : h < max_vertices) where
  at_arc : (u v m : ℕ) → v < max_vertices → Dec (cell t h ≡ cell u v) →
      get_or (set s.marks (cell u v) m) (cell t h) free ≡ cond (eqb t u && eqb h v) m (get_or s.marks (cell t h) free)
  at_arc u v m lv (yes e) =
      let p : t ≡ u = omega arith in
      let q : h ≡ v = omega arith in
      ap (λ (k : ℕ). get_or (set s.marks (cell u v) m) k free) e ∙ get_or-set_same s.marks (cell u v) m free (omega arith)
      ∙ simp (eq-eqb t u p, eq-eqb h v q)
  at_arc u v m lv (no n) =
      get_or-set_other s.marks (cell u v) (cell t h) m free n
      ∙ simp (and_not (eqb t u) (eqb h v) (λ p q. n (omega (arith, eqb-true t u p, eqb-true h v q))))

  several_marks : (u c : ℕ) (ms : List ℕ) → mark (with_marks u (inside c) (λ v. get_or ms v free) s) t h ≡ cond (eqb t u && inside c h) (get_or ms h free) (mark s t h)
  unfolding mark with_marks is_named
  several_marks u c ms =
      let d : cell t h / 32 ≡ t = omega arith in
      let r : cell t h % 32 ≡ h = omega arith in
      put_at u (inside c) (λ v. get_or ms v free) s.marks (cell t h) (omega arith) ∙ rw (d, r)

-- the number of vertices and that of marks stay, whatever the record
pub restored_n : (r : Replaced) (s : Instance) → (restored r s).n ≡ s.n
unfolding restored with_mark with_marks
restored_n (old_mark t h m) s = refl
restored_n (old_marks t c ms) s = refl
restored_n (old_budget v) s = refl

pub restored_long : (r : Replaced) (s : Instance) → length (restored r s).marks ≡ length s.marks
unfolding restored with_mark with_marks
restored_long (old_mark t h m) s = length-set s.marks (cell t h) m
restored_long (old_marks t c ms) s = put_length t (inside c) (λ h. get_or ms h free) s.marks
restored_long (old_budget v) s = refl

-- "puts what it says in place", and nothing else is touched
pub restored_reads : (r : Replaced) (s : Instance) → length s.marks ≡ cells → HeadBelow r → RestoredReads r s (restored r s)
unfolding restored mark with_mark with_marks
restored_reads (old_mark u v m) s long b =
    record {
      marks = λ t h lt lh. at_arc s long t h lt lh u v m b (ℕ_discrete (cell t h) (cell u v));
      budget = refl;
      n = restored_n (old_mark u v m) s;
      root = refl;
      weights = refl;
      as_long = restored_long (old_mark u v m) s;
    }
restored_reads (old_marks u c ms) s long b =
    record {
      marks = λ t h lt lh. several_marks s long t h lt lh u c ms;
      budget = refl;
      n = restored_n (old_marks u c ms) s;
      root = refl;
      weights = refl;
      as_long = restored_long (old_marks u c ms) s;
    }
restored_reads (old_budget v) s long b =
    record {
      marks = λ t h lt lh. refl;
      budget = refl;
      n = restored_n (old_budget v) s;
      root = refl;
      weights = refl;
      as_long = restored_long (old_budget v) s;
    }

-- TAKEN BACK: "a take-back that reaches one is accepted, strikes it out and puts what it says in place"; of every
-- record that is not damage
module _ (r : Replaced) (rs : List Replaced) (s : Instance) (few : s.n ≤ max_vertices) (long : length s.marks ≡ cells) (ok : record_ok s r ≡ true) where
  pub undo_reads : let a = applied undo (record { instance = s; history = r ∷ rs }) in
      (a.answer ≡ 0) × (a.board.history ≡ rs) × RestoredReads r s a.board.instance
  unfolding applied undone
  undo_reads = (refl, refl, restored_reads r s long (ok_head_below s r few ok))

  pub log_undo_reads : let a = note undo (record { card = s; below = r ∷ rs; entries = [] }) in
      (a.answer ≡ 0) × (a.log.below ≡ rs) × (a.log.entries ≡ []) × RestoredReads r s a.log.card
  unfolding note note_undo noted_below
  log_undo_reads = (refl, refl, refl, restored_reads r s long (ok_head_below s r few ok))
