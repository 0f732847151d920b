-- What `set_marks` puts together is what the model gives: the refusal, the record of the marks that were there, and the
-- marks that were put. Assumes nothing.
use mathlib.Core.Path.{◌≡◌, sym, ap, ◌∙◌}
use mathlib.Core.Bool.{Bool, true, ◌&&◌, not, cond}
use mathlib.Core.List.{List}
use Prim.Native.Nat.{ℕ, ◌*◌, ◌≤◌, ◌<◌}
use lib.Dec.{ltb, leb, eqb}
use lib.ListN.{length, get_or}
use borrow.Author.Tests.{leb-true}
use Rattle.base.specs.Digits.{from_digits, digit}
use Rattle.base.proofs.BoolLaws.{and_right}
use Rattle.instance.specs.Limits.{max_vertices, free, banned, max_records}
use Rattle.instance.specs.Marks.{mark_number}
use Rattle.instance.specs.Instance.{cell, weight, mark, is_arc}
use Rattle.instance.specs.Cuts.{inside}
use Rattle.instance.specs.Matrix.{unmarked}
use Rattle.instance.specs.declared.Mark.{Mark}
use Rattle.instance.proofs.ValidLaws.{arc_in_range}
use Rattle.commands.specs.Heads.{heads_below, names_arc, names_any, heads_of, put_marks, with_marks}
use Rattle.commands.specs.Model.{old_marks}
use Rattle.commands.specs.Valid.{valid}
use Rattle.commands.specs.Commands.{accepted, arc_refusal, marks_refusal, several_marked}
use Rattle.commands.proofs.HeadsLaws.{put_same, inside_heads, no_heads}
use Rattle.commands.proofs.CommandLaws.{names_arc_of, marks_accepted}
use Rattle.commands.proofs.ValidLaws.{valid_parts}
use Rattle.board.specs.declared.Board.{Board}
use Rattle.board.specs.declared.Replaced.TheVariants.{OldMarks}
use Rattle.board.specs.ModelOf.{replaced_of, model_of, instance_of}
use Rattle.board.specs.Calls.{record_of}
use Rattle.board.proofs.ModelOfLaws.{length_history}
use Rattle.heads.proofs.RecordMarksLaws.{old_at, record_marks_is, record_marks_made, every_head, each_digit}

-- the mark of an arc of a valid board is in range
pub arc_mark_low :
    (b : Board) → valid (model_of b) ≡ true → (t h : ℕ) → is_arc (unmarked b.n b.root b.weights) t h ≡ true →
    get_or b.marks (cell t h) free ≤ banned
unfolding mark is_arc weight unmarked
arc_mark_low b ok t h a =
    let v = valid_parts (model_of b) ok in
    leb-true (mark (instance_of b) t h) banned (arc_in_range (instance_of b) t h v.n_high v.cells_ok a).mark_most

module _ (b : Board) (ok : valid (model_of b) ≡ true) (t c : ℕ) where
  abbrev pub named : ℕ → Bool
  named = names_arc (instance_of b) t c

  -- a mark that is replaced is one of an arc
  pub marks_low : (h : ℕ) → h < max_vertices → named h ≡ true → mark (instance_of b) t h ≤ banned
  unfolding names_arc mark is_arc weight unmarked
  marks_low h l e = arc_mark_low b ok t h (and_right (inside c h) (is_arc (instance_of b) t h) e)

  module _ (arcs : ℕ) (a : arcs ≡ heads_of (names_arc (unmarked b.n b.root b.weights) t c)) where
    arcs_are : arcs ≡ heads_of named
    arcs_are = a ∙ ap heads_of (names_arc_of (instance_of b) t c)

    pub old_low : (h : ℕ) → h < max_vertices → inside arcs h ≡ true → get_or b.marks (cell t h) free ≤ banned
    unfolding mark
    old_low h l e = marks_low h l (sym (inside_heads named h l) ∙ ap (λ (x : ℕ). inside x h) (sym arcs_are) ∙ e)

    -- the number that refuses
    pub number_is :
        arc_refusal (not (ltb t b.n && heads_below b.n c)) (eqb arcs 0) (leb max_records b.count)
        ≡ marks_refusal (instance_of b) (length (model_of b).history) t c
    unfolding marks_refusal names_any
    number_is = rw (arcs_are, no_heads named, length_history b.count b.records)

    -- the record
    module _ (old : ℕ) (o : old ≡ from_digits 4 max_vertices (λ h. cond (inside arcs h) (get_or b.marks (cell t h) free) free)) where
      old_is : old ≡ from_digits 4 max_vertices (old_at (instance_of b) t named marks_low)
      unfolding mark
      old_is = o ∙ ap (λ (x : ℕ). from_digits 4 max_vertices (λ h. cond (inside x h) (get_or b.marks (cell t h) free) free)) arcs_are

      pub record_made : record_of (replaced_of (OldMarks t arcs old)) ≡ record { replaced = OldMarks t arcs old }
      record_made = rw arcs_are (λ j. record { replaced = OldMarks t (heads_of named) (record_marks_made (instance_of b) t named marks_low old old_is j) })

      pub accepted_is :
          (m : Mark) → marks_refusal (instance_of b) (length (model_of b).history) t c ≡ 0 →
          several_marked m t c (model_of b) ≡ accepted (replaced_of (OldMarks t arcs old)) (with_marks t named (λ h. mark_number m) (instance_of b)) (model_of b)
      accepted_is m z =
          marks_accepted m t c (model_of b) z
          ∙ rw arcs_are
          (λ j. accepted (old_marks t (heads_of named) (sym (record_marks_is (instance_of b) t named marks_low old old_is) j)) (with_marks t named (λ h. mark_number m) (instance_of b)) (model_of b))

    -- the marks
    pub put_is_all :
        (m : Mark) (k : ℕ) (new : List ℕ) → k ≡ mark_number m → new ≡ put_marks t (inside arcs) (digit 4 (every_head * k)) b.marks →
        new ≡ put_marks t named (λ h. mark_number m) b.marks
    put_is_all m k new e p =
        p
        ∙ put_same t (inside arcs) named (digit 4 (every_head * k)) (λ h. mark_number m) b.marks
        (λ h l. ap (λ (x : ℕ). inside x h) arcs_are ∙ inside_heads named h l) (λ h l _. ap (λ (x : ℕ). digit 4 (every_head * x) h) e ∙ each_digit m h l)
