-- The board that a card opens as holds what the card says: the history that stands in the record places is the model's.
-- And a board's own history is as it would be read from a card. Assumes nothing.
use mathlib.Core.Path.{◌≡◌, refl, sym, ◌∙◌}
use mathlib.Core.Bool.{Bool, true, false, cond}
use mathlib.Core.List.{List, [], ◌∷◌}
use Prim.Native.Nat.{ℕ, zero, suc, ◌^◌, ◌≤◌, ◌<◌}
use native.Mathlib.Omega.{arith}
use native.Mathlib.Numerals.{add-one}
use lib.ListN.{length, get_or, set, replicate, length-set, length-replicate}
use Rattle.base.specs.Digits.{digit}
use Rattle.base.proofs.ListLaws.{length_tabulate, tabulate_is}
use Rattle.instance.specs.Limits.{max_vertices, free, max_records}
use Rattle.instance.specs.Cuts.{inside}
use Rattle.commands.specs.Model.{Replaced, old_mark, old_marks, old_budget, Model}
use Rattle.commands.specs.Valid.{valid}
use Rattle.commands.proofs.ValidLaws.{valid_parts}
use Rattle.heads.specs.RecordMarks.{record_marks}
use Rattle.heads.proofs.RecordMarksLaws.{record_marks_at}
use Rattle.board.specs.ModelOf.{replaced_of, blank_record, history_of, model_of}
use Rattle.board.specs.Calls.{record_of}
use Rattle.board.specs.Create.{stored, board-of}
use Rattle.board.specs.declared.UndoRecord.{UndoRecord}
use Rattle.board.specs.declared.Replaced as declared-replaced
use Rattle.board.specs.declared.Replaced.TheVariants.{OldMark, OldBudget, OldMarks}
use Rattle.board.proofs.ModelOfLaws.{history_more}
use Rattle.history_format.specs.RecordWidths.{heads_width}
use Rattle.history_format.proofs.MemberMarks.{of_members}
use Rattle.history_format.proofs.RecordFits.{Shaped}
use Rattle.history_format.proofs.HistoryLaws.{AllWritable, AllShaped, all_writable}
use Rattle.history_card.proofs.RecordLaws.{stored_back}

length_stored : (h : List Replaced) (rs : List UndoRecord) → length (stored h rs) ≡ length rs
unfolding stored
length_stored [] rs = refl
length_stored (o ∷ os) rs = length-set (stored os rs) (length os) (record_of o) ∙ length_stored os rs

history_stored : (h : List Replaced) (rs : List UndoRecord) → length h ≤ length rs → AllWritable h → history_of (length h) (stored h rs) ≡ h
unfolding stored history_of
history_stored [] rs l w = refl
history_stored (o ∷ os) rs l w =
    let m = history_more (length os) (stored os rs) (record_of o) (omega (arith, length_stored os rs)) in
    let e : history_of (suc (length os)) (set (stored os rs) (length os) (record_of o)) ≡ replaced_of (record_of o).replaced ∷ history_of (length os) (stored os rs) =
    rw (add-one (length os)) at m in
    e ∙ rw (stored_back o w.0, history_stored os rs (omega arith) w.1)

-- a model that is valid, and whose records are as they are read
pub model_of_board : (m : Model) → valid m ≡ true → AllShaped m.history → model_of (board-of m) ≡ m
unfolding board-of
model_of_board m v s =
    let p = valid_parts m v in
    let w = all_writable m.instance m.history p.n_high p.records_ok s in
    let l = length-replicate {A = UndoRecord} max_records blank_record in
    let h = history_stored m.history (replicate max_records blank_record) (omega (arith, p.few)) w in
    λ j. record { instance = m.instance; history = h j }

-- A BOARD'S OWN HISTORY says nothing of heads that are no members; that its sets have 32 bits is all that is left to
-- ask
only_members : (c v : ℕ) → record_marks c v ≡ of_members c (record_marks c v)
unfolding record_marks
only_members c v =
    tabulate_is max_vertices (record_marks c v) (λ h. cond (inside c h) (get_or (record_marks c v) h free) free) free (length_tabulate max_vertices _)
    (λ h l. record_marks_at c v h l ∙ at (digit 4 v h) (get_or (record_marks c v) h free) (inside c h) (record_marks_at c v h l))
  where
    at : (x y : ℕ) (b : Bool) → y ≡ cond b x free → cond b x free ≡ cond b y free
    at x y true e = sym e
    at x y false e = refl

abbrev pub HeadsFit : Replaced → Type 0
HeadsFit (old_mark t h m) = Unit
HeadsFit (old_marks t c ms) = c < 2 ^ heads_width
HeadsFit (old_budget v) = Unit

abbrev pub AllHeadsFit : List Replaced → Type 0
AllHeadsFit [] = Unit
AllHeadsFit (o ∷ os) = HeadsFit o × AllHeadsFit os

record_shaped : (x : declared-replaced.Replaced) → HeadsFit (replaced_of x) → Shaped (replaced_of x)
record_shaped (OldMark t h m) f = tt
record_shaped (OldBudget v) f = tt
record_shaped (OldMarks t c v) f = record { heads_fit = f; only_members = only_members c v }

pub board_shaped : (k : ℕ) (rs : List UndoRecord) → AllHeadsFit (history_of k rs) → AllShaped (history_of k rs)
unfolding history_of
board_shaped zero rs f = tt
board_shaped (suc k) rs f = (record_shaped (get_or rs k blank_record).replaced f.0, board_shaped k rs f.1)
