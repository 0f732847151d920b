-- The program's board against its model: what holding a board by value tells, and the history that its records are.
-- Assumes nothing.
use mathlib.Core.Path.{◌≡◌, refl, ap}
use mathlib.Core.Bool.{Bool, true, false, ◌&&◌}
use mathlib.Core.List.{List, [], ◌∷◌}
use Prim.Native.Nat.{ℕ, zero, suc, ◌+◌, ◌-◌, ◌≤◌, ◌<◌}
use native.Mathlib.Omega.{arith}
use native.Mathlib.Numerals.{add-one}
use lib.Dec.{eqb}
use lib.ListN.{length, get_or, set}
use lib.Seq.{get_or-set_same, get_or-set_other}
use borrow.Author.Tests.{eqb-true, eqb-false}
use denote.Laws.{Is}
use denote.Struct.Declared.{row}
use mir.Val.{Val}
use Rattle.base.specs.Lists.{all_of}
use Rattle.instance.specs.Limits.{cells, max_records}
use Rattle.commands.specs.Model.{Replaced}
use Rattle.board.specs.declared.Board.{Board}
use Rattle.board.specs.declared.UndoRecord.{UndoRecord}
use Rattle.board.specs.ModelOf.{replaced_of, blank_record, history_of}
use Rattle.board.specs.contracts.Board.{the_type}

-- the lengths of the arrays
pub record Known (b : Board) : Type 0 where
  pub weights_long : length b.weights ≡ cells
  pub marks_long : length b.marks ≡ cells
  pub records_long : length b.records ≡ max_records

pub known : (b : Board) (vs : List Val) → Is (row the_type) b vs → Known b
known b vs p =
    let f = p.1.1.1.1.1 in
    record {
      weights_long = f.0.1.0.1;
      marks_long = f.1.0.1.0.1;
      records_long = f.1.1.0.1.0.1;
    }

-- THE HISTORY
pub length_history : (k : ℕ) (rs : List UndoRecord) → length (history_of k rs) ≡ k
unfolding history_of
length_history zero rs = refl
length_history (suc k) rs = ap suc (length_history k rs)

pub history_none : (k : ℕ) (rs : List UndoRecord) → k ≡ 0 → history_of k rs ≡ []
unfolding history_of
history_none k rs e = rw e

pub history_step :
    (k : ℕ) (rs : List UndoRecord) → 0 < k → history_of k rs ≡ replaced_of (get_or rs (k - 1) blank_record).replaced ∷ history_of (k - 1) rs
unfolding history_of
history_step zero rs h = absurd (omega arith)
history_step (suc k) rs h = let e : suc k - 1 ≡ k = omega arith in rw e

-- a store at or past the count does not alter the history
history_past : (k j : ℕ) (rs : List UndoRecord) (r : UndoRecord) → k ≤ j → history_of k (set rs j r) ≡ history_of k rs
unfolding history_of
history_past zero j rs r h = refl
history_past (suc k) j rs r h = rw (get_or-set_other rs j k r blank_record (omega arith), history_past k j rs r (omega arith))

-- a store at the count, counted
pub history_more :
    (k : ℕ) (rs : List UndoRecord) (r : UndoRecord) → k < length rs → history_of (k + 1) (set rs k r) ≡ replaced_of r.replaced ∷ history_of k rs
unfolding history_of
history_more k rs r h = rw (add-one, get_or-set_same rs k r blank_record h, history_past k k rs r (omega arith))

-- a loop up the records stops at one that fails, and goes on at one that passes
module _ (q : Replaced → Bool) (rs : List UndoRecord) where
  pub history_pass :
      (k : ℕ) → q (replaced_of (get_or rs k blank_record).replaced) ≡ true → all_of q (history_of k rs) ≡ true → all_of q (history_of (k + 1) rs) ≡ true
  unfolding history_of all_of
  history_pass k e f = rw (add-one, e, f)

  and_no : (x : Bool) → x && false ≡ false
  and_no true = refl
  and_no false = refl

  pub history_fail : (k i : ℕ) → i < k → q (replaced_of (get_or rs i blank_record).replaced) ≡ false → all_of q (history_of k rs) ≡ false
  unfolding history_of all_of
  history_fail zero i l e = absurd (omega arith)
  history_fail (suc k) i l e = go (eqb i k) refl (λ m. history_fail k i m e)
    where
      now : q (replaced_of (get_or rs k blank_record).replaced) ≡ false → all_of q (history_of (suc k) rs) ≡ false
      now f = rw f

      before : all_of q (history_of k rs) ≡ false → all_of q (history_of (suc k) rs) ≡ false
      before f = rw f (and_no (q (replaced_of (get_or rs k blank_record).replaced)))

      go : (t : Bool) → eqb i k ≡ t → (i < k → all_of q (history_of k rs) ≡ false) → all_of q (history_of (suc k) rs) ≡ false
      go true x below = now (rw (eqb-true i k x) at e)
      go false x below = let n = eqb-false i k x in before (below (omega (arith, l, n)))
