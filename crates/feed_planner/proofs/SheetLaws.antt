-- What a card says, from the board that it opens as. Assumes nothing.
use mathlib.Core.Path.{◌≡◌, refl, sym, ap, ◌∙◌}
use mathlib.Core.Bool.{true, false, cond}
use mathlib.Core.List.{List}
use mathlib.Core.Logic.{◌≢◌}
use Prim.Native.Nat.{ℕ, ◌*◌, ◌≤◌}
use lib.Dec.{ltb}
use lib.ListN.{length}
use borrow.Author.Tests.{eq-eqb, ne_eqb, ltb-false}
use Rattle.base.specs.Lists.{in_front}
use Rattle.base.proofs.BoolLaws.{or_false_left, or_false_right}
use Rattle.instance.specs.Refusals.{buffer_short}
use Rattle.commands.specs.Model.{Model}
use Rattle.board.specs.declared.Answered.{Answered}
use Rattle.board.proofs.ModelOfLaws.{length_history}
use Rattle.price_list.specs.Reads.{dense}
use Rattle.history_format.specs.HistoryCard.{open_refusal}
use Rattle.planner.specs.Opening.{opened_from}
use Rattle.planner.proofs.OpeningLaws.{opened_answer}
use Rattle.feed_planner.specs.Sheets.{Sheet, sheet, sheet_short, sheet_refusal, sheet_of, ReadsSheet}
use Rattle.feed_planner.proofs.CardLaws.{not_opened, opens, open_model}

pub sheet_room : (n p m : ℕ) → sheet_short n p m ≡ false → (n * n ≤ p) × (n * n ≤ m)
unfolding sheet_short
sheet_room n p m e = (ltb-false p (n * n) (or_false_left (ltb p (n * n)) (ltb m (n * n)) e), ltb-false m (n * n) (or_false_right (ltb p (n * n)) (ltb m (n * n)) e))

module _ (ws : List ℕ) (o : Answered) (e : o ≡ opened_from ws) (old : Sheet) where
  pub sheet_card_refused : o.answer ≢ 0 → ReadsSheet ws old old o.answer
  unfolding sheet_refusal
  sheet_card_refused z =
      let q = ne_eqb (open_refusal ws) 0 (not_opened ws o e z) in
      let a = opened_answer ws o e in
      record { number = rw q a; shown = rw (a, q) }

  module _ (z : o.answer ≡ 0) where
    -- by the count of the board itself
    count : sheet_refusal ws (length old.prices) (length old.marks) ≡ cond (sheet_short o.board.n (length old.prices) (length old.marks)) buffer_short 0
    unfolding sheet_refusal
    count = rw (eq-eqb (open_refusal ws) 0 (opens ws o e z), ← ap (λ (m : Model). m.instance.n) (open_model ws o e z))

    pub sheet_room_refused : sheet_short o.board.n (length old.prices) (length old.marks) ≡ true → ReadsSheet ws old old buffer_short
    sheet_room_refused s = record { number = rw (count, s); shown = refl }

    pub sheet_shown : sheet_short o.board.n (length old.prices) (length old.marks) ≡ false
        → let b = o.board in
        ReadsSheet ws old
        (sheet b.n b.root b.budget b.count (in_front (dense b.n b.weights) old.prices) (in_front (dense b.n b.marks) old.marks)) 0
    unfolding sheet_of
    sheet_shown s =
        let b = o.board in
        record {
          number = rw (count, s);
          shown =
              ap (λ (k : ℕ). sheet b.n b.root b.budget k (in_front (dense b.n b.weights) old.prices) (in_front (dense b.n b.marks) old.marks))
              (sym (length_history b.count b.records))
              ∙ ap (λ (m : Model). sheet_of m old) (open_model ws o e z);
        }
