-- A prepared list on a card: refused, or made, and the card after it written. Assumes nothing.
use mathlib.Core.Path.{◌≡◌, sym, ap, ◌∙◌, subst}
use mathlib.Core.Bool.{◌||◌}
use mathlib.Core.List.{List}
use mathlib.Core.Logic.{◌≢◌}
use Prim.Native.Nat.{ℕ, ◌≤◌}
use lib.Dec.{ltb}
use lib.ListN.{length}
use borrow.Author.Tests.{eq-eqb, ne_eqb, ltb-false}
use Rattle.base.proofs.BoolLaws.{or_false_left, or_false_right, passed}
use Rattle.card.specs.Write.{Written}
use Rattle.commands.specs.Model.{Model}
use Rattle.board.specs.ModelOf.{model_of}
use Rattle.board.specs.declared.Answered.{Answered}
use Rattle.board.specs.declared.Board.{Board}
use Rattle.feed_planner.specs.declared.press_lists.Pressed.{Pressed}
use Rattle.history_format.specs.HistoryCard.{open_refusal, history_card_of}
use Rattle.history_card.specs.Write.{HistoryWritten}
use Rattle.planner.specs.Opening.{opened_from}
use Rattle.planner.specs.Replaying.{calls}
use Rattle.planner.proofs.OpeningLaws.{opened_answer}
use Rattle.planner.proofs.WritingLaws.{StoreCase}
use Rattle.feed_planner.specs.Store.{kept, Stores}
use Rattle.feed_planner.specs.PressLists.{ListPressed, list_pressed, left_by, numbers_short, list_refusal, pressed_on, PressesList}
use Rattle.feed_planner.proofs.StoreLaws.{stores_refused, stores_by}
use Rattle.feed_planner.proofs.CardLaws.{not_opened, opens, open_model}
use Rattle.feed_planner.proofs.PressLaws.{history_stored}

pub list_numbers_enough : (k f g : ℕ) → numbers_short k f g ≡ 0 → (k ≤ f) × (k ≤ g)
list_numbers_enough k f g e =
    let s = (passed (ltb f k || ltb g k) 13 _ e).0 in
    (ltb-false f k (or_false_left (ltb f k) (ltb g k) s), ltb-false g k (or_false_right (ltb f k) (ltb g k) s))

-- a refusal leaves everything
all_refused : (ws ks fs gs out : List ℕ) (n p q k : ℕ) → list_refusal ws ks fs gs ≡ k → k ≢ 0 → PressesList ws ks fs gs out out n n p p q q k
all_refused ws ks fs gs out n p q k e z =
    let c = history_card_of (pressed_on ws ks fs gs).board in
    let f = ne_eqb k 0 z in
    record {
      stored = subst (λ (x : ℕ). Stores x (length c) c out out n n k) (sym e) (stores_refused k (length c) c out n z);
      applied_word = rw f;
      stopped_word = rw f;
    }

module _ (ws ks fs gs : List ℕ) (o : Answered) (e : o ≡ opened_from ws) where
  pub list_card_refused : (out : List ℕ) (n p q : ℕ) → o.answer ≢ 0 → PressesList ws ks fs gs out out n n p p q q o.answer
  unfolding list_refusal
  list_card_refused out n p q z =
      all_refused ws ks fs gs out n p q o.answer (rw (ne_eqb (open_refusal ws) 0 (not_opened ws o e z)) (sym (opened_answer ws o e))) z

  module _ (z : o.answer ≡ 0) where
    numbers_left : list_refusal ws ks fs gs ≡ numbers_short (length ks) (length fs) (length gs)
    unfolding list_refusal
    numbers_left = rw (eq-eqb (open_refusal ws) 0 (opens ws o e z))

    pub list_numbers_refused : (out : List ℕ) (n p q k : ℕ) → k ≡ numbers_short (length ks) (length fs) (length gs) → k ≢ 0
        → PressesList ws ks fs gs out out n n p p q q k
    list_numbers_refused out n p q k s y = all_refused ws ks fs gs out n p q k (numbers_left ∙ sym s) y

    pub list_stored : (d : Pressed) (b : Board) (out out' : List ℕ) (n p q : ℕ) (w : Written) → 0 ≡ numbers_short (length ks) (length fs) (length gs)
        → left_by d b ≡ list_pressed (calls ks fs gs) (model_of o.board) → HistoryWritten (model_of b) out out' w
        → PressesList ws ks fs gs out out' n (kept w.answer w.length n) p (kept w.answer d.applied p) q (kept w.answer d.stopped q) w.answer
    list_stored d b out out' n p q w s l h =
        let r : left_by d b ≡ pressed_on ws ks fs gs = l ∙ ap (list_pressed (calls ks fs gs)) (open_model ws o e z) in
        let m = (pressed_on ws ks fs gs).board in
        let g = history_stored m out out' w (subst (λ (x : Model). HistoryWritten x out out' w) (ap (λ (x : ListPressed). x.board) r) h) in
        record {
          stored =
              stores_by (list_refusal ws ks fs gs) (history_card_of m) out out' w n
              (subst (λ (x : ℕ). StoreCase x (history_card_of m) out out' w) (s ∙ sym numbers_left) g);
          applied_word = ap (λ (x : ListPressed). kept w.answer x.applied p) r;
          stopped_word = ap (λ (x : ListPressed). kept w.answer x.answer q) r;
        }
