-- What a card says and what opening gives. Assumes nothing.
use mathlib.Core.Path.{◌≡◌, refl, sym, ap, ◌∙◌, subst}
use mathlib.Core.Bool.{Bool, true, false, cond}
use mathlib.Core.List.{List}
use Prim.Native.Nat.{ℕ}
use native.Mathlib.Omega.{arith}
use lib.Dec.{eqb}
use borrow.Author.Tests.{eq-eqb, ne_eqb, eqb-true}
use Rattle.std.specs.Prelude.{Ok, Err}
use Rattle.instance.specs.Refusals.{bad_count}
use Rattle.instance.specs.declared.refusals.Refusal.{Refusal}
use Rattle.card_format.specs.Card.{card_refusal, instance_in}
use Rattle.card.specs.Read.{CardRead}
use Rattle.card.specs.declared.read.Contents.{Contents}
use Rattle.instance.proofs.RefusalLaws.{eqb_0}
use Rattle.commands.specs.Model.{Model, opened}
use Rattle.commands.specs.Valid.{valid}
use Rattle.commands.proofs.LogLaws.{Tied, opened_tied}
use Rattle.commands.proofs.ValidLaws.{valid_parts}
use Rattle.board.specs.ModelOf.{model_of, instance_of}
use Rattle.board.specs.Create.{board_with, blank, stored, board-of, answered_with, opened_as, opening_of}
use Rattle.board.specs.declared.Board.{Board}
use Rattle.board.specs.declared.Answered.{Answered}
use Rattle.history_format.specs.HistoryCard.{is_history, open_refusal, model_in, history_refusal}
use Rattle.history_format.proofs.HistoryAgain.{model_in_valid, model_in_shaped, model_in_long}
use Rattle.history_format.proofs.OldReader.{old_reader_refuses}
use Rattle.history_card.specs.Open.{history_opened}
use Rattle.history_card.proofs.BoardOfLaws.{model_of_board}
use Rattle.planner.specs.Opening.{plain_opened, opened_from}
use Rattle.planner.specs.Replaying.{log_in}

-- BY REFUSAL
pub answer_by : (k : ℕ) (m : Model) → (opened_as k m).answer ≡ k
unfolding opened_as
answer_by k m = go (eqb k 0) refl
  where
    go : (b : Bool) → eqb k 0 ≡ b → (cond b (answered_with 0 (board-of m)) (answered_with k blank)).answer ≡ k
    go true q = sym (eqb-true k 0 q)
    go false q = refl

pub board_by : (k : ℕ) (m : Model) → k ≡ 0 → opened_as k m ≡ answered_with 0 (board-of m)
unfolding opened_as
board_by k m z = rw (eq-eqb k 0 z)

pub blank_by : (k : ℕ) (m : Model) → (k ≡ 0 → ⊥) → opened_as k m ≡ answered_with k blank
unfolding opened_as
blank_by k m n = rw (ne_eqb k 0 n)

-- BY KIND
pub kind_opened : (ws : List ℕ) → is_history ws ≡ true → history_opened ws ≡ opened_from ws
unfolding history_opened opened_from open_refusal model_in
kind_opened ws e = rw e

-- whatever does not begin with the six bits 63 is opened as before, or refused as before
pub kind_plain : (ws : List ℕ) → is_history ws ≡ false → plain_opened ws ≡ opened_from ws
unfolding plain_opened opened_from open_refusal model_in
kind_plain ws e = rw e

-- an old reader has `plain_opened` for its contract: "An old console refuses every new card by 2", with no board
pub old_reader_opens_none : (ws : List ℕ) → history_refusal ws ≡ 0 → plain_opened ws ≡ answered_with bad_count blank
unfolding plain_opened
old_reader_opens_none ws e =
    let r = old_reader_refuses ws e in
    blank_by (card_refusal ws) (opened (instance_in ws)) (λ z. omega arith) ∙ ap (λ (k : ℕ). answered_with k blank) r

-- WHAT IS OPENED
-- the answer is the card's refusal
pub opened_answer : (ws : List ℕ) (o : Answered) → o ≡ opened_from ws → o.answer ≡ open_refusal ws
unfolding opened_from
opened_answer ws o e = ap (λ (x : Answered). x.answer) e ∙ answer_by (open_refusal ws) (model_in ws)

module _ (ws : List ℕ) (o : Answered) (e : o ≡ opened_from ws) (z : open_refusal ws ≡ 0) where
  pub opened_board : o.board ≡ board-of (model_in ws)
  unfolding opened_from
  opened_board = ap (λ (x : Answered). x.board) (e ∙ board_by (open_refusal ws) (model_in ws) z)

  -- the board of a card that opens holds what the card says
  pub opened_model : model_of o.board ≡ model_in ws
  opened_model = ap model_of opened_board ∙ model_of_board (model_in ws) (model_in_valid ws z) (model_in_shaped ws)

  pub opened_instance : instance_of o.board ≡ (model_in ws).instance
  opened_instance = ap (λ (m : Model). m.instance) opened_model

-- it is valid and follows a new log
pub record Starts (ws : List ℕ) (b : Board) : Type 0 where
  pub good : valid (model_of b) ≡ true
  pub tied : Tied (model_of b) (log_in ws)
  pub same_n : b.n ≡ (model_in ws).instance.n

pub opened_starts : (ws : List ℕ) (o : Answered) → o ≡ opened_from ws → open_refusal ws ≡ 0 → Starts ws o.board
opened_starts ws o e z =
    let v = model_in_valid ws z in
    let m = opened_model ws o e z in
    record {
      good = subst (λ (x : Model). valid x ≡ true) (sym m) v;
      tied = subst (λ (x : Model). Tied x (log_in ws)) (sym m) (opened_tied (model_in ws) (valid_parts (model_in ws) v).n_high (model_in_long ws));
      same_n = ap (λ (x : Model). x.instance.n) m;
    }

-- WHAT A PLAIN CARD SAYS
pub open_refused : (ws : List ℕ) (e : Refusal) → CardRead ws (Err e) → opening_of (Err e) ≡ plain_opened ws
unfolding plain_opened opened_as
open_refused ws e c = rw (← c.judged, eqb_0 e)

pub open_accepted : (ws : List ℕ) (c : Contents) → CardRead ws (Ok c) → opening_of (Ok (board_with c.n c.root c.budget c.weights c.marks)) ≡ plain_opened ws
unfolding plain_opened opened_as board_with board-of opened stored
open_accepted ws c r = rw (r.said, ← r.judged)
