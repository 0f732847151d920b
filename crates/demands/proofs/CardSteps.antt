-- ONE PRESS ON A CARD, for the library's chains: the model that a press leaves follows the log, and the card that is
-- written of it opens as that very model, so a card can stand for the board. Assumes nothing.
use mathlib.Core.Path.{◌≡◌, refl, sym, ap, ◌∙◌, subst}
use mathlib.Core.Bool.{Bool, true, false, cond}
use mathlib.Core.List.{List, [], ◌∷◌, map}
use mathlib.Core.Logic.{◌≢◌}
use Prim.Native.Nat.{ℕ, zero, suc, ◌≤◌}
use lib.Dec.{ltb, eqb}
use lib.ListN.{length, take}
use borrow.Author.Tests.{eq-eqb, ne_eqb, eqb-true, eqb-false}
use Rattle.base.proofs.FrontLaws.{front_take}
use Rattle.instance.specs.Refusals.{buffer_short}
use Rattle.commands.specs.Model.{Model, Replaced}
use Rattle.commands.specs.Valid.{valid}
use Rattle.commands.specs.Commands.{Command, set_mark, set_marks, set_budget, undo, Result, refused, accepted, decided, marked, several_marked, budgeted, undone, applied, answered}
use Rattle.commands.specs.Log.{Log, note}
use Rattle.commands.specs.LogLists.{NotedList, none_noted, one_more_noted, note_list, Input, single, list, input_after}
use Rattle.commands.specs.Effective.{effective}
use Rattle.commands.proofs.AnsweredLaws.{answered_applied, answered_valid}
use Rattle.commands.proofs.ChangeLaws.{answered_changes}
use Rattle.commands.proofs.LogLaws.{Tied, step_tied, opened_tied}
use Rattle.commands.proofs.LogListsLaws.{input_commands, input_after_commands}
use Rattle.commands.proofs.ValidLaws.{valid_parts}
use Rattle.history_format.specs.HistoryCard.{open_refusal, model_in, history_card_of}
use Rattle.history_format.proofs.HistoryAgain.{model_in_valid, model_in_shaped, model_in_long, model_of_history}
use Rattle.history_format.proofs.HistoryBits.{history_kind_again}
use Rattle.history_format.proofs.HistoryLaws.{AllShaped}
use Rattle.history_format.proofs.ModelAgain.{AsRead, history_opens_again, model_back}
use Rattle.history_format.proofs.Moves.{history_card_opens}
use Rattle.history_format.proofs.ShapedLaws.{answered_shaped}
use Rattle.planner.specs.Replaying.{command, log_in}
use Rattle.feed_planner.specs.Store.{Stores}
use Rattle.feed_planner.specs.PressLists.{ListPressed, list_pressed}
use Rattle.demands.proofs.RoundTrips.{reached_as_read}

-- A REFUSED COMMAND LEAVES THE MODEL
decided_stays : (k : ℕ) (d : Result) (b : Model) → d.answer ≡ 0 → (decided k d b).answer ≢ 0 → (decided k d b).board ≡ b
unfolding decided refused
decided_stays zero d b z n = absurd (n z)
decided_stays (suc k) d b z n = refl

undone_stays : (h : List Replaced) (b : Model) → (undone h b).answer ≢ 0 → (undone h b).board ≡ b
unfolding undone refused
undone_stays [] b n = refl
undone_stays (r ∷ rs) b n = absurd (n refl)

applied_stays : (c : Command) (b : Model) → (applied c b).answer ≢ 0 → (applied c b).board ≡ b
unfolding applied marked several_marked budgeted accepted
applied_stays (set_mark m t h) b n = decided_stays _ _ b refl n
applied_stays (set_marks m t c) b n = decided_stays _ _ b refl n
applied_stays (set_budget v) b n = decided_stays _ _ b refl n
applied_stays undo b n = undone_stays b.history b n

-- ONE STEP, of the model and of the log
pub record StepFollows (m : Model) (d : Model) (k : Log) : Type 0 where
  pub good : valid d ≡ true
  pub shaped : AllShaped d.history
  pub tied : Tied d k
  pub same_n : d.instance.n ≡ m.instance.n

module _ (m : Model) (v : valid m ≡ true) where
  pub press_answer : (c : Command) (k : Log) → Tied m k → (answered c m).answer ≡ (note c k).answer
  press_answer c k t = ap (λ (d : Result). d.answer) (answered_applied c m v) ∙ (step_tied c m k t).same_answer

  pub press_follows : AllShaped m.history → (c : Command) (k : Log) → Tied m k → StepFollows m (answered c m).board (note c k).log
  press_follows s c k t =
      record {
        good = answered_valid c m v;
        shaped = answered_shaped c m s;
        tied = subst (λ (d : Result). Tied d.board (note c k).log) (sym (answered_applied c m v)) (step_tied c m k t).tied;
        same_n = (answered_changes c m).n;
      }

  -- refused, the model is as it was, and the log notes nothing
  pub press_stays : (c : Command) → (answered c m).answer ≢ 0 → (answered c m).board ≡ m
  press_stays c n =
      let e = answered_applied c m v in
      ap (λ (d : Result). d.board) e ∙ applied_stays c m (λ z. n (ap (λ (d : Result). d.answer) e ∙ z))

-- a prepared list, as the log notes it
pub record ListFollows (m : Model) (r : ListPressed) (n : NotedList) : Type 0 where
  pub same_applied : r.applied ≡ n.applied
  pub same_answer : r.answer ≡ n.answer
  pub step : StepFollows m r.board n.log

pub list_follows :
    (cs : List Command) (m : Model) → valid m ≡ true → AllShaped m.history → (k : Log) → Tied m k → ListFollows m (list_pressed (map command cs) m) (note_list cs k)
unfolding list_pressed note_list none_noted one_more_noted
list_follows [] m v s k t = record { same_applied = refl; same_answer = refl; step = record { good = v; shaped = s; tied = t; same_n = refl } }
list_follows (c ∷ cs) m v s k t =
    let f = press_follows m v s c k t in
    go (eqb (answered c m).answer 0) refl (list_follows cs (answered c m).board f.good f.shaped (note c k).log f.tied)
  where
    go : (b : Bool) → eqb (answered c m).answer 0 ≡ b → ListFollows (answered c m).board (list_pressed (map command cs) (answered c m).board) (note_list cs (note c k).log)
        → ListFollows m (list_pressed (map command (c ∷ cs)) m) (note_list (c ∷ cs) k)
    go true e r =
        let z = sym (press_answer m v c k t) ∙ eqb-true (answered c m).answer 0 e in
        rw (e, eq-eqb (note c k).answer 0 z)
        (record {
          same_applied = ap suc r.same_applied;
          same_answer = r.same_answer;
          step = record { good = r.step.good; shaped = r.step.shaped; tied = r.step.tied; same_n = r.step.same_n ∙ (press_follows m v s c k t).same_n };
        })
    go false e r =
        let a = press_answer m v c k t in
        rw (e, ne_eqb (note c k).answer 0 (λ z. eqb-false (answered c m).answer 0 e (a ∙ z)))
        (record { same_applied = refl; same_answer = a; step = record { good = v; shaped = s; tied = t; same_n = refl } })

-- ANY PRESS, single or a list
abbrev pub model_after : Input → Model → Model
model_after (single c) m = (answered c m).board
model_after (list cs) m = (list_pressed (map command cs) m).board

input_follows : (i : Input) (m : Model) → valid m ≡ true → AllShaped m.history → (k : Log) → Tied m k → StepFollows m (model_after i m) (input_after (i ∷ []) k)
unfolding input_after
input_follows (single c) m v s k t = press_follows m v s c k t
input_follows (list cs) m v s k t = (list_follows cs m v s k t).step

-- THE CARD STANDS FOR THE BOARD: what is written of the model that a press leaves opens as that model
pub record CardFollows (ws : List ℕ) (k : Log) (n : ℕ) : Type 0 where
  pub opens : open_refusal ws ≡ 0
  pub tied : Tied (model_in ws) k
  pub same_n : (model_in ws).instance.n ≡ n

module _ (ws : List ℕ) (z : open_refusal ws ≡ 0) where
  good : valid (model_in ws) ≡ true
  good = model_in_valid ws z

  pub card_begins : CardFollows ws (log_in ws) (model_in ws).instance.n
  card_begins = record { opens = z; tied = opened_tied (model_in ws) (valid_parts (model_in ws) good).n_high (model_in_long ws); same_n = refl }

  after_as_read : (i : Input) → AsRead (model_after i (model_in ws)).instance
  after_as_read i =
      let f = input_follows i (model_in ws) good (model_in_shaped ws) (log_in ws) card_begins.tied in
      subst AsRead (sym (f.tied.same_instance ∙ ap effective (input_after_commands (i ∷ []) (log_in ws))))
      (reached_as_read ws z (input_commands (i ∷ []) (log_in ws)))

  pub written_follows : (i : Input) (k : Log) (n : ℕ) → CardFollows ws k n → CardFollows (history_card_of (model_after i (model_in ws))) (input_after (i ∷ []) k) n
  written_follows i k n c =
      let m = model_after i (model_in ws) in
      let f = input_follows i (model_in ws) good (model_in_shaped ws) k c.tied in
      let e : model_in (history_card_of m) ≡ m =
      model_of_history (history_card_of m) (history_kind_again m) ∙ model_back m f.good f.shaped (after_as_read i) in
      record {
        opens = history_card_opens (history_card_of m) (history_opens_again m f.good f.shaped);
        tied = subst (λ (x : Model). Tied x (input_after (i ∷ []) k)) (sym e) f.tied;
        same_n = ap (λ (x : Model). x.instance.n) e ∙ f.same_n ∙ c.same_n;
      }

-- WHAT IS STORED, where the answer is not that of too little room: the bytes, or the refusal
pub stored_answer : (k m : ℕ) (card out out' : List ℕ) (n n' a : ℕ) → Stores k m card out out' n n' a → a ≢ buffer_short → a ≡ k
stored_answer k m card out out' n n' a s f = go (eqb k 0) refl (ltb (length out) m) s.number
  where
    go : (x : Bool) → eqb k 0 ≡ x → (y : Bool) → a ≡ cond x (cond y buffer_short 0) k → a ≡ k
    go true e true q = absurd (f q)
    go true e false q = q ∙ sym (eqb-true k 0 e)
    go false e y q = q

pub stored_card : (k m : ℕ) (card out out' : List ℕ) (n n' a : ℕ) → Stores k m card out out' n n' a → a ≡ 0 → take n' out' ≡ card
stored_card k m card out out' n n' a s e = rw (s.word, s.buffer, e) (front_take card out (length card) refl)
