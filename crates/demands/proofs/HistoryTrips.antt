-- The round trips of history cards (02, A8), of the calls themselves: "A board can be written as a new card, records
-- and all", and opened again it is the same board; a history card that opens is written back byte for byte; "A card
-- moves old to new with no records, and new to old only without records; there and back gives the same bytes"; none is
-- longer than 5,174 bytes. What the request is for: commands made on a card that was written from a run go on with that
-- run's log, so "the next class" can "take back the last class's choices". Assumes nothing.
use mathlib.Core.Path.{◌≡◌, sym, ap, ◌∙◌, subst}
use mathlib.Core.Bool.{true, cond}
use mathlib.Core.List.{List}
use Prim.Native.Nat.{ℕ, ◌≤◌}
use native.Mathlib.Omega.{arith}
use lib.ListN.{length, take}
use Rattle.bits.specs.Bits.{are_bytes}
use Rattle.instance.specs.Limits.{cells}
use Rattle.instance.specs.Refusals.{invalid_board}
use Rattle.card_format.proofs.SameCard.{same_bits}
use Rattle.card.specs.Write.{Written}
use Rattle.commands.specs.Model.{Model}
use Rattle.commands.specs.Valid.{valid}
use Rattle.commands.specs.LogLists.{Input, input_answers, input_after}
use Rattle.commands.specs.Effective.{effective}
use Rattle.commands.specs.SameBoard.{SameBoard}
use Rattle.commands.proofs.SameBoardLaws.{same_valid}
use Rattle.commands.proofs.LogLaws.{Tied}
use Rattle.commands.proofs.LogListsLaws.{input_commands, input_after_commands}
use Rattle.board.specs.ModelOf.{model_of, instance_of}
use Rattle.board.specs.declared.Board.{Board}
use Rattle.board.specs.declared.Answered.{Answered}
use Rattle.board.proofs.RunLaws.{Follows}
use Rattle.history_format.specs.HistoryCard.{is_history, open_refusal, history_model, history_bits, history_bytes, history_card_of, max_history_card}
use Rattle.history_format.proofs.HistoryBits.{history_kind_again}
use Rattle.history_format.proofs.HistoryLaws.{AllShaped}
use Rattle.history_format.proofs.ModelAgain.{AsRead, history_opens_again, history_round_trip, model_back}
use Rattle.history_format.proofs.HistoryAgain.{history_card_round_trip, model_of_history, model_in_shaped}
use Rattle.history_format.proofs.Moves.{history_card_opens, plain_there_and_back, history_there_and_back}
use Rattle.history_format.proofs.Longest.{longest_history}
use Rattle.history_card.specs.Write.{history_written_to, history_buffer_after}
use Rattle.history_card.proofs.BoardOfLaws.{AllHeadsFit, board_shaped}
use Rattle.planner.specs.Replaying.{log_in}
use Rattle.planner.proofs.Learnt.{OpenedBy, opened_by, WroteHistory, wrote_history, MovedToHistory, moved_to_history, MovedToPlain, moved_to_plain}
use Rattle.planner.proofs.OpeningLaws.{opened_starts, opened_answer, opened_model}
use Rattle.planner.proofs.WritingLaws.{board_refusal, StoreCase, history_write_cases}
use Rattle.planner.proofs.MovingLaws.{to_history_cases, to_plain_cases}
use Rattle.demands.proofs.CallNumbers.{stores_passed, board_passed}
use Rattle.demands.proofs.RoundTrips.{SameCard, in_buffer, in_front_of, reached_as_read}
use Rattle.demands.proofs.Runs.{Run, run_follows}
use Rattle.demands.proofs.ShapedRuns.{run_shaped}

history_stored : {b : Board} {r : Written} {out out' : List ℕ} → WroteHistory b out out' r → StoreCase (board_refusal b) (history_card_of (model_of b)) out out' r
history_stored {b} {r} {out} {out'} w = history_write_cases b r out out' (wrote_history w)

-- FROM A CARD AND BACK
pub history_card_back :
    {ws : List ℕ} {o : Answered} {r : Written} {out out' : List ℕ} → are_bytes ws ≡ true → is_history ws ≡ true → OpenedBy ws o → o.answer ≡ 0 →
    WroteHistory o.board out out' r → length ws ≤ length out → SameCard ws out out' r
unfolding open_refusal
history_card_back {ws} {o} {r} {out} {out'} y k p a w h =
    let e = opened_by p in
    let z : open_refusal ws ≡ 0 = sym (opened_answer ws o e) ∙ a in
    let m = opened_model ws o e z ∙ model_of_history ws k in
    let c : history_card_of (model_of o.board) ≡ ws = ap history_card_of m ∙ history_card_round_trip ws y (rw k at z) in
    let good = (opened_starts ws o e z).good in
    let s = in_front_of (history_stored w) (rw good) (rw c h) in
    subst (λ (xs : List ℕ). SameCard xs out out' r) c s

-- FROM A BOARD AND BACK. That a board has 1,024 marks, and that the sets of its records have 32 bits, is what its type
-- says of every board that a program holds; here a board is any value, so it is asked for.
pub record Typed (b : Board) : Type 0 where
  pub marks_long : length b.marks ≡ cells
  pub heads_fit : AllHeadsFit (model_of b).history

pub record ComesBack (b : Board) (o : Answered) : Type 0 where
  pub opens : o.answer ≡ 0
  pub same : SameBoard (model_of o.board) (model_of b)

module _ (m : Model) (v : valid m ≡ true) (s : AllShaped m.history) where
  abbrev card : List ℕ
  card = history_card_of m

  again : open_refusal card ≡ 0
  again = history_card_opens card (history_opens_again m v s)

  reopened : (o : Answered) → OpenedBy card o → (o.answer ≡ 0) × (model_of o.board ≡ history_model card)
  reopened o p =
      let e = opened_by p in
      (opened_answer card o e ∙ again, opened_model card o e again ∙ model_of_history card (history_kind_again m))

pub history_board_back :
    {b : Board} {r : Written} {out out' : List ℕ} {o : Answered} → Typed b → WroteHistory b out out' r → r.answer ≡ 0 → OpenedBy (take r.length out') o → ComesBack b o
history_board_back {b} {r} {out} {out'} {o} t w a p =
    let c = history_stored w in
    let m = model_of b in
    let v = board_passed b (stores_passed _ _ out out' r c a) in
    let s = board_shaped b.count b.records t.heads_fit in
    let q = reopened m v s o (subst (λ (ws : List ℕ). OpenedBy ws o) (in_buffer c a) p) in
    record { opens = q.0; same = subst (λ (x : Model). SameBoard x m) (sym q.1) (history_round_trip m v s t.marks_long) }

-- FROM A RUN AND BACK, exactly: on a card that opens, whatever commands were made
module _ {ws : List ℕ} {o : Answered} {is : List Input} {xs : List ℕ} {last : Board} {r : Written} {out out' : List ℕ} {q : Answered}
    (z : open_refusal ws ≡ 0) (p : OpenedBy ws o) (run : Run is o.board xs last) (w : WroteHistory last out out' r) (a : r.answer ≡ 0)
    (u : OpenedBy (take r.length out') q) where
  begun : Follows o.board (log_in ws)
  begun = let s = opened_starts ws o (opened_by p) z in record { is_valid = s.good; tied = s.tied }

  follows : Follows last (input_after is (log_in ws))
  follows = (run_follows run (log_in ws) begun).follows

  shaped : AllShaped (model_of last).history
  shaped =
      run_shaped run (subst (λ (m : Model). AllShaped m.history) (sym (opened_model ws o (opened_by p) z)) (model_in_shaped ws))

  as_read : AsRead (instance_of last)
  as_read =
      let same = follows.tied.same_instance ∙ ap effective (input_after_commands is (log_in ws)) in
      subst AsRead (sym same) (reached_as_read ws z (input_commands is (log_in ws)))

  pub history_run_back : model_of q.board ≡ model_of last
  history_run_back =
      let m = model_of last in
      let v = follows.is_valid in
      (reopened m v shaped q (subst (λ (c : List ℕ). OpenedBy c q) (in_buffer (history_stored w) a) u)).1 ∙ model_back m v shaped as_read

  -- AND GOES ON: the next commands get the answers of the log of the first run, gone on with, and leave what is
  -- effective by it
  pub record Goes_on (is' : List Input) (xs' : List ℕ) (e : Board) : Type 0 where
    pub answers : xs' ≡ input_answers is' (input_after is (log_in ws))
    pub instance : instance_of e ≡ effective (input_after is' (input_after is (log_in ws)))

  pub history_goes_on : (is' : List Input) (xs' : List ℕ) (e : Board) → Run is' q.board xs' e → Goes_on is' xs' e
  history_goes_on is' xs' e next =
      let back = sym history_run_back in
      let k = input_after is (log_in ws) in
      let again : Follows q.board k = record {
        is_valid = subst (λ (m : Model). valid m ≡ true) back follows.is_valid;
        tied = subst (λ (m : Model). Tied m k) back follows.tied;
      } in
      let f = run_follows next k again in
      record { answers = f.same_answers; instance = f.follows.tied.same_instance }

-- THERE AND BACK
pub plain_history_plain :
    {ws out out' back back' : List ℕ} {r q : Written} → are_bytes ws ≡ true → MovedToHistory ws out out' r → r.answer ≡ 0 →
    MovedToPlain (take r.length out') back back' q → length ws ≤ length back → SameCard ws back back' q
plain_history_plain {ws} {out} {out'} {back} {back'} {r} {q} y m a n h =
    let c = to_history_cases ws out out' r (moved_to_history m) in
    let t = plain_there_and_back ws y (stores_passed _ _ out out' r c a) in
    let d = to_plain_cases _ back back' q (moved_to_plain (subst (λ (xs : List ℕ). MovedToPlain xs back back' q) (in_buffer c a) n)) in
    subst (λ (xs : List ℕ). SameCard xs back back' q) t.1 (in_front_of d t.0 (rw t.1 h))

pub history_plain_history :
    {ws out out' back back' : List ℕ} {r q : Written} → are_bytes ws ≡ true → MovedToPlain ws out out' r → r.answer ≡ 0 →
    MovedToHistory (take r.length out') back back' q → length ws ≤ length back → SameCard ws back back' q
history_plain_history {ws} {out} {out'} {back} {back'} {r} {q} y m a n h =
    let c = to_plain_cases ws out out' r (moved_to_plain m) in
    let t = history_there_and_back ws y (stores_passed _ _ out out' r c a) in
    let d = to_history_cases _ back back' q (moved_to_history (subst (λ (xs : List ℕ). MovedToHistory xs back back' q) (in_buffer c a) n)) in
    subst (λ (xs : List ℕ). SameCard xs back back' q) t.1 (in_front_of d t.0 (rw t.1 h))

-- "the longest is 5,174 bytes": room for so many is enough for every valid board
pub history_fits :
    {b : Board} {r : Written} {out out' : List ℕ} → valid (model_of b) ≡ true → max_history_card ≤ length out → WroteHistory b out out' r →
    (r.answer ≡ 0) × (r.length ≤ max_history_card)
history_fits {b} {r} {out} {out'} v h w =
    let l = longest_history (model_of b) v in
    let s = in_front_of (history_stored w) (rw v) (omega arith) in
    (ap (λ (x : Written). x.answer) s.result, omega (arith, ap (λ (x : Written). x.length) s.result))

-- BOARDS THAT ARE CALLED EQUAL are written alike
pub same_write_history :
    {a b : Board} {r q : Written} {out r' q' : List ℕ} → SameBoard (model_of a) (model_of b) → WroteHistory a out r' r → WroteHistory b out q' q → (r ≡ q) × (r' ≡ q')
unfolding history_bits history_bytes history_card_of history_written_to history_buffer_after
same_write_history {a} {b} {r} {q} {out} {r'} {q'} s x y =
    let v = same_valid (model_of a) (model_of b) s in
    let e : history_bits (model_of a) ≡ history_bits (model_of b) = rw (same_bits (instance_of a) (instance_of b) s.same_instances, s.same_history) in
    let refusal : Written = record { answer = invalid_board; length = 0 } in
    let same_result : cond (valid (model_of a)) (history_written_to (model_of a) out) refusal ≡ cond (valid (model_of b)) (history_written_to (model_of b) out) refusal = rw (v, e) in
    let same_buffer : cond (valid (model_of a)) (history_buffer_after (model_of a) out) out ≡ cond (valid (model_of b)) (history_buffer_after (model_of b) out) out = rw (v, e) in
    ((wrote_history x).result ∙ same_result ∙ sym (wrote_history y).result, (wrote_history x).buffer ∙ same_buffer ∙ sym (wrote_history y).buffer)
