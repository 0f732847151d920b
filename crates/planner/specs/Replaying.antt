-- Demand 3 in one definition: the card, the list of calls and the log; the board's own record is not named. Assumes
-- nothing: these are definitions.
use Rattle.std.specs.Prelude.{◌≡◌, Bool, true, false, ◌||◌, cond, List, [], ◌∷◌, ℕ, zero, suc, ltb, length}
use Rattle.base.specs.Lists.{in_front}
use Rattle.instance.specs.Refusals.{buffer_short, invalid_board}
use Rattle.instance.specs.declared.Mark.TheVariants.{Free, Pinned, Banned}
use Rattle.commands.specs.Commands.{Command, set_mark, set_marks, set_budget, undo, answered}
use Rattle.commands.specs.Valid.{valid}
use Rattle.commands.specs.Log.{Log, new_log, Noted, unnoted, note}
use Rattle.commands.specs.Effective.{effective}
use Rattle.board.specs.ModelOf.{model_of, command_of}
use Rattle.board.specs.Calls.{Answers}
use Rattle.board.specs.declared.Board.{Board}
use Rattle.board.specs.declared.Answered.{Answered}
use Rattle.history_format.specs.HistoryCard.{open_refusal, model_in}
use Rattle.planner.specs.declared.View.{View}
use Rattle.planner.specs.declared.replaying.Call as declared-call
use Rattle.planner.specs.declared.replaying.Call.TheVariants as declared-calls
use Rattle.planner.specs.Looking.{Buffers, answer_of, short_for, Shows, Untouched, Looks}

-- THE LIST
-- what it may hold: the log's commands, and "looks and writes", which "leave the board and the book as they were"
pub data Call : Type 0 where
  command : Command → Call
  look : Call
  write : Call

-- kinds: 0 pin, 1 ban, 2 clear, 3 budget, 4 take-back, 5 a look, 7 to 9 pin, ban and clear of a set of heads (02, A5),
-- any other number a write
unfoldable pub call : (kind first second : ℕ) → Call
call zero a b = command (set_mark Pinned a b)
call (suc zero) a b = command (set_mark Banned a b)
call (suc (suc zero)) a b = command (set_mark Free a b)
call (suc (suc (suc zero))) a b = command (set_budget a)
call (suc (suc (suc (suc zero)))) a b = command undo
call (suc (suc (suc (suc (suc zero))))) a b = look
call (suc (suc (suc (suc (suc (suc zero)))))) a b = write
call (suc (suc (suc (suc (suc (suc (suc zero))))))) a b = command (set_marks Pinned a b)
call (suc (suc (suc (suc (suc (suc (suc (suc zero)))))))) a b = command (set_marks Banned a b)
call (suc (suc (suc (suc (suc (suc (suc (suc (suc zero))))))))) a b = command (set_marks Free a b)
call (suc (suc (suc (suc (suc (suc (suc (suc (suc (suc k)))))))))) a b = write

-- the program's call
abbrev pub call_of : declared-call.Call → Call
call_of (declared-calls.Command c) = command (command_of c)
call_of declared-calls.Look = look
call_of declared-calls.Write = write

unfoldable pub calls : (kinds firsts seconds : List ℕ) → List Call
calls [] as' bs = []
calls (k ∷ ks) [] bs = []
calls (k ∷ ks) (a ∷ as') [] = []
calls (k ∷ ks) (a ∷ as') (b ∷ bs) = call k a b ∷ calls ks as' bs

-- THE LOG'S ANSWERS
-- looks and writes have room here, and are accepted
unfoldable pub log_call : Call → Log → Noted
log_call (command c) k = note c k
log_call look k = unnoted 0 k
log_call write k = unnoted 0 k

unfoldable pub call_answers : List Call → Log → List ℕ
call_answers [] k = []
call_answers (c ∷ cs) k = (log_call c k).answer ∷ call_answers cs (log_call c k).log

unfoldable pub calls_after : List Call → Log → Log
calls_after [] k = k
calls_after (c ∷ cs) k = calls_after cs (log_call c k).log

-- ONE CALL on a board: the answer, the board that is left, and the buffers of a look
unfoldable pub Makes : Board → Call → (old new : Buffers) → Answered → Type 0
Makes b (command c) old new r = Answers (answered c (model_of b)) b r × (new ≡ old)
Makes b look old new r = (v : View) × (r.answer ≡ answer_of v) × (r.board ≡ b) × Looks b old new v
Makes b write old new r = (r.answer ≡ cond (valid (model_of b)) 0 invalid_board) × (r.board ≡ b) × (new ≡ old)

-- THE WHOLE LIST on a freshly opened card, and a look at the end
-- fewer numbers than kinds, or no room for the answers
unfoldable pub lists_short : (kinds firsts seconds answers : ℕ) → Bool
lists_short k f s a = ltb f k || (ltb s k || ltb a k)

-- A card that does not open leaves everything as it was, and so does "a lent buffer too short" (14): a list of numbers,
-- the answers, or one of the look's three. Else every call is made, its answer is the log's, and the last look shows
-- the effective instance.
unfoldable pub ReplaysAt : (answer : ℕ) → (short : Bool) → List Call → Log → (answers answers' : List ℕ) → (old new : Buffers) → View → Type 0
ReplaysAt (suc a) short cs k xs xs' old new r = (xs' ≡ xs) × Untouched (suc a) old new r
ReplaysAt zero true cs k xs xs' old new r = (xs' ≡ xs) × Untouched buffer_short old new r
ReplaysAt zero false cs k xs xs' old new r = (xs' ≡ in_front (call_answers cs k) xs) × Shows (effective (calls_after cs k)) old new r

-- the log of a freshly opened card: what the card says, and the records that came on it, which "lie under the standing
-- presses" (02, A8)
abbrev pub log_in : (card : List ℕ) → Log
log_in ws = new_log (model_in ws).instance (model_in ws).history

unfoldable pub Replays : (card kinds firsts seconds : List ℕ) → (answers answers' : List ℕ) → (old new : Buffers) → View → Type 0
Replays ws ks fs gs xs xs' old new r =
    ReplaysAt (open_refusal ws) (lists_short (length ks) (length fs) (length gs) (length xs) || short_for (model_in ws).instance.n old) (calls ks fs gs)
    (log_in ws) xs xs' old new r
