-- Lists of commands in the log (02, A1), and what the log answers to any calls, each a command or a list of them: from
-- the card and what the calls were handed alone. Assumes nothing: these are definitions.
use Rattle.std.specs.Prelude.{cond, List, [], ◌∷◌, ℕ, suc, eqb}
use Rattle.commands.specs.Commands.{Command}
use Rattle.commands.specs.Log.{Log, note}

-- "how many were applied and the refusal number, or 0", and the log after them
pub record NotedList : Type 0 where
  pub applied : ℕ
  pub answer : ℕ
  pub log : Log

unfoldable pub none_noted : (answer : ℕ) → Log → NotedList
none_noted a k = record { applied = 0; answer = a; log = k }

unfoldable pub one_more_noted : NotedList → NotedList
one_more_noted n = record { applied = suc n.applied; answer = n.answer; log = n.log }

-- "apply them in order, and stop at the first refused one"
unfoldable pub note_list : List Command → Log → NotedList
note_list [] k = none_noted 0 k
note_list (c ∷ cs) k = cond (eqb (note c k).answer 0) (one_more_noted (note_list cs (note c k).log)) (none_noted (note c k).answer k)

-- what a call that may change a board is handed beside it
pub data Input : Type 0 where
  single : Command → Input
  list : List Command → Input

-- the log's answers to any calls: to a list two numbers, how many were applied and the refusal's number or 0
unfoldable pub input_answers : List Input → Log → List ℕ
input_answers [] k = []
input_answers (single c ∷ is) k = (note c k).answer ∷ input_answers is (note c k).log
input_answers (list cs ∷ is) k = (note_list cs k).applied ∷ (note_list cs k).answer ∷ input_answers is (note_list cs k).log

unfoldable pub input_after : List Input → Log → Log
input_after [] k = k
input_after (single c ∷ is) k = input_after is (note c k).log
input_after (list cs ∷ is) k = input_after is (note_list cs k).log
