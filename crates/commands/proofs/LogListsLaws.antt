-- The log under lists of commands (02, A1): single commands are as they were, and a list is its single commands up to
-- the first one that the log refuses. Assumes nothing.
use mathlib.Core.Path.{◌≡◌, refl, sym, ap, ◌∙◌}
use mathlib.Core.Bool.{Bool, true, false}
use mathlib.Core.List.{List, [], ◌∷◌, ◌++◌, map}
use Prim.Native.Nat.{suc, ◌<◌}
use native.Mathlib.Omega.{arith}
use lib.Dec.{eqb}
use lib.ListN.{length, get_or, take, replicate}
use borrow.Author.Tests.{eq-eqb, ne_eqb, eqb-true, eqb-false}
use Rattle.commands.specs.Commands.{Command, undo}
use Rattle.commands.specs.Log.{Log, note, log_answers, log_after}
use Rattle.commands.specs.LogLists.{NotedList, none_noted, one_more_noted, note_list, Input, single, list, input_answers, input_after}

-- SINGLE COMMANDS
pub single_answers : (cs : List Command) (k : Log) → input_answers (map single cs) k ≡ log_answers cs k
unfolding input_answers log_answers
single_answers [] k = refl
single_answers (c ∷ cs) k = λ j. (note c k).answer ∷ single_answers cs (note c k).log j

pub single_after : (cs : List Command) (k : Log) → input_after (map single cs) k ≡ log_after cs k
unfolding input_after log_after
single_after [] k = refl
single_after (c ∷ cs) k = single_after cs (note c k).log

-- A LIST, by cases: the end, a refused command, an accepted one
pub note_on : (c : Command) (cs : List Command) (k : Log) → (note c k).answer ≡ 0 → note_list (c ∷ cs) k ≡ one_more_noted (note_list cs (note c k).log)
unfolding note_list
note_on c cs k e = rw (eq-eqb (note c k).answer 0 e)

pub note_stop : (c : Command) (cs : List Command) (k : Log) → ((note c k).answer ≡ 0 → ⊥) → note_list (c ∷ cs) k ≡ none_noted (note c k).answer k
unfolding note_list
note_stop c cs k n = rw (ne_eqb (note c k).answer 0 n)

-- the accepted commands, made singly, leave its log; where it stopped, the next one is refused by its answer; where it
-- did not, all were accepted
pub record NotedSingly (cs : List Command) (k : Log) (n : NotedList) : Type 0 where
  pub after : n.log ≡ log_after (take n.applied cs) k
  pub accepted : log_answers (take n.applied cs) k ≡ replicate n.applied 0
  pub within : (n.answer ≡ 0 → ⊥) → n.applied < length cs
  pub refused : (n.answer ≡ 0 → ⊥) → (note (get_or cs n.applied undo) n.log).answer ≡ n.answer
  pub complete : n.answer ≡ 0 → n.applied ≡ length cs

one_more_singly :
    (c : Command) (cs : List Command) (k : Log) (n : NotedList) → (note c k).answer ≡ 0 → NotedSingly cs (note c k).log n →
    NotedSingly (c ∷ cs) k (one_more_noted n)
unfolding one_more_noted log_answers log_after
one_more_singly c cs k n e s =
    record {
      after = s.after;
      accepted = λ j. e j ∷ s.accepted j;
      within = λ z. omega (arith, s.within z);
      refused = s.refused;
      complete = λ z. ap suc (s.complete z);
    }

pub list_noted : (cs : List Command) (k : Log) → NotedSingly cs k (note_list cs k)
unfolding note_list none_noted log_answers log_after
list_noted [] k = record { after = refl; accepted = refl; within = λ n. absurd (n refl); refused = λ n. absurd (n refl); complete = λ _. refl }
list_noted (c ∷ cs) k = go (eqb (note c k).answer 0) refl (list_noted cs (note c k).log)
  where
    go : (t : Bool) → eqb (note c k).answer 0 ≡ t → NotedSingly cs (note c k).log (note_list cs (note c k).log) → NotedSingly (c ∷ cs) k (note_list (c ∷ cs) k)
    go true e s = rw (note_on c cs k (eqb-true (note c k).answer 0 e)) (one_more_singly c cs k (note_list cs (note c k).log) (eqb-true (note c k).answer 0 e) s)
    go false e s =
        let n = eqb-false (note c k).answer 0 e in
        rw (note_stop c cs k n)
        (record { after = refl; accepted = refl; within = λ _. omega arith; refused = λ _. refl; complete = λ z. absurd (n z) })

-- ANY CALLS: the commands that the log accepts of a list, and every single one
unfoldable pub input_commands : List Input → Log → List Command
input_commands [] k = []
input_commands (single c ∷ is) k = c ∷ input_commands is (note c k).log
input_commands (list cs ∷ is) k = take (note_list cs k).applied cs ++ input_commands is (note_list cs k).log

after_join : (cs ds : List Command) (k : Log) → log_after (cs ++ ds) k ≡ log_after ds (log_after cs k)
unfolding log_after
after_join [] ds k = refl
after_join (c ∷ cs) ds k = after_join cs ds (note c k).log

pub input_after_commands : (is : List Input) (k : Log) → input_after is k ≡ log_after (input_commands is k) k
unfolding input_after input_commands log_after
input_after_commands [] k = refl
input_after_commands (single c ∷ is) k = input_after_commands is (note c k).log
input_after_commands (list cs ∷ is) k =
    let l = (note_list cs k).log in
    let ds = take (note_list cs k).applied cs in
    input_after_commands is l ∙ ap (log_after (input_commands is l)) (list_noted cs k).after ∙ sym (after_join ds (input_commands is l) k)
