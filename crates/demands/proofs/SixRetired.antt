-- "Show that 6 never occurs any more" (02, A9), of the calls: whatever a public call was handed, it does not answer 6,
-- and none of the answers that `replay` puts into its list is 6. (Of the card alone it is `six_retired` in
-- card_format.) Assumes nothing.
use mathlib.Core.Path.{◌≡◌, refl, sym, ap, ◌∙◌}
use mathlib.Core.Bool.{Bool, true, false, cond, true≢false}
use mathlib.Core.List.{List, [], ◌∷◌}
use Prim.Native.Nat.{ℕ}
use lib.Dec.{eqb}
use borrow.Author.Tests.{ne_eqb}
use Rattle.base.specs.Lists.{any_of}
use Rattle.commands.specs.Commands.{Command, set_mark, set_marks, set_budget, undo, command_numbers}
use Rattle.commands.specs.Log.{Log, unnoted, note}
use Rattle.commands.proofs.LogLaws.{note_listed}
use Rattle.command_list.specs.CommandList.{commands_in}
use Rattle.command_list.proofs.ListNumberLaws.{lists_lack}
use Rattle.history_format.specs.HistoryCard.{is_history}
use Rattle.history_format.proofs.HistoryNumbers.{history_numbers, to_plain_numbers}
use Rattle.planner.specs.Replaying.{Call, command, look, write, log_call, call_answers}
use Rattle.demands.proofs.CallNumbers.{card_numbers, open_numbers, among}
use Rattle.demands.proofs.DemandOne.{Given, by_opening, by_command, by_list, by_looking, by_writing, by_writing_history, by_to_history, by_to_plain, by_checking, by_enumerating, by_explaining, by_planning_without, by_reading_prices, by_writing_prices, by_planning_runs, by_handing_back, by_reporting, by_replaying, numbers, demand_1}

-- ONE CALL
-- 6 is among the numbers of no command
commands_lack_six : (c : Command) → among 6 (command_numbers c) ≡ false
unfolding any_of command_numbers
commands_lack_six (set_mark m t h) = refl
commands_lack_six (set_marks m t c) = refl
commands_lack_six (set_budget v) = refl
commands_lack_six undo = refl

-- nor of a card of either kind
cards_lack_six : (ws : List ℕ) → among 6 (open_numbers ws) ≡ false
unfolding any_of history_numbers
cards_lack_six ws = by (is_history ws)
  where
    by : (k : Bool) → among 6 (cond k history_numbers card_numbers) ≡ false
    by true = refl
    by false = refl

-- nor of any other call
all_lack_six : {a : ℕ} (g : Given a) → among 6 (numbers g) ≡ false
unfolding any_of history_numbers to_plain_numbers
all_lack_six (by_opening {ws = ws} p) = cards_lack_six ws
all_lack_six (by_command {c = c} p) = commands_lack_six c
all_lack_six (by_list {ps = ps} p) = lists_lack (eqb 6) refl commands_lack_six (commands_in ps)
all_lack_six (by_looking p) = refl
all_lack_six (by_writing p) = refl
all_lack_six (by_writing_history p) = refl
all_lack_six (by_to_history p) = refl
all_lack_six (by_to_plain p) = refl
all_lack_six (by_checking p) = refl
all_lack_six (by_enumerating p) = refl
all_lack_six (by_explaining p) = refl
all_lack_six (by_planning_without p) = refl
all_lack_six (by_reading_prices p) = refl
all_lack_six (by_writing_prices p) = refl
all_lack_six (by_planning_runs p) = refl
all_lack_six (by_handing_back p) = refl
all_lack_six (by_reporting {ws = ws} p) = cards_lack_six ws
all_lack_six (by_replaying {ws = ws} p) = cards_lack_six ws

pub six_never_given : {a : ℕ} → Given a → a ≡ 6 → ⊥
six_never_given g e = true≢false (sym (demand_1 g).own_number ∙ ap (λ (x : ℕ). among x (numbers g)) e ∙ all_lack_six g)

-- A LIST OF CALLS, as `replay` answers it: by the log
note_not_six : (c : Command) (k : Log) → 6 ≡ (note c k).answer → ⊥
note_not_six c k e = true≢false (sym (note_listed c k) ∙ ap (λ (x : ℕ). among x (command_numbers c)) (sym e) ∙ commands_lack_six c)

pub six_never_listed : (cs : List Call) (k : Log) → among 6 (call_answers cs k) ≡ false
unfolding call_answers log_call unnoted any_of
six_never_listed [] k = refl
six_never_listed (command c ∷ cs) k = rw (ne_eqb 6 (note c k).answer (note_not_six c k)) (six_never_listed cs (note c k).log)
six_never_listed (look ∷ cs) k = six_never_listed cs k
six_never_listed (write ∷ cs) k = six_never_listed cs k
