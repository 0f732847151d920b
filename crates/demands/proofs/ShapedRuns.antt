-- A run keeps the shape of a history: each record that a command makes is as it would be read from a card. Assumes
-- nothing.
use mathlib.Core.Path.{◌≡◌, sym, ap, ◌∙◌, subst}
use mathlib.Core.List.{List}
use Prim.Native.Nat.{ℕ}
use lib.ListN.{take}
use Rattle.commands.specs.Model.{Model}
use Rattle.commands.specs.Commands.{answered, board_after}
use Rattle.commands.specs.LogLists.{Input}
use Rattle.board.specs.ModelOf.{model_of}
use Rattle.board.specs.Contents.{Contents, contents_of}
use Rattle.board.specs.declared.Board.{Board}
use Rattle.board.proofs.CallLaws.{call_board}
use Rattle.board.proofs.ContentsLaws.{contents_model}
use Rattle.board.proofs.RunLaws.{called_answers}
use Rattle.command_list.specs.declared.Press.{Press}
use Rattle.command_list.specs.CommandList.{ListAnswered}
use Rattle.command_list.specs.CommandList.{commands_in}
use Rattle.command_list.proofs.ListCalled.{ListCalled}
use Rattle.history_format.proofs.HistoryLaws.{AllShaped}
use Rattle.history_format.proofs.ShapedLaws.{answered_shaped, answered_list_shaped}
use Rattle.demands.proofs.Runs.{Run, no_call, then_command, then_list, then_look, then_write, then_write_history, then_check, then_enumerate, then_why, then_without, list_called_singly}

-- the board that a list leaves is that of the commands it applied
list_board :
    {ps ps' : List Press} {b : Board} {r : ListAnswered} → ListCalled ps ps' b r →
    model_of r.board ≡ board_after answered (take r.applied (commands_in ps)) (model_of b)
list_board {ps} {b = b} {r = r} l =
    let cs = take r.applied (commands_in ps) in
    ap (λ (w : Contents). w.model) (sym (list_called_singly l).board) ∙ contents_model cs (contents_of b)

pub run_shaped : {is : List Input} {b : Board} {xs : List ℕ} {e : Board} → Run is b xs e → AllShaped (model_of b).history → AllShaped (model_of e).history
run_shaped no_call s = s
run_shaped (then_command {c = c} {b = b} {r = r} l rest) s =
    let m = call_board c b r (called_answers l) in
    run_shaped rest (subst (λ (x : Model). AllShaped x.history) (sym m) (answered_shaped c (model_of b) s))
run_shaped (then_list {ps = ps} {b = b} {r = r} l rest) s =
    let cs = take r.applied (commands_in ps) in
    run_shaped rest (subst (λ (x : Model). AllShaped x.history) (sym (list_board l)) (answered_list_shaped cs (model_of b) s))
run_shaped (then_look l rest) s = run_shaped rest s
run_shaped (then_write l rest) s = run_shaped rest s
run_shaped (then_write_history l rest) s = run_shaped rest s
run_shaped (then_check l rest) s = run_shaped rest s
run_shaped (then_enumerate l rest) s = run_shaped rest s
run_shaped (then_why l rest) s = run_shaped rest s
run_shaped (then_without l rest) s = run_shaped rest s
