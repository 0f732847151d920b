-- A list of presses and single presses, of the public calls themselves (02, A1): "The board must equal the one reached
-- by making the applied presses singly", every record place included; what a list answers and where it stopped;
-- boards that are called equal; and lists in two parts. Assumes nothing.
use mathlib.Core.Path.{◌≡◌, refl, sym, ap, ◌∙◌, subst}
use mathlib.Core.Bool.{true, false}
use mathlib.Core.List.{List, [], ◌∷◌, ◌++◌, map}
use Prim.Native.Nat.{ℕ, ◌+◌, ◌<◌}
use lib.Dec.{eqb}
use lib.ListN.{length, get_or, take, replicate}
use Rattle.base.specs.Lists.{any_of}
use Rattle.instance.specs.Refusals.{invalid_board}
use Rattle.commands.specs.Valid.{valid}
use Rattle.commands.specs.Commands.{Command, undo, command_numbers}
use Rattle.commands.specs.LogLists.{single}
use Rattle.commands.specs.SameBoard.{SameBoard}
use Rattle.commands.proofs.NumberLaws.{answered_listed}
use Rattle.board.specs.ModelOf.{model_of, command_of}
use Rattle.board.specs.Contents.{contents_of, all_contents_after}
use Rattle.board.specs.declared.Board.{Board}
use Rattle.board.specs.declared.Answered.{Answered}
use Rattle.board.proofs.CallLaws.{call_answer}
use Rattle.board.proofs.ContentsLaws.{contents_once}
use Rattle.board.proofs.RunLaws.{Called, called_answers}
use Rattle.command_list.specs.declared.Press.{Press}
use Rattle.command_list.specs.CommandList.{ListAnswered}
use Rattle.command_list.specs.CommandList.{ListResult, none_applied, list_answered, commands_in, list_result_of, more_applied, continued}
use Rattle.command_list.proofs.CommandListLaws.{list_on_valid, list_on_invalid, continued_on, continued_stop, continued_join, answered_from_none}
use Rattle.command_list.proofs.AppliedLaws.{Stopped, list_stopped, list_accepted, list_valid, list_15}
use Rattle.command_list.proofs.SameListLaws.{SameList, same_lists}
use Rattle.command_list.proofs.ListCalled.{ListCalled, list_called}
use Rattle.demands.proofs.Runs.{Run, run_as, list_called_singly}

-- THE LAW: the presses that a list applied, made singly on the same board, looks between or not, are all accepted and
-- leave the very board that the list left
pub record SameAsList (r : ListAnswered) (xs : List ℕ) (e : Board) : Type 0 where
  pub all_accepted : xs ≡ replicate r.applied 0
  pub same_board : e ≡ r.board

pub list_singly_made :
    {ps ps' : List Press} {b : Board} {r : ListAnswered} {xs : List ℕ} {e : Board} → ListCalled ps ps' b r →
    Run (map single (take r.applied (commands_in ps))) b xs e → SameAsList r xs e
list_singly_made {r = r} {e = e} l run =
    let s = list_called_singly l in
    let n = run_as run in
    record {
      all_accepted = n.same_answers ∙ s.accepted;
      same_board = contents_once e r.board (n.same_contents ∙ s.board);
    }

-- where nothing was applied it is the very board
pub none_applied_same : {ps ps' : List Press} {b : Board} {r : ListAnswered} → ListCalled ps ps' b r → r.applied ≡ 0 → r.board ≡ b
unfolding all_contents_after
none_applied_same {ps} {b = b} {r = r} l z =
    contents_once r.board b (sym (list_called_singly l).board ∙ ap (λ (k : ℕ). all_contents_after (take k (commands_in ps)) (contents_of b)) z)

-- ONE RESULT ONLY
result_once : (r q : ListAnswered) → list_result_of r ≡ list_result_of q → r ≡ q
result_once r q e =
    let b = contents_once r.board q.board (ap (λ (d : ListResult). d.board) e) in
    λ j. record { applied = (e j).applied; answer = (e j).answer; board = b j }

pub list_called_once : {ps ps' ps'' : List Press} {b : Board} {r q : ListAnswered} → ListCalled ps ps' b r → ListCalled ps ps'' b q → r ≡ q
list_called_once {r = r} {q = q} l m = result_once r q ((list_called l).result ∙ sym (list_called m).result)

-- 15: "On a damaged board even an empty list gives 15", and no other board does
pub list_damaged :
    {ps ps' : List Press} {b : Board} {r : ListAnswered} → ListCalled ps ps' b r → valid (model_of b) ≡ false →
    r ≡ record { applied = 0; answer = invalid_board; board = b }
unfolding none_applied
list_damaged {ps} {b = b} {r = r} l v =
    result_once r (record { applied = 0; answer = invalid_board; board = b }) ((list_called l).result ∙ list_on_invalid (commands_in ps) (contents_of b) v)

pub damaged_alone : {ps ps' : List Press} {b : Board} {r : ListAnswered} → ListCalled ps ps' b r → r.answer ≡ invalid_board → valid (model_of b) ≡ false
damaged_alone {ps} {b = b} l z = list_15 (commands_in ps) (contents_of b) (ap (λ (d : ListResult). d.answer) (sym (list_called l).result) ∙ z)

-- WHERE IT STOPPED, on a board that is not damaged: the next press, made singly, is refused by the list's answer, which
-- is one of that press's own numbers, and leaves the list's board; where nothing was refused, all were applied
pub record Stops (ps : List Press) (r : ListAnswered) : Type 0 where
  pub within : (r.answer ≡ 0 → ⊥) → r.applied < length (commands_in ps)
  pub refused :
      (r.answer ≡ 0 → ⊥) → {q : Answered} → Called (get_or (commands_in ps) r.applied undo) r.board q → (q.answer ≡ r.answer) × (q.board ≡ r.board)
  pub own_number : (r.answer ≡ 0 → ⊥) → any_of (eqb r.answer) (command_numbers (get_or (commands_in ps) r.applied undo)) ≡ true
  pub complete : r.answer ≡ 0 → r.applied ≡ length (commands_in ps)

pub list_stops : {ps ps' : List Press} {b : Board} {r : ListAnswered} → ListCalled ps ps' b r → valid (model_of b) ≡ true → Stops ps r
list_stops {ps} {b = b} {r = r} l v =
    let cs = commands_in ps in
    let c = get_or cs r.applied undo in
    let s : Stopped cs (list_result_of r) = subst (Stopped cs) (sym (list_called l).result) (list_stopped cs (contents_of b) v) in
    record {
      within = s.within;
      refused =
          λ n q.
          let a = called_answers q in
          let e = call_answer c r.board _ a ∙ s.refused n in (
            e,
            a.unchanged (λ z. n (sym e ∙ z)),
          );
      own_number = λ n. subst (λ (a : ℕ). any_of (eqb a) (command_numbers c) ≡ true) (s.refused n) (answered_listed c (model_of r.board));
      complete = s.complete;
    }

-- BOARDS THAT ARE CALLED EQUAL get equal lists
pub same_list :
    {ps ps' qs' : List Press} {a b : Board} {r q : ListAnswered} → SameBoard (model_of a) (model_of b) → ListCalled ps ps' a r → ListCalled ps qs' b q →
    SameList (list_result_of r) (list_result_of q)
same_list {ps} {a = a} {b = b} s l m = rw ((list_called l).result, (list_called m).result) (same_lists (commands_in ps) (contents_of a) (contents_of b) s)

-- A LIST IN TWO PARTS
commands_join : (ps qs : List Press) → commands_in (ps ++ qs) ≡ commands_in ps ++ commands_in qs
commands_join [] qs = refl
commands_join (p ∷ ps) qs = λ j. command_of p.command ∷ commands_join ps qs j

-- the second part continues the first
list_called_join :
    {ps ps' us' : List Press} (qs : List Press) {b : Board} {r s : ListAnswered} → ListCalled ps ps' b r → ListCalled (ps ++ qs) us' b s →
    list_result_of s ≡ continued (list_result_of r) (commands_in qs)
list_called_join {ps} qs {b} l n =
    let cs = commands_in ps in
    let ds = commands_in qs in
    let w = contents_of b in
    (list_called n).result ∙ ap (λ (es : List Command). list_answered es w) (commands_join ps qs) ∙ answered_from_none (cs ++ ds) w
    ∙ sym (continued_join (list_answered [] w) cs ds) ∙ ap (λ (d : ListResult). continued d ds) (sym (answered_from_none cs w) ∙ sym (list_called l).result)

-- where the first part went to its end, the second on the board that it left gives what the two give as one list
pub record Joined (r q s : ListAnswered) : Type 0 where
  pub applied : s.applied ≡ r.applied + q.applied
  pub answer : s.answer ≡ q.answer
  pub board : s.board ≡ q.board

pub lists_join :
    {ps ps' qs qs' us' : List Press} {b : Board} {r q s : ListAnswered} → ListCalled ps ps' b r → r.answer ≡ 0 → ListCalled qs qs' r.board q →
    ListCalled (ps ++ qs) us' b s → Joined r q s
unfolding more_applied
lists_join {ps} {qs = qs} {b = b} {r = r} {q = q} {s = s} l z m n =
    let cs = commands_in ps in
    let ds = commands_in qs in
    let v = list_accepted cs (contents_of b) (ap (λ (d : ListResult). d.answer) (sym (list_called l).result) ∙ z) in
    let u : valid (model_of r.board) ≡ true = ap (λ (d : ListResult). valid d.board.model) (list_called l).result ∙ list_valid cs (contents_of b) v in
    let both : list_result_of s ≡ more_applied r.applied (list_result_of q) =
    list_called_join qs l n ∙ continued_on (list_result_of r) ds z
    ∙ ap (more_applied r.applied) (sym (list_on_valid ds (contents_of r.board) u) ∙ sym (list_called m).result) in
    record {
      applied = ap (λ (d : ListResult). d.applied) both;
      answer = ap (λ (d : ListResult). d.answer) both;
      board = contents_once s.board q.board (ap (λ (d : ListResult). d.board) both);
    }

-- where it was stopped, nothing after it is looked at
pub lists_stop :
    {ps ps' us' : List Press} (qs : List Press) {b : Board} {r s : ListAnswered} → ListCalled ps ps' b r → (r.answer ≡ 0 → ⊥) → ListCalled (ps ++ qs) us' b s →
    s ≡ r
lists_stop qs {r = r} {s = s} l z n = result_once s r (list_called_join qs l n ∙ continued_stop (list_result_of r) (commands_in qs) z)
