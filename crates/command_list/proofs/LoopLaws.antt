-- The loop of `press_list`: what was given so far and the rest of the list give together is what the whole list gives,
-- and one press more keeps it. Assumes nothing.
use mathlib.Core.Path.{◌≡◌, refl, sym, ap, ◌∙◌, subst}
use mathlib.Core.Bool.{true}
use mathlib.Core.List.{List, [], ◌∷◌}
use Prim.Native.Nat.{ℕ, suc, ◌+◌, ◌<◌}
use native.Mathlib.Omega.{arith}
use lib.ListN.{length, get_or, drop}
use lib.Seq.{drop-cons, drop-length}
use Rattle.commands.specs.Valid.{valid}
use Rattle.commands.specs.Commands.{Command, answered}
use Rattle.board.specs.declared.Board.{Board}
use Rattle.board.specs.declared.Answered.{Answered}
use Rattle.board.specs.ModelOf.{model_of, command_of}
use Rattle.board.specs.Calls.{Answers}
use Rattle.board.proofs.CallLaws.{call_answer}
use Rattle.command_list.specs.declared.Press.{Press}
use Rattle.command_list.specs.CommandList.{ListAnswered}
use Rattle.board.specs.Contents.{contents_of}
use Rattle.command_list.specs.CommandList.{ListResult, none_applied, one_more, more_applied, list_applied, list_answered, continued, commands_in, list_result_of}
use Rattle.board.proofs.ContentsLaws.{call_contents}
use Rattle.command_list.proofs.CommandListLaws.{list_on_valid, applied_on, applied_stop, continued_on, continued_stop, continued_join, continued_none, answered_from_none}

-- ONE COMMAND MORE, by what a single call gave
module _ (s : ListAnswered) (c : Command) (a : Answered) (going : s.answer ≡ 0) (h : Answers (answered c (model_of s.board)) s.board a) where
  pub advance_refused :
      (a.answer ≡ 0 → ⊥) → list_result_of (record { applied = s.applied; answer = a.answer; board = a.board }) ≡ continued (list_result_of s) (c ∷ [])
  unfolding more_applied none_applied
  advance_refused n =
      let w = contents_of s.board in
      let k : s.applied ≡ s.applied + 0 = omega arith in
      let z = call_answer c s.board a h in
      (λ j. record { applied = k j; answer = z j; board = contents_of (h.unchanged n j) })
      ∙ ap (more_applied s.applied) (sym (applied_stop c [] w (λ e. n (z ∙ e)))) ∙ sym (continued_on (list_result_of s) (c ∷ []) going)

  pub advance_accepted :
      a.answer ≡ 0 → list_result_of (record { applied = s.applied + 1; answer = 0; board = a.board }) ≡ continued (list_result_of s) (c ∷ [])
  unfolding more_applied one_more none_applied list_applied
  advance_accepted e =
      let w = contents_of s.board in
      (λ j. record { applied = s.applied + 1; answer = 0; board = call_contents c s.board a h j })
      ∙ ap (more_applied s.applied) (sym (applied_on c [] w (sym (call_answer c s.board a h) ∙ e))) ∙ sym (continued_on (list_result_of s) (c ∷ []) going)

-- THE INVARIANT, before the place i with the result s
pub record Upto (ps : List Press) (b : Board) (i : ℕ) (s : ListAnswered) : Type 0 where
  pub result : continued (list_result_of s) (commands_in (drop i ps)) ≡ list_answered (commands_in ps) (contents_of b)
  pub going : s.answer ≡ 0

-- the empty list on a valid board
pub upto_begin : (ps : List Press) (b : Board) → valid (model_of b) ≡ true → Upto ps b 0 (record { applied = 0; answer = 0; board = b })
unfolding none_applied list_applied
upto_begin ps b v =
    record {
      result =
          ap (λ (r : ListResult). continued r (commands_in ps)) (sym (list_on_valid [] (contents_of b) v))
          ∙ sym (answered_from_none (commands_in ps) (contents_of b));
      going = refl;
    }

-- ONE PRESS MORE
module _ (ps : List Press) (b : Board) (i : ℕ) (d : Press) (s : ListAnswered) (u : Upto ps b i s) (l : i < length ps) (a : Answered)
    (h : Answers (answered (command_of (get_or ps i d).command) (model_of s.board)) s.board a) where
  abbrev rest : List Command
  rest = commands_in (drop (suc i) ps)

  -- the result with this press, and what comes after it
  went_on :
      (r : ListAnswered) → list_result_of r ≡ continued (list_result_of s) (command_of (get_or ps i d).command ∷ []) →
      continued (list_result_of r) rest ≡ list_answered (commands_in ps) (contents_of b)
  went_on r e =
      ap (λ (q : ListResult). continued q rest) e ∙ continued_join (list_result_of s) (command_of (get_or ps i d).command ∷ []) rest
      ∙ ap (λ (qs : List Press). continued (list_result_of s) (commands_in qs)) (sym (drop-cons ps i d l)) ∙ u.result

  pub upto_next : a.answer ≡ 0 → Upto ps b (i + 1) (record { applied = s.applied + 1; answer = 0; board = a.board })
  upto_next e =
      let r : ListAnswered = record { applied = s.applied + 1; answer = 0; board = a.board } in
      subst (λ (j : ℕ). Upto ps b j r) {x = suc i} {y = i + 1} (omega arith)
      (record { result = went_on r (advance_accepted s _ a u.going h e); going = refl })

  -- a refusal stops the list
  pub upto_stopped :
      (a.answer ≡ 0 → ⊥) →
      list_result_of (record { applied = s.applied; answer = a.answer; board = a.board }) ≡ list_answered (commands_in ps) (contents_of b)
  upto_stopped n =
      let r : ListAnswered = record { applied = s.applied; answer = a.answer; board = a.board } in
      sym (continued_stop (list_result_of r) rest n) ∙ went_on r (advance_refused s _ a u.going h n)

-- THE END OF THE LIST
pub upto_end :
    (ps : List Press) (b : Board) (s : ListAnswered) → Upto ps b (length ps) s → list_result_of s ≡ list_answered (commands_in ps) (contents_of b)
upto_end ps b s u =
    sym (continued_none (list_result_of s))
    ∙ ap (λ (qs : List Press). continued (list_result_of s) (commands_in qs)) (sym (drop-length ps)) ∙ u.result
