-- A list of commands on a board that is tied to a log: how many are applied and the answer are the log's, kept from the
-- commands alone, and the board that is left is tied to the log after them. Assumes nothing.
use mathlib.Core.Path.{◌≡◌, refl, sym, ap, ◌∙◌, subst}
use mathlib.Core.Bool.{true}
use mathlib.Core.List.{List, [], ◌∷◌}
use Prim.Native.Nat.{suc}
use Rattle.commands.specs.Model.{Model}
use Rattle.commands.specs.Valid.{valid}
use Rattle.commands.specs.Commands.{Command, Result, answered}
use Rattle.commands.specs.Log.{Log, note}
use Rattle.commands.specs.LogLists.{NotedList, none_noted, one_more_noted, note_list}
use Rattle.commands.proofs.AnsweredLaws.{answered_applied, answered_valid}
use Rattle.commands.proofs.LogLaws.{Tied, step_tied}
use Rattle.commands.proofs.LogListsLaws.{note_on, note_stop}
use Rattle.board.specs.Contents.{Contents, contents_after}
use Rattle.command_list.specs.CommandList.{ListResult, none_applied, one_more, list_answered}
use Rattle.command_list.proofs.CommandListLaws.{list_on_valid}
use Rattle.command_list.proofs.AppliedLaws.{applied_cases}

pub record ListTied (r : ListResult) (n : NotedList) : Type 0 where
  pub same_applied : r.applied ≡ n.applied
  pub same_answer : r.answer ≡ n.answer
  pub tied : Tied r.board.model n.log

-- ONE COMMAND, on a valid board
module _ (c : Command) (b : Model) (k : Log) (v : valid b ≡ true) (t : Tied b k) where
  answered_noted : (answered c b).answer ≡ (note c k).answer
  answered_noted = ap (λ (d : Result). d.answer) (answered_applied c b v) ∙ (step_tied c b k t).same_answer

  still_tied : Tied (answered c b).board (note c k).log
  still_tied = subst (λ (d : Result). Tied d.board (note c k).log) (sym (answered_applied c b v)) (step_tied c b k t).tied

-- A LIST
abbrev FollowsList : List Command → Contents → ListResult → Type 0
FollowsList cs w r = (k : Log) → valid w.model ≡ true → Tied w.model k → ListTied r (note_list cs k)

follows_end : (w : Contents) → FollowsList [] w (none_applied 0 w)
unfolding none_applied none_noted note_list
follows_end w k v t = record { same_applied = refl; same_answer = refl; tied = t }

follows_stop :
    (c : Command) (cs : List Command) (w : Contents) → ((answered c w.model).answer ≡ 0 → ⊥) →
    FollowsList (c ∷ cs) w (none_applied (answered c w.model).answer w)
unfolding none_applied none_noted
follows_stop c cs w n k v t =
    let e = answered_noted c w.model k v t in
    rw (note_stop c cs k (λ z. n (e ∙ z))) (record { same_applied = refl; same_answer = e; tied = t })

follows_on :
    (c : Command) (cs : List Command) (w : Contents) (r : ListResult) → (answered c w.model).answer ≡ 0 → FollowsList cs (contents_after c w) r →
    FollowsList (c ∷ cs) w (one_more r)
unfolding one_more one_more_noted contents_after
follows_on c cs w r z h k v t =
    let s = h (note c k).log (answered_valid c w.model v) (still_tied c w.model k v t) in
    rw (note_on c cs k (sym (answered_noted c w.model k v t) ∙ z))
    (record { same_applied = ap suc s.same_applied; same_answer = s.same_answer; tied = s.tied })

pub list_tied : (cs : List Command) (w : Contents) (k : Log) → valid w.model ≡ true → Tied w.model k → ListTied (list_answered cs w) (note_list cs k)
list_tied cs w k v t = rw (list_on_valid cs w v) (applied_cases FollowsList follows_end follows_stop follows_on cs w k v t)
