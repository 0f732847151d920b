-- Boards that are called equal get equal lists: as many applied, one answer, and boards that are called equal. Assumes
-- nothing.
use mathlib.Core.Path.{◌≡◌, refl, sym, ap, ◌∙◌}
use mathlib.Core.Bool.{Bool, true, false}
use mathlib.Core.List.{List, [], ◌∷◌}
use Prim.Native.Nat.{suc}
use lib.Dec.{eqb}
use borrow.Author.Tests.{eqb-true, eqb-false}
use Rattle.commands.specs.Valid.{valid}
use Rattle.commands.specs.Commands.{Command, answered}
use Rattle.commands.specs.SameBoard.{SameBoard}
use Rattle.commands.proofs.SameBoardLaws.{same_valid, same_answered}
use Rattle.board.specs.Contents.{Contents, contents_after}
use Rattle.command_list.specs.CommandList.{ListResult, none_applied, one_more, list_applied, list_answered}
use Rattle.command_list.proofs.CommandListLaws.{applied_on, applied_stop, list_on_valid, list_on_invalid}

pub record SameList (r q : ListResult) : Type 0 where
  pub same_applied : r.applied ≡ q.applied
  pub same_answer : r.answer ≡ q.answer
  pub same_board : SameBoard r.board.model q.board.model

same_one_more : (r q : ListResult) → SameList r q → SameList (one_more r) (one_more q)
unfolding one_more
same_one_more r q s = record { same_applied = ap suc s.same_applied; same_answer = s.same_answer; same_board = s.same_board }

same_lists_applied : (cs : List Command) (w v : Contents) → SameBoard w.model v.model → SameList (list_applied cs w) (list_applied cs v)
unfolding list_applied none_applied contents_after
same_lists_applied [] w v s = record { same_applied = refl; same_answer = refl; same_board = s }
same_lists_applied (c ∷ cs) w v s =
    go (eqb (answered c w.model).answer 0) refl
    (same_lists_applied cs (contents_after c w) (contents_after c v) (same_answered w.model v.model s c).same_board)
  where
    e : (answered c w.model).answer ≡ (answered c v.model).answer
    e = (same_answered w.model v.model s c).same_answer

    go :
        (t : Bool) → eqb (answered c w.model).answer 0 ≡ t → SameList (list_applied cs (contents_after c w)) (list_applied cs (contents_after c v)) →
        SameList (list_applied (c ∷ cs) w) (list_applied (c ∷ cs) v)
    go true z h =
        let a = eqb-true (answered c w.model).answer 0 z in
        rw (applied_on c cs w a, applied_on c cs v (sym e ∙ a)) (same_one_more (list_applied cs (contents_after c w)) (list_applied cs (contents_after c v)) h)
    go false z h =
        let n = eqb-false (answered c w.model).answer 0 z in
        rw (applied_stop c cs w n, applied_stop c cs v (λ y. n (e ∙ y))) (record { same_applied = refl; same_answer = e; same_board = s })

pub same_lists : (cs : List Command) (w v : Contents) → SameBoard w.model v.model → SameList (list_answered cs w) (list_answered cs v)
unfolding none_applied
same_lists cs w v s = go (valid w.model) refl
  where
    go : (t : Bool) → valid w.model ≡ t → SameList (list_answered cs w) (list_answered cs v)
    go true e = rw (list_on_valid cs w e, list_on_valid cs v (sym (same_valid w.model v.model s) ∙ e)) (same_lists_applied cs w v s)
    go false e =
        rw (list_on_invalid cs w e, list_on_invalid cs v (sym (same_valid w.model v.model s) ∙ e))
        (record { same_applied = refl; same_answer = refl; same_board = s })
