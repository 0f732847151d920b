-- Every answer of a list, on any board, is one of its commands' own numbers, or 15; and a number that no command has,
-- no list has. Assumes nothing.
use mathlib.Core.Path.{◌≡◌, refl, ◌∙◌}
use mathlib.Core.Bool.{Bool, true, false}
use mathlib.Core.List.{List, [], ◌∷◌, ◌++◌}
use Prim.Native.Nat.{ℕ}
use lib.Dec.{eqb}
use borrow.Author.Tests.{eqb-true, eqb-false}
use Rattle.base.specs.Lists.{any_of}
use Rattle.base.proofs.BoolLaws.{or_both_false}
use Rattle.base.proofs.ListLaws.{any_append, any_append_left, any_append_right}
use Rattle.instance.specs.Refusals.{invalid_board}
use Rattle.commands.specs.Valid.{valid}
use Rattle.commands.specs.Commands.{Command, answered, command_numbers}
use Rattle.commands.proofs.NumberLaws.{answered_listed}
use Rattle.board.specs.Contents.{Contents, contents_after}
use Rattle.command_list.specs.CommandList.{none_applied, one_more, list_applied, list_answered, list_numbers}
use Rattle.command_list.proofs.CommandListLaws.{applied_on, applied_stop, list_on_valid, list_on_invalid}

-- EVERY ANSWER IS LISTED
applied_listed : (cs : List Command) (w : Contents) → any_of (eqb (list_applied cs w).answer) (list_numbers cs) ≡ true
unfolding list_applied none_applied one_more any_of list_numbers
applied_listed [] w = refl
applied_listed (c ∷ cs) w = go (eqb (answered c w.model).answer 0) refl (applied_listed cs (contents_after c w))
  where
    a : ℕ
    a = (answered c w.model).answer

    go :
        (t : Bool) → eqb a 0 ≡ t → any_of (eqb (list_applied cs (contents_after c w)).answer) (list_numbers cs) ≡ true →
        any_of (eqb (list_applied (c ∷ cs) w).answer) (command_numbers c ++ list_numbers cs) ≡ true
    go true e h =
        rw (applied_on c cs w (eqb-true a 0 e)) (any_append_right (eqb (list_applied cs (contents_after c w)).answer) (command_numbers c) (list_numbers cs) h)
    go false e h = rw (applied_stop c cs w (eqb-false a 0 e)) (any_append_left (eqb a) (command_numbers c) (list_numbers cs) (answered_listed c w.model))

invalid_listed : (cs : List Command) → any_of (eqb invalid_board) (list_numbers cs) ≡ true
unfolding any_of list_numbers
invalid_listed [] = refl
invalid_listed (c ∷ cs) = any_append_right (eqb invalid_board) (command_numbers c) (list_numbers cs) (invalid_listed cs)

pub list_listed : (cs : List Command) (w : Contents) → any_of (eqb (list_answered cs w).answer) (list_numbers cs) ≡ true
unfolding none_applied
list_listed cs w = go (valid w.model) refl
  where
    go : (t : Bool) → valid w.model ≡ t → any_of (eqb (list_answered cs w).answer) (list_numbers cs) ≡ true
    go true e = rw (list_on_valid cs w e) (applied_listed cs w)
    go false e = rw (list_on_invalid cs w e) (invalid_listed cs)

-- A NUMBER THAT NO COMMAND HAS
pub lists_lack :
    (q : ℕ → Bool) → any_of q (0 ∷ invalid_board ∷ []) ≡ false → ((c : Command) → any_of q (command_numbers c) ≡ false) →
    (cs : List Command) → any_of q (list_numbers cs) ≡ false
unfolding list_numbers
lists_lack q n h [] = n
lists_lack q n h (c ∷ cs) = any_append q (command_numbers c) (list_numbers cs) ∙ or_both_false (any_of q (command_numbers c)) (any_of q (list_numbers cs)) (h c) (lists_lack q n h cs)
