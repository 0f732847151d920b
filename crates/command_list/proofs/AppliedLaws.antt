-- A list is its single commands: the applied ones, made singly, are all accepted and leave the board that the list
-- leaves. On a valid board: where the list stopped, the next one is refused by the list's answer; where it did not, all
-- were applied; and the board stays valid. Assumes nothing.
use mathlib.Core.Path.{◌≡◌, refl, sym, ap, ◌∙◌}
use mathlib.Core.Bool.{Bool, true, false}
use mathlib.Core.List.{List, [], ◌∷◌}
use Prim.Native.Nat.{ℕ, suc, ◌<◌}
use native.Mathlib.Omega.{arith}
use lib.Dec.{eqb}
use lib.ListN.{length, get_or, take, replicate}
use borrow.Author.Tests.{eqb-true, eqb-false}
use Rattle.instance.specs.Refusals.{invalid_board}
use Rattle.commands.specs.Valid.{valid}
use Rattle.commands.specs.Commands.{Command, undo, Result, answered, answers}
use Rattle.commands.proofs.AnsweredLaws.{answered_applied, answered_valid}
use Rattle.commands.proofs.NumberLaws.{applied_not_15}
use Rattle.board.specs.Contents.{Contents, contents_after, all_contents_after}
use Rattle.command_list.specs.CommandList.{ListResult, none_applied, one_more, list_applied, list_answered}
use Rattle.command_list.proofs.CommandListLaws.{applied_on, applied_stop, list_on_valid, list_on_invalid}

pub record Singly (cs : List Command) (w : Contents) (r : ListResult) : Type 0 where
  pub board : all_contents_after (take r.applied cs) w ≡ r.board
  pub accepted : answers answered (take r.applied cs) w.model ≡ replicate r.applied 0

-- by cases on a list of commands on a valid board: the end, a refused one, an accepted one
module _ (P : List Command → Contents → ListResult → Type 0) (end : (w : Contents) → P [] w (none_applied 0 w))
    (stop : (c : Command) (cs : List Command) (w : Contents) → ((answered c w.model).answer ≡ 0 → ⊥) →
    P (c ∷ cs) w (none_applied (answered c w.model).answer w))
    (on : (c : Command) (cs : List Command) (w : Contents) (r : ListResult) → (answered c w.model).answer ≡ 0 → P cs (contents_after c w) r →
    P (c ∷ cs) w (one_more r)) where
  pub applied_cases : (cs : List Command) (w : Contents) → P cs w (list_applied cs w)
  unfolding list_applied
  applied_cases [] w = end w
  applied_cases (c ∷ cs) w = go (eqb (answered c w.model).answer 0) refl (applied_cases cs (contents_after c w))
    where
      go :
          (t : Bool) → eqb (answered c w.model).answer 0 ≡ t → P cs (contents_after c w) (list_applied cs (contents_after c w)) →
          P (c ∷ cs) w (list_applied (c ∷ cs) w)
      go true e h =
          let z = eqb-true (answered c w.model).answer 0 e in
          rw (applied_on c cs w z) (on c cs w (list_applied cs (contents_after c w)) z h)
      go false e h =
          let n = eqb-false (answered c w.model).answer 0 e in
          rw (applied_stop c cs w n) (stop c cs w n)

singly_none : (a : ℕ) (cs : List Command) (w : Contents) → Singly cs w (none_applied a w)
unfolding none_applied answers all_contents_after
singly_none a cs w = record { board = refl; accepted = refl }

singly_on :
    (c : Command) (cs : List Command) (w : Contents) (r : ListResult) → (answered c w.model).answer ≡ 0 → Singly cs (contents_after c w) r →
    Singly (c ∷ cs) w (one_more r)
unfolding one_more answers all_contents_after contents_after
singly_on c cs w r e s = record { board = s.board; accepted = λ j. e j ∷ s.accepted j }

pub list_singly : (cs : List Command) (w : Contents) → Singly cs w (list_answered cs w)
list_singly cs w = go (valid w.model) refl
  where
    go : (t : Bool) → valid w.model ≡ t → Singly cs w (list_answered cs w)
    go true e = rw (list_on_valid cs w e) (applied_cases Singly (singly_none 0 []) (λ c ds v n. singly_none (answered c v.model).answer (c ∷ ds) v) singly_on cs w)
    go false e = rw (list_on_invalid cs w e) (singly_none invalid_board cs w)

-- WHERE A LIST STOPPED ON A VALID BOARD: after the applied ones, at a command that the list's board refuses; and it
-- went to its end where nothing was refused
pub record Stopped (cs : List Command) (r : ListResult) : Type 0 where
  pub within : (r.answer ≡ 0 → ⊥) → r.applied < length cs
  pub refused : (r.answer ≡ 0 → ⊥) → (answered (get_or cs r.applied undo) r.board.model).answer ≡ r.answer
  pub complete : r.answer ≡ 0 → r.applied ≡ length cs

abbrev StoppedAt : List Command → Contents → ListResult → Type 0
StoppedAt cs w r = Stopped cs r

stopped_end : (w : Contents) → Stopped [] (none_applied 0 w)
unfolding none_applied
stopped_end w = record { within = λ n. absurd (n refl); refused = λ n. absurd (n refl); complete = λ z. refl }

stopped_here :
    (c : Command) (cs : List Command) (w : Contents) → ((answered c w.model).answer ≡ 0 → ⊥) →
    Stopped (c ∷ cs) (none_applied (answered c w.model).answer w)
unfolding none_applied
stopped_here c cs w n = record { within = λ _. omega arith; refused = λ _. refl; complete = λ z. absurd (n z) }

stopped_later :
    (c : Command) (cs : List Command) (w : Contents) (r : ListResult) → (answered c w.model).answer ≡ 0 → Stopped cs r → Stopped (c ∷ cs) (one_more r)
unfolding one_more
stopped_later c cs w r e s =
    record {
      within = λ n. omega (arith, s.within n);
      refused = s.refused;
      complete = λ z. ap suc (s.complete z);
    }

pub list_stopped : (cs : List Command) (w : Contents) → valid w.model ≡ true → Stopped cs (list_answered cs w)
list_stopped cs w e = rw (list_on_valid cs w e) (applied_cases StoppedAt stopped_end stopped_here stopped_later cs w)

-- what went to its end was asked of a valid board
pub list_accepted : (cs : List Command) (w : Contents) → (list_answered cs w).answer ≡ 0 → valid w.model ≡ true
unfolding none_applied
list_accepted cs w z = go (valid w.model) refl
  where
    go : (t : Bool) → valid w.model ≡ t → valid w.model ≡ true
    go true e = e
    go false e = absurd (omega (arith, sym z ∙ ap (λ (r : ListResult). r.answer) (list_on_invalid cs w e)))

never_15 : (cs : List Command) (w : Contents) → valid w.model ≡ true → (list_applied cs w).answer ≡ invalid_board → ⊥
unfolding none_applied one_more contents_after
never_15 =
    applied_cases (λ cs w r. valid w.model ≡ true → r.answer ≡ invalid_board → ⊥) (λ w v z. omega (arith, z))
    (λ c cs w n v z. applied_not_15 c w.model (ap (λ (d : Result). d.answer) (sym (answered_applied c w.model v)) ∙ z))
    (λ c cs w r e h v z. h (answered_valid c w.model v) z)

-- VALID BOARDS STAY VALID
pub list_valid : (cs : List Command) (w : Contents) → valid w.model ≡ true → valid (list_answered cs w).board.model ≡ true
unfolding none_applied one_more contents_after
list_valid cs w e =
    rw (list_on_valid cs w e)
    (applied_cases (λ ds v r. valid v.model ≡ true → valid r.board.model ≡ true) (λ v g. g) (λ c ds v n g. g)
    (λ c ds v r z h g. h (answered_valid c v.model g)) cs w e)

-- 15 IS FOR INVALID BOARDS ALONE: an accepted command leaves a valid board, so no later one meets another
pub list_15 : (cs : List Command) (w : Contents) → (list_answered cs w).answer ≡ invalid_board → valid w.model ≡ false
list_15 cs w z = go (valid w.model) refl
  where
    go : (t : Bool) → valid w.model ≡ t → valid w.model ≡ false
    go false e = e
    go true e = absurd (never_15 cs w e (ap (λ (r : ListResult). r.answer) (sym (list_on_valid cs w e)) ∙ z))
