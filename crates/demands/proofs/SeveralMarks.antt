-- A group press and single presses, of the public calls themselves (02, A5): "The marks afterwards equal those from
-- single presses on each member link, in any order, the 200 limit aside", for every order and every repetition, looks,
-- writes and checks between or not; and that it is recorded as one press and taken back as one. Assumes nothing.
use mathlib.Core.Path.{◌≡◌, refl, sym, ap, ◌∙◌}
use mathlib.Core.Bool.{true}
use mathlib.Core.List.{List, ◌∷◌, map}
use Prim.Native.Nat.{ℕ, ◌+◌, ◌≤◌}
use native.Mathlib.Omega.{arith}
use lib.ListN.{length, replicate}
use Rattle.instance.specs.Limits.{max_records}
use Rattle.instance.specs.declared.Mark.{Mark}
use Rattle.commands.specs.Heads.{names_arc, heads_of, marks_of}
use Rattle.commands.specs.Model.{old_marks, Model}
use Rattle.commands.specs.Valid.{valid}
use Rattle.commands.specs.Commands.{set_marks, undo, Result}
use Rattle.commands.specs.Changes.{is_undo}
use Rattle.commands.specs.LogLists.{single}
use Rattle.commands.proofs.CommandLaws.{several_recorded}
use Rattle.commands.proofs.AnsweredLaws.{answered_applied, accepted_valid}
use Rattle.commands.proofs.SinglesLaws.{singles, ListsArcs, singles_alike}
use Rattle.board.specs.ModelOf.{model_of, instance_of, result_of}
use Rattle.board.specs.declared.Board.{Board}
use Rattle.board.specs.declared.Answered.{Answered}
use Rattle.board.proofs.ModelOfLaws.{length_history}
use Rattle.board.proofs.CallLaws.{call_board, call_answer, call_undo_restores}
use Rattle.board.proofs.RunLaws.{Called, called_answers}
use Rattle.demands.proofs.Runs.{Run, run_as}

-- THE LAW: a group press that was accepted, and a run of single presses on a board with the same instance, which names
-- the members that are arcs and no others, leave one and the same instance: every mark, and so the outcome and the
-- states of every look. The single presses may start on another board, with room for them where the group's had one
-- place.
pub record Alike (hs : List ℕ) (r : Answered) (xs : List ℕ) (e : Board) : Type 0 where
  pub all_accepted : xs ≡ replicate (length hs) 0
  pub same_instance : instance_of e ≡ instance_of r.board

pub several_alike :
    {m : Mark} {t c : ℕ} {hs : List ℕ} {b a : Board} {r : Answered} {xs : List ℕ} {e : Board} → Called (set_marks m t c) b r → r.answer ≡ 0 →
    valid (model_of a) ≡ true → instance_of a ≡ instance_of b → ListsArcs (instance_of b) t c hs → a.count + length hs ≤ max_records →
    Run (map single (singles m t hs)) a xs e → Alike hs r xs e
several_alike {m} {t} {c} {hs} {b} {a} {r} l z v same names few run =
    let d = called_answers l in
    let s =
    singles_alike m t c hs (model_of b) (model_of a) (sym (call_answer (set_marks m t c) b r d) ∙ z) v same names
    (omega (arith, few, length_history a.count a.records)) in
    record {
      all_accepted = (run_as run).same_answers ∙ s.all_accepted;
      same_instance = ap (λ (x : Model). x.instance) (run_as run).same_model ∙ s.same_instance ∙ ap (λ (x : Model). x.instance) (sym (call_board (set_marks m t c) b r d));
    }

-- "recorded as one press and taken back as one": one record, of the members that are arcs with the mark that each had
pub record AsOne (t c : ℕ) (b : Board) (r q : Answered) : Type 0 where
  pub one_record :
      let s = instance_of b in
      (model_of r.board).history ≡ old_marks t (heads_of (names_arc s t c)) (marks_of s t (names_arc s t c)) ∷ (model_of b).history
  pub taken_back : result_of q ≡ record { answer = 0; board = model_of b }

pub several_as_one :
    {m : Mark} {t c : ℕ} {b : Board} {r q : Answered} → Called (set_marks m t c) b r → r.answer ≡ 0 → Called undo r.board q → AsOne t c b r q
unfolding is_undo
several_as_one {m} {t} {c} {b} {r} {q} l z u =
    let a = called_answers l in
    let y = sym (call_answer (set_marks m t c) b r a) ∙ z in
    let k = answered_applied (set_marks m t c) (model_of b) (accepted_valid (set_marks m t c) (model_of b) y) in
    record {
      one_record =
          ap (λ (x : Model). x.history) (call_board (set_marks m t c) b r a) ∙ ap (λ (d : Result). d.board.history) k
          ∙ several_recorded m t c (model_of b) (ap (λ (d : Result). d.answer) (sym k) ∙ y);
      taken_back = call_undo_restores (set_marks m t c) b r a refl z q (called_answers u);
    }
