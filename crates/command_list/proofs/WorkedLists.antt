-- What lists of commands give, on a board and in the log, by document 01's own numbers: five lists with one claim about
-- them all. What is answered and left is written out here, so that board and log cannot be wrong alike. Computed.
-- Assumes nothing.
use mathlib.Core.Path.{◌≡◌, refl}
use mathlib.Core.List.{List, [], ◌∷◌, map}
use Prim.Native.Nat.{ℕ, ◌/◌, ◌%◌, ◌*◌}
use lib.ListN.{length, replicate}
use Rattle.base.specs.Bounded.{all_below, any_below, sum_below}
use Rattle.base.specs.Lists.{tabulate_from, tabulate, all_of}
use Rattle.base.specs.Digits.{from_digits}
use Rattle.instance.specs.Instance.{weight, mark, can_be_arc, is_arc}
use Rattle.instance.specs.Cuts.{inside}
use Rattle.instance.specs.declared.Mark.TheVariants.{Free, Pinned, Banned}
use Rattle.instance.specs.Valid.{cell_ok, cell_valid, header_valid, valid_instance}
use Rattle.instance.proofs.WorkedCases.{filled, instance_from, instance_q}
use Rattle.commands.specs.Heads.{heads_below, names_arc, names_any, heads_of, marks_of, is_named, put_marks, with_marks}
use Rattle.commands.specs.Model.{opened, with_mark, restored}
use Rattle.commands.specs.Valid.{head_ok, record_ok, valid}
use Rattle.commands.specs.Commands.{Command, set_mark, set_marks, set_budget, undo, refused, accepted, decided, arc_refusal, mark_refusal, marked, marks_refusal, several_marked, budget_refusal, budgeted, undone, applied, answered}
use Rattle.commands.specs.Log.{new_log, with_entries, log_length, unnoted, noted, note_arcs, note_mark, note_marks, note_budget, note_undo, note}
use Rattle.commands.specs.LogLists.{none_noted, one_more_noted, note_list}
use Rattle.board.specs.declared.UndoRecord.{UndoRecord}
use Rattle.board.specs.declared.Replaced.TheVariants.{OldMark, OldBudget, OldMarks}
use Rattle.board.specs.Calls.{records_after}
use Rattle.board.specs.Contents.{Contents, contents_after}
use Rattle.command_list.specs.CommandList.{none_applied, one_more, list_applied, list_answered}

-- how many were applied and the answer, then what is left: the n times n marks, the budget, how many are recorded, and
-- the record places
pub record Left : Type 0 where
  pub applied : ℕ
  pub answer : ℕ
  pub marks : List ℕ
  pub budget : ℕ
  pub recorded : ℕ
  pub records : List UndoRecord

pub record ListCase : Type 0 where
  pub budget : ℕ
  pub commands : List Command
  pub leaves : Left

abbrev unused : UndoRecord
unused = record { replaced = OldMark 9 9 9 }

-- document 01's sheet with a budget and nothing recorded, and three record places
unfoldable pub start : (budget : ℕ) → Contents
start v = record { model = opened (instance_q v []); records = replicate 3 unused }

unfoldable pub given : ListCase → Left
given c =
    let r = list_answered c.commands (start c.budget) in
    let b = r.board.model in
    let s = b.instance in
    record {
      applied = r.applied;
      answer = r.answer;
      marks = tabulate (s.n * s.n) (λ i. mark s (i / s.n) (i % s.n));
      budget = s.budget;
      recorded = length b.history;
      records = r.board.records;
    }

-- the log on the same card: how many it accepts, its answer, and how many stand
unfoldable pub logged : ListCase → List ℕ
logged c =
    let n = note_list c.commands (new_log (instance_q c.budget []) []) in
    n.applied ∷ n.answer ∷ log_length n.log ∷ []

unfoldable pub lists : List ListCase
lists =
    -- "Take-backs may stand in the list and count among the applied"; a refused one is 13 and stops it. The place of a
    -- record that was taken back stays as it is.
    record {
      budget = 16;
      commands = set_mark Pinned 2 1 ∷ undo ∷ undo ∷ set_mark Pinned 0 1 ∷ [];
      leaves =
          record {
            applied = 2;
            answer = 13;
            marks = replicate 16 0;
            budget = 16;
            recorded = 0;
            records = record { replaced = OldMark 2 1 0 } ∷ unused ∷ unused ∷ [];
          };
    }
    -- "stop at the first refused one. What the earlier ones did stands": 3→2 is no link
    ∷ record {
      budget = 16;
      commands = set_mark Banned 0 1 ∷ set_budget 15 ∷ set_mark Pinned 3 2 ∷ set_mark Pinned 2 1 ∷ set_mark Free 9 9 ∷ [];
      leaves =
          record {
            applied = 2;
            answer = 10;
            marks = 0 ∷ 2 ∷ 0 ∷ 0 ∷ 0 ∷ 0 ∷ 0 ∷ 0 ∷ 0 ∷ 0 ∷ 0 ∷ 0 ∷ 0 ∷ 0 ∷ 0 ∷ 0 ∷ [];
            budget = 15;
            recorded = 2;
            records = record { replaced = OldMark 0 1 0 } ∷ record { replaced = OldBudget 16 } ∷ unused ∷ [];
          };
    }
    -- to the end, a group among them (02, A5: "prepared lists take a group as one press")
    ∷ record {
      budget = 16;
      commands = set_mark Banned 1 2 ∷ set_marks Pinned 1 15 ∷ [];
      leaves =
          record {
            applied = 2;
            answer = 0;
            marks = 0 ∷ 0 ∷ 0 ∷ 0 ∷ 0 ∷ 0 ∷ 1 ∷ 1 ∷ 0 ∷ 0 ∷ 0 ∷ 0 ∷ 0 ∷ 0 ∷ 0 ∷ 0 ∷ [];
            budget = 16;
            recorded = 2;
            records = record { replaced = OldMark 1 2 0 } ∷ record { replaced = OldMarks 1 12 32 } ∷ unused ∷ [];
          };
    }
    -- the empty list
    ∷ record {
      budget = 16;
      commands = [];
      leaves = record { applied = 0; answer = 0; marks = replicate 16 0; budget = 16; recorded = 0; records = replicate 3 unused };
    }
    ∷ []

-- "On a damaged board even an empty list gives 15": a budget out of range
unfoldable pub damaged : ListCase
damaged =
    record {
      budget = 32505795;
      commands = [];
      leaves = record { applied = 0; answer = 15; marks = replicate 16 0; budget = 32505795; recorded = 0; records = replicate 3 unused };
    }

-- THE CLAIM
pub record Worked : Type 0 where
  pub on_board : map given (damaged ∷ lists) ≡ map (λ c. c.leaves) (damaged ∷ lists)
  pub in_log : map logged lists ≡ map (λ c. c.leaves.applied ∷ c.leaves.answer ∷ c.leaves.recorded ∷ []) lists

pub worked : Worked
unfolding
    start given logged lists damaged instance_q instance_from filled tabulate_from tabulate all_below any_below sum_below all_of from_digits weight mark can_be_arc is_arc
    cell_ok cell_valid header_valid valid_instance inside head_ok record_ok valid opened with_mark restored refused accepted decided arc_refusal mark_refusal
    marked heads_below names_arc names_any heads_of marks_of is_named put_marks with_marks marks_refusal several_marked budget_refusal budgeted undone applied
    answered records_after contents_after none_applied one_more list_applied list_answered new_log with_entries log_length unnoted noted note_arcs note_mark
    note_marks note_budget note_undo note none_noted one_more_noted note_list
worked = record { on_board = refl; in_log = refl }
