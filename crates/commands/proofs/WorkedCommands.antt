-- Which boards are valid, and what lists of commands answer and leave, on the board and in the log, on cards that came
-- with records too (02, A8): two lists, each with one claim about the whole list. The answers, by document 01's own
-- numbers, and what is left are written out here, so that board and log cannot be wrong alike. Computed. Assumes
-- nothing.
use mathlib.Core.Path.{◌≡◌, refl}
use mathlib.Core.List.{List, [], ◌∷◌, ◌++◌, map}
use Prim.Native.Nat.{ℕ, ◌*◌, ◌/◌, ◌%◌}
use lib.ListN.{replicate}
use Rattle.base.specs.Bounded.{all_below, any_below, sum_below}
use Rattle.base.specs.Lists.{tabulate_from, tabulate, all_of}
use Rattle.base.specs.Digits.{from_digits}
use Rattle.instance.specs.Limits.{banned}
use Rattle.instance.specs.Instance.{Instance, weight, mark, can_be_arc, is_arc}
use Rattle.instance.specs.Cuts.{inside}
use Rattle.instance.specs.declared.Mark.TheVariants.{Free, Pinned, Banned}
use Rattle.instance.specs.Valid.{cell_ok, cell_valid, header_valid, valid_instance}
use Rattle.instance.proofs.WorkedCases.{arc, filled, instance_from, instance_q}
use Rattle.commands.specs.Heads.{heads_below, names_arc, names_any, heads_of, marks_of, is_named, put_marks, with_marks}
use Rattle.commands.specs.Model.{Replaced, old_mark, old_marks, old_budget, Model, with_mark, restored}
use Rattle.commands.specs.Valid.{head_ok, record_ok, valid}
use Rattle.commands.specs.Commands.{Command, set_mark, set_marks, set_budget, undo, refused, accepted, decided, arc_refusal, mark_refusal, marked, marks_refusal, several_marked, budget_refusal, budgeted, undone, applied, answered, answers, board_after}
use Rattle.commands.specs.Log.{new_log, with_entries, log_length, unnoted, noted, noted_below, note_arcs, note_mark, note_marks, note_budget, note_undo, note, log_answers, log_after}
use Rattle.commands.specs.Effective.{effective_mark, effective_budget, effective}

abbrev pin : (tail head : ℕ) → Command
pin t h = set_mark Pinned t h

abbrev ban : (tail head : ℕ) → Command
ban t h = set_mark Banned t h

abbrev clear : (tail head : ℕ) → Command
clear t h = set_mark Free t h

abbrev pin_group : (tail heads : ℕ) → Command
pin_group t c = set_marks Pinned t c

abbrev ban_group : (tail heads : ℕ) → Command
ban_group t c = set_marks Banned t c

abbrev clear_group : (tail heads : ℕ) → Command
clear_group t c = set_marks Free t c

-- VALID BOARDS
-- a board, and what a pin of 99→99 answers: 9, or 15 first
pub record BoardCase : Type 0 where
  pub of : Model
  pub answer : ℕ

abbrev model : (root budget weight mark : ℕ) → List Replaced → Model
model r b w m rs = record { instance = instance_from 3 r b (arc 0 2 4 ∷ arc 2 0 w ∷ arc 0 1 2000000 ∷ []) (arc 2 0 m ∷ arc 1 1 7 ∷ []); history = rs }

abbrev with_history : List Replaced → Model
with_history rs = model 1 5 1048574 banned rs

abbrev good : Model → BoardCase
good b = record { of = b; answer = 9 }

abbrev bad : Model → BoardCase
bad b = record { of = b; answer = 15 }

-- n = 3, root 1, arcs 0→2 and 2→0; 1→2 is no arc, and the cells 0→1 and 1→1 can be none
unfoldable pub models : List BoardCase
models =
    good (with_history [])
    -- "a field outside the ranges above, a mark other than 0 on no link"
    ∷ bad (model 3 5 1048574 banned [])
    ∷ bad (model 1 32505795 1048574 banned [])
    ∷ bad (model 1 5 1048576 banned [])
    ∷ bad (model 1 5 1048574 3 [])
    ∷ bad (model 1 5 1048575 banned [])
    -- "more than 200 recorded"
    ∷ good (with_history (replicate 200 (old_budget 32505794)))
    ∷ bad (with_history (replicate 201 (old_budget 32505794)))
    -- "a record naming no link": no arc, into the root, from a vertex to itself, a vertex that is not below n
    ∷ good (with_history (old_mark 0 2 banned ∷ []))
    ∷ bad (with_history (old_mark 1 2 0 ∷ []))
    ∷ bad (with_history (old_mark 0 1 0 ∷ []))
    ∷ bad (with_history (old_mark 2 2 0 ∷ []))
    ∷ bad (with_history (old_mark 3 2 0 ∷ []))
    -- ".. or restoring a value out of range", in an earlier record too
    ∷ bad (with_history (old_mark 0 2 3 ∷ []))
    ∷ bad (with_history (old_budget 32505795 ∷ []))
    ∷ bad (with_history (old_budget 5 ∷ old_mark 0 2 3 ∷ []))
    -- several arcs (02, A5): {2} and {0} are arcs of 0 and 2; at a head that is not in the set nothing is looked at
    ∷ good (with_history (old_marks 0 4 (3 ∷ 3 ∷ banned ∷ 3 ∷ []) ∷ old_marks 2 1 (1 ∷ []) ∷ []))
    -- "a group record naming a non-link": no arc, the root, the tail itself, heads and a tail that are not below n
    ∷ bad (with_history (old_marks 1 4 [] ∷ []))
    ∷ bad (with_history (old_marks 0 6 [] ∷ []))
    ∷ bad (with_history (old_marks 0 5 [] ∷ []))
    ∷ bad (with_history (old_marks 0 12 [] ∷ []))
    ∷ bad (with_history (old_marks 0 2147483652 [] ∷ []))
    ∷ bad (with_history (old_marks 3 4 [] ∷ []))
    -- ".. or nothing", or restoring a mark out of range
    ∷ bad (with_history (old_marks 0 0 [] ∷ []))
    ∷ bad (with_history (old_marks 0 4 (0 ∷ 0 ∷ 3 ∷ []) ∷ []))
    ∷ []

-- THE CLAIM ABOUT BOARDS: "On a board, 15 comes first"
pub judged : map (λ j. (answered (pin 99 99) j.of).answer) models ≡ map (λ j. j.answer) models
unfolding
    models instance_from filled all_below any_below all_of weight can_be_arc is_arc cell_ok cell_valid header_valid valid_instance inside head_ok record_ok valid refused decided
    arc_refusal mark_refusal marked applied answered
judged = refl

-- COMMANDS
-- the answers, and the marks and the budget that are left
pub record Left : Type 0 where
  pub answers : List ℕ
  pub marks : List ℕ
  pub budget : ℕ

-- an instance with the records that came with it (02, A8)
pub record CommandCase : Type 0 where
  pub from : Instance
  pub records : List Replaced
  pub commands : List Command
  pub leaves : Left

-- n times n marks, tail by tail
unfoldable pub all_marks : Instance → List ℕ
all_marks s = tabulate (s.n * s.n) (λ i. mark s (i / s.n) (i % s.n))

unfoldable pub on_board : CommandCase → Left
on_board r =
    let a : Model = record { instance = r.from; history = r.records } in
    let b = board_after applied r.commands a in
    record { answers = answers applied r.commands a; marks = all_marks b.instance; budget = b.instance.budget }

unfoldable pub in_log : CommandCase → Left
in_log r =
    let k = new_log r.from r.records in
    let t = effective (log_after r.commands k) in
    record { answers = log_answers r.commands k; marks = all_marks t; budget = t.budget }

-- a card that came with records, the latest first: "In the book these records .. set nothing" and "restore what the
-- record says", the last one a ban of 3→1 that never was
abbrev remembered : List Command → Left → CommandCase
remembered cs l =
    record {
      from = instance_q 20 (arc 0 1 banned ∷ arc 1 2 1 ∷ arc 1 3 1 ∷ []);
      records = old_mark 0 1 1 ∷ old_marks 1 12 (0 ∷ 0 ∷ 2 ∷ 1 ∷ []) ∷ old_budget 14 ∷ old_mark 3 1 2 ∷ [];
      commands = cs;
      leaves = l;
    }

unfoldable pub runs : List CommandCase
runs =
    -- "Undoing a pin by setting the link free, where a ban stood before": one that a command set, and one that the card
    -- has
    record {
      from = instance_q 16 [];
      records = [];
      commands = ban 0 1 ∷ pin 0 1 ∷ undo ∷ [];
      leaves = record { answers = 0 ∷ 0 ∷ 0 ∷ []; marks = 0 ∷ 2 ∷ 0 ∷ 0 ∷ 0 ∷ 0 ∷ 0 ∷ 0 ∷ 0 ∷ 0 ∷ 0 ∷ 0 ∷ 0 ∷ 0 ∷ 0 ∷ 0 ∷ []; budget = 16 };
    }
    ∷ record {
      from = instance_q 16 (arc 0 1 banned ∷ []);
      records = [];
      commands = pin 0 1 ∷ pin 2 1 ∷ clear 0 1 ∷ undo ∷ undo ∷ undo ∷ undo ∷ [];
      leaves = record { answers = 0 ∷ 0 ∷ 0 ∷ 0 ∷ 0 ∷ 0 ∷ 13 ∷ []; marks = 0 ∷ 2 ∷ 0 ∷ 0 ∷ 0 ∷ 0 ∷ 0 ∷ 0 ∷ 0 ∷ 0 ∷ 0 ∷ 0 ∷ 0 ∷ 0 ∷ 0 ∷ 0 ∷ []; budget = 16 };
    }
    -- two budgets, and the second taken back
    ∷ record {
      from = instance_q 16 [];
      records = [];
      commands = set_budget 32505794 ∷ set_budget 15 ∷ undo ∷ [];
      leaves = record { answers = 0 ∷ 0 ∷ 0 ∷ []; marks = replicate 16 0; budget = 32505794 };
    }
    -- each refusal, then marks that stay; 196 more make 200, of which the last is taken back and its room used again
    ∷ record {
      from = instance_q 16 [];
      records = [];
      commands =
          undo ∷ pin 4 1 ∷ ban 1 4 ∷ clear 4 4 ∷ pin 3 2 ∷ ban 1 0 ∷ clear 2 2 ∷ set_budget 32505795 ∷ ban 0 1 ∷ pin 2 1 ∷ clear 0 1 ∷ ban 2 3
          ∷ (replicate 196 (pin 1 2) ++ (pin 1 2 ∷ clear 3 2 ∷ ban 4 1 ∷ set_budget 32505795 ∷ set_budget 3 ∷ undo ∷ set_budget 3 ∷ ban 0 1 ∷ []));
      leaves =
          record {
            answers =
                13 ∷ 9 ∷ 9 ∷ 9 ∷ 10 ∷ 10 ∷ 10 ∷ 11 ∷ 0 ∷ 0 ∷ 0 ∷ 0
                ∷ (replicate 196 0 ++ (12 ∷ 10 ∷ 9 ∷ 11 ∷ 12 ∷ 0 ∷ 0 ∷ 12 ∷ []));
            marks = 0 ∷ 0 ∷ 0 ∷ 0 ∷ 0 ∷ 0 ∷ 1 ∷ 0 ∷ 0 ∷ 1 ∷ 0 ∷ 2 ∷ 0 ∷ 0 ∷ 0 ∷ 0 ∷ [];
            budget = 3;
          };
    }
    -- 02, A5: the links of 1 are those to 2 and 3; the root, the tail itself and 3→2 are skipped; mixed marks come
    -- back as they were, the card's too
    ∷ record {
      from = instance_q 16 (arc 1 2 banned ∷ arc 3 1 1 ∷ []);
      records = [];
      commands = pin 1 3 ∷ clear_group 1 15 ∷ pin_group 0 14 ∷ ban_group 3 6 ∷ undo ∷ undo ∷ undo ∷ ban_group 2 2 ∷ [];
      leaves =
          record {
            answers = replicate 8 0;
            marks = 0 ∷ 0 ∷ 0 ∷ 0 ∷ 0 ∷ 0 ∷ 2 ∷ 1 ∷ 0 ∷ 2 ∷ 0 ∷ 0 ∷ 0 ∷ 1 ∷ 0 ∷ 0 ∷ [];
            budget = 16;
          };
    }
    ∷ record {
      from = instance_q 16 (arc 1 2 banned ∷ arc 3 1 1 ∷ []);
      records = [];
      commands = pin 1 3 ∷ clear_group 1 15 ∷ pin_group 0 14 ∷ ban_group 3 6 ∷ [];
      leaves =
          record {
            answers = replicate 4 0;
            marks = 0 ∷ 1 ∷ 1 ∷ 1 ∷ 0 ∷ 0 ∷ 0 ∷ 0 ∷ 0 ∷ 0 ∷ 0 ∷ 0 ∷ 0 ∷ 2 ∷ 0 ∷ 0 ∷ [];
            budget = 16;
          };
    }
    -- "9 for a feeder or a set bit not below the count, 10 if no member is a link": the tail, the bit of n, alone and
    -- beside links, bit 31; then nothing, the root, the tail itself, no link; 9 before 10, 10 before 12, one group is
    -- one of the 200
    ∷ record {
      from = instance_q 16 [];
      records = [];
      commands =
          ban_group 4 2 ∷ pin_group 1 16 ∷ ban_group 1 28 ∷ clear_group 1 2147483660 ∷ clear_group 4 0 ∷ pin_group 1 0 ∷ ban_group 1 1 ∷ clear_group 1 2
          ∷ ban_group 3 4 ∷ pin_group 1 12
          ∷ (replicate 198 (set_budget 3) ++ (ban_group 2 10 ∷ clear_group 1 12 ∷ pin_group 3 4 ∷ pin_group 1 16 ∷ undo ∷ undo ∷ clear_group 2 10 ∷ []));
      leaves =
          record {
            answers = 9 ∷ 9 ∷ 9 ∷ 9 ∷ 9 ∷ 10 ∷ 10 ∷ 10 ∷ 10 ∷ 0 ∷ (replicate 198 0 ++ (0 ∷ 12 ∷ 10 ∷ 9 ∷ 0 ∷ 0 ∷ 0 ∷ []));
            marks = 0 ∷ 0 ∷ 0 ∷ 0 ∷ 0 ∷ 0 ∷ 1 ∷ 1 ∷ 0 ∷ 0 ∷ 0 ∷ 0 ∷ 0 ∷ 0 ∷ 0 ∷ 0 ∷ [];
            budget = 3;
          };
    }
    -- 02, A8: first no undo; then undo of a command and of the two latest records, with marks and a budget set over
    -- what these restored
    ∷ remembered (pin 2 1 ∷ [])
    (record {
      answers = 0 ∷ [];
      marks = 0 ∷ 2 ∷ 0 ∷ 0 ∷ 0 ∷ 0 ∷ 1 ∷ 1 ∷ 0 ∷ 1 ∷ 0 ∷ 0 ∷ 0 ∷ 0 ∷ 0 ∷ 0 ∷ [];
      budget = 20;
    })
    ∷ remembered (pin 2 1 ∷ undo ∷ undo ∷ undo ∷ ban 1 3 ∷ set_budget 9 ∷ [])
    (record {
      answers = replicate 6 0;
      marks = 0 ∷ 1 ∷ 0 ∷ 0 ∷ 0 ∷ 0 ∷ 2 ∷ 2 ∷ 0 ∷ 0 ∷ 0 ∷ 0 ∷ 0 ∷ 0 ∷ 0 ∷ 0 ∷ [];
      budget = 9;
    })
    -- undo between commands down to 13: what was set over a restored mark leaves that mark again
    ∷ remembered
    (pin 0 1 ∷ set_budget 30 ∷ undo ∷ undo ∷ undo ∷ clear 0 1 ∷ ban_group 1 4 ∷ undo ∷ undo ∷ undo ∷ set_budget 3 ∷ undo ∷ undo ∷ undo ∷ undo ∷ ban 2 3 ∷ [])
    (record {
      answers = replicate 14 0 ++ (13 ∷ 0 ∷ []);
      marks = 0 ∷ 1 ∷ 0 ∷ 0 ∷ 0 ∷ 0 ∷ 2 ∷ 1 ∷ 0 ∷ 0 ∷ 0 ∷ 2 ∷ 0 ∷ 2 ∷ 0 ∷ 0 ∷ [];
      budget = 14;
    })
    -- a record of 1→2 and 1→3, of which by now one is pinned and the other free: both get what the record says
    ∷ record {
      from = instance_q 16 (arc 1 2 1 ∷ []);
      records = old_marks 1 12 (0 ∷ 0 ∷ 2 ∷ 1 ∷ []) ∷ [];
      commands = undo ∷ undo ∷ [];
      leaves = record { answers = 0 ∷ 13 ∷ []; marks = 0 ∷ 0 ∷ 0 ∷ 0 ∷ 0 ∷ 0 ∷ 2 ∷ 1 ∷ 0 ∷ 0 ∷ 0 ∷ 0 ∷ 0 ∷ 0 ∷ 0 ∷ 0 ∷ []; budget = 16 };
    }
    -- "they count among the 200"
    ∷ record {
      from = instance_q 16 [];
      records = old_budget 7 ∷ replicate 199 (old_mark 2 1 2);
      commands = pin 2 1 ∷ set_budget 9 ∷ pin_group 1 12 ∷ undo ∷ pin_group 1 12 ∷ clear 0 1 ∷ undo ∷ undo ∷ [];
      leaves =
          record {
            answers = 12 ∷ 12 ∷ 12 ∷ 0 ∷ 0 ∷ 12 ∷ 0 ∷ 0 ∷ [];
            marks = 0 ∷ 0 ∷ 0 ∷ 0 ∷ 0 ∷ 0 ∷ 0 ∷ 0 ∷ 0 ∷ 2 ∷ 0 ∷ 0 ∷ 0 ∷ 0 ∷ 0 ∷ 0 ∷ [];
            budget = 7;
          };
    }
    ∷ []

-- THE CLAIM ABOUT COMMANDS
pub run : map (λ r. on_board r ∷ in_log r ∷ []) runs ≡ map (λ r. r.leaves ∷ r.leaves ∷ []) runs
unfolding
    runs on_board in_log all_marks instance_q instance_from filled tabulate_from tabulate weight mark can_be_arc is_arc with_mark
    restored refused accepted decided arc_refusal mark_refusal marked any_below sum_below from_digits inside heads_below names_arc names_any heads_of marks_of
    is_named put_marks with_marks marks_refusal several_marked budget_refusal budgeted undone applied answers board_after new_log with_entries
    log_length unnoted noted noted_below note_arcs note_mark note_marks note_budget note_undo note effective_mark effective_budget effective log_answers log_after
run = refl
