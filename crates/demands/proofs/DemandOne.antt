-- DEMAND 1, stated once: whatever a public call was handed, its answer is 0 or one of document 01's refusals for that
-- call ("None is returned under any other condition."); after a refusal the board and all lent buffers are as they
-- were; what is accepted leaves a valid board. Of a list of presses the board is the one that the presses before the
-- refused one leave. Of `report`, which is there to print, 14 leaves the buffer as it was, and a refused card gets its
-- line. (That every call ends, and that nothing is required of the caller, is what each function's own proof says.)
-- Assumes nothing.
use mathlib.Core.Path.{◌≡◌, refl, sym, ap, ◌∙◌}
use mathlib.Core.Bool.{true}
use mathlib.Core.List.{List, [], ◌∷◌}
use Prim.Native.Nat.{ℕ}
use lib.Dec.{ltb, eqb}
use lib.ListN.{length}
use Rattle.base.specs.Lists.{any_of}
use Rattle.base.proofs.BoolLaws.{or_right}
use Rattle.instance.specs.Instance.{is_arc}
use Rattle.instance.specs.Refusals.{buffer_short}
use Rattle.card_format.specs.Card.{card_refusal, instance_in, card_of}
use Rattle.card.specs.Write.{Written}
use Rattle.commands.specs.Model.{opened}
use Rattle.commands.specs.Valid.{valid}
use Rattle.commands.specs.Commands.{Command, command_numbers}
use Rattle.board.specs.ModelOf.{model_of, instance_of}
use Rattle.board.specs.Create.{blank}
use Rattle.board.specs.declared.Board.{Board}
use Rattle.board.specs.declared.Answered.{Answered}
use Rattle.board.proofs.CallLaws.{call_answer, call_valid}
use Rattle.board.proofs.RunLaws.{Called, called_answers}
use Rattle.commands.proofs.AnsweredLaws.{accepted_valid}
use Rattle.commands.proofs.NumberLaws.{answered_listed}
use Rattle.command_list.specs.declared.Press.{Press}
use Rattle.command_list.specs.CommandList.{ListAnswered}
use Rattle.board.specs.Contents.{contents_of}
use Rattle.command_list.specs.CommandList.{ListResult, list_answered, list_numbers, commands_in, list_result_of}
use Rattle.command_list.proofs.AppliedLaws.{Singly, list_valid, list_accepted}
use Rattle.command_list.proofs.ListNumberLaws.{list_listed}
use Rattle.command_list.proofs.ListCalled.{ListCalled, list_called}
use Rattle.history_format.specs.HistoryCard.{open_refusal, history_model, to_plain_refusal, history_card_of}
use Rattle.history_format.proofs.HistoryNumbers.{history_numbers, to_plain_numbers, to_plain_listed}
use Rattle.price_format.specs.Reading.{read_list, room_refusal, read_numbers}
use Rattle.price_format.specs.Writing.{write_refusal, write_numbers}
use Rattle.price_list.specs.Reads.{PricesRead}
use Rattle.price_list.specs.Writes.{ListWritten}
use Rattle.price_list.proofs.Learnt.{PricesAreRead, prices_read, PricesWritten, prices_written}
use Rattle.price_row.specs.Row.{row_refusal, row_numbers}
use Rattle.price_row.proofs.RowLaws.{row_listed, uses_empty}
use Rattle.price_row.proofs.Learnt.{HandedBack, handed_back}
use Rattle.spanning.specs.Graph.{graph_of}
use Rattle.spanning.specs.Refusal.{call_refusal, call_numbers}
use Rattle.runs.specs.Planning.{RunsView, view_number}
use Rattle.runs.proofs.Learnt.{RunsPlanned, runs_planned}
use Rattle.report_text.specs.Whole.{max_text}
use Rattle.report.specs.declared.Reported.{Reported}
use Rattle.report.specs.Reports.{Reports}
use Rattle.report.proofs.Learnt.{ReportedBy, reported_by}
use Rattle.planner.specs.declared.View.{View}
use Rattle.planner.specs.Looking.{Buffers, answer_of, short_for, Looks}
use Rattle.planner.specs.declared.Reason.{Reason}
use Rattle.planner.specs.Enumerating.{Listing, list_answer}
use Rattle.planner.specs.Explaining.{reason_answer, TreeBuffers, explain_refusal, explain_numbers, Explains, PlansWithout}
use Rattle.planner.specs.Replaying.{Replays}
use Rattle.planner.proofs.Learnt.{OpenedBy, opened_by, Looked, looked, Wrote, wrote, WroteHistory, wrote_history, MovedToHistory, moved_to_history, MovedToPlain, moved_to_plain, Checked, checked, Explained, explained, PlannedWithout, planned_without, Enumerated, enumerated, Replayed, replayed}
use Rattle.planner.proofs.ExplainingLaws.{explainable, explain_listed, explains_answer, explains_before, plan_without_answer, plan_without_before}
use Rattle.planner.proofs.WritingLaws.{board_refusal, write_cases, history_write_cases}
use Rattle.planner.proofs.MovingLaws.{to_history_cases, to_plain_cases}
use Rattle.planner.proofs.OpeningLaws.{opened_answer, opened_starts}
use Rattle.demands.proofs.CallNumbers.{card_numbers, open_numbers, buffer_numbers, check_numbers, enumerate_numbers, among, ReportsBefore, card_among, open_among, zero_among, opened_as_before, looks_at_among, looks_at_as_before, looks_at_valid, stores_among, stores_as_before, stores_passed, board_passed, board_among, check_among, check_valid, enumerate_among, enumerate_before, enumerate_valid, reports_among, reports_before, reports_opened, replays_among, replays_as_before, replays_opened}
use Rattle.demands.proofs.PriceNumbers.{read_among, read_before, read_passed, write_among, write_before, write_passed}
use Rattle.demands.proofs.PassiveNumbers.{runs_among, runs_before, runs_passed}
use Rattle.demands.proofs.Runs.{list_called_singly}

-- AN ANSWER that some public call gave
pub data Given : ℕ → Type 0 where
  by_opening : {ws : List ℕ} {o : Answered} → OpenedBy ws o → Given o.answer
  by_command : {c : Command} {b : Board} {r : Answered} → Called c b r → Given r.answer
  by_list : {ps ps' : List Press} {b : Board} {r : ListAnswered} → ListCalled ps ps' b r → Given r.answer
  by_looking : {b : Board} {v : View} {old new : Buffers} → Looked b old new v → Given (answer_of v)
  by_writing : {b : Board} {r : Written} {out out' : List ℕ} → Wrote b out out' r → Given r.answer
  by_writing_history : {b : Board} {r : Written} {out out' : List ℕ} → WroteHistory b out out' r → Given r.answer
  by_to_history : {ws out out' : List ℕ} {r : Written} → MovedToHistory ws out out' r → Given r.answer
  by_to_plain : {ws out out' : List ℕ} {r : Written} → MovedToPlain ws out out' r → Given r.answer
  by_checking : {b : Board} {ps ps' : List ℕ} {v k : ℕ} {ws ws' : List ℕ} {r : ℕ} → Checked b ps ps' v k ws ws' r → Given r
  by_enumerating : {b : Board} {limit : ℕ} {out out' : List ℕ} {r : Listing} → Enumerated b limit out out' r → Given (list_answer r)
  by_explaining : {b : Board} {t h : ℕ} {old new : TreeBuffers} {r : Reason} → Explained b t h old new r → Given (reason_answer r)
  by_planning_without : {b : Board} {t h : ℕ} {old new : TreeBuffers} {v : View} → PlannedWithout b t h old new v → Given (answer_of v)
  by_reading_prices : {t : List ℕ} {n root : ℕ} {ps ps' : List ℕ} {r : PricesRead} → PricesAreRead t n root ps ps' r → Given r.answer
  by_writing_prices : {ps : List ℕ} {n root : ℕ} {out out' : List ℕ} {r : ListWritten} → PricesWritten ps n root out out' r → Given r.answer
  by_planning_runs : {ps ms : List ℕ} {n budget : ℕ} {ss ss' cs cs' : List ℕ} {r : RunsView} → RunsPlanned ps ms n budget ss ss' cs cs' r → Given (view_number r)
  by_handing_back : {a b : List ℕ} {p q : ℕ × ℕ} {n tail k : ℕ} {row : List ℕ} {at : ℕ × ℕ} → HandedBack a b p q n tail k row at → Given k
  by_reporting : {ws : List ℕ} {r : Reported} {out out' : List ℕ} → ReportedBy ws out out' r → Given r.answer
  by_replaying : {ws ks fs gs : List ℕ} {v : View} {xs xs' : List ℕ} {old new : Buffers} → Replayed ws ks fs gs xs xs' old new v → Given (answer_of v)

-- the numbers of each call
abbrev pub numbers : {a : ℕ} → Given a → List ℕ
numbers (by_opening {ws = ws} p) = open_numbers ws
numbers (by_command {c = c} p) = command_numbers c
numbers (by_list {ps = ps} p) = list_numbers (commands_in ps)
numbers (by_looking p) = buffer_numbers
numbers (by_writing p) = buffer_numbers
numbers (by_writing_history p) = buffer_numbers
numbers (by_to_history p) = buffer_short ∷ card_numbers
numbers (by_to_plain p) = buffer_short ∷ to_plain_numbers
numbers (by_checking p) = check_numbers
numbers (by_enumerating p) = enumerate_numbers
numbers (by_explaining p) = explain_numbers
numbers (by_planning_without p) = explain_numbers
numbers (by_reading_prices p) = read_numbers
numbers (by_writing_prices p) = write_numbers
numbers (by_planning_runs p) = call_numbers
numbers (by_handing_back p) = row_numbers
numbers (by_reporting {ws = ws} p) = buffer_short ∷ open_numbers ws
numbers (by_replaying {ws = ws} p) = buffer_short ∷ open_numbers ws

-- a list that was stopped: the applied ones, made singly, are all accepted and leave its board, which is valid if the
-- first was; "What the earlier ones did stands; the rule on refusals speaks of the refused press alone" (02, A1)
pub record ListBefore (ps ps' : List Press) (b : Board) (r : ListAnswered) : Type 0 where
  pub list_kept : ps' ≡ ps
  pub singly : Singly (commands_in ps) (contents_of b) (list_result_of r)
  pub still_valid : valid (model_of b) ≡ true → valid (model_of r.board) ≡ true

-- what a refusal leaves as it was; a card that is refused gives the blank board. Of two lists of prices, which are lent
-- to be read, a refusal "hands back the empty part at the start of the shipped list" (02, A12), beside its number, for
-- which a word is lent.
abbrev pub AsBefore : {a : ℕ} → Given a → Type 0
AsBefore (by_opening {o = o} p) = o.board ≡ blank
AsBefore (by_command {b = b} {r = r} p) = r.board ≡ b
AsBefore (by_list {ps = ps} {ps' = ps'} {b = b} {r = r} p) = ListBefore ps ps' b r
AsBefore (by_looking {old = old} {new = new} p) = new ≡ old
AsBefore (by_writing {out = out} {out' = out'} p) = out' ≡ out
AsBefore (by_writing_history {out = out} {out' = out'} p) = out' ≡ out
AsBefore (by_to_history {out = out} {out' = out'} p) = out' ≡ out
AsBefore (by_to_plain {out = out} {out' = out'} p) = out' ≡ out
AsBefore (by_checking {ps = ps} {ps' = ps'} {ws = ws} {ws' = ws'} p) = (ps' ≡ ps) × (ws' ≡ ws)
AsBefore (by_enumerating {out = out} {out' = out'} p) = out' ≡ out
AsBefore (by_explaining {old = old} {new = new} p) = new ≡ old
AsBefore (by_planning_without {old = old} {new = new} p) = new ≡ old
AsBefore (by_reading_prices {ps = ps} {ps' = ps'} p) = ps' ≡ ps
AsBefore (by_writing_prices {out = out} {out' = out'} p) = out' ≡ out
AsBefore (by_planning_runs {ss = ss} {ss' = ss'} {cs = cs} {cs' = cs'} p) = (ss' ≡ ss) × (cs' ≡ cs)
AsBefore (by_handing_back {q = q} {row = row} {at = at} p) = (row ≡ []) × (at ≡ q)
AsBefore (by_reporting {r = r} {out = out} {out' = out'} p) = ReportsBefore out out' r
AsBefore (by_replaying {xs = xs} {xs' = xs'} {old = old} {new = new} p) = (xs' ≡ xs) × (new ≡ old)

-- what an accepted call leaves or was asked of: a valid board, and an arc of it where one is asked about, a card that
-- is not refused, a list without a fault and room for its prices, prices that can be written and room for them, a graph
-- without a fault and room for its states and replacement costs, or two lists of prices of which the row used has no
-- fault
abbrev pub LeavesValid : {a : ℕ} → Given a → Type 0
LeavesValid (by_opening {o = o} p) = valid (model_of o.board) ≡ true
LeavesValid (by_command {r = r} p) = valid (model_of r.board) ≡ true
LeavesValid (by_list {r = r} p) = valid (model_of r.board) ≡ true
LeavesValid (by_looking {b = b} p) = valid (model_of b) ≡ true
LeavesValid (by_writing {b = b} p) = valid (model_of b) ≡ true
LeavesValid (by_writing_history {b = b} p) = valid (model_of b) ≡ true
LeavesValid (by_to_history {ws = ws} p) = card_refusal ws ≡ 0
LeavesValid (by_to_plain {ws = ws} p) = to_plain_refusal ws ≡ 0
LeavesValid (by_checking {b = b} p) = valid (model_of b) ≡ true
LeavesValid (by_enumerating {b = b} p) = valid (model_of b) ≡ true
LeavesValid (by_explaining {b = b} {t = t} {h = h} p) = (valid (model_of b) ≡ true) × (is_arc (instance_of b) t h ≡ true)
LeavesValid (by_planning_without {b = b} {t = t} {h = h} p) = (valid (model_of b) ≡ true) × (is_arc (instance_of b) t h ≡ true)
LeavesValid (by_reading_prices {t = t} {n = n} {root = root} {ps = ps} p) = (room_refusal n root (length ps) ≡ 0) × ((read_list n root t).answer ≡ 0)
LeavesValid (by_writing_prices {ps = ps} {n = n} {root = root} {out = out} p) = write_refusal n root ps (length out) ≡ 0
LeavesValid (by_planning_runs {ps = ps} {ms = ms} {n = n} {ss = ss} {cs = cs} p) = call_refusal (graph_of n ps ms) (length ss) (length cs) ≡ 0
LeavesValid (by_handing_back {a = a} {b = b} {n = n} {tail = tail} p) = row_refusal n tail a b ≡ 0
LeavesValid (by_reporting {ws = ws} p) = open_refusal ws ≡ 0
LeavesValid (by_replaying {ws = ws} p) = open_refusal ws ≡ 0

pub record Demand-1 {a : ℕ} (g : Given a) : Type 0 where
  pub own_number : among a (numbers g) ≡ true
  pub as_before : (a ≡ 0 → ⊥) → AsBefore g
  pub leaves_valid : a ≡ 0 → LeavesValid g

-- THE DEMAND
pub demand_1 : {a : ℕ} (g : Given a) → Demand-1 g
unfolding Looks Explains PlansWithout Reports Replays any_of to_plain_numbers history_numbers
demand_1 (by_opening {ws = ws} {o = o} p) =
    let e = opened_answer ws o (opened_by p) in
    record {
      own_number = rw e (open_among ws);
      as_before = opened_as_before ws o (opened_by p);
      leaves_valid = λ z. (opened_starts ws o (opened_by p) (sym e ∙ z)).good;
    }
demand_1 (by_command {c = c} {b = b} {r = r} p) =
    let a = called_answers p in
    let e = call_answer c b r a in
    record {
      own_number = rw e (answered_listed c (model_of b));
      as_before = a.unchanged;
      leaves_valid = λ z. call_valid c b r a (accepted_valid c (model_of b) (sym e ∙ z));
    }
demand_1 (by_list {ps = ps} {b = b} {r = r} p) =
    let cs = commands_in ps in
    let w = contents_of b in
    let e : list_result_of r ≡ list_answered cs w = (list_called p).result in
    let a : r.answer ≡ (list_answered cs w).answer = ap (λ (d : ListResult). d.answer) e in
    let g : valid (model_of b) ≡ true → valid (model_of r.board) ≡ true = λ v. ap (λ (d : ListResult). valid d.board.model) e ∙ list_valid cs w v in
    record {
      own_number = rw a (list_listed cs w);
      as_before = λ _. record { list_kept = (list_called p).list_kept; singly = list_called_singly p; still_valid = g };
      leaves_valid = λ z. g (list_accepted cs w (sym a ∙ z));
    }
demand_1 (by_looking {b = b} {v = v} {old = old} {new = new} p) =
    let g = valid (model_of b) in
    let t = short_for b.n old in
    let l = looked p in
    record {
      own_number = looks_at_among (instance_of b) v old new g t l;
      as_before = looks_at_as_before (instance_of b) v old new g t l;
      leaves_valid = looks_at_valid (instance_of b) v old new g t l;
    }
demand_1 (by_writing {b = b} {r = r} {out = out} {out' = out'} p) =
    let k = board_refusal b in
    let card = card_of (instance_of b) in
    let w = write_cases b r out out' (wrote p) in
    record {
      own_number = stores_among k card out out' r buffer_numbers (board_among b) refl refl w;
      as_before = stores_as_before k card out out' r w;
      leaves_valid = λ z. board_passed b (stores_passed k card out out' r w z);
    }
demand_1 (by_writing_history {b = b} {r = r} {out = out} {out' = out'} p) =
    let k = board_refusal b in
    let card = history_card_of (model_of b) in
    let w = history_write_cases b r out out' (wrote_history p) in
    record {
      own_number = stores_among k card out out' r buffer_numbers (board_among b) refl refl w;
      as_before = stores_as_before k card out out' r w;
      leaves_valid = λ z. board_passed b (stores_passed k card out out' r w z);
    }
demand_1 (by_to_history {ws = ws} {out = out} {out' = out'} {r = r} p) =
    let k = card_refusal ws in
    let card = history_card_of (opened (instance_in ws)) in
    let w = to_history_cases ws out out' r (moved_to_history p) in
    record {
      own_number = stores_among k card out out' r (buffer_short ∷ card_numbers) (or_right (eqb k buffer_short) (among k card_numbers) (card_among ws)) refl refl w;
      as_before = stores_as_before k card out out' r w;
      leaves_valid = stores_passed k card out out' r w;
    }
demand_1 (by_to_plain {ws = ws} {out = out} {out' = out'} {r = r} p) =
    let k = to_plain_refusal ws in
    let card = card_of (history_model ws).instance in
    let w = to_plain_cases ws out out' r (moved_to_plain p) in
    record {
      own_number = stores_among k card out out' r (buffer_short ∷ to_plain_numbers) (or_right (eqb k buffer_short) (among k to_plain_numbers) (to_plain_listed ws)) refl refl w;
      as_before = stores_as_before k card out out' r w;
      leaves_valid = stores_passed k card out out' r w;
    }
demand_1 (by_checking {b = b} {ps = ps} {v = v} {k = k} {ws = ws} p) =
    let c = checked p in
    record {
      own_number = rw c.result (check_among b ps v k ws);
      as_before = λ _. (c.parents_kept, c.words_kept);
      leaves_valid = λ z. check_valid b ps v k ws (sym c.result ∙ z);
    }
demand_1 (by_enumerating {b = b} {limit = limit} {out = out} {out' = out'} {r = r} p) =
    let x = enumerated p in
    record {
      own_number = enumerate_among b limit out out' r x;
      as_before = enumerate_before b limit out out' r x;
      leaves_valid = enumerate_valid b limit out out' r x;
    }
demand_1 (by_explaining {b = b} {t = t} {h = h} {old = old} {new = new} {r = r} p) =
    let m = model_of b in
    let a = explain_refusal m t h (length old.parents) (length old.cuts) in
    let x = explained p in
    let e = explains_answer a m.instance _ t h old new r x in
    record {
      own_number = rw e (explain_listed (valid m) m.instance t h (length old.parents) (length old.cuts));
      as_before = λ n. explains_before a m.instance _ t h old new r x (λ z. n (e ∙ z));
      leaves_valid = λ z. let y = explainable m t h _ _ (sym e ∙ z) in (y.is_valid, y.arc);
    }
demand_1 (by_planning_without {b = b} {t = t} {h = h} {old = old} {new = new} {v = v} p) =
    let m = model_of b in
    let a = explain_refusal m t h (length old.parents) (length old.cuts) in
    let x = planned_without p in
    let e = plan_without_answer a m.instance t h old new v x in
    record {
      own_number = rw e (explain_listed (valid m) m.instance t h (length old.parents) (length old.cuts));
      as_before = λ n. plan_without_before a m.instance t h old new v x (λ z. n (e ∙ z));
      leaves_valid = λ z. let y = explainable m t h _ _ (sym e ∙ z) in (y.is_valid, y.arc);
    }
demand_1 (by_reading_prices {t = t} {n = n} {root = root} {ps = ps} {ps' = ps'} {r = r} p) =
    let x = prices_read p in
    record {
      own_number = read_among t n root ps ps' r x;
      as_before = read_before t n root ps ps' r x;
      leaves_valid = read_passed t n root ps ps' r x;
    }
demand_1 (by_writing_prices {ps = ps} {n = n} {root = root} {out = out} {out' = out'} {r = r} p) =
    let x = prices_written p in
    record {
      own_number = write_among ps n root out out' r x;
      as_before = write_before ps n root out out' r x;
      leaves_valid = write_passed ps n root out out' r x;
    }
demand_1 (by_planning_runs {ps = ps} {ms = ms} {n = n} {budget = budget} {ss = ss} {ss' = ss'} {cs = cs} {cs' = cs'} {r = r} p) =
    let g = graph_of n ps ms in
    let x = runs_planned p in
    record {
      own_number = runs_among g budget ss ss' cs cs' r x;
      as_before = runs_before g budget ss ss' cs cs' r x;
      leaves_valid = runs_passed g budget ss ss' cs cs' r x;
    }
demand_1 (by_handing_back {a = a} {b = b} {p = p} {q = q} {n = n} {tail = tail} u) =
    let x = handed_back u in
    record {
      own_number = rw x.number (row_listed n tail a b);
      as_before = uses_empty n tail a b p q x;
      leaves_valid = λ z. sym x.number ∙ z;
    }
demand_1 (by_reporting {ws = ws} {r = r} {out = out} {out' = out'} p) =
    let x = reported_by p in
    let t = ltb (length out) max_text in
    let u = eqb (open_refusal ws) 0 in
    record {
      own_number = reports_among ws r out out' t u x;
      as_before = reports_before ws r out out' t u x;
      leaves_valid = reports_opened ws r out out' t u refl x;
    }
demand_1 (by_replaying {ws = ws} {v = v} {xs = xs} {xs' = xs'} {old = old} {new = new} p) =
    let r = replayed p in
    record {
      own_number = replays_among _ _ v xs xs' old new (open_numbers ws) (open_refusal ws) _ (open_among ws) (zero_among ws) r;
      as_before = replays_as_before _ _ v xs xs' old new (open_refusal ws) _ r;
      leaves_valid = replays_opened _ _ v xs xs' old new (open_refusal ws) _ r;
    }
