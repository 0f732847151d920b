-- What a caller learns of the public calls that are functions of this crate, from the functions' own contracts
-- (`Learnt`): so the theorems that cite it are about these functions and no others. The commands' part is `Called` of
-- crate board. Assumes nothing.
use mathlib.Core.Path.{◌≡◌}
use mathlib.Core.List.{List}
use Prim.Native.Nat.{ℕ}
use contract.Lifetimes.{Lfts}
use borrow.Fn.Kinds.{Dens, ended_of}
use denote.Triple.Clauses.{AtExit}
use Rattle.std.specs.Prelude.{Result}
use Rattle.instance.specs.RefusalNumbers.{answer_of}
use Rattle.instance.specs.declared.refusals.Refusal.{Refusal}
use Rattle.card.specs.Write.{Written, written_of}
use Rattle.board.specs.declared.Board.{Board}
use Rattle.board.specs.Create.{opening_of}
use Rattle.board.specs.declared.Answered.{Answered}
use Rattle.planner.specs.declared.Listing as listing
use Rattle.planner.specs.declared.View.{View}
use Rattle.planner.specs.declared.Reason.{Reason}
use Rattle.planner.specs.Opening.{opened_from}
use Rattle.planner.specs.Writing.{Writes, WritesHistory}
use Rattle.planner.specs.Moving.{MovesToHistory, MovesToPlain}
use Rattle.planner.specs.Looking.{Buffers, buffers, Looks}
use Rattle.planner.specs.Checking.{Checks}
use Rattle.planner.specs.Enumerating.{Listing, listing_from, Lists}
use Rattle.planner.specs.Explaining.{TreeBuffers, tree_buffers, Explains, PlansWithout}
use Rattle.planner.specs.Replaying.{Replays}
use Rattle.planner.proofs.opening.open_card.Reads as open-reads
use Rattle.planner.proofs.opening.open_card.Kinds as open-kinds
use Rattle.planner.proofs.looking.look.Reads as look-reads
use Rattle.planner.proofs.looking.look.Kinds as look-kinds
use Rattle.planner.proofs.writing.write_card.Reads as write-reads
use Rattle.planner.proofs.writing.write_card.Kinds as write-kinds
use Rattle.planner.proofs.writing.write_history_card.Reads as write-history-reads
use Rattle.planner.proofs.writing.write_history_card.Kinds as write-history-kinds
use Rattle.planner.proofs.moving.to_history_card.Reads as to-history-reads
use Rattle.planner.proofs.moving.to_history_card.Kinds as to-history-kinds
use Rattle.planner.proofs.moving.to_plain_card.Reads as to-plain-reads
use Rattle.planner.proofs.moving.to_plain_card.Kinds as to-plain-kinds
use Rattle.planner.proofs.checking.check_plan.Reads as check-reads
use Rattle.planner.proofs.checking.check_plan.Kinds as check-kinds
use Rattle.planner.proofs.enumerating.list_plans.Reads as list-plans-reads
use Rattle.planner.proofs.enumerating.list_plans.Kinds as list-plans-kinds
use Rattle.planner.proofs.explaining.why.Reads as why-reads
use Rattle.planner.proofs.explaining.why.Kinds as why-kinds
use Rattle.planner.proofs.explaining.plan_without.Reads as plan-without-reads
use Rattle.planner.proofs.explaining.plan_without.Kinds as plan-without-kinds
use Rattle.planner.proofs.replaying.replay.Reads as replay-reads
use Rattle.planner.proofs.replaying.replay.Kinds as replay-kinds

pub data OpenedBy : (card : List ℕ) → Answered → Type 0 where
  by_open :
      (κs : Lfts 1) (a : Dens κs open-kinds.ps) (o : Result Board Refusal) (e : AtExit (ended_of 1 open-kinds.ps open-kinds.r) κs) → open-reads.Learnt κs a o e →
      OpenedBy a.0.now (opening_of o)

pub data Looked : Board → (old new : Buffers) → View → Type 0 where
  by_look :
      (κs : Lfts 4) (a : Dens κs look-kinds.ps) (v : View) (e : AtExit (ended_of 4 look-kinds.ps look-kinds.r) κs) → look-reads.Learnt κs a v e →
      Looked a.0.now (buffers a.1.0.now a.1.1.0.now a.1.1.1.0.now) (buffers e.1.0.now e.1.1.0.now e.1.1.1.0.now) v

pub data Wrote : Board → (out out' : List ℕ) → Written → Type 0 where
  by_write :
      (κs : Lfts 1) (a : Dens κs write-kinds.ps) (r : Result ℕ Refusal) (e : AtExit (ended_of 1 write-kinds.ps write-kinds.r) κs) → write-reads.Learnt κs a r e →
      Wrote a.0 a.1.0.now e.1.0.now (written_of r)

pub data WroteHistory : Board → (out out' : List ℕ) → Written → Type 0 where
  by_write_history :
      (κs : Lfts 1) (a : Dens κs write-history-kinds.ps) (r : Result ℕ Refusal) (e : AtExit (ended_of 1 write-history-kinds.ps write-history-kinds.r) κs) →
      write-history-reads.Learnt κs a r e → WroteHistory a.0 a.1.0.now e.1.0.now (written_of r)

pub data MovedToHistory : (card out out' : List ℕ) → Written → Type 0 where
  by_to_history :
      (κs : Lfts 2) (a : Dens κs to-history-kinds.ps) (r : Result ℕ Refusal) (e : AtExit (ended_of 2 to-history-kinds.ps to-history-kinds.r) κs) →
      to-history-reads.Learnt κs a r e → MovedToHistory a.0.now a.1.0.now e.1.0.now (written_of r)

pub data MovedToPlain : (card out out' : List ℕ) → Written → Type 0 where
  by_to_plain :
      (κs : Lfts 2) (a : Dens κs to-plain-kinds.ps) (r : Result ℕ Refusal) (e : AtExit (ended_of 2 to-plain-kinds.ps to-plain-kinds.r) κs) →
      to-plain-reads.Learnt κs a r e → MovedToPlain a.0.now a.1.0.now e.1.0.now (written_of r)

pub opened_by : {ws : List ℕ} {o : Answered} → OpenedBy ws o → o ≡ opened_from ws
opened_by (by_open κs a o e l) = l

pub looked : {b : Board} {v : View} {old new : Buffers} → Looked b old new v → Looks b old new v
looked (by_look κs a v e l) = l

pub wrote : {b : Board} {r : Written} {out out' : List ℕ} → Wrote b out out' r → Writes b out out' r
wrote (by_write κs a r e l) = l

pub wrote_history : {b : Board} {r : Written} {out out' : List ℕ} → WroteHistory b out out' r → WritesHistory b out out' r
wrote_history (by_write_history κs a r e l) = l

pub moved_to_history : {ws out out' : List ℕ} {r : Written} → MovedToHistory ws out out' r → MovesToHistory ws out out' r
moved_to_history (by_to_history κs a r e l) = l

pub moved_to_plain : {ws out out' : List ℕ} {r : Written} → MovedToPlain ws out out' r → MovesToPlain ws out out' r
moved_to_plain (by_to_plain κs a r e l) = l

pub data Checked : Board → (ps ps' : List ℕ) → (total count : ℕ) → (ws ws' : List ℕ) → (answer : ℕ) → Type 0 where
  by_check :
      (κs : Lfts 2) (a : Dens κs check-kinds.ps) (r : Result Unit Refusal) (e : AtExit (ended_of 2 check-kinds.ps check-kinds.r) κs) → check-reads.Learnt κs a r e →
      Checked a.0 a.1.0.now a.1.0.now a.1.1.0 a.1.1.1.0 a.1.1.1.1.0.now a.1.1.1.1.0.now (answer_of r)

pub checked : {b : Board} {ps ps' : List ℕ} {v k : ℕ} {ws ws' : List ℕ} {r : ℕ} → Checked b ps ps' v k ws ws' r → Checks b ps ps' v k ws ws' r
checked (by_check κs a r e l) = l

pub data Enumerated : Board → (limit : ℕ) → (out out' : List ℕ) → Listing → Type 0 where
  by_list_plans :
      (κs : Lfts 1) (a : Dens κs list-plans-kinds.ps) (r : Result listing.Listing Refusal) (e : AtExit (ended_of 1 list-plans-kinds.ps list-plans-kinds.r) κs) →
      list-plans-reads.Learnt κs a r e → Enumerated a.0 a.1.0 a.1.1.0.now e.1.1.0.now (listing_from r)

pub enumerated : {b : Board} {limit : ℕ} {out out' : List ℕ} {r : Listing} → Enumerated b limit out out' r → Lists b limit out out' r
enumerated (by_list_plans κs a r e l) = l

pub data Replayed : (card kinds firsts seconds : List ℕ) → (answers answers' : List ℕ) → (old new : Buffers) → View → Type 0 where
  by_replay :
      (κs : Lfts 8) (a : Dens κs replay-kinds.ps) (v : View) (e : AtExit (ended_of 8 replay-kinds.ps replay-kinds.r) κs) → replay-reads.Learnt κs a v e →
      Replayed a.0.now a.1.0.now a.1.1.0.now a.1.1.1.0.now a.1.1.1.1.0.now e.1.1.1.1.0.now
      (buffers a.1.1.1.1.1.0.now a.1.1.1.1.1.1.0.now a.1.1.1.1.1.1.1.0.now)
      (buffers e.1.1.1.1.1.0.now e.1.1.1.1.1.1.0.now e.1.1.1.1.1.1.1.0.now) v

pub replayed :
    {ws ks fs gs : List ℕ} {v : View} {xs xs' : List ℕ} {old new : Buffers} → Replayed ws ks fs gs xs xs' old new v → Replays ws ks fs gs xs xs' old new v
replayed (by_replay κs a v e l) = l

pub data Explained : Board → (tail head : ℕ) → (old new : TreeBuffers) → Reason → Type 0 where
  by_why :
      (κs : Lfts 3) (a : Dens κs why-kinds.ps) (r : Reason) (e : AtExit (ended_of 3 why-kinds.ps why-kinds.r) κs) → why-reads.Learnt κs a r e →
      Explained a.0.now a.1.0.0 a.1.1.0.0 (tree_buffers a.1.1.1.0.now a.1.1.1.1.0.now) (tree_buffers e.1.1.1.0.now e.1.1.1.1.0.now) r

pub explained : {b : Board} {t h : ℕ} {old new : TreeBuffers} {r : Reason} → Explained b t h old new r → Explains b t h old new r
explained (by_why κs a r e l) = l

pub data PlannedWithout : Board → (tail head : ℕ) → (old new : TreeBuffers) → View → Type 0 where
  by_plan_without :
      (κs : Lfts 3) (a : Dens κs plan-without-kinds.ps) (v : View) (e : AtExit (ended_of 3 plan-without-kinds.ps plan-without-kinds.r) κs) →
      plan-without-reads.Learnt κs a v e →
      PlannedWithout a.0.now a.1.0.0 a.1.1.0.0 (tree_buffers a.1.1.1.0.now a.1.1.1.1.0.now) (tree_buffers e.1.1.1.0.now e.1.1.1.1.0.now) v

pub planned_without : {b : Board} {t h : ℕ} {old new : TreeBuffers} {v : View} → PlannedWithout b t h old new v → PlansWithout b t h old new v
planned_without (by_plan_without κs a v e l) = l
