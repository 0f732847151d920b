-- What a caller learns of the public call of this crate, from the function's own contract (`Learnt`): so the theorems
-- that cite it are about this function and no other. Assumes nothing.
use mathlib.Core.List.{List}
use Prim.Native.Nat.{ℕ}
use contract.Lifetimes.{Lfts}
use borrow.Fn.Kinds.{Dens, ended_of}
use denote.Triple.Clauses.{AtExit}
use Rattle.std.specs.Prelude.{Result}
use Rattle.instance.specs.declared.Outcome.{Outcome}
use Rattle.instance.specs.declared.refusals.Refusal.{Refusal}
use Rattle.spanning.specs.Graph.{graph_of}
use Rattle.runs.specs.Planning.{RunsView, view_of, PlansRuns}
use Rattle.runs.proofs.planning.plan_runs.Reads as plan_reads
use Rattle.runs.proofs.planning.plan_runs.Kinds as plan-kinds

pub data RunsPlanned : (weights marks : List ℕ) → (n budget : ℕ) → (states states' costs costs' : List ℕ) → RunsView → Type 0 where
  by_plan_runs :
      (κs : Lfts 4) (a : Dens κs plan-kinds.ps) (r : Result Outcome Refusal) (e : AtExit (ended_of 4 plan-kinds.ps plan-kinds.r) κs) → plan_reads.Learnt κs a r e →
      RunsPlanned a.0.now a.1.0.now a.1.1.0 a.1.1.1.0 a.1.1.1.1.0.now e.1.1.1.1.0.now a.1.1.1.1.1.0.now e.1.1.1.1.1.0.now (view_of r)

pub runs_planned : {ws ms : List ℕ} {n b : ℕ} {ss ss' cs cs' : List ℕ} {r : RunsView} → RunsPlanned ws ms n b ss ss' cs cs' r → PlansRuns (graph_of n ws ms) b ss ss' cs cs' r
runs_planned (by_plan_runs κs a r e l) = l
