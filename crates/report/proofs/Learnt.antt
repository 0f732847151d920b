-- What a caller learns of `report` from the function's own contract (`Learnt`), so that the theorems that cite it are
-- about this function and no other. Assumes nothing.
use mathlib.Core.List.{List}
use Prim.Native.Nat.{ℕ}
use contract.Lifetimes.{Lfts}
use borrow.Fn.Kinds.{Dens, ended_of}
use denote.Triple.Clauses.{AtExit}
use Rattle.report.specs.declared.Reported.{Reported}
use Rattle.report.specs.Reports.{Reports}
use Rattle.report.proofs.reports.report.Reads as report-reads
use Rattle.report.proofs.reports.report.Kinds as report-kinds

pub data ReportedBy : (card out out' : List ℕ) → Reported → Type 0 where
  by_report :
      (κs : Lfts 2) (a : Dens κs report-kinds.ps) (r : Reported) (e : AtExit (ended_of 2 report-kinds.ps report-kinds.r) κs) → report-reads.Learnt κs a r e →
      ReportedBy a.0.now a.1.0.now e.1.0.now r

pub reported_by : {ws : List ℕ} {r : Reported} {out out' : List ℕ} → ReportedBy ws out out' r → Reports ws out out' r
reported_by (by_report κs a r e l) = l
