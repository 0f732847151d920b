-- For callers: a planning within a limit is what the search for usable arcs starts from. Assumes nothing.
use mathlib.Core.Path.{sym, ap, ◌∙◌}
use mathlib.Core.List.{List}
use Prim.Native.Nat.{ℕ, ◌≤◌}
use native.Mathlib.Omega.{arith}
use lib.ListN.{get_or}
use Rattle.base.proofs.ListLaws.{default}
use Rattle.instance.specs.Limits.{max_budget, no_arc}
use Rattle.instance.specs.Instance.{cell}
use Rattle.instance.specs.Cuts.{cuts_in}
use Rattle.instance.specs.Matrix.{unmarked, MatrixOk}
use Rattle.instance.proofs.MatrixLaws.{matrix_ends}
use Rattle.edmonds.specs.declared.Planned.{Planned}
use Rattle.edmonds.specs.Planned.{PlannedMatrix}
use Rattle.edmonds.proofs.ReducedLaws.{reduced_arc}
use Rattle.usable.specs.Fitting.{FittingPlan}

pub planned_fitting : (n root : ℕ) (m m' cuts cuts' : List ℕ) (p : Planned) (b : ℕ) → MatrixOk n root m → PlannedMatrix m m' n root cuts cuts' p
    → p.total ≤ b → b ≤ max_budget → FittingPlan m m' p.parents n root p.total b
planned_fitting n root m m' cuts cuts' p b ok k l most =
    let least = k.minimum in
    let cs = cuts_in p.count cuts' in
    record {
      tree = record { matrix_ok = ok; places = k.parents_size; arborescence = least.arborescence };
      is_total = k.is_total;
      costs =
          record {
            cuts = cs;
            feasible = least.proved.feasible;
            adds = least.proved.adds ∙ sym k.is_total;
            costs =
                λ t h r.
                let small = ok.small in
                let tail = (matrix_ends n root m t h r).tail_below in
                let head = (matrix_ends n root m t h r).head_below in
                let size = k.matrix_size in
                default m' (cell t h) 0 no_arc (omega arith) ∙ ap (λ (w : List ℕ). get_or w (cell t h) no_arc) k.reduced
                ∙ reduced_arc (unmarked n root m) cs t h (omega arith) (omega arith) r;
          };
      within = l;
      most = most;
    }
