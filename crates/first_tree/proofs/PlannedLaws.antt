-- For callers: a planning is what the search for the first cheapest arborescence starts from. Assumes nothing.
use mathlib.Core.Path.{sym, ap, ◌∙◌, subst}
use mathlib.Core.List.{List}
use Prim.Native.Nat.{ℕ}
use native.Mathlib.Omega.{arith}
use lib.ListN.{get_or}
use Rattle.base.proofs.ListLaws.{default}
use Rattle.instance.specs.Limits.{no_arc}
use Rattle.instance.specs.Instance.{cell}
use Rattle.instance.specs.Cuts.{cuts_in, Proves}
use Rattle.instance.specs.Matrix.{unmarked, MatrixOk}
use Rattle.instance.proofs.MatrixLaws.{matrix_ends}
use Rattle.edmonds.specs.declared.Planned.{Planned}
use Rattle.edmonds.specs.Planned.{PlannedMatrix}
use Rattle.edmonds.proofs.ReducedLaws.{reduced_arc}
use Rattle.first_tree.specs.Search.{Search, PlannedTree}

module _ (n root : ℕ) (m m' cuts cuts' : List ℕ) (p : Planned) (ok : MatrixOk n root m) (k : PlannedMatrix m m' n root cuts cuts' p) where
  pub planned_search : Search m cuts' n root p.total 0 p.count
  planned_search =
      record {
        matrix_ok = ok;
        proves = subst (λ (v : ℕ). Proves (unmarked n root m) (cuts_in p.count cuts') v) (sym k.is_total) k.minimum.proved;
        from_within = omega arith;
        few = let l = k.few in let s = ok.small in omega arith;
      }

  pub planned_tree : PlannedTree m m' cuts' n root p.total p.count p.parents
  planned_tree =
      record {
        places = k.parents_size;
        tree = record { arborescence = k.minimum.arborescence; attained = sym k.is_total };
        size = k.matrix_size;
        costs =
            λ t h r.
            let small = ok.small in
            let tail = (matrix_ends n root m t h r).tail_below in
            let head = (matrix_ends n root m t h r).head_below in
            let size = k.matrix_size in
            default m' (cell t h) 0 no_arc (omega arith) ∙ ap (λ (w : List ℕ). get_or w (cell t h) no_arc) k.reduced
            ∙ reduced_arc (unmarked n root m) (cuts_in p.count cuts') t h (omega arith) (omega arith) r;
      }
