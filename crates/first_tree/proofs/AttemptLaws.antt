-- What a program reads and adds up when a tail is tried: weights, a total, the matrix of the admissible arcs. Assumes
-- nothing.
use mathlib.Core.Path.{◌≡◌, refl, sym, ap, ◌∙◌}
use mathlib.Core.Bool.{Bool, true, false, ◌&&◌, cond}
use mathlib.Core.List.{List}
use mathlib.Core.Logic.{◌≢◌}
use Prim.Native.Nat.{ℕ, ◌+◌, ◌/◌, ◌%◌, ◌≤◌, ◌<◌}
use native.Mathlib.Omega.{arith}
use lib.Dec.{eqb}
use lib.ListN.{length, get_or, set, take, replicate, length-replicate}
use borrow.Author.Tests.{eq-eqb, ne_eqb}
use Rattle.base.specs.Bounded.{sum_below}
use Rattle.base.proofs.BoolLaws.{and_both, and_false_right}
use Rattle.base.proofs.SumLaws.{sum_more, sum_most}
use Rattle.base.proofs.CondLaws.{cond_most}
use Rattle.base.proofs.ListLaws.{default, replicate_at, tabulate_is, length_tabulate, get_d_tabulate}
use Rattle.base.proofs.OverwriteLaws.{Overwritten, overwrite_none, overwrite_store, overwrite_pass}
use Rattle.instance.specs.Limits.{no_arc, cells, word_limit}
use Rattle.instance.specs.Instance.{Instance, cell, weight_at, weight}
use Rattle.instance.specs.Arborescence.{remaining, parent, is_arborescence, total}
use Rattle.instance.specs.Cuts.{cuts_in}
use Rattle.instance.specs.Matrix.{matrix_where, unmarked, MatrixOk}
use Rattle.instance.proofs.MatrixLaws.{weight_read, matrix_weight_most}
use Rattle.theory.specs.Usable.{restricted}
use Rattle.theory.proofs.Duality.{no_entry, weak_duality}
use Rattle.theory.proofs.Restriction.{restricted_arborescence, restricted_total}
use Rattle.edmonds.specs.declared.Planned.{Planned}
use Rattle.edmonds.specs.Planned.{PlannedMatrix, NonePlanned}
use Rattle.paths.specs.Tree.{MatrixTree}
use Rattle.paths.proofs.TreeLaws.{own_weight}
use Rattle.narrowing.specs.Narrowed.{Admissible}
use Rattle.first_tree.specs.Tails.{admissible_by, TailsOk}
use Rattle.first_tree.specs.Attempt.{NoCheaper, AdmissibleTree, NoneAdmissible}

pub cell_weight : (n root : ℕ) (m : List ℕ) (t h : ℕ) → length m ≡ cells → t < 32 → h < 32 → weight (unmarked n root m) t h ≡ get_or m (cell t h) 0
unfolding unmarked
cell_weight n root m t h e l k = sym (weight_read (unmarked n root m) t h e (omega arith))

-- A TOTAL, vertex by vertex
abbrev cost : (n root : ℕ) → (m parents : List ℕ) → (v : ℕ) → ℕ
cost n root m ps v = cond (eqb v root) 0 (weight (unmarked n root m) (parent (take n ps) v) v)

unfoldable pub Summed : (n root : ℕ) → (m parents : List ℕ) → (v sum : ℕ) → Type 0
Summed n root m ps v sum = sum ≡ sum_below v (cost n root m ps)

module _ (n root : ℕ) (m ps : List ℕ) where
  pub summed_none : Summed n root m ps 0 0
  unfolding Summed sum_below
  summed_none = refl

  pub summed_root : (v sum : ℕ) → v ≡ root → Summed n root m ps v sum → Summed n root m ps (v + 1) sum
  unfolding Summed
  summed_root v sum e i =
      let step = sum_more v (cost n root m ps) in
      let here : cost n root m ps v ≡ 0 = rw (eq-eqb v root e) in
      omega arith

  pub summed_all : (sum : ℕ) → Summed n root m ps n sum → sum ≡ total (unmarked n root m) (take n ps)
  unfolding Summed total unmarked
  summed_all sum i = i

  module _ (k : MatrixTree n root m ps) (v sum : ℕ) (l : v < n) (e : v ≢ root) (i : Summed n root m ps v sum) where
    here : cost n root m ps v ≡ get_or m (cell (get_or ps v 0) v) 0
    here = rw (ne_eqb v root e) (own_weight n root m ps k v l e)

    pub summed_more : Summed n root m ps (v + 1) (sum + get_or m (cell (get_or ps v 0) v) 0)
    unfolding Summed
    summed_more = let step = sum_more v (cost n root m ps) in let h = here in omega arith

    pub summed_fits : sum + get_or m (cell (get_or ps v 0) v) 0 < word_limit
    unfolding Summed
    summed_fits =
        let step = sum_more v (cost n root m ps) in
        let h = here in
        let most = sum_most (v + 1) (cost n root m ps) no_arc (λ q _. cost_most q (eqb q root)) in
        let small = k.matrix_ok.small in
        omega arith
      where
        cost_most : (q : ℕ) (b : Bool) → cond b 0 (weight (unmarked n root m) (parent (take n ps) q) q) ≤ no_arc
        cost_most q true = omega arith
        cost_most q false = matrix_weight_most n root m k.matrix_ok (parent (take n ps) q) q

-- THE MATRIX OF THE ADMISSIBLE ARCS, cell by cell
abbrev admissible_cell : (m tails : List ℕ) → (n root i : ℕ) → ℕ
admissible_cell m zs n root i =
    cond (remaining (unmarked n root m) (i / 32) (i % 32) && admissible_by zs (i / 32) (i % 32)) (weight_at (unmarked n root m) i) no_arc

abbrev pub AdmissibleCells : (m tails : List ℕ) → (n root : ℕ) → (w : List ℕ) → (i : ℕ) → Type 0
AdmissibleCells m zs n root w i = Overwritten cells (replicate cells no_arc) w (admissible_cell m zs n root) i

module _ (m zs : List ℕ) (n root : ℕ) where
  pub cells_none : AdmissibleCells m zs n root (replicate cells no_arc) 0
  cells_none = overwrite_none (replicate cells no_arc) (admissible_cell m zs n root) (length-replicate {A = ℕ} cells no_arc)

  pub cells_pass : (w : List ℕ) (i : ℕ) → i < cells → AdmissibleCells m zs n root w i → admissible_by zs (i / 32) (i % 32) ≡ false → AdmissibleCells m zs n root w (i + 1)
  cells_pass w i l o e =
      overwrite_pass (replicate cells no_arc) (admissible_cell m zs n root) w i o
      (default (replicate cells no_arc) i 0 no_arc (rw (length-replicate {A = ℕ} cells no_arc) l) ∙ replicate_at cells i no_arc
      ∙ sym (ap (λ (b : Bool). cond b (weight_at (unmarked n root m) i) no_arc) (and_false_right (remaining (unmarked n root m) (i / 32) (i % 32)) (admissible_by zs (i / 32) (i % 32)) e)))

  pub cells_store : MatrixOk n root m → TailsOk (unmarked n root m) zs → (w : List ℕ) (i : ℕ) → i < cells → AdmissibleCells m zs n root w i
      → admissible_by zs (i / 32) (i % 32) ≡ true → AdmissibleCells m zs n root (set w i (get_or m i 0)) (i + 1)
  unfolding unmarked
  cells_store ok k w i l o e =
      overwrite_store (replicate cells no_arc) (admissible_cell m zs n root) w i (get_or m i 0) o l
      (default m i 0 no_arc (let z = ok.size in omega arith)
      ∙ sym (ap (λ (b : Bool). cond b (get_or m i no_arc) no_arc) (and_both (remaining (unmarked n root m) (i / 32) (i % 32)) (admissible_by zs (i / 32) (i % 32)) (k.arcs (i / 32) (i % 32) e) e)))

  pub cells_all : (w : List ℕ) → AdmissibleCells m zs n root w cells → w ≡ matrix_where (unmarked n root m) (admissible_by zs)
  unfolding matrix_where
  cells_all w o = tabulate_is cells w (admissible_cell m zs n root) 0 o.size o.done

  -- it can be planned on
  pub admissible_ok : MatrixOk n root m → MatrixOk n root (matrix_where (unmarked n root m) (admissible_by zs))
  unfolding matrix_where unmarked
  admissible_ok ok =
      record {
        small = ok.small;
        root_below = ok.root_below;
        size = length_tabulate cells (admissible_cell m zs n root);
        bounded =
            λ i l.
            rw (get_d_tabulate cells (admissible_cell m zs n root) i no_arc l)
            (cond_most (remaining (unmarked n root m) (i / 32) (i % 32) && admissible_by zs (i / 32) (i % 32)) (get_or m i no_arc) no_arc no_arc (ok.bounded i l) (omega arith));
      }

-- BY PLANNING: the arborescences of the matrix of the admissible arcs are those of admissible arcs
module _ (m zs : List ℕ) (n root w : ℕ) (ok : MatrixOk n root m) where
  abbrev s : Instance
  s = unmarked n root m

  abbrev admissible : List ℕ
  admissible = matrix_where (unmarked n root m) (admissible_by zs)

  small : s.n ≤ 32
  unfolding unmarked
  small = ok.small

  there : (qs : List ℕ) → is_arborescence s qs ≡ true → Admissible s (admissible_by zs) qs → is_arborescence (restricted s (admissible_by zs)) qs ≡ true
  there qs a k = (restricted_arborescence s (admissible_by zs) small qs).1 (a, k)

  pub plan_none : (set : ℕ) → NonePlanned admissible n root set → NoneAdmissible s w (admissible_by zs)
  unfolding unmarked
  plan_none set p qs o k = no_entry (restricted s (admissible_by zs)) qs (there qs o.arborescence k) (record { set = set; value = 0 }) p

  module _ (least : NoCheaper s w) (reduced cuts cuts' : List ℕ) (r : Planned) (p : PlannedMatrix admissible reduced n root cuts cuts' r) where
    found_in : is_arborescence (restricted s (admissible_by zs)) (take n r.parents) ≡ true
    unfolding unmarked
    found_in = p.minimum.arborescence

    found_there : is_arborescence s (take n r.parents) ≡ true
    found_there = ((restricted_arborescence s (admissible_by zs) small (take n r.parents)).0 found_in).0

    same_total : r.total ≡ total s (take n r.parents)
    unfolding unmarked
    same_total = p.is_total ∙ restricted_total s (admissible_by zs) small (take n r.parents) found_in

    pub plan_of_total : r.total ≡ w → AdmissibleTree s w (admissible_by zs) r.parents
    unfolding unmarked
    plan_of_total e =
        record {
          places = p.parents_size;
          tree = record { arborescence = found_there; attained = sym same_total ∙ e };
          admissible = ((restricted_arborescence s (admissible_by zs) small (take n r.parents)).0 found_in).1;
        }

    -- a dearer one is cheapest among these, so none of them has the total w
    pub plan_dearer : r.total ≢ w → NoneAdmissible s w (admissible_by zs)
    unfolding unmarked
    plan_dearer d qs o k =
        let a = there qs o.arborescence k in
        let l = weak_duality (restricted s (admissible_by zs)) qs a (cuts_in r.count cuts') p.minimum.proved.feasible in
        let v = p.minimum.proved.adds in
        let t = restricted_total s (admissible_by zs) small qs a in
        let u = restricted_total s (admissible_by zs) small (take n r.parents) found_in in
        let e = same_total in
        let q = o.attained in
        let h = least (take n r.parents) found_there in
        d (omega arith)
