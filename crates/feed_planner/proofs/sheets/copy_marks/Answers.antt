-- The places that were passed hold the marks of the table. Assumes nothing.
use mathlib.Core.Path.{◌≡◌, refl, ◌∙◌}
use Prim.Native.Nat.{ℕ, ◌*◌, ◌/◌, ◌%◌, ◌≤◌, ◌<◌}
use native.Mathlib.Omega.{arith}
use lib.ListN.{get_or, length-set}
use Rattle.base.specs.Lists.{tabulate}
use Rattle.base.proofs.FrontLaws.{front_is, front_none, front_more}
use Rattle.base.proofs.GridLaws.{square_most, grid_some, grid_row, grid_column}
use Rattle.base.proofs.ListLaws.{length_tabulate}
use Rattle.instance.specs.Limits.{max_vertices}
use Rattle.instance.specs.Instance.{cell}
use Rattle.price_list.specs.Reads.{dense}
use Rattle.feed_planner.proofs.sheets.copy_marks.Goals as goal

pub overflow_mul-total : goal.overflow_mul-total
overflow_mul-total c = omega (arith, square_most c.args.n max_vertices c.requires.0)

pub loop-k-init : goal.loop-k-init
loop-k-init c = (omega arith, refl, front_none _ _)

-- the place of a turn is a tail and a head below n
record Ends (n k : ℕ) : Type 0 where
  small : n ≤ max_vertices
  square : n * n ≤ max_vertices * max_vertices
  some : 0 < n
  tail : k / n < n
  head : k % n < n

ends : (c : goal.In-loop-k) → Ends c.args.n c.loop-k.k
ends c =
    let n = c.args.n in
    let k = c.loop-k.k in
    let small = c.requires.0 in
    let l : k < n * n = omega arith in
    record { small = small; square = square_most n max_vertices small; some = grid_some n k l; tail = grid_row n k l; head = grid_column n k l }

pub nonzero_div-i : goal.nonzero_div-i
nonzero_div-i c = omega (arith, ends c)

pub overflow_mul-i : goal.overflow_mul-i
overflow_mul-i c = omega (arith, ends c)

pub nonzero_rem-i : goal.nonzero_rem-i
nonzero_rem-i c = omega (arith, ends c)

pub overflow_add-i : goal.overflow_add-i
overflow_add-i c = omega (arith, ends c)

pub overflow_cast-i : goal.overflow_cast-i
overflow_cast-i c = omega (arith, ends c)

pub bounds-table-i : goal.bounds-table-i
bounds-table-i c = omega (arith, (let it : Ends c.args.n c.loop-k.k = let n = c.args.n in let k = c.loop-k.k in let small = c.requires.0 in let l : k < n * n = omega arith in record { small = small; square = square_most n max_vertices small; some = grid_some n k l; tail = grid_row n k l; head = grid_column n k l } in it))

pub overflow_cast-marks : goal.overflow_cast-marks
overflow_cast-marks c = omega (arith, (let it : Ends c.args.n c.loop-k.k = let n = c.args.n in let k = c.loop-k.k in let small = c.requires.0 in let l : k < n * n = omega arith in record { small = small; square = square_most n max_vertices small; some = grid_some n k l; tail = grid_row n k l; head = grid_column n k l } in it))

pub bounds-marks-k : goal.bounds-marks-k
bounds-marks-k c = omega (arith, (let it : Ends c.args.n c.loop-k.k = let n = c.args.n in let k = c.loop-k.k in let small = c.requires.0 in let l : k < n * n = omega arith in record { small = small; square = square_most n max_vertices small; some = grid_some n k l; tail = grid_row n k l; head = grid_column n k l } in it))

pub overflow_add-k : goal.overflow_add-k
overflow_add-k c = omega (arith, (let it : Ends c.args.n c.loop-k.k = let n = c.args.n in let k = c.loop-k.k in let small = c.requires.0 in let l : k < n * n = omega arith in record { small = small; square = square_most n max_vertices small; some = grid_some n k l; tail = grid_row n k l; head = grid_column n k l } in it))

pub loop-k-smaller : goal.loop-k-smaller
loop-k-smaller c = omega arith

pub loop-k-preserved : goal.loop-k-preserved
loop-k-preserved c =
    let l = c.loop-k in
    let a = c.args in
    (omega arith, simp length-set l.invariant.1, front_more l.marks a.marks.now l.k _ _ (omega arith) l.invariant.2 refl)

pub shape_of-marks : goal.shape_of-marks
shape_of-marks c = c.loop-k.invariant.1

pub returns : goal.returns
unfolding dense
returns c =
    let a = c.args in
    let e : c.loop-k.k ≡ a.n * a.n = omega arith in
    let g : ℕ → ℕ = λ i. get_or a.table.now (cell (i / a.n) (i % a.n)) 0 in
    (rw e at c.loop-k.invariant.2) ∙ front_is (tabulate (a.n * a.n) g) a.marks.now (a.n * a.n) (length_tabulate (a.n * a.n) g)
