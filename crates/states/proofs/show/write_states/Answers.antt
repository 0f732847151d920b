-- The cells that were passed are written, and the others are as they were. Assumes nothing.
use mathlib.Core.Path.{refl, ◌∙◌}
use Prim.Native.Nat.{ℕ, ◌*◌, ◌/◌, ◌%◌, ◌≤◌, ◌<◌}
use native.Mathlib.Omega.{arith}
use lib.ListN.{length-set}
use Rattle.base.proofs.FrontLaws.{front_none, front_more}
use Rattle.base.proofs.GridLaws.{square_most, grid_some, grid_row, grid_column}
use Rattle.instance.specs.Limits.{max_vertices}
use Rattle.states.proofs.ShowLaws.{state_counted}
use Rattle.states.proofs.show.write_states.Goals as goal

-- the cell of a turn is a tail and a head below n
record Cell-ends (n k : ℕ) : Type 0 where
  small : n ≤ max_vertices
  cells : n * n ≤ max_vertices * max_vertices
  some : 0 < n
  tail : k / n < n
  head : k % n < n

pub loop-k-init : goal.loop-k-init
loop-k-init c = (omega arith, refl, front_none _ _)

pub loop-k-preserved : goal.loop-k-preserved
loop-k-preserved c =
    let l = c.loop-k in
    let a = c.args in
    let e = (let it : Cell-ends c.args.n c.loop-k.k = let n = c.args.n in let k = c.loop-k.k in let l : k < n * n = omega arith in record { small = c.requires.0; cells = square_most n max_vertices c.requires.0; some = grid_some n k l; tail = grid_row n k l; head = grid_column n k l } in it) in
    let count = c.counts_into-counts.ensures.at (l.k % a.n) e.head in (
      omega arith,
      simp length-set l.invariant.1,
      front_more l.out a.out.now l.k c.from.result _ (omega arith) l.invariant.2
          (c.from.ensures ∙ c.state_of-state.ensures ∙ rw (c.can_be_arc-possible.ensures, count) (state_counted a.n a.root a.used.now a.weights.now (l.k / a.n) (l.k % a.n))),
    )
