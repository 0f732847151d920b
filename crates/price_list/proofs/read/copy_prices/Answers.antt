-- The places that were passed hold the weights of the table. Assumes nothing.
use mathlib.Core.Path.{◌≡◌, refl, ◌∙◌}
use Prim.Native.Nat.{ℕ, ◌*◌, ◌/◌, ◌%◌, ◌≤◌, ◌<◌}
use native.Mathlib.Omega.{arith}
use lib.ListN.{get_or, length-set}
use Rattle.base.specs.Lists.{tabulate}
use Rattle.base.proofs.FrontLaws.{front_is, front_none, front_more}
use Rattle.base.proofs.ListLaws.{length_tabulate}
use Rattle.instance.specs.Limits.{max_vertices}
use Rattle.instance.specs.Instance.{cell}
use Rattle.price_list.specs.Reads.{dense}
use Rattle.price_list.proofs.read.copy_prices.Goals as goal

-- the place of a turn is a tail and a head below n
record Ends (n k : ℕ) : Type 0 where
  small : n ≤ max_vertices
  square : n * n ≤ max_vertices * max_vertices
  some : 0 < n
  tail : k / n < n
  head : k % n < n

pub loop-k-init : goal.loop-k-init
loop-k-init c = (omega arith, refl, front_none _ _)

pub loop-k-preserved : goal.loop-k-preserved
loop-k-preserved c =
    let l = c.loop-k in
    let a = c.args in
    (omega arith, simp length-set l.invariant.1, front_more l.prices a.prices.now l.k _ _ (omega arith) l.invariant.2 refl)

pub returns : goal.returns
unfolding dense
returns c =
    let a = c.args in
    let e : c.loop-k.k ≡ a.n * a.n = omega arith in
    let g : ℕ → ℕ = λ i. get_or a.table.now (cell (i / a.n) (i % a.n)) 0 in
    (rw e at c.loop-k.invariant.2) ∙ front_is (tabulate (a.n * a.n) g) a.prices.now (a.n * a.n) (length_tabulate (a.n * a.n) g)
