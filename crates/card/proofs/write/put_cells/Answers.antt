-- `put_cells` meets its contract. The loop's invariant is `Putting`, below. Assumes nothing.
use mathlib.Core.Path.{◌≡◌, ◌∙◌}
use mathlib.Core.List.{◌++◌, append_assoc, append-nil}
use Prim.Native.Nat.{◌<◌, ◌+◌, ◌-◌}
use native.Mathlib.Omega.{arith}
use lib.ListN.{get_or}
use Rattle.bits.proofs.WriterLaws.{put_then, ready_part}
use Rattle.instance.specs.Limits.{cells}
use Rattle.instance.specs.Instance.{without_budget}
use Rattle.card_format.specs.Card.{one_cell, cell_bits}
use Rattle.card_format.proofs.WrittenBits.{cell_bits_none, next_cell}
use Rattle.card.proofs.write.put_cells.Goals as goal

pub put_cell-w-requires : goal.put_cell-w-requires
put_cell-w-requires c =
    let l = c.loop-i in
    let a = c.args in
    let h : l.i < cells = omega arith in
    let one = one_cell a.n a.root l.i (get_or a.weights.now l.i 0) (get_or a.marks.now l.i 0) in
    let more = cell_bits (cells - (l.i + 1)) (l.i + 1) (without_budget a.n a.root a.weights.now a.marks.now) in
    let e = next_cell a.n a.root 0 a.weights.now a.marks.now l.i h c.requires.weights_len.0 c.requires.weights_len.1 in
    (h, ready_part _ _ _ _ l.invariant.done one more _ l.invariant.put (rw e at l.invariant.left) c.requires.ready)

pub loop-i-preserved : goal.loop-i-preserved
loop-i-preserved c =
    let l = c.loop-i in
    let a = c.args in
    let h : l.i < cells = omega arith in
    let one = one_cell a.n a.root l.i (get_or a.weights.now l.i 0) (get_or a.marks.now l.i 0) in
    let e = next_cell a.n a.root 0 a.weights.now a.marks.now l.i h c.requires.weights_len.0 c.requires.weights_len.1 in
    record {
      done = l.invariant.done ++ one;
      put = put_then _ _ _ _ _ _ l.invariant.done one l.invariant.put c.put_cell-w.ensures;
      left = append_assoc l.invariant.done one _ ∙ rw e at l.invariant.left;
      i-in = omega arith;
    }

pub returns : goal.returns
returns c =
    let l = c.loop-i in
    let z : cells - l.i ≡ 0 = omega arith in
    let e : l.invariant.done ≡ _ = rw (z, cell_bits_none, append-nil) at l.invariant.left in
    rw (← e) l.invariant.put
