-- The sum of the pieces that were passed. Assumes nothing.
use mathlib.Core.Path.{◌≡◌, refl, ap, ◌∙◌}
use mathlib.Core.List.{List}
use Prim.Native.Nat.{ℕ, ◌*◌, ◌≤◌}
use native.Mathlib.Omega.{arith}
use lib.ListN.{length, get_or, length-append}
use Rattle.base.specs.Lists.{join_below}
use Rattle.base.proofs.GridLaws.{square_most}
use Rattle.base.proofs.JoinLaws.{join_more}
use Rattle.instance.specs.Limits.{max_vertices}
use Rattle.price_format.specs.Writing.{price_at, place_text, list_text}
use Rattle.price_list.proofs.WriteLaws.{price_here, place_most}
use Rattle.price_list.proofs.write.list_length.Goals as goal

-- the piece of a turn: its length, and that it is short
piece : (c : goal.After-place_length-sum)
    → let a = c.args in
    let k = c.loop-k.k in
    (c.place_length-sum.result ≡ length (place_text a.n a.root k (price_at a.prices.now k))) × (c.place_length-sum.result ≤ 33)
piece c =
    let a = c.args in
    let k = c.loop-k.k in
    let here = price_here a.prices.now k (omega (arith, c.requires.2)) in
    let square = square_most a.n max_vertices c.requires.1 in
    let most = place_most a.n a.root k (get_or a.prices.now k 0) (omega arith) (omega (arith, c.shared_slice_known-in-loop-k-1.given k)) in
    (c.place_length-sum.ensures ∙ ap (λ (w : ℕ). length (place_text a.n a.root k w)) here, omega (arith, c.place_length-sum.ensures))

pub loop-k-init : goal.loop-k-init
unfolding join_below
loop-k-init c = (omega arith, omega arith, refl)

pub overflow_add-sum : goal.overflow_add-sum
overflow_add-sum c = omega (arith, piece c, square_most c.args.n max_vertices c.requires.1)

pub loop-k-preserved : goal.loop-k-preserved
loop-k-preserved c =
    let l = c.loop-k in
    let a = c.args in
    let g : ℕ → List ℕ = λ i. place_text a.n a.root i (price_at a.prices.now i) in
    let e = ap length (join_more g l.k) ∙ length-append (join_below l.k g) (g l.k) in
    let p = piece c in
    (omega arith, omega (arith, l.invariant.1), omega (arith, l.invariant.2))

pub returns : goal.returns
unfolding list_text
returns c =
    let l = c.loop-k in
    let a = c.args in
    let e : l.k ≡ a.n * a.n = omega arith in
    rw e at l.invariant.2
