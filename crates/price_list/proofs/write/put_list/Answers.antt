-- The pieces that were passed stand one behind the other. Assumes nothing.
use mathlib.Core.Path.{◌≡◌, refl}
use mathlib.Core.List.{List}
use Prim.Native.Nat.{ℕ, ◌*◌}
use native.Mathlib.Omega.{arith}
use Rattle.text.proofs.JoinLaws.{join_none, join_room, join_next}
use Rattle.price_format.specs.Writing.{price_at, place_text, list_text}
use Rattle.price_list.proofs.WriteLaws.{price_here}
use Rattle.price_list.proofs.write.put_list.Goals as goal

pub loop-k-init : goal.loop-k-init
loop-k-init c = (omega arith, join_none _ _ _, refl)

pub put_place-at-requires : goal.put_place-at-requires
unfolding list_text
put_place-at-requires c =
    let l = c.loop-k in
    let here = price_here c.args.prices.now l.k (omega (arith, c.requires.2)) in
    (c.requires.0, rw here (join_room (λ i. place_text c.args.n c.args.root i (price_at c.args.prices.now i)) (c.args.n * c.args.n) l.k c.requires.3 (omega arith) l.invariant.1))

pub loop-k-preserved : goal.loop-k-preserved
unfolding list_text
loop-k-preserved c =
    let l = c.loop-k in
    let p = c.put_place-at in
    let here = price_here c.args.prices.now l.k (omega (arith, c.requires.2)) in
    let g : ℕ → List ℕ = λ i. place_text c.args.n c.args.root i (price_at c.args.prices.now i) in
    (omega arith, join_next g (c.args.n * c.args.n) l.k c.requires.3 (omega arith) l.invariant.1 (rw here at p.ensures), omega (arith, l.invariant.2, p.auto))

pub returns : goal.returns
unfolding list_text
returns c =
    let l = c.loop-k in
    let a = c.args in
    let e : l.k ≡ a.n * a.n = omega arith in
    rw e at l.invariant.1
