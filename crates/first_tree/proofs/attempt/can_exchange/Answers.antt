-- The weights are compared first; then the tree says whether the tail hangs on the vertex. Assumes nothing.
use mathlib.Core.Path.{sym, ◌∙◌}
use Prim.Native.Nat.{◌<◌}
use native.Mathlib.Omega.{arith}
use lib.ListN.{get_or}
use borrow.Author.Tests.{not-true}
use Rattle.paths.proofs.TreeLaws.{tree_rooted, tail_below, own_weight}
use Rattle.first_tree.proofs.AttemptLaws.{cell_weight}
use Rattle.first_tree.proofs.attempt.can_exchange.Goals as goal

pub bounds-m-own : goal.bounds-m-own
bounds-m-own c = let k = c.requires.0.matrix_ok.small in omega (arith, (let it : get_or c.args.parents.now c.args.vertex 0 < c.args.n = tail_below c.args.n c.args.root c.args.m.now c.args.parents.now c.requires.0 c.args.vertex c.requires.2 c.requires.3 in it))

pub is_descendant-requires : goal.is_descendant-requires
is_descendant-requires c =
    (c.requires.0.matrix_ok.small, tree_rooted c.args.n c.args.root c.args.m.now c.args.parents.now c.requires.0, c.requires.2, c.requires.3, c.requires.1)

pub returns : goal.returns
returns c = λ e.
    let a = c.args in
    record {
      same = cell_weight a.n a.root a.m.now a.tail a.vertex c.requires.0.matrix_ok.size (omega (arith, c.requires.0.matrix_ok.small)) (omega (arith, c.requires.0.matrix_ok.small)) ∙ c.if-m-tail.false
          ∙ sym (own_weight a.n a.root a.m.now a.parents.now c.requires.0 a.vertex c.requires.2 c.requires.3);
      apart = c.is_descendant.ensures.apart (not-true _ e);
    }
