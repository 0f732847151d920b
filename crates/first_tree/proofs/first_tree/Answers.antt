-- The vertices below v are settled. Assumes nothing.
use mathlib.Core.Path.{◌≡◌, subst}
use mathlib.Core.Bool.{true}
use Prim.Native.Nat.{ℕ, ◌≤◌, ◌<◌}
use native.Mathlib.Omega.{arith}
use mathlib.Core.List.{List}
use lib.ListN.{get_or, take}
use Rattle.instance.specs.Arborescence.{parent}
use Rattle.paths.proofs.TreeLaws.{parent_read, tail_below}
use Rattle.first_tree.specs.Tails.{admissible_by}
use Rattle.first_tree.specs.Search.{Search, Settled}
use Rattle.first_tree.proofs.SearchLaws.{tree_at_hand, settled_start, settled_root, own_admissible, settled_more, settled_all}
use Rattle.first_tree.proofs.first_tree.Goals as goal
use Rattle.first_tree.proofs.first_tree.Goals.{else-v-root, then-v-root}

-- the cuts that are looked at
looked_at : (m cuts : List ℕ) (n root total count f : ℕ) → Search m cuts n root total 0 count → f ≤ count → Search m cuts n root total f count
looked_at m cuts n root total count f k e = record { matrix_ok = k.matrix_ok; proves = k.proves; from_within = e; few = k.few }

-- the tail that was found for v, as it is read
module _
    (m cuts : List ℕ) (n root total count : ℕ) (k : Search m cuts n root total 0 count) (v : ℕ) (tails first : List ℕ) (s : Settled m n root total v tails first)
    (low : v < n) where
  read : get_or first v 0 ≡ parent (take n first) v
  read = parent_read n v first k.matrix_ok.small s.places low

  below : (v ≡ root → ⊥) → get_or first v 0 < n
  below off = tail_below n root m first (tree_at_hand m cuts n root total 0 count k v tails first s) v low off

  admissible : (v ≡ root → ⊥) → admissible_by tails (get_or first v 0) v ≡ true
  admissible off = rw read (own_admissible m cuts n root total 0 count k v tails first low off s)

pub loop-v-init : goal.loop-v-init
loop-v-init c =
    let a = c.args in
    (omega arith, settled_start a.m.now a.cuts.now a.n a.root a.total 0 a.count c.requires.0 a.reduced.now _ a.parents c.requires.1 c.tight_tails-tails.ensures)

pub fix_arc-requires : goal.fix_arc-requires
fix_arc-requires c =
    let k = (looked_at _ _ _ _ _ _ _ c.requires.0 c.first_group-from.ensures) in
    (k.matrix_ok.small, k.from_within, k.few, below _ _ _ _ _ _ c.requires.0 c.loop-v.v c.loop-v.tails c.least_parent-first.result c.least_parent-first.ensures.0 c.loop-v-test.true c.if-v-root.true, c.loop-v-test.true, admissible _ _ _ _ _ _ c.requires.0 c.loop-v.v c.loop-v.tails c.least_parent-first.result c.least_parent-first.ensures.0 c.loop-v-test.true c.if-v-root.true)

pub loop-v-preserved : goal.loop-v-preserved
loop-v-preserved c =
    let a = c.args in
    let l = c.loop-v in (
      omega arith,
      elim c.if-v-root.branch [
        | then-v-root w ↦ rw (w.tails-is, w.first-is)
            (settled_more a.m.now a.cuts.now a.n a.root a.total _ a.count (looked_at _ _ _ _ _ _ _ c.requires.0 c.first_group-from.ensures) l.v l.tails w.least_parent-first.result (omega arith) w.if-v-root.true w.least_parent-first.ensures.0 w.least_parent-first.ensures.1
            _ (rw (read _ _ _ _ _ _ c.requires.0 l.v l.tails w.least_parent-first.result w.least_parent-first.ensures.0 (omega arith)) at w.fix_arc.ensures))
        | else-v-root w ↦ rw (w.tails-is, w.first-is) (settled_root a.m.now a.cuts.now a.n a.root a.total 0 a.count c.requires.0 l.v l.tails l.first (omega arith) w.if-v-root.false l.invariant.1)
      ],
    )

pub returns : goal.returns
returns c =
    let a = c.args in
    let l = c.loop-v in
    let e : l.v ≡ a.n = omega arith in
    let d = subst (λ (x : ℕ). Settled a.m.now a.n a.root a.total x l.tails l.first) e l.invariant.1 in
    (d.places, settled_all a.m.now a.cuts.now a.n a.root a.total 0 a.count c.requires.0 l.tails l.first d)
