-- Pins and bans are kept: an arborescence uses every pinned arc and no banned one. Assumes nothing.
use mathlib.Core.Path.{◌≡◌, sym}
use mathlib.Core.Bool.{true, false, ◌&&◌, not}
use mathlib.Core.List.{List}
use Prim.Native.Nat.{ℕ}
use lib.Dec.{eqb}
use borrow.Author.Tests.{eqb-true, eq-eqb, not-true}
use Rattle.base.proofs.BoolLaws.{and_left, and_right, and_both, is_true, is_false, not_both}
use Rattle.base.proofs.BoundedLaws.{any_intro}
use Rattle.instance.specs.Limits.{pinned, banned}
use Rattle.instance.specs.Instance.{Instance, mark, is_arc}
use Rattle.instance.specs.Arborescence.{is_pinned, other_pinned, remaining, parent, is_arborescence, uses}
use Rattle.instance.proofs.ArcLaws.{arc_ends}
use Rattle.instance.proofs.ArborescenceLaws.{joined, uses_remains}

-- what a remaining arc is, beside an arc
module _ (s : Instance) (t h : ℕ) (e : remaining s t h ≡ true) where
  allowed : not (eqb (mark s t h) banned) && not (other_pinned s t h) ≡ true
  unfolding remaining
  allowed = and_right (is_arc s t h) (not (eqb (mark s t h) banned) && not (other_pinned s t h)) e

  remaining_unbanned : eqb (mark s t h) banned ≡ false
  remaining_unbanned = not-true (eqb (mark s t h) banned) (and_left (not (eqb (mark s t h) banned)) (not (other_pinned s t h)) allowed)

  remaining_alone : other_pinned s t h ≡ false
  remaining_alone = not-true (other_pinned s t h) (and_right (not (eqb (mark s t h) banned)) (not (other_pinned s t h)) allowed)

module _ (s : Instance) (ps : List ℕ) (a : is_arborescence s ps ≡ true) (t h : ℕ) where
  -- "and not entering a position that has a different pinned feeder"
  pub pinned_used : is_pinned s t h ≡ true → uses ps t h ≡ true
  unfolding is_pinned other_pinned uses
  pinned_used p =
      let arc = and_left (is_arc s t h) (eqb (mark s t h) pinned) p in
      let k = arc_ends s t h arc in
      let alone = remaining_alone s (parent ps h) h (joined s ps a h k.head_below k.not_root).arc in
      let other : eqb t (parent ps h) ≡ false → ⊥ =
      λ d.
      not_both (other_pinned s (parent ps h) h)
      (any_intro s.n (λ g. not (eqb g (parent ps h)) && is_pinned s g h) t k.tail_below (and_both (not (eqb t (parent ps h))) (is_pinned s t h) (rw d) p))
      alone in
      eq-eqb (parent ps h) t (sym (eqb-true t (parent ps h) (is_true (eqb t (parent ps h)) other)))

  -- "not banned"
  pub banned_unused : is_arc s t h ≡ true → mark s t h ≡ banned → uses ps t h ≡ false
  banned_unused arc m =
      let k = arc_ends s t h arc in
      is_false (uses ps t h)
      (λ u.
      not_both (eqb (mark s t h) banned) (eq-eqb (mark s t h) banned m)
      (remaining_unbanned s t h (uses_remains s ps t h a k.head_below k.not_root u)))
