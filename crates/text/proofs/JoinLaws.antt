-- Pieces of text joined one after the other: how a loop writes them. Assumes nothing.
use mathlib.Core.List.{List, ◌++◌}
use Prim.Native.Nat.{ℕ, ◌+◌, ◌≤◌, ◌<◌}
use native.Mathlib.Omega.{arith}
use lib.ListN.{length}
use Rattle.base.specs.Lists.{join_below}
use Rattle.base.proofs.JoinLaws.{join_more, join_length}
use Rattle.base.proofs.SumLaws.{sum_longer}
use Rattle.text.specs.Buffer.{Room, Puts}
use Rattle.text.proofs.BufferLaws.{puts_none, puts_room, puts_then}

module _ (g : ℕ → List ℕ) where
  -- A LOOP: nothing yet
  pub join_none : (old : List ℕ) (at : ℕ) → Puts (join_below 0 g) old old at at
  unfolding join_below
  join_none old at = puts_none old at

  module _ {old mid : List ℕ} {at m : ℕ} (n k : ℕ) (room : Room (join_below n g) old at) (h : k < n) (a : Puts (join_below k g) old mid at m) where
    part : Room (join_below k g ++ g k) old at
    part =
        let l = sum_longer (λ i. length (g i)) (k + 1) n (omega arith) in
        let fits : at + length (join_below (k + 1) g) ≤ length old = omega (arith, room.long_enough, join_length g (k + 1), join_length g n) in
        let r : Room (join_below (k + 1) g) old at = record { long_enough = fits } in
        rw (join_more g k) at r

    -- there is room for the next, and it makes one more
    pub join_room : Room (g k) mid m
    join_room = puts_room a (g k) part

    pub join_next : {new : List ℕ} {r : ℕ} → Puts (g k) mid new m r → Puts (join_below (k + 1) g) old new at r
    join_next b = rw (join_more g k) (puts_then a part b)
