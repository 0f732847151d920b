-- Every number that the call for passive runs gives is one of its own. Assumes nothing.
use mathlib.Core.Path.{◌≡◌, refl}
use mathlib.Core.Bool.{Bool, true, false, ◌||◌, cond}
use Prim.Native.Nat.{ℕ, zero, suc, ◌*◌, ◌/◌, ◌%◌}
use lib.Dec.{ltb, eqb}
use lib.ListN.{length}
use Rattle.base.specs.Lists.{any_of}
use Rattle.instance.specs.Limits.{max_vertices}
use Rattle.instance.specs.Refusals.{buffer_short, count_out_of_range, out_of_range, unequal_pair}
use Rattle.instance.specs.Valid.{cell_ok}
use Rattle.spanning.specs.Graph.{Graph, edge_weight, edge_mark}
use Rattle.spanning.specs.Refusal.{same_both_ways, cell_refusal, refusal_from, graph_refusal, room_refusal, call_refusal, call_numbers}

-- one of two answers, by a test
either_listed : (t : Bool) (x y : ℕ) → any_of (eqb x) call_numbers ≡ true → any_of (eqb y) call_numbers ≡ true → any_of (eqb (cond t x y)) call_numbers ≡ true
either_listed true x y a b = a
either_listed false x y a b = b

module _ (g : Graph) where
  cell_listed : (i j : ℕ) → any_of (eqb (cell_refusal g i j)) call_numbers ≡ true
  unfolding cell_refusal any_of
  cell_listed i j = by (eqb i j) (cell_ok (edge_weight g i j) (edge_mark g i j)) (same_both_ways g i j)
    where
      by : (c d e : Bool) → any_of (eqb (cond c 0 (cond d (cond e 0 unequal_pair) out_of_range))) call_numbers ≡ true
      by true d e = refl
      by false true true = refl
      by false true false = refl
      by false false e = refl

  from_listed : (c k : ℕ) → any_of (eqb (refusal_from g c k)) call_numbers ≡ true
  unfolding refusal_from any_of
  from_listed zero k = refl
  from_listed (suc c) k =
      let here = cell_refusal g (k / g.n) (k % g.n) in
      either_listed (eqb here 0) (refusal_from g c (suc k)) here (from_listed c (suc k)) (cell_listed (k / g.n) (k % g.n))

room_listed : (n a b c d : ℕ) → any_of (eqb (room_refusal n a b c d)) call_numbers ≡ true
unfolding room_refusal any_of
room_listed n a b c d = by (eqb n 0 || ltb max_vertices n) ((ltb a (n * n) || ltb b (n * n)) || (ltb c (n * n) || ltb d (n * n)))
  where
    by : (x y : Bool) → any_of (eqb (cond x count_out_of_range (cond y buffer_short 0))) call_numbers ≡ true
    by true y = refl
    by false true = refl
    by false false = refl

pub call_listed : (g : Graph) (states costs : ℕ) → any_of (eqb (call_refusal g states costs)) call_numbers ≡ true
unfolding call_refusal graph_refusal
call_listed g a b =
    let room = room_refusal g.n (length g.weights) (length g.marks) a b in
    either_listed (eqb room 0) (graph_refusal g) room (from_listed g (g.n * g.n) 0) (room_listed g.n (length g.weights) (length g.marks) a b)
