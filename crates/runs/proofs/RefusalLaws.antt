-- The refusal of a cell by what a program reads, of cells one after the other, and what a graph has that is not
-- refused. Assumes nothing.
use mathlib.Core.Path.{◌≡◌, refl, sym, ◌∙◌}
use mathlib.Core.Bool.{Bool, true, false, ◌&&◌, ◌||◌, cond}
use mathlib.Core.List.{List}
use mathlib.Core.Logic.{◌⊎◌, inl, inr, ◌≢◌}
use Prim.Native.Nat.{ℕ, zero, suc, ◌+◌, ◌-◌, ◌*◌, ◌/◌, ◌%◌, ◌≤◌, ◌<◌}
use native.Mathlib.Omega.{arith}
use native.Mathlib.Decide.{ℕ_discrete}
use lib.Arith.{digits_lt}
use lib.Dec.{ltb, eqb}
use lib.ListN.{length, get_or}
use borrow.Author.Tests.{lt-ltb, le-ltb, ltb-false, eqb-false, eq-eqb, ne_eqb}
use Rattle.base.proofs.BoolLaws.{and_false_right, or_left, or_right, or_false_left, or_false_right, passed}
use Rattle.base.proofs.GridLaws.{grid_at_row, grid_at_column}
use Rattle.base.proofs.ListLaws.{default}
use Rattle.instance.specs.Limits.{max_vertices, no_arc}
use Rattle.instance.specs.RefusalNumbers.{refusal_number}
use Rattle.instance.specs.declared.refusals.Refusal.{Refusal}
use Rattle.instance.specs.Refusals.{buffer_short, count_out_of_range, out_of_range, unequal_pair}
use Rattle.instance.specs.Valid.{cell_ok}
use Rattle.spanning.specs.Graph.{Graph, graph_of}
use Rattle.spanning.specs.Refusal.{same_both_ways, cell_refusal, refusal_from, graph_refusal, room_refusal, call_refusal, ValidGraph}

-- A CELL
module _ (n : ℕ) (ws ms : List ℕ) (i j : ℕ) (inside : i * n + j < length ws) (turned : j * n + i < length ws) where
  abbrev w : ℕ
  w = get_or ws (i * n + j) 0

  abbrev w' : ℕ
  w' = get_or ws (j * n + i) 0

  abbrev m : ℕ
  m = get_or ms (i * n + j) 0

  abbrev m' : ℕ
  m' = get_or ms (j * n + i) 0

  abbrev g : Graph
  g = graph_of n ws ms

  pub edge_read : i ≢ j → cell_refusal g i j ≡ cond (cell_ok w m) (cond (eqb w w' && eqb m m') 0 unequal_pair) out_of_range
  unfolding cell_refusal same_both_ways
  edge_read d = rw (ne_eqb i j d, default ws (i * n + j) 0 no_arc inside, default ws (j * n + i) 0 no_arc turned)

  module _ (d : i ≢ j) where
    pub edge_out : cell_ok w m ≡ false → out_of_range ≡ cell_refusal g i j
    edge_out e = sym (edge_read d ∙ rw e)

    module _ (fine : cell_ok w m ≡ true) where
      pub edge_unequal : (w ≢ w') ⊎ (m ≢ m') → unequal_pair ≡ cell_refusal g i j
      edge_unequal (inl e) = sym (edge_read d ∙ rw (fine, ne_eqb w w' e))
      edge_unequal (inr e) = sym (edge_read d ∙ rw (fine, and_false_right (eqb w w') (eqb m m') (ne_eqb m m' e)))

      pub edge_equal : w ≡ w' → m ≡ m' → 0 ≡ cell_refusal g i j
      edge_equal e f = sym (edge_read d ∙ rw (fine, eq-eqb w w' e, eq-eqb m m' f))

-- the diagonal is not judged
pub edge_same : (g : Graph) (i j : ℕ) → i ≡ j → 0 ≡ cell_refusal g i j
unfolding cell_refusal
edge_same g i j e = rw (eq-eqb i j e)

-- CELLS ONE AFTER THE OTHER
module _ (g : Graph) where
  abbrev here_at : (k : ℕ) → ℕ
  here_at k = cell_refusal g (k / g.n) (k % g.n)

  pub from_first : graph_refusal g ≡ refusal_from g (g.n * g.n - 0) 0
  unfolding graph_refusal
  from_first = let e : g.n * g.n - 0 ≡ g.n * g.n = omega arith in rw e

  module _ (c k : ℕ) (l : k < c) where
    pub from_stop : cell_refusal g (k / g.n) (k % g.n) ≢ 0 → refusal_from g (c - k) k ≡ cell_refusal g (k / g.n) (k % g.n)
    unfolding refusal_from
    from_stop d = let e : c - k ≡ suc (c - (k + 1)) = omega arith in rw (e, ne_eqb (here_at k) 0 d)

    pub from_next : cell_refusal g (k / g.n) (k % g.n) ≡ 0 → refusal_from g (c - k) k ≡ refusal_from g (c - (k + 1)) (k + 1)
    unfolding refusal_from
    from_next z = let e : c - k ≡ suc (c - (k + 1)) = omega arith in let s : suc k ≡ k + 1 = omega arith in rw (e, eq-eqb (here_at k) 0 z, s)

  pub from_end : (c k : ℕ) → c ≤ k → refusal_from g (c - k) k ≡ 0
  unfolding refusal_from
  from_end c k l = let e : c - k ≡ 0 = omega arith in rw e

  -- nothing was found: every cell passes
  none_found : (c k : ℕ) → refusal_from g c k ≡ 0 → (q : ℕ) → k ≤ q → q < k + c → cell_refusal g (q / g.n) (q % g.n) ≡ 0
  unfolding refusal_from
  none_found zero k e q a b = absurd (omega arith)
  none_found (suc c) k e q a b = here (ℕ_discrete (here_at k) 0) (λ r. none_found c (suc k) r)
    where
      here : Dec (here_at k ≡ 0) → (refusal_from g c (suc k) ≡ 0 → (p : ℕ) → suc k ≤ p → p < suc k + c → cell_refusal g (p / g.n) (p % g.n) ≡ 0) → cell_refusal g (q / g.n) (q % g.n) ≡ 0
      here (yes z) rec = first (ℕ_discrete q k)
        where
          first : Dec (q ≡ k) → cell_refusal g (q / g.n) (q % g.n) ≡ 0
          first (yes s) = rw s z
          first (no s) = rec (rw (eq-eqb (here_at k) 0 z) at e) q (omega arith) (omega arith)
      here (no z) rec = absurd (z (rw (ne_eqb (here_at k) 0 z) at e))

  -- A GRAPH THAT IS NOT REFUSED
  module _ (a b : ℕ) (e : call_refusal g a b ≡ 0) where
    both : (x y : ℕ) → cond (eqb x 0) y x ≡ 0 → (x ≡ 0) × (y ≡ 0)
    both x y q = at (ℕ_discrete x 0)
      where
        at : Dec (x ≡ 0) → (x ≡ 0) × (y ≡ 0)
        at (yes z) = (z, rw (eq-eqb x 0 z) at q)
        at (no z) = absurd (z (rw (ne_eqb x 0 z) at q))

    parts : (room_refusal g.n (length g.weights) (length g.marks) a b ≡ 0) × (graph_refusal g ≡ 0)
    unfolding call_refusal
    parts = both (room_refusal g.n (length g.weights) (length g.marks) a b) (graph_refusal g) e

    room : (eqb g.n 0 || ltb max_vertices g.n ≡ false)
        × ((ltb (length g.weights) (g.n * g.n) || ltb (length g.marks) (g.n * g.n)) || (ltb a (g.n * g.n) || ltb b (g.n * g.n)) ≡ false)
    unfolding room_refusal
    room =
        let x = passed (eqb g.n 0 || ltb max_vertices g.n) 28 _ parts.0 in
        let y = passed ((ltb (length g.weights) (g.n * g.n) || ltb (length g.marks) (g.n * g.n)) || (ltb a (g.n * g.n) || ltb b (g.n * g.n))) 13 0 x.1 in
        (x.0, y.0)

    abbrev lists : Bool
    lists = ltb (length g.weights) (g.n * g.n) || ltb (length g.marks) (g.n * g.n)

    abbrev buffers : Bool
    buffers = ltb a (g.n * g.n) || ltb b (g.n * g.n)

    pub not_refused : ValidGraph g
    unfolding graph_refusal
    not_refused =
        let count = room.0 in
        let z = eqb-false g.n 0 (or_false_left (eqb g.n 0) (ltb max_vertices g.n) count) in
        let two = or_false_left lists buffers room.1 in
        record {
          some = positive g.n z;
          small = ltb-false max_vertices g.n (or_false_right (eqb g.n 0) (ltb max_vertices g.n) count);
          weights_size = ltb-false (length g.weights) (g.n * g.n) (or_false_left (ltb (length g.weights) (g.n * g.n)) (ltb (length g.marks) (g.n * g.n)) two);
          marks_size = ltb-false (length g.marks) (g.n * g.n) (or_false_right (ltb (length g.weights) (g.n * g.n)) (ltb (length g.marks) (g.n * g.n)) two);
          edges =
              λ i j ib jb.
              let l : i * g.n + j < g.n * g.n = digits_lt ib jb in
              rw (grid_at_row g.n i j jb, grid_at_column g.n i j jb) at (none_found (g.n * g.n) 0 parts.1 (i * g.n + j) (omega arith) (omega arith));
        }
      where
        positive : (n : ℕ) → n ≢ 0 → 0 < n
        positive zero d = absurd (d refl)
        positive (suc n) d = omega arith

    pub states_room : g.n * g.n ≤ a
    states_room = ltb-false a (g.n * g.n) (or_false_left (ltb a (g.n * g.n)) (ltb b (g.n * g.n)) (or_false_right lists buffers room.1))

    pub costs_room : g.n * g.n ≤ b
    costs_room = ltb-false b (g.n * g.n) (or_false_right (ltb a (g.n * g.n)) (ltb b (g.n * g.n)) (or_false_right lists buffers room.1))

-- the answer from the two refusals
module _ (g : Graph) (a b : ℕ) where
  pub answer_room : (r : ℕ) → r ≡ room_refusal g.n (length g.weights) (length g.marks) a b → r ≢ 0 → r ≡ call_refusal g a b
  unfolding call_refusal
  answer_room r e d = rw (← e, ne_eqb r 0 d)

  pub answer_cells : room_refusal g.n (length g.weights) (length g.marks) a b ≡ 0 → graph_refusal g ≡ call_refusal g a b
  unfolding call_refusal
  answer_cells z = rw (eq-eqb (room_refusal g.n (length g.weights) (length g.marks) a b) 0 z)

-- one test after the other
module _ (n a b c d : ℕ) where
  pub room_count : (n ≡ 0) ⊎ (max_vertices < n) → count_out_of_range ≡ room_refusal n a b c d
  unfolding room_refusal
  room_count (inl e) = rw (eq-eqb n 0 e)
  room_count (inr l) = rw (or_right (eqb n 0) (ltb max_vertices n) (lt-ltb max_vertices n l))

  module _ (some : 1 ≤ n) (small : n ≤ max_vertices) where
    counted : eqb n 0 || ltb max_vertices n ≡ false
    counted = rw (ne_eqb n 0 (λ e. omega arith), le-ltb max_vertices n small)

    abbrev short : Bool
    short = (ltb a (n * n) || ltb b (n * n)) || (ltb c (n * n) || ltb d (n * n))

    by_short : (t : Bool) → short ≡ t → cond t buffer_short 0 ≡ room_refusal n a b c d
    unfolding room_refusal
    by_short t e = sym (rw (counted, e))

    pub room_short : ((a < n * n) ⊎ (b < n * n)) ⊎ ((c < n * n) ⊎ (d < n * n)) → buffer_short ≡ room_refusal n a b c d
    room_short (inl (inl l)) = by_short true (rw (lt-ltb a (n * n) l))
    room_short (inl (inr l)) = by_short true (or_left (ltb a (n * n) || ltb b (n * n)) _ (or_right (ltb a (n * n)) (ltb b (n * n)) (lt-ltb b (n * n) l)))
    room_short (inr (inl l)) = by_short true (or_right (ltb a (n * n) || ltb b (n * n)) _ (or_left (ltb c (n * n)) (ltb d (n * n)) (lt-ltb c (n * n) l)))
    room_short (inr (inr l)) = by_short true (or_right (ltb a (n * n) || ltb b (n * n)) _ (or_right (ltb c (n * n)) (ltb d (n * n)) (lt-ltb d (n * n) l)))

    pub room_enough : n * n ≤ a → n * n ≤ b → n * n ≤ c → n * n ≤ d → 0 ≡ room_refusal n a b c d
    room_enough w x y z = by_short false (rw (le-ltb a (n * n) w, le-ltb b (n * n) x, le-ltb c (n * n) y, le-ltb d (n * n) z))

-- enough room
pub record Room (n a b : ℕ) : Type 0 where
  pub some : 1 ≤ n
  pub small : n ≤ max_vertices
  pub first : n * n ≤ a
  pub second : n * n ≤ b

pub room_passed : (n a b c d : ℕ) → room_refusal n a b c d ≡ 0 → Room n a b
unfolding room_refusal
room_passed n a b c d e =
    let x = passed (eqb n 0 || ltb max_vertices n) 28 _ e in
    let y = passed ((ltb a (n * n) || ltb b (n * n)) || (ltb c (n * n) || ltb d (n * n))) 13 0 x.1 in
    let z = eqb-false n 0 (or_false_left (eqb n 0) (ltb max_vertices n) x.0) in
    let two = or_false_left (ltb a (n * n) || ltb b (n * n)) (ltb c (n * n) || ltb d (n * n)) y.0 in
    record {
      some = positive n z;
      small = ltb-false max_vertices n (or_false_right (eqb n 0) (ltb max_vertices n) x.0);
      first = ltb-false a (n * n) (or_false_left (ltb a (n * n)) (ltb b (n * n)) two);
      second = ltb-false b (n * n) (or_false_right (ltb a (n * n)) (ltb b (n * n)) two);
    }
  where
    positive : (n : ℕ) → n ≢ 0 → 1 ≤ n
    positive zero d = absurd (d refl)
    positive (suc n) d = omega arith
