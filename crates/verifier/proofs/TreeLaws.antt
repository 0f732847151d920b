-- A list of parents that was sent, as a program reads it: the way from a vertex to the root step by step, the parent of
-- a vertex, the weights added up. Assumes nothing.
use mathlib.Core.Path.{◌≡◌, refl, sym, ap, ◌∙◌}
use mathlib.Core.Bool.{true, false, ◌&&◌, cond}
use mathlib.Core.List.{List}
use mathlib.Core.Logic.{◌≢◌}
use Prim.Native.Nat.{ℕ, zero, suc, ◌+◌, ◌-◌, ◌≤◌, ◌<◌}
use native.Mathlib.Omega.{arith}
use lib.Dec.{eqb}
use lib.ListN.{length, get_or, take, get_or-eq_default}
use lib.Seq.{get_or-take, length-take-le}
use borrow.Author.Tests.{eq-eqb, ne_eqb}
use Rattle.base.specs.Bounded.{all_below, sum_below}
use Rattle.base.proofs.SumLaws.{sum_more}
use Rattle.base.proofs.ListLaws.{default}
use Rattle.instance.specs.Limits.{max_vertices, no_parent, cells}
use Rattle.instance.specs.Instance.{cell, weight, is_arc}
use Rattle.instance.specs.Arborescence.{remaining, parent, reaches, parent_ok, is_arborescence, total}
use Rattle.instance.specs.Matrix.{unmarked}
use Rattle.instance.proofs.ArcLaws.{unmarked_remaining, remaining_ends}
use Rattle.instance.proofs.ArborescenceLaws.{joined}
use Rattle.verifier.proofs.CutsLaws.{matrix_weight}
use Rattle.verifier.proofs.RestLaws.{equal_rest, unequal_rest, eqb_turned}

-- THE WAY TO THE ROOT
module _ (r : ℕ) (ps : List ℕ) where
  pub reach_here : (k v : ℕ) → v ≡ r → reaches k r ps v ≡ true
  unfolding reaches
  reach_here zero v e = eq-eqb v r e
  reach_here (suc k) v e = rw (eq-eqb v r e)

  pub reach_up : (k v : ℕ) → 0 < k → v ≢ r → reaches k r ps v ≡ reaches (k - 1) r ps (parent ps v)
  unfolding reaches
  reach_up zero v l e = absurd (omega arith)
  reach_up (suc k) v l e = let d : suc k - 1 ≡ k = omega arith in rw (ne_eqb v r e, d)

  -- what is no vertex leads nowhere
  pub reach_lost : r < length ps → length ps ≤ no_parent → (k v : ℕ) → length ps ≤ v → reaches k r ps v ≡ false
  unfolding reaches
  reach_lost b s zero v l = ne_eqb v r (λ e. omega arith)
  reach_lost b s (suc k) v l =
      let p : parent ps v ≡ no_parent = get_or-eq_default ps no_parent {n = v} l in
      rw (ne_eqb v r (λ e. omega arith), p) (reach_lost b s k no_parent s)

-- WHAT IS READ OF THE LIST
module _ (n : ℕ) (ps : List ℕ) (long : n ≤ length ps) where
  pub sent_length : length (take n ps) ≡ n
  sent_length = length-take-le n ps long

  pub sent_parent : (v : ℕ) → v < n → get_or ps v 0 ≡ parent (take n ps) v
  sent_parent v l = default ps v 0 no_parent (omega arith) ∙ sym (get_or-take n ps v no_parent l)

  module _ (root : ℕ) (m : List ℕ) (v : ℕ) (l : v < n) where
    -- the root's byte; elsewhere an arc from the parent, and a way to the root
    pub root_ok : v ≡ root → eqb (get_or ps v 0) no_parent ≡ parent_ok (unmarked n root m) (take n ps) v
    unfolding parent_ok unmarked
    root_ok e = rw (eq-eqb v root e, sent_parent v l)

    arc_same : remaining (unmarked n root m) (parent (take n ps) v) v ≡ is_arc (unmarked n root m) (get_or ps v 0) v
    arc_same = unmarked_remaining n root m (parent (take n ps) v) v ∙ ap (λ (t : ℕ). is_arc (unmarked n root m) t v) (sym (sent_parent v l))

    pub arc_ok : v ≢ root → is_arc (unmarked n root m) (get_or ps v 0) v ≡ true → reaches n root (take n ps) v ≡ parent_ok (unmarked n root m) (take n ps) v
    unfolding parent_ok unmarked
    arc_ok e a = let q = arc_same ∙ a in let z = ne_eqb v root e in ok z q
      where
        ok : eqb v root ≡ false → remaining (unmarked n root m) (parent (take n ps) v) v ≡ true →
            reaches n root (take n ps) v
            ≡ cond (eqb v root) (eqb (parent (take n ps) v) no_parent) (remaining (unmarked n root m) (parent (take n ps) v) v && reaches n root (take n ps) v)
        ok z q = rw (z, q)

    pub no_arc_ok : v ≢ root → is_arc (unmarked n root m) (get_or ps v 0) v ≡ false → false ≡ parent_ok (unmarked n root m) (take n ps) v
    unfolding parent_ok unmarked
    no_arc_ok e a = let q = arc_same ∙ a in let z = ne_eqb v root e in ok z q
      where
        ok : eqb v root ≡ false → remaining (unmarked n root m) (parent (take n ps) v) v ≡ false →
            false
            ≡ cond (eqb v root) (eqb (parent (take n ps) v) no_parent) (remaining (unmarked n root m) (parent (take n ps) v) v && reaches n root (take n ps) v)
        ok z q = rw (z, q)

  -- every vertex has one
  pub all_ok : (root : ℕ) (m : List ℕ) → is_arborescence (unmarked n root m) (take n ps) ≡ all_below n (parent_ok (unmarked n root m) (take n ps))
  unfolding is_arborescence unmarked
  all_ok root m = rw (eq-eqb (length (take n ps)) n sent_length)

  -- WHAT THE ARCS COST
  module _ (root : ℕ) (m : List ℕ) (small : n ≤ max_vertices) (size : length m ≡ cells) (a : is_arborescence (unmarked n root m) (take n ps) ≡ true)
      (v : ℕ) (l : v < n) (e : v ≢ root) where
    pub tail_below : get_or ps v 0 < n
    unfolding unmarked
    tail_below =
        rw (sent_parent v l) (remaining_ends (unmarked n root m) (parent (take n ps) v) v (joined (unmarked n root m) (take n ps) a v l (ne_eqb v root e)).arc).tail_below

    pub arc_weight : get_or m (cell (get_or ps v 0) v) 0 ≡ cond (eqb v root) 0 (weight (unmarked n root m) (parent (take n ps) v) v)
    arc_weight =
        let b = tail_below in
        rw (ne_eqb v root e, ← sent_parent v l) (matrix_weight n root m (get_or ps v 0) v size (omega arith))

-- THE TOTAL: the arcs into the vertices below v are still to be paid from what is left
abbrev pub cost : (n root : ℕ) → (matrix parents : List ℕ) → (v : ℕ) → ℕ
cost n root m ps v = cond (eqb v root) 0 (weight (unmarked n root m) (parent (take n ps) v) v)

abbrev pub Paying : (n root : ℕ) → (matrix parents : List ℕ) → (total v rest : ℕ) → Type 0
Paying n root m ps total_sent v rest =
    (v ≤ n) × (eqb (total (unmarked n root m) (take n ps)) total_sent ≡ eqb (sum_below v (cost n root m ps)) rest)

module _ (n root : ℕ) (m ps : List ℕ) (total_sent : ℕ) where
  pub paying_all : Paying n root m ps total_sent n total_sent
  unfolding total unmarked
  paying_all = (omega arith, refl)

  module _ (v rest : ℕ) (some : 0 < v) (p : Paying n root m ps total_sent v rest) where
    step : sum_below v (cost n root m ps) ≡ cost n root m ps (v - 1) + sum_below (v - 1) (cost n root m ps)
    step = let e : v ≡ (v - 1) + 1 = omega arith in ap (λ (j : ℕ). sum_below j (cost n root m ps)) e ∙ sum_more (v - 1) (cost n root m ps)

    pub paying_less : cost n root m ps (v - 1) ≤ rest → Paying n root m ps total_sent (v - 1) (rest - cost n root m ps (v - 1))
    paying_less b = (
      omega (arith, p.0),
      p.1 ∙ ap (λ (x : ℕ). eqb x rest) step ∙ equal_rest (cost n root m ps (v - 1)) (sum_below (v - 1) (cost n root m ps)) rest b,
    )

    pub paying_past : rest < cost n root m ps (v - 1) → eqb (total (unmarked n root m) (take n ps)) total_sent ≡ false
    paying_past b = p.1 ∙ ap (λ (x : ℕ). eqb x rest) step ∙ unequal_rest (cost n root m ps (v - 1)) (sum_below (v - 1) (cost n root m ps)) rest b

  pub paying_none : (v rest : ℕ) → v ≤ 0 → Paying n root m ps total_sent v rest → eqb rest 0 ≡ eqb (total (unmarked n root m) (take n ps)) total_sent
  unfolding sum_below
  paying_none v rest z p = let e : v ≡ 0 = omega arith in eqb_turned rest 0 ∙ sym (p.1 ∙ rw e)
