-- States and costs of a place, by what a program reads. Assumes nothing.
use mathlib.Core.Path.{◌≡◌, refl, sym, ◌∙◌}
use mathlib.Core.Bool.{Bool, true, false, cond}
use mathlib.Core.List.{List}
use mathlib.Core.Logic.{◌⊎◌, inl, inr, ◌≢◌}
use Prim.Native.Nat.{ℕ, ◌/◌, ◌%◌, ◌<◌}
use lib.Dec.{eqb}
use lib.ListN.{get_or, take}
use borrow.Author.Tests.{eq-eqb, ne_eqb}
use Rattle.instance.specs.Limits.{no_arc}
use Rattle.instance.specs.Arborescence.{parent}
use Rattle.paths.proofs.TreeLaws.{parent_read}
use Rattle.spanning.specs.Keys.{cost_by}
use Rattle.spanning.specs.KeyTables.{key_at, least_crossing, greatest_between}
use Rattle.spanning.specs.ReplacementCosts.{not_in_tree}
use Rattle.runs.specs.Tables.{Places}
use Rattle.runs.specs.Replacement.{cost_of}
use Rattle.runs.specs.Show.{inside_state, outside_state, tree_state, place_state, closed_state, pair_cost}

-- THE COST OF A VERTEX'S EDGE
module _ (ks : List ℕ) (n : ℕ) (ps : List ℕ) (v : ℕ) where
  pub cost_root : v ≡ 0 → 0 ≡ cost_of ks n ps v
  unfolding cost_of
  cost_root e = rw (eq-eqb v 0 e)

  pub cost_edge : v ≢ 0 → cost_by (key_at ks (parent ps v) v) (least_crossing ks n ps v) ≡ cost_of ks n ps v
  unfolding cost_of
  cost_edge d = rw (ne_eqb v 0 d)

-- AN EDGE
module _ (n : ℕ) (ps : List ℕ) (p : Places n ps) (i j : ℕ) (ib : i < n) (jb : j < n) where
  read : (v : ℕ) → v < n → get_or ps v 0 ≡ parent (take n ps) v
  read v vb = parent_read n v ps p.small p.size vb

  below_j : get_or ps j 0 ≡ i → eqb (parent (take n ps) j) i ≡ true
  below_j e = eq-eqb (parent (take n ps) j) i (sym (read j jb) ∙ e)

  not_j : get_or ps j 0 ≢ i → eqb (parent (take n ps) j) i ≡ false
  not_j d = ne_eqb (parent (take n ps) j) i (λ z. d (read j jb ∙ z))

  below_i : get_or ps i 0 ≡ j → eqb (parent (take n ps) i) j ≡ true
  below_i e = eq-eqb (parent (take n ps) i) j (sym (read i ib) ∙ e)

  not_i : get_or ps i 0 ≢ j → eqb (parent (take n ps) i) j ≡ false
  not_i d = ne_eqb (parent (take n ps) i) j (λ z. d (read i ib ∙ z))

  module _ (ks : List ℕ) (t l : ℕ) where
    pub tree_down : get_or ps j 0 ≡ i → inside_state (cost_of ks n (take n ps) j) t l ≡ tree_state ks n (take n ps) t l i j
    unfolding tree_state
    tree_down e = rw (below_j e)

    pub tree_up : get_or ps j 0 ≢ i → get_or ps i 0 ≡ j → inside_state (cost_of ks n (take n ps) i) t l ≡ tree_state ks n (take n ps) t l i j
    unfolding tree_state
    tree_up d e = rw (not_j d, below_i e)

    pub tree_out : get_or ps j 0 ≢ i → get_or ps i 0 ≢ j → outside_state (key_at ks i j) (greatest_between ks n (take n ps) i j) t l ≡ tree_state ks n (take n ps) t l i j
    unfolding tree_state
    tree_out d e = rw (not_j d, not_i e)

  module _ (f : ℕ → ℕ) where
    pub pair_down : get_or ps j 0 ≡ i → f j ≡ pair_cost (take n ps) f i j
    unfolding pair_cost
    pair_down e = rw (below_j e)

    pub pair_up : get_or ps j 0 ≢ i → get_or ps i 0 ≡ j → f i ≡ pair_cost (take n ps) f i j
    unfolding pair_cost
    pair_up d e = rw (not_j d, below_i e)

    pub pair_out : get_or ps j 0 ≢ i → get_or ps i 0 ≢ j → not_in_tree ≡ pair_cost (take n ps) f i j
    unfolding pair_cost
    pair_out d e = rw (not_j d, not_i e)

-- A PLACE
module _ (ws : List ℕ) (n k : ℕ) where
  module _ (ks ps : List ℕ) (t l : ℕ) where
    pub place_absent : (k / n ≡ k % n) ⊎ (get_or ws k 0 ≡ no_arc) → 0 ≡ place_state ws ks n ps t l k
    unfolding place_state
    place_absent (inl e) = rw (eq-eqb (k / n) (k % n) e)
    place_absent (inr e) = at (eqb (k / n) (k % n))
      where
        at : (b : Bool) → 0 ≡ cond b 0 (cond (eqb (get_or ws k 0) no_arc) 0 (tree_state ks n ps t l (k / n) (k % n)))
        at true = refl
        at false = rw (eq-eqb (get_or ws k 0) no_arc e)

    pub place_edge : k / n ≢ k % n → get_or ws k 0 ≢ no_arc → tree_state ks n ps t l (k / n) (k % n) ≡ place_state ws ks n ps t l k
    unfolding place_state
    place_edge d e = rw (ne_eqb (k / n) (k % n) d, ne_eqb (get_or ws k 0) no_arc e)

  -- where there is no tree
  pub closed_absent : (k / n ≡ k % n) ⊎ (get_or ws k 0 ≡ no_arc) → 0 ≡ closed_state ws n k
  unfolding closed_state
  closed_absent (inl e) = rw (eq-eqb (k / n) (k % n) e)
  closed_absent (inr e) = at (eqb (k / n) (k % n))
    where
      at : (b : Bool) → ◌≡◌ {A = ℕ} 0 (cond b 0 (cond (eqb (get_or ws k 0) no_arc) 0 1))
      at true = refl
      at false = rw (eq-eqb (get_or ws k 0) no_arc e)

  pub closed_edge : k / n ≢ k % n → get_or ws k 0 ≢ no_arc → 1 ≡ closed_state ws n k
  unfolding closed_state
  closed_edge d e = rw (ne_eqb (k / n) (k % n) d, ne_eqb (get_or ws k 0) no_arc e)
