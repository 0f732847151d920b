-- Laws of paths in a list of parents, and in one that differs from it at one vertex. Assumes nothing.
use mathlib.Core.Path.{◌≡◌, refl, sym, ◌∙◌}
use mathlib.Core.Bool.{true, false, ◌||◌, cond}
use mathlib.Core.List.{List}
use mathlib.Core.Logic.{⊎_elim, ◌≢◌}
use Prim.Native.Nat.{ℕ, zero, suc, ◌≤◌, ◌<◌}
use native.Mathlib.Omega.{arith}
use native.Mathlib.Decide.{ℕ_discrete}
use lib.Dec.{eqb}
use lib.ListN.{length, set, get_or-eq_default}
use lib.Seq.{get_or-set_same, get_or-set_other}
use borrow.Author.Tests.{eqb-true, eqb-false, eq-eqb, ne_eqb}
use Rattle.base.specs.Bounded.{sum_below}
use Rattle.base.proofs.BoolLaws.{test, not_both, or_false_right, or_cases, or_left, or_right}
use Rattle.base.proofs.SumLaws.{sum_shift}
use Rattle.instance.specs.Limits.{max_vertices, no_parent}
use Rattle.instance.specs.Arborescence.{parent, reaches}
use Rattle.paths.specs.Paths.{Rooted, Descends, Avoids, OnPath, start, onward}

-- ONE STEP
module _ (ps : List ℕ) (h v : ℕ) where
  pub descends_here : v ≡ h → Descends ps h v
  unfolding reaches
  descends_here e = (0, eq-eqb v h e)

  pub descends_up : Descends ps h (parent ps v) → Descends ps h v
  unfolding reaches
  descends_up b = (suc b.0, or_right (eqb v h) (reaches b.0 h ps (parent ps v)) b.1)

  pub avoids_up : v ≢ h → Avoids ps h (parent ps v) → Avoids ps h v
  unfolding reaches
  avoids_up e a zero = ne_eqb v h e
  avoids_up e a (suc k) = rw (ne_eqb v h e) (a k)

  pub avoids_here : Avoids ps h v → v ≢ h
  unfolding reaches
  avoids_here a = eqb-false v h (a 0)

  pub avoids_on : Avoids ps h v → Avoids ps h (parent ps v)
  unfolding reaches
  avoids_on a k = or_false_right (eqb v h) (reaches k h ps (parent ps v)) (a (suc k))

  pub descends_on : v ≢ h → Descends ps h v → Descends ps h (parent ps v)
  unfolding reaches
  descends_on e (zero, r) = absurd (e (eqb-true v h r))
  descends_on e (suc k, r) = (k, rw (ne_eqb v h e) at r)

  pub descends_not : Descends ps h v → Avoids ps h v → ⊥
  descends_not b a = not_both (reaches b.0 h ps v) b.1 (a b.0)

pub reach_root : (k r : ℕ) (ps : List ℕ) → reaches k r ps r ≡ true
unfolding reaches
reach_root zero r ps = eq-eqb r r refl
reach_root (suc k) r ps = or_left (eqb r r) (reaches k r ps (parent ps r)) (eq-eqb r r refl)

-- a descendant of a descendant
pub descends_trans : (ps : List ℕ) (h k v : ℕ) → Descends ps k v → Descends ps h k → Descends ps h v
unfolding reaches
descends_trans ps h k v (zero, r) b = rw (eqb-true v k r) b
descends_trans ps h k v (suc j, r) b =
    ⊎_elim (λ (e : eqb v k ≡ true). rw (eqb-true v k e) b) (λ (e : reaches j k ps (parent ps v) ≡ true). descends_up ps h v (descends_trans ps h k (parent ps v) (j, e) b))
    (or_cases (eqb v k) (reaches j k ps (parent ps v)) r)

-- what the path of one that avoids h comes by avoids h, so one that avoids h is no descendant of one of h's
pub avoids_above : (ps : List ℕ) (h k v : ℕ) → Avoids ps h v → Descends ps h k → Avoids ps k v
avoids_above ps h k v a b j =
    ⊎_elim (λ (e : reaches j k ps v ≡ true). absurd (descends_not ps h v (descends_trans ps h k v (j, e) b) a)) (λ (e : reaches j k ps v ≡ false). e)
    (test (reaches j k ps v))

-- whatever lies on the path from a descendant of h is one too
pub path_descends : (ps : List ℕ) (h t v : ℕ) → OnPath ps t h v → Descends ps h t → Descends ps h v
path_descends ps h t v start b = b
path_descends ps h t v (onward {v = u} w e) b = descends_on ps h u e (path_descends ps h t u w b)

-- THE END OF A PATH
-- behind 255, which is what the root has for its parent and a vertex with no parent yet, there is nothing
pub none_avoids : (ps : List ℕ) (h : ℕ) → length ps ≤ no_parent → h < no_parent → Avoids ps h no_parent
unfolding reaches
none_avoids ps h l e zero = ne_eqb no_parent h (omega arith)
none_avoids ps h l e (suc j) = rw (ne_eqb no_parent h (omega arith), get_or-eq_default ps no_parent {n = no_parent} l) (none_avoids ps h l e j)

module _ (n root : ℕ) (ps : List ℕ) where
  -- the number of steps that do not suffice to meet the root
  abbrev pub depth : (v : ℕ) → ℕ
  depth v = sum_below (suc n) (λ j. cond (reaches j root ps v) 0 1)

  module _ (k : Rooted n root ps) where
    -- a parent is less deep
    pub depth_falls : (v : ℕ) → v < n → v ≢ root → depth (parent ps v) < depth v
    unfolding sum_below reaches
    depth_falls v l e =
        let off = ne_eqb v root e in
        let own = sum_shift n (λ j. cond (reaches j root ps v) 0 1) in
        let first : ◌≡◌ {A = ℕ} (cond (eqb v root) 0 1) 1 = rw off in
        let rest : sum_below n (λ j. cond (eqb v root || reaches j root ps (parent ps v)) 0 1) ≡ sum_below n (λ j. cond (reaches j root ps (parent ps v)) 0 1) = rw off in
        let last : ◌≡◌ {A = ℕ} (cond (reaches n root ps (parent ps v)) 0 1) 0 = rw (k.reach (parent ps v) (k.below v l off)) in
        omega arith

    pub root_avoids : n ≤ max_vertices → (h : ℕ) → h < n → h ≢ root → Avoids ps h root
    root_avoids small h inside e =
        let size = k.size in
        avoids_up ps h root (λ z. e (sym z)) (rw k.at_root (none_avoids ps h (omega arith) (omega arith)))

-- NO CYCLE: each step of a path comes nearer to the root, so no path comes back to where it began
module _ (n root : ℕ) (ps : List ℕ) (k : Rooted n root ps) (small : n ≤ max_vertices) (v : ℕ) (below : v < n) (apart : v ≢ root) where
  -- what a path comes to is no deeper than where it began
  no_deeper : (j u : ℕ) → u < n → reaches j v ps u ≡ true → depth n root ps v ≤ depth n root ps u
  unfolding reaches
  no_deeper zero u l e = rw (eqb-true u v e) (omega arith)
  no_deeper (suc j) u l e =
      ⊎_elim (λ (q : eqb u v ≡ true). rw (eqb-true u v q) (omega arith))
      (λ (q : eqb u v ≡ false). at (rw q at e) (no_deeper j) (ℕ_discrete u root) (eqb-false u v q)) (test (eqb u v))
    where
      at : reaches j v ps (parent ps u) ≡ true → ((w : ℕ) → w < n → reaches j v ps w ≡ true → depth n root ps v ≤ depth n root ps w)
          → Dec (u ≡ root) → u ≢ v → depth n root ps v ≤ depth n root ps u
      at q h (yes z) d = absurd (descends_not ps v root (suc j, rw (sym z) e) (root_avoids n root ps k small v below apart))
      at q h (no z) d =
          let a = depth_falls n root ps k u l z in
          let b = h (parent ps u) (k.below u l (ne_eqb u root z)) q in
          omega arith

  pub no_return : Descends ps v (parent ps v) → ⊥
  no_return d =
      let a = depth_falls n root ps k v below apart in
      let b = no_deeper d.0 (parent ps v) (k.below v below (ne_eqb v root apart)) d.1 in
      omega arith

-- THE PARENT OF ONE VERTEX CHANGED
module _ (ps : List ℕ) (h t : ℕ) where
  abbrev qs : List ℕ
  qs = set ps h t

  pub parent_other : (v : ℕ) → v ≢ h → parent qs v ≡ parent ps v
  parent_other v e = get_or-set_other ps h v t no_parent e

  pub parent_same : h < length ps → parent qs h ≡ t
  parent_same l = get_or-set_same ps h t no_parent l

  -- a path that avoids the vertex is the same
  pub path_same : (k r v : ℕ) → Avoids ps h v → reaches k r qs v ≡ reaches k r ps v
  unfolding reaches
  path_same zero r v a = refl
  path_same (suc k) r v a = rw (parent_other v (avoids_here ps h v a), path_same k r (parent ps v) (avoids_on ps h v a))

  pub avoids_same : (r v : ℕ) → Avoids ps h v → Avoids ps r v → Avoids qs r v
  avoids_same r v a b k = path_same k r v a ∙ b k

  -- a path that meets the root does so still, by way of the new parent
  module _ (r : ℕ) (l : h < length ps) (a : Avoids ps h t) (b : Descends ps r t) where
    here : (v : ℕ) → v ≡ h → Descends qs r v
    here v z = descends_up qs r v (rw (z, parent_same l) (b.0, path_same b.0 r t a ∙ b.1))

    pub path_changed : (k v : ℕ) → reaches k r ps v ≡ true → Descends qs r v
    unfolding reaches
    path_changed zero v e = (0, e)
    path_changed (suc k) v e =
        ⊎_elim (λ (f : eqb v r ≡ true). (0, f)) (λ (f : reaches k r ps (parent ps v) ≡ true). at (path_changed k (parent ps v) f) (ℕ_discrete v h))
        (or_cases (eqb v r) (reaches k r ps (parent ps v)) e)
      where
        at : Descends qs r (parent ps v) → Dec (v ≡ h) → Descends qs r v
        at w (yes z) = here v z
        at w (no z) = descends_up qs r v (rw (parent_other v z) w)
