-- The path between two vertices of a tree. Where one of them is in a set and the other is not, an edge of the path has
-- one end in the set: the paths from both to the root meet, and the set is left, or entered, before they do. Assumes
-- nothing.
use mathlib.Core.Path.{◌≡◌, refl, sym, ap, ◌∙◌}
use mathlib.Core.Bool.{Bool, true, false, not}
use mathlib.Core.List.{List}
use mathlib.Core.Logic.{◌⊎◌, inl, inr, ⊎_elim, ◌≢◌}
use Prim.Native.Nat.{ℕ, zero, suc, ◌≤◌, ◌<◌}
use native.Mathlib.Omega.{arith}
use native.Mathlib.Decide.{ℕ_discrete}
use lib.Dec.{eqb}
use borrow.Author.Tests.{eqb-true, ne_eqb, not-true, not-false}
use Rattle.base.proofs.BoolLaws.{test, not_both, is_false}
use Rattle.instance.specs.Limits.{max_vertices}
use Rattle.instance.specs.Arborescence.{parent, reaches}
use Rattle.instance.proofs.ReachLaws.{enough}
use Rattle.paths.specs.Paths.{Rooted, Descends, Avoids}
use Rattle.paths.proofs.PathLaws.{descends_here, descends_up, descends_on, descends_not, descends_trans, none_avoids, root_avoids, no_return}
use Rattle.spanning.specs.Crossing.{Leaves, Meet, Crosses}

module _ (n root : ℕ) (ps : List ℕ) (k : Rooted n root ps) (small : n ≤ max_vertices) where
  -- A TEST FOR DESCENDANTS: n steps are enough
  steps : (h : ℕ) → h < n → (v : ℕ) → v < n → eqb v h ≡ false → (parent ps v < n) ⊎ ((j : ℕ) → reaches j h ps (parent ps v) ≡ false)
  steps h hb v vb e =
      ⊎_elim
      (λ (z : eqb v root ≡ true).
      let size = k.size in
      inr (rw (eqb-true v root z, k.at_root) (none_avoids ps h (omega arith) (omega arith))))
      (λ (z : eqb v root ≡ false). inl (k.below v vb z)) (test (eqb v root))

  pub avoids_tested : (h v : ℕ) → h < n → v < n → reaches n h ps v ≡ false → Avoids ps h v
  avoids_tested h v hb vb e j =
      is_false (reaches j h ps v) (λ r. not_both (reaches n h ps v) (enough n h ps hb (steps h hb) j v vb r) e)

  pub descends_tested : (h v : ℕ) → h < n → v < n → Descends ps h v → reaches n h ps v ≡ true
  descends_tested h v hb vb d = enough n h ps hb (steps h hb) d.0 v vb d.1

  pub descends_or : (h v : ℕ) → h < n → v < n → Descends ps h v ⊎ Avoids ps h v
  descends_or h v hb vb =
      ⊎_elim (λ (e : reaches n h ps v ≡ true). inl (n, e)) (λ (e : reaches n h ps v ≡ false). inr (avoids_tested h v hb vb e)) (test (reaches n h ps v))

  pub not_descends : (h v : ℕ) → h < n → v < n → (Descends ps h v → ⊥) → Avoids ps h v
  not_descends h v hb vb f = ⊎_elim (λ (d : Descends ps h v). absurd (f d)) (λ (o : Avoids ps h v). o) (descends_or h v hb vb)

  -- a descendant of something other than the root is not the root
  pub under_apart : (h v : ℕ) → h < n → h ≢ root → Descends ps h v → v ≢ root
  under_apart h v hb e d z = descends_not ps h root (rw (sym z) d) (root_avoids n root ps k small h hb e)

  -- LEAVING A SET
  pub leaves : (D : ℕ → Bool) (a : ℕ) → a < n → D a ≡ false → (j v : ℕ) → v < n → reaches j a ps v ≡ true → D v ≡ true → Leaves n root ps D a v
  unfolding reaches
  leaves D a ab o zero v vb r i = absurd (not_both (D v) i (rw (eqb-true v a r) o))
  leaves D a ab o (suc j) v vb r i = at (ℕ_discrete v a) (ℕ_discrete v root) (test (D (parent ps v))) (λ e f g. leaves D a ab o j (parent ps v) (k.below v vb (ne_eqb v root f)) (rw (ne_eqb v a e) at r) g)
    where
      on : v ≢ a → Descends ps a (parent ps v)
      on e = descends_on ps a v e (suc j, r)

      at : Dec (v ≡ a) → Dec (v ≡ root) → (D (parent ps v) ≡ true) ⊎ (D (parent ps v) ≡ false)
          → (v ≢ a → v ≢ root → D (parent ps v) ≡ true → Leaves n root ps D a (parent ps v)) → Leaves n root ps D a v
      at (yes e) f t rec = absurd (not_both (D v) i (rw e o))
      at (no e) (yes f) t rec = absurd (descends_not ps a root (rw (sym f) (suc j, r)) (root_avoids n root ps k small a ab (λ z. e (f ∙ sym z))))
      at (no e) (no f) (inl t) rec =
          let l = rec e f t in
          record { h = l.h; below = l.below; apart = l.apart; under = descends_up ps l.h v l.under; above = l.above; inside = l.inside; outside = l.outside }
      at (no e) (no f) (inr t) rec = record { h = v; below = vb; apart = f; under = descends_here ps v v refl; above = on e; inside = i; outside = t }

  -- WHERE TWO PATHS MEET
  meet_from : (j : ℕ) → j < n → (c i : ℕ) → i < n → reaches c root ps i ≡ true → Meet n ps i j
  unfolding reaches
  meet_from j jb zero i ib r =
      let z = eqb-true i root r in
      record { at = root; below = k.root_below; from_i = descends_here ps root i z; from_j = (n, k.reach j jb); lowest = λ x a b. rw (sym z) a }
  meet_from j jb (suc c) i ib r = at (descends_or i j ib jb) (ℕ_discrete i root) (λ f. meet_from j jb c (parent ps i) (k.below i ib (ne_eqb i root f)) (rw (ne_eqb i root f) at r))
    where
      at : Descends ps i j ⊎ Avoids ps i j → Dec (i ≡ root) → (i ≢ root → Meet n ps (parent ps i) j) → Meet n ps i j
      at (inl d) f rec = record { at = i; below = ib; from_i = descends_here ps i i refl; from_j = d; lowest = λ x a b. a }
      at (inr o) (yes f) rec = absurd (descends_not ps i j (rw f (n, k.reach j jb)) o)
      at (inr o) (no f) rec =
          let m = rec f in
          record {
            at = m.at;
            below = m.below;
            from_i = descends_up ps m.at i m.from_i;
            from_j = m.from_j;
            lowest = λ x a b. m.lowest x (descends_on ps x i (λ z. descends_not ps i j (rw z b) o) a) b;
          }

  pub meet : (i j : ℕ) → i < n → j < n → Meet n ps i j
  meet i j ib jb = meet_from j jb n i ib (k.reach i ib)

  -- THE PATH BETWEEN TWO VERTICES
  module _ (D : ℕ → Bool) (i j : ℕ) (ib : i < n) (jb : j < n) (in_i : D i ≡ true) (out_j : D j ≡ false) where
    -- below where the paths meet only one of the two is a descendant
    alone : (m : Meet n ps i j) (h : ℕ) → h < n → h ≢ root → Descends ps m.at (parent ps h) → Descends ps h i → Descends ps h j → ⊥
    alone m h hb e a b c = no_return n root ps k small h hb e (descends_trans ps h m.at (parent ps h) a (m.lowest h b c))

    pub crosses : Crosses n root ps D i j
    crosses = at (meet i j ib jb) (test (D (meet i j ib jb).at))
      where
        at : (m : Meet n ps i j) → (D m.at ≡ true) ⊎ (D m.at ≡ false) → Crosses n root ps D i j
        at m (inr o) =
            let l = leaves D m.at m.below o m.from_i.0 i ib m.from_i.1 in_i in
            record {
              v = l.h;
              below = l.below;
              apart = l.apart;
              side =
                  inl (l.under, not_descends l.h j l.below jb (λ d. alone m l.h l.below l.apart l.above l.under d), l.inside, l.outside);
            }
        at m (inl y) =
            let l = leaves (λ x. not (D x)) m.at m.below (ap not y) m.from_j.0 j jb m.from_j.1 (ap not out_j) in
            record {
              v = l.h;
              below = l.below;
              apart = l.apart;
              side =
                  inr (
                    not_descends l.h i l.below ib (λ d. alone m l.h l.below l.apart l.above d l.under),
                    l.under,
                    not-true (D l.h) l.inside,
                    not-false (D (parent ps l.h)) l.outside,
                  );
            }
