-- The search for a cycle as two loops: what holds between walks, and on one. A walk ends since each of its steps stamps
-- a place that had no stamp. Assumes nothing.
use mathlib.Core.Path.{◌≡◌, refl, sym, subst, ◌∙◌}
use mathlib.Core.Bool.{true, false, cond}
use mathlib.Core.List.{List, [], ◌∷◌}
use mathlib.Core.Logic.{◌≢◌, ◌⊎◌, inl, inr, ⊎_elim}
use Prim.Native.Nat.{ℕ, zero, suc, ◌+◌, ◌≤◌, ◌<◌}
use native.Mathlib.Omega.{arith}
use native.Mathlib.Nat.{eq-or-lt_of_le}
use lib.Dec.{eqb}
use lib.ListN.{length, set, length-set, replicate}
use lib.Seq.{get_or-set_same, get_or-set_other}
use borrow.Author.Tests.{eqb-true, eqb-false, eq-eqb, ne_eqb}
use Rattle.base.proofs.BoolLaws.{test}
use Rattle.instance.specs.Limits.{max_vertices}
use Rattle.contraction.specs.Groups.{Along, stop}
use Rattle.contraction.specs.Search.{Walk}
use Rattle.contraction.proofs.SearchLaws.{ended, onward, restart}
use Rattle.contraction.specs.Cells.{nth}
use Rattle.cycles.specs.Cycle.{Searchable, Met, NoCycle}

-- how many places hold 0
unfoldable pub zeros : List ℕ → ℕ
zeros [] = 0
zeros (x ∷ xs) = cond (eqb x 0) 1 0 + zeros xs

zeros_set : (l : List ℕ) (i x : ℕ) → i < length l → nth l i ≡ 0 → x ≢ 0 → zeros (set l i x) + 1 ≡ zeros l
unfolding zeros
zeros_set [] i x l z nz = absurd (omega arith)
zeros_set (y ∷ ys) zero x l z nz =
    let a : ◌≡◌ {A = ℕ} (cond (eqb x 0) 1 0) 0 = rw (ne_eqb x 0 nz) in
    let b : ◌≡◌ {A = ℕ} (cond (eqb y 0) 1 0) 1 = rw (eq-eqb y 0 z) in
    omega arith
zeros_set (y ∷ ys) (suc i) x l z nz = let ih = zeros_set ys i x (omega arith) z nz in omega arith

all_zero : (k g : ℕ) → ◌≡◌ {A = ℕ} (nth (replicate k 0) g) 0
all_zero zero g = refl
all_zero (suc k) zero = refl
all_zero (suc k) (suc g) = all_zero k g

-- every group below s has led to the root's
pub record Between (ls tails : List ℕ) (n root : ℕ) (stamp : List ℕ) (now s : ℕ) : Type 0 where
  pub size : length stamp ≡ max_vertices
  pub walk : Walk n root (nth ls) (nth tails) (nth stamp) now now (nth ls root)
  pub passed : (v : ℕ) → v < s → nth ls v ≡ v → (v ≡ nth ls root) ⊎ (1 ≤ nth stamp v)
  pub room : now + zeros stamp ≡ max_vertices + 1

-- the walk from s has come to v
pub record Walking (ls tails : List ℕ) (n root : ℕ) (stamp : List ℕ) (first now s v : ℕ) : Type 0 where
  pub size : length stamp ≡ max_vertices
  pub walk : Walk n root (nth ls) (nth tails) (nth stamp) first now v
  pub passed : (u : ℕ) → u < s → nth ls u ≡ u → (u ≡ nth ls root) ⊎ (1 ≤ nth stamp u)
  pub start : (s ≡ v) ⊎ (1 ≤ nth stamp s)
  pub room : now + zeros stamp ≡ max_vertices + 1

module _ (ls tails : List ℕ) (n root : ℕ) (sb : Searchable ls tails n root) where
  pub none_stamped : Between ls tails n root (replicate max_vertices 0) 1 0
  unfolding zeros
  none_stamped =
      let z : (g : ℕ) → nth (replicate max_vertices 0) g ≡ 0 = λ g. all_zero max_vertices g in
      record {
        size = refl;
        walk =
            record {
              first_pos = omega arith;
              first_now = omega arith;
              v_below = sb.labels.below root sb.labels.root_below;
              v_label = sb.labels.self root sb.labels.root_below;
              old = λ g l m. absurd (omega (arith, z g));
              new = λ g l. absurd (omega (arith, z g));
              last = λ g. omega (arith, z g);
              distinct = λ g h l e. absurd (omega (arith, z g));
              stamped = λ g l. absurd (omega (arith, z g));
            };
        passed = λ v l. absurd (omega arith);
        room = refl;
      }

  module _ (stamp : List ℕ) (now s : ℕ) (b : Between ls tails n root stamp now s) where
    -- s is no group's label
    pub pass : nth ls s ≢ s → Between ls tails n root stamp now (s + 1)
    pass ne =
        record {
          size = b.size;
          walk = b.walk;
          passed = λ v l e. ⊎_elim (λ (d : v ≡ s). absurd (ne (rw (← d) e))) (λ (d : v < s). b.passed v d e) (eq-or-lt_of_le {n = v} {m = s} (omega arith));
          room = b.room;
        }

    pub no_cycle : n ≤ s → NoCycle ls tails n root
    no_cycle l v m =
        let g = nth ls v in
        let gl = sb.labels.below v m in
        ⊎_elim (λ (e : g ≡ nth ls root). stop e)
        (λ (e : 1 ≤ nth stamp g). ended n root (nth ls) (nth tails) (nth stamp) now now (nth ls root) b.walk (stop refl) g e)
        (b.passed g (omega arith) (sb.labels.self v m))

  module _ (stamp : List ℕ) (first now s v : ℕ) (k : Walking ls tails n root stamp first now s v) where
    pub met : first ≤ nth stamp v → Met ls tails stamp n root v
    met l = record { first = first; last = now; walk = k.walk; met = l }

    pub in_range : v < max_vertices
    in_range = omega (arith, k.walk.v_below, sb.small)

    pub tail_below : v ≢ nth ls root → nth tails v < n
    tail_below ne = sb.arc v (k.walk.v_below, k.walk.v_label, ne)

    pub onwards : v ≢ nth ls root → nth stamp v ≡ 0 → Walking ls tails n root (set stamp v now) first (now + 1) s (nth ls (nth tails v))
    onwards ne z =
        let size = k.size in
        let inside = in_range in
        let same : nth (set stamp v now) v ≡ now = get_or-set_same stamp v now 0 (omega arith) in
        let others : (g : ℕ) → g ≢ v → nth (set stamp v now) g ≡ nth stamp g = λ g off. get_or-set_other stamp v g now 0 off in
        let pos : 1 ≤ now = omega (arith, k.walk.first_pos, k.walk.first_now) in
        let still : (u : ℕ) → 1 ≤ nth stamp u → 1 ≤ nth (set stamp v now) u =
        λ u l. ⊎_elim (λ (e : eqb u v ≡ true). rw (eqb-true u v e, same) pos) (λ (e : eqb u v ≡ false). omega (arith, others u (eqb-false u v e))) (test (eqb u v)) in
        record {
          size = simp length-set size;
          walk = onward n root (nth ls) (nth tails) (nth stamp) first now v k.walk sb.labels sb.arc (nth (set stamp v now)) z ne same others;
          passed = λ u l e. ⊎_elim (λ (d : u ≡ nth ls root). inl d) (λ (d : 1 ≤ nth stamp u). inr (still u d)) (k.passed u l e);
          start = inr (⊎_elim (λ (d : s ≡ v). rw (d, same) pos) (λ (d : 1 ≤ nth stamp s). still s d) k.start);
          room = omega (arith, zeros_set stamp v now (omega arith) z (omega arith), k.room);
        }

    pub ends : (v ≡ nth ls root) ⊎ ((1 ≤ nth stamp v) × (nth stamp v < first)) → Between ls tails n root stamp now (s + 1)
    ends why =
        let home : Along (λ x. nth ls (nth tails x)) (nth ls root) v =
        ⊎_elim (λ (d : v ≡ nth ls root). stop d) (λ (d : (1 ≤ nth stamp v) × (nth stamp v < first)). k.walk.old v d.0 d.1) why in
        let at_s : (s ≡ nth ls root) ⊎ (1 ≤ nth stamp s) =
        ⊎_elim
        (λ (e : s ≡ v). ⊎_elim (λ (d : v ≡ nth ls root). inl (e ∙ d)) (λ (d : (1 ≤ nth stamp v) × (nth stamp v < first)). inr (rw e d.0)) why)
        (λ (e : 1 ≤ nth stamp s). inr e) k.start in
        record {
          size = k.size;
          walk =
              restart n root (nth ls) (nth tails) (nth stamp) first now v k.walk (nth ls root) home (sb.labels.below root sb.labels.root_below)
              (sb.labels.self root sb.labels.root_below);
          passed = λ u l e. ⊎_elim (λ (d : u ≡ s). subst (λ (x : ℕ). (x ≡ nth ls root) ⊎ (1 ≤ nth stamp x)) (sym d) at_s) (λ (d : u < s). k.passed u d e) (eq-or-lt_of_le {n = u} {m = s} (omega arith));
          room = k.room;
        }

    pub falls : nth stamp v ≡ 0 → zeros (set stamp v now) < zeros stamp
    falls z = omega (arith, zeros_set stamp v now (omega (arith, k.size, in_range)) z (omega (arith, k.walk.first_pos, k.walk.first_now)))
