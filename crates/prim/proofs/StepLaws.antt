-- One step of the search: the nearest vertex picked, and its neighbours joined to it. Assumes nothing.
use mathlib.Core.Path.{◌≡◌, refl, sym, ◌∙◌}
use mathlib.Core.Bool.{Bool, true, false, cond}
use Rattle.std.specs.Prelude.{Option, None, Some}
use mathlib.Core.List.{List}
use mathlib.Core.Logic.{◌⊎◌, inl, inr}
use Prim.Native.Nat.{ℕ, ◌+◌, ◌≤◌, ◌<◌}
use native.Mathlib.Omega.{arith}
use native.Mathlib.Decide.{ℕ_discrete}
use lib.Dec.{ltb}
use lib.ListN.{length, get_or, set, length-set}
use lib.Seq.{get_or-set_same, get_or-set_other}
use borrow.Author.Tests.{ltb-true, ltb-false}
use Rattle.base.proofs.BoolLaws.{test}
use Rattle.instance.specs.Limits.{max_vertices}
use Rattle.spanning.specs.Keys.{no_key}
use Rattle.prim.specs.Growth.{outside_key, TailsBelow, HasLeast, PickedBelow, is_closer, JoinedBelow}

-- THE NEAREST VERTEX
module _ (ks : List ℕ) (fs : List Bool) (ps : List ℕ) where
  pub picked_first : PickedBelow ks fs ps 0 None (no_key + 1)
  picked_first = record { most = omega arith; least_of = λ w l. absurd (omega arith); held = omega arith }

  module _ (v : ℕ) (best : Option ℕ) (least key : ℕ) (p : PickedBelow ks fs ps v best least) (e : key ≡ outside_key ks fs ps v) where
    pub picked_nearer : key < least → PickedBelow ks fs ps (v + 1) (Some v) key
    picked_nearer l =
        let m = p.most in
        record {
          most = omega arith;
          least_of = λ w b. at w b (ℕ_discrete w v);
          held = (omega arith, omega arith, sym e);
        }
      where
        at : (w : ℕ) → w < v + 1 → Dec (w ≡ v) → key ≤ outside_key ks fs ps w
        at w b (yes z) = rw (z, ← e) (omega arith)
        at w b (no z) = let q = p.least_of w (omega arith) in omega arith

    pub picked_farther : least ≤ key → PickedBelow ks fs ps (v + 1) best least
    picked_farther l = record { most = p.most; least_of = λ w b. at w b (ℕ_discrete w v); held = still best p.held }
      where
        at : (w : ℕ) → w < v + 1 → Dec (w ≡ v) → least ≤ outside_key ks fs ps w
        at w b (yes z) = rw (z, ← e) l
        at w b (no z) = p.least_of w (omega arith)

        still : (o : Option ℕ) → HasLeast ks fs ps v least o → HasLeast ks fs ps (v + 1) least o
        still None h = h
        still (Some w) h = (h.0, omega (arith, h.1), h.2)

-- ITS NEIGHBOURS
module _ (ks : List ℕ) (fs : List Bool) (v : ℕ) where
  pub closer_same : (old new : List ℕ) (w : ℕ) → get_or new w 0 ≡ get_or old w 0 → is_closer ks fs new v w ≡ is_closer ks fs old v w
  unfolding is_closer
  closer_same old new w e = rw e

  pub joined_first : (ps : List ℕ) → length ps ≡ max_vertices → JoinedBelow ks fs v 0 ps ps
  joined_first ps e = record { size = e; before = λ w l. absurd (omega arith); after = λ w _. refl }

  module _ (old new : List ℕ) (w : ℕ) (j : JoinedBelow ks fs v w old new) where
    pub joined_set : w < max_vertices → is_closer ks fs new v w ≡ true → JoinedBelow ks fs v (w + 1) old (set new w v)
    joined_set b e =
        let size = j.size in
        record {
          size = simp length-set j.size;
          before = λ x l. at x l (ℕ_discrete x w);
          after = λ x l. get_or-set_other new w x v 0 (λ z. omega arith) ∙ j.after x (omega arith);
        }
      where
        at : (x : ℕ) → x < w + 1 → Dec (x ≡ w) → get_or (set new w v) x 0 ≡ cond (is_closer ks fs old v x) v (get_or old x 0)
        at x l (yes z) = let s = j.size in rw (z, sym (closer_same old new w (j.after w (omega arith))) ∙ e) (get_or-set_same new w v 0 (omega arith))
        at x l (no z) = get_or-set_other new w x v 0 z ∙ j.before x (omega arith)

    pub joined_skip : is_closer ks fs new v w ≡ false → JoinedBelow ks fs v (w + 1) old new
    joined_skip e = record { size = j.size; before = λ x l. at x l (ℕ_discrete x w); after = λ x l. j.after x (omega arith) }
      where
        at : (x : ℕ) → x < w + 1 → Dec (x ≡ w) → get_or new x 0 ≡ cond (is_closer ks fs old v x) v (get_or old x 0)
        at x l (yes z) = rw (z, sym (closer_same old new w (j.after w (omega arith))) ∙ e) (j.after w (omega arith))
        at x l (no z) = j.before x (omega arith)

    pub joined_tails : (n : ℕ) → v < n → TailsBelow n fs old → TailsBelow n fs new
    joined_tails n vb t x xb o = at (test (ltb x w))
      where
        chosen : (b : Bool) → cond b v (get_or old x 0) < n
        chosen true = vb
        chosen false = t x xb o

        at : (ltb x w ≡ true) ⊎ (ltb x w ≡ false) → get_or new x 0 < n
        at (inl l) = rw (j.before x (ltb-true x w l)) (chosen (is_closer ks fs old v x))
        at (inr l) = rw (j.after x (ltb-false x w l)) (t x xb o)
