-- The search by stamps: a walk that comes to a stamp of its own has closed a cycle; one that comes to the root's group,
-- or to an older stamp, has none behind it; and how a walk goes on. Assumes nothing.
use mathlib.Core.Path.{◌≡◌, refl, sym, ◌∙◌, subst}
use mathlib.Core.Bool.{Bool, true, false}
use mathlib.Core.Logic.{◌⊎◌, inl, inr, ⊎_elim, ◌≢◌}
use Prim.Native.Nat.{ℕ, zero, suc, ◌+◌, ◌-◌, ◌≤◌, ◌<◌}
use native.Mathlib.Omega.{arith}
use lib.Dec.{leb, eqb}
use borrow.Author.Tests.{eqb-true, eqb-false, leb-true, le-leb, leb-false}
use Rattle.base.proofs.BoolLaws.{test}
use Rattle.contraction.specs.Groups.{Labels, Group, Chosen, Along, stop, go, Cycle}
use Rattle.contraction.specs.Search.{Walk, on_cycle}

along_trans : {next : ℕ → ℕ} {a b g : ℕ} → Along next a g → Along next b a → Along next b g
along_trans {next} {a} {b} (stop e) k = subst (λ (x : ℕ). Along next b x) (sym e) k
along_trans (go m) k = go (along_trans m k)

same_or_not : (g v : ℕ) → (g ≡ v) ⊎ (g ≢ v)
same_or_not g v = ⊎_elim (λ (e : eqb g v ≡ true). inl (eqb-true g v e)) (λ (e : eqb g v ≡ false). inr (eqb-false g v e)) (test (eqb g v))

module _ (n root : ℕ) (label tail stamp : ℕ → ℕ) (first now v : ℕ) (k : Walk n root label tail stamp first now v) where
  abbrev follow : ℕ → ℕ
  follow g = label (tail g)

  -- every group of this walk comes to v
  to_v : (left g : ℕ) → first ≤ stamp g → now ≤ stamp g + left → Along follow v g
  to_v zero g l m = absurd (omega (arith, k.last g))
  to_v (suc d) g l m =
      ⊎_elim (λ (e : suc (stamp g) ≡ stamp (follow g)). go (to_v d (follow g) (omega arith) (omega arith)))
      (λ (e : (follow g ≡ v) × (suc (stamp g) ≡ now)). go (stop e.0)) (k.new g l)

  -- and x comes to each that is stamped later
  from_x : (d x g : ℕ) → first ≤ stamp x → stamp x + d ≡ stamp g → Along follow g x
  from_x zero x g l e = stop (k.distinct x g (omega (arith, k.first_pos)) (omega arith))
  from_x (suc d) x g l e =
      ⊎_elim (λ (h : suc (stamp x) ≡ stamp (follow x)). go (from_x d (follow x) g (omega arith) (omega arith)))
      (λ (h : (follow x ≡ v) × (suc (stamp x) ≡ now)). absurd (omega (arith, k.last g, h.1))) (k.new x l)

  abbrev on : ℕ → Bool
  on = on_cycle stamp v

  -- the walk meets itself
  pub cycle : (w : ℕ → ℕ → ℕ) (head : ℕ → ℕ) → Chosen n root w label tail head → first ≤ stamp v → Cycle n root w label tail head (on_cycle stamp v) v
  cycle w head ch met =
      let later : (g : ℕ) → on g ≡ true → stamp v ≤ stamp g = λ g i. leb-true (stamp v) (stamp g) i in
      let gr : (g : ℕ) → on g ≡ true → Group n root label g = λ g i. k.stamped g (omega (arith, later g i, k.first_pos)) in
      record {
        root_off = ⊎_elim (λ (i : on (label root) ≡ true). absurd ((gr (label root) i).2 refl)) (λ (i : on (label root) ≡ false). i) (test (on (label root)));
        c_on = le-leb (stamp v) (stamp v) (omega arith);
        head_below = λ g i. ch.head_below g (gr g i);
        head_in = λ g i. ch.head_in g (gr g i);
        tail_below = λ g i. ch.tail_below g (gr g i);
        tail_on =
            λ g i.
            ⊎_elim (λ (e : suc (stamp g) ≡ stamp (follow g)). le-leb (stamp v) (stamp (follow g)) (omega (arith, later g i)))
            (λ (e : (follow g ≡ v) × (suc (stamp g) ≡ now)). rw e.0 (le-leb (stamp v) (stamp v) (omega arith))) (k.new g (omega (arith, later g i)));
        tail_out = λ g i. ch.tail_out g (gr g i);
        tight = λ g i. ch.tight g (gr g i);
        round =
            λ g h i j.
            along_trans (to_v now g (omega (arith, later g i)) (omega arith)) (from_x (stamp h - stamp v) v h met (omega (arith, later h j)));
      }

  -- the walk ends where the root's group is come to: from every stamped group it is
  pub ended : Along follow (label root) v → (g : ℕ) → 1 ≤ stamp g → Along follow (label root) g
  ended a g l =
      ⊎_elim (λ (e : leb first (stamp g) ≡ true). along_trans (to_v now g (leb-true first (stamp g) e) (omega arith)) a)
      (λ (e : leb first (stamp g) ≡ false). k.old g l (leb-false first (stamp g) e)) (test (leb first (stamp g)))

  -- v is stamped, and the walk goes on to the group of its arc's tail
  pub onward : Labels n root label → ((g : ℕ) → Group n root label g → tail g < n) → (stamp' : ℕ → ℕ) → stamp v ≡ 0 → v ≢ label root → stamp' v ≡ now
      → ((g : ℕ) → g ≢ v → stamp' g ≡ stamp g) → Walk n root label tail stamp' first (now + 1) (label (tail v))
  onward ls tb stamp' z nr at_v others =
      let gr : Group n root label v = (k.v_below, k.v_label, nr) in
      let f = tb v gr in
      let new' : (g : ℕ) → g ≢ v → first ≤ stamp' g → (suc (stamp g) ≡ stamp (follow g)) ⊎ ((follow g ≡ v) × (suc (stamp g) ≡ now)) → suc (stamp' g) ≡ stamp' (follow g) =
      λ g e l d.
      ⊎_elim
      (λ (e₁ : suc (stamp g) ≡ stamp (follow g)).
      let off : follow g ≢ v = λ (x : follow g ≡ v). let y : stamp (follow g) ≡ 0 = rw x z in omega arith in
      omega (arith, others g e, others (follow g) off))
      (λ (e₁ : (follow g ≡ v) × (suc (stamp g) ≡ now)). let y : stamp' (follow g) ≡ now = rw e₁.0 at_v in omega (arith, others g e)) d in
      let is_now : (g : ℕ) → g ≡ v → stamp' g ≡ now = λ g e. rw e at_v in
      record {
        first_pos = k.first_pos;
        first_now = omega (arith, k.first_now);
        v_below = ls.below (tail v) f;
        v_label = ls.self (tail v) f;
        old = λ g l m. ⊎_elim (λ (e : g ≡ v). absurd (omega (arith, is_now g e, k.first_now))) (λ (e : g ≢ v). k.old g (omega (arith, others g e)) (omega (arith, others g e))) (same_or_not g v);
        new = λ g l. ⊎_elim (λ (e : g ≡ v). inr (rw e, omega (arith, is_now g e))) (λ (e : g ≢ v). inl (new' g e l (k.new g (omega (arith, others g e))))) (same_or_not g v);
        last = λ g. ⊎_elim (λ (e : g ≡ v). omega (arith, is_now g e)) (λ (e : g ≢ v). omega (arith, others g e, k.last g)) (same_or_not g v);
        distinct =
            λ g h l e.
            ⊎_elim
            (λ (a : g ≡ v).
            ⊎_elim (λ (b : h ≡ v). a ∙ sym b) (λ (b : h ≢ v). absurd (omega (arith, is_now g a, others h b, k.last h))) (same_or_not h v))
            (λ (a : g ≢ v).
            ⊎_elim (λ (b : h ≡ v). absurd (omega (arith, is_now h b, others g a, k.last g)))
            (λ (b : h ≢ v). k.distinct g h (omega (arith, others g a)) (sym (others g a) ∙ e ∙ others h b)) (same_or_not h v))
            (same_or_not g v);
        stamped = λ g l. ⊎_elim (λ (e : g ≡ v). rw e gr) (λ (e : g ≢ v). k.stamped g (omega (arith, others g e))) (same_or_not g v);
      }

  -- the next walk starts at u
  pub restart : (u : ℕ) → Along follow (label root) v → u < n → label u ≡ u → Walk n root label tail stamp now now u
  restart u a l e =
      record {
        first_pos = omega (arith, k.first_pos, k.first_now);
        first_now = omega arith;
        v_below = l;
        v_label = e;
        old = λ g l' m. ended a g l';
        new = λ g m. absurd (omega (arith, k.last g));
        last = k.last;
        distinct = k.distinct;
        stamped = k.stamped;
      }
