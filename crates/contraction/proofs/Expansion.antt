-- Expanding a cycle: a tree of the contracted groups becomes one of the finer groups. The arc into the contracted group
-- enters it at one vertex, tj; every group of the cycle but tj's takes its own arc again, so that exactly one arc of
-- the cycle is dropped. Going round the cycle from tj's group reaches each of its groups. The cycle's arcs enter no
-- cut, since every cut is a union of contracted groups. Assumes nothing.
use mathlib.Core.Path.{◌≡◌, refl, sym, ap, ◌∙◌, subst}
use mathlib.Core.Bool.{Bool, true, false, ◌&&◌, not}
use mathlib.Core.List.{List}
use mathlib.Core.Logic.{◌⊎◌, inl, inr, ⊎_elim, ◌≢◌}
use Prim.Native.Nat.{ℕ, ◌<◌}
use lib.Dec.{eqb}
use borrow.Author.Tests.{eqb-true, eqb-false, eq-eqb, ne_eqb, not-true}
use Rattle.base.proofs.BoolLaws.{test, not_both, and_left, and_right, not_and_self}
use Rattle.instance.specs.Cuts.{Cut, inside, enters}
use Rattle.contraction.specs.Groups.{Along, stop, go, Cycle, contracted, expanded}
use Rattle.contraction.specs.Trees.{Reached, here, step, Once, Union, Tree}
use Rattle.contraction.proofs.EachLaws.{each_map, each_zip}

module _ (n root : ℕ) (w : ℕ → ℕ → ℕ) (label tail head : ℕ → ℕ) (on : ℕ → Bool) (c : ℕ) (cy : Cycle n root w label tail head on c)
    (cs : List Cut) (parent : ℕ → ℕ) (t : Tree n root w (contracted label on c) cs parent)
    (tj : ℕ) (tj_below : tj < n) (tj_on : on (label tj) ≡ true) (tj_has : parent tj < n) where
  abbrev coarse : ℕ → ℕ
  coarse = contracted label on c

  abbrev gj : ℕ
  gj = label tj

  abbrev parent' : ℕ → ℕ
  parent' = expanded label tail head on gj parent

  -- a vertex either takes its group's arc of the cycle, or has what it had
  record Takes (v : ℕ) : Type 0 where
    pub cycle : on (label v) ≡ true
    pub other : label v ≢ gj
    pub at_head : head (label v) ≡ v
    pub is : parent' v ≡ tail (label v)

  cases : (v : ℕ) → Takes v ⊎ (parent' v ≡ parent v)
  cases v =
      ⊎_elim
      (λ (e : on (label v) && (not (eqb (label v) gj) && eqb (head (label v)) v) ≡ true).
      let rest = and_right (on (label v)) (not (eqb (label v) gj) && eqb (head (label v)) v) e in
      inl (record {
        cycle = and_left (on (label v)) (not (eqb (label v) gj) && eqb (head (label v)) v) e;
        other = eqb-false (label v) gj (not-true (eqb (label v) gj) (and_left (not (eqb (label v) gj)) (eqb (head (label v)) v) rest));
        at_head = eqb-true (head (label v)) v (and_right (not (eqb (label v) gj)) (eqb (head (label v)) v) rest);
        is = rw e;
      }))
      (λ (e : on (label v) && (not (eqb (label v) gj) && eqb (head (label v)) v) ≡ false). inr (rw e))
      (test (on (label v) && (not (eqb (label v) gj) && eqb (head (label v)) v)))

  takes : (g : ℕ) → on g ≡ true → g ≢ gj → parent' (head g) ≡ tail g
  takes g i ne = rw (cy.head_in g i, i, ne_eqb g gj ne, eq-eqb (head g) (head g) refl)

  same_tj : parent' tj ≡ parent tj
  same_tj = rw (eq-eqb (label tj) (label tj) refl, tj_on)

  coarse_on : (v : ℕ) → on (label v) ≡ true → coarse v ≡ c
  coarse_on v i = rw i

  coarse_off : (v : ℕ) → on (label v) ≡ false → coarse v ≡ label v
  coarse_off v o = rw o

  coarse_same : (u v : ℕ) → label u ≡ label v → coarse u ≡ coarse v
  coarse_same u v e = rw e

  -- no group off the cycle has the label c
  c_off : (v : ℕ) → c ≡ label v → on (label v) ≡ false → ⊥
  c_off v e o = not_both (on c) cy.c_on (rw e o)

  -- an arc that the contracted tree has into the cycle is tj's
  at_tj : (v : ℕ) → v < n → on (label v) ≡ true → parent v < n → v ≡ tj
  at_tj v l i h = t.only v tj l tj_below h tj_has (coarse_on v i ∙ sym (coarse_on tj tj_on))

  -- so a vertex with an arc has it still
  has_still : (v : ℕ) → v < n → parent v < n → parent' v ≡ parent v
  has_still v l h = ⊎_elim (λ (a : Takes v). absurd (a.other (ap label (at_tj v l a.cycle h)))) (λ e. e) (cases v)

  abbrev R : ℕ → Type 0
  R = Reached n root label parent'

  -- round the cycle to gj
  around : (g : ℕ) → on g ≡ true → Along (λ x. label (tail x)) gj g → R gj → R g
  around g i (stop e) k = rw e k
  around g i (go a) k =
      let k' = around (label (tail g)) (cy.tail_on g i) a k in
      ⊎_elim (λ (e : eqb g gj ≡ true). rw (eqb-true g gj e) k)
      (λ (e : eqb g gj ≡ false).
      let is = takes g i (eqb-false g gj e) in
      step (head g) (cy.head_below g i) (cy.head_in g i) (rw is (cy.tail_below g i)) (rw is k'))
      (test (eqb g gj))

  down : {x : ℕ} → Reached n root coarse parent x → (v : ℕ) → v < n → coarse v ≡ x → R (label v)
  down (here e₀) v l e =
      ⊎_elim (λ (i : on (label v) ≡ true). absurd (c_off root (sym (coarse_on v i) ∙ e ∙ e₀ ∙ coarse_off root cy.root_off) cy.root_off))
      (λ (o : on (label v) ≡ false). here (sym (coarse_off v o) ∙ e ∙ e₀ ∙ coarse_off root cy.root_off)) (test (on (label v)))
  down (step q m eq hq k) v l e =
      let ih : R (label (parent q)) = down k (parent q) hq refl in
      let same : coarse v ≡ coarse q = e ∙ sym eq in
      ⊎_elim
      (λ (i : on (label v) ≡ true).
      ⊎_elim
      (λ (j : on (label q) ≡ true).
      let ih' : R (label (parent tj)) = subst (λ (x : ℕ). R (label (parent x))) (at_tj q m j hq) ih in
      around (label v) i (cy.round (label v) gj i tj_on) (step tj tj_below refl (rw same_tj tj_has) (rw same_tj ih')))
      (λ (j : on (label q) ≡ false). absurd (c_off q (sym (coarse_on v i) ∙ same ∙ coarse_off q j) j)) (test (on (label q))))
      (λ (o : on (label v) ≡ false).
      ⊎_elim (λ (j : on (label q) ≡ true). absurd (c_off v (sym (coarse_on q j) ∙ sym same ∙ coarse_off v o) o))
      (λ (j : on (label q) ≡ false).
      let is = has_still q m hq in
      step q m (sym (coarse_off q j) ∙ sym same ∙ coarse_off v o) (rw is hq) (rw is ih))
      (test (on (label q))))
      (test (on (label v)))

  one_each : (u v : ℕ) → u < n → v < n → parent' u < n → parent' v < n → label u ≡ label v → Takes u ⊎ (parent' u ≡ parent u) → Takes v ⊎ (parent' v ≡ parent v) → u ≡ v
  one_each u v l m i j e (inl a) (inl b) = sym a.at_head ∙ ap head e ∙ b.at_head
  one_each u v l m i j e (inl a) (inr b) = absurd (a.other (e ∙ ap label (at_tj v m (rw (← e) a.cycle) (rw b at j))))
  one_each u v l m i j e (inr a) (inl b) = absurd (b.other (sym e ∙ ap label (at_tj u l (rw e b.cycle) (rw a at i))))
  one_each u v l m i j e (inr a) (inr b) = t.only u v l m (rw a at i) (rw b at j) (coarse_same u v e)

  -- the cycle's arcs enter no union of contracted groups
  no_enter : (d : Cut) → Union n coarse d → (v : ℕ) → v < n → parent' v < n → Takes v → enters d.set (parent' v) v ≡ true → ⊥
  unfolding enters
  no_enter d u v l m a x =
      let on_tail : on (label (parent' v)) ≡ true = rw a.is (cy.tail_on (label v) a.cycle) in
      not_both (enters d.set (parent' v) v) x
      (rw (u (parent' v) v m l (coarse_on (parent' v) on_tail ∙ sym (coarse_on v a.cycle))) (not_and_self (inside d.set v)))

  once_still : (d : Cut) → Union n coarse d → Once n parent d → Once n parent' d
  once_still d u o =
      let e = has_still o.at o.below o.has in
      record {
        at = o.at;
        below = o.below;
        has = rw e o.has;
        into = rw e o.into;
        only =
            λ v l h x.
            ⊎_elim (λ (a : Takes v). absurd (no_enter d u v l h a x)) (λ (b : parent' v ≡ parent v). o.only v l (rw b at h) (rw b at x)) (cases v);
      }

  pub expand_tree : Tree n root w label cs parent'
  expand_tree =
      record {
        tight =
            λ v l h.
            ⊎_elim (λ (a : Takes v). rw a.is (subst (λ (x : ℕ). w (tail (label v)) x ≡ 0) a.at_head (cy.tight (label v) a.cycle)))
            (λ (b : parent' v ≡ parent v). rw b (t.tight v l (rw b at h))) (cases v);
        between =
            λ v l h.
            ⊎_elim (λ (a : Takes v). rw a.is (cy.tail_out (label v) a.cycle))
            (λ (b : parent' v ≡ parent v). rw b (λ e. t.between v l (rw b at h) (coarse_same (parent v) v e))) (cases v);
        no_root =
            λ v l h e.
            ⊎_elim (λ (a : Takes v). not_both (on (label root)) (rw (← e) a.cycle) cy.root_off)
            (λ (b : parent' v ≡ parent v). t.no_root v l (rw b at h) (coarse_same v root e)) (cases v);
        only = λ u v l m i j e. one_each u v l m i j e (cases u) (cases v);
        reached = λ v l. down (t.reached v l) v l refl;
        once = each_zip once_still t.unions t.once;
        unions = each_map (λ d u x y l m e. u x y l m (coarse_same x y e)) t.unions;
      }
