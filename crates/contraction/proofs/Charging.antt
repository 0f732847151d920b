-- Charging a group: its vertices become a cut, whose value is taken off the arcs that enter it. A tree for the lowered
-- weights is then one with the new cut in front, since exactly one arc of any tree of groups enters a group. Assumes
-- nothing.
use mathlib.Core.Path.{◌≡◌, refl, sym, ◌∙◌}
use mathlib.Core.Bool.{true, false, not}
use mathlib.Core.List.{List, [], ◌∷◌}
use mathlib.Core.Logic.{◌⊎◌, inl, inr, ⊎_elim, ◌≢◌}
use Prim.Native.Nat.{ℕ, ◌+◌, ◌≤◌, ◌<◌}
use native.Mathlib.Omega.{arith}
use lib.Dec.{eqb}
use borrow.Author.Tests.{eqb-true, eqb-false, eq-eqb, ne_eqb}
use Rattle.base.proofs.BoolLaws.{test, not_both, and_false_right}
use Rattle.instance.specs.Limits.{max_vertices, no_arc}
use Rattle.instance.specs.Cuts.{Cut, inside, enters, charged}
use Rattle.contraction.specs.Groups.{Lowered}
use Rattle.contraction.specs.Trees.{more, Reached, here, step, Once, Tree}

-- an arc enters group g, or not
pub entering : (label : ℕ → ℕ) (g t h : ℕ) → ((label h ≡ g) × (label t ≢ g)) ⊎ ((label h ≢ g) ⊎ (label t ≡ g))
entering label g t h =
    ⊎_elim
    (λ (e : eqb (label h) g ≡ true).
    ⊎_elim (λ (d : eqb (label t) g ≡ true). inr (inr (eqb-true (label t) g d))) (λ (d : eqb (label t) g ≡ false). inl (eqb-true (label h) g e, eqb-false (label t) g d))
    (test (eqb (label t) g)))
    (λ (e : eqb (label h) g ≡ false). inr (inl (eqb-false (label h) g e))) (test (eqb (label h) g))

module _ (n : ℕ) (label : ℕ → ℕ) (g : ℕ) (c : Cut) (is : (v : ℕ) → v < n → inside c.set v ≡ eqb (label v) g) where
  enters_yes : (t h : ℕ) → t < n → h < n → label h ≡ g → label t ≢ g → enters c.set t h ≡ true
  unfolding enters
  enters_yes t h l m e ne = rw (is h m, is t l, eq-eqb (label h) g e, ne_eqb (label t) g ne)

  pub enters_no : (t h : ℕ) → t < n → h < n → (label h ≢ g) ⊎ (label t ≡ g) → enters c.set t h ≡ false
  unfolding enters
  enters_no t h l m (inl ne) = rw (is h m, is t l, ne_eqb (label h) g ne) (and_false_right (not (eqb (label t) g)) false refl)
  enters_no t h l m (inr e) = rw (is h m, is t l, eq-eqb (label t) g e)

  enters_head : (t h : ℕ) → t < n → h < n → enters c.set t h ≡ true → label h ≡ g
  enters_head t h l m e = ⊎_elim (λ y. y.0) (λ d. absurd (not_both (enters c.set t h) e (enters_no t h l m d))) (entering label g t h)

  -- the weights
  pub lowered_charge : (w w' : ℕ → ℕ → ℕ)
      → ((t h : ℕ) → t < n → h < n → w t h < no_arc → label h ≡ g → label t ≢ g → w' t h + c.value ≡ w t h)
      → ((t h : ℕ) → t < n → h < n → (label h ≢ g) ⊎ (label t ≡ g) → w' t h ≡ w t h)
      → ((t h : ℕ) → h < max_vertices → (n ≤ t) ⊎ ((n ≤ h) ⊎ (no_arc ≤ w t h)) → w' t h ≡ w t h) → Lowered n w w' (c ∷ [])
  unfolding charged
  lowered_charge w w' low other same =
      record {
        paid =
            λ t h l m p.
            ⊎_elim (λ (y : (label h ≡ g) × (label t ≢ g)). let e = low t h l m p y.0 y.1 in rw (enters_yes t h l m y.0 y.1) (omega arith))
            (λ (d : (label h ≢ g) ⊎ (label t ≡ g)). let e = other t h l m d in rw (enters_no t h l m d) (omega arith)) (entering label g t h);
        same = same;
      }

  -- the tree
  module _ (root : ℕ) (w : ℕ → ℕ → ℕ) (cs : List Cut) (parent : ℕ → ℕ) (t : Tree n root w label cs parent) (off : label root ≢ g) where
    entered : {x : ℕ} → Reached n root label parent x → x ≡ g → Once n parent c
    entered (here e) x = absurd (off (sym e ∙ x))
    entered (step v l e h r) x =
        record {
          at = v;
          below = l;
          has = h;
          into = enters_yes (parent v) v h l (e ∙ x) (λ d. t.between v l h (d ∙ sym (e ∙ x)));
          only = λ u m i y. t.only u v m l i h (enters_head (parent u) u i m y ∙ sym (e ∙ x));
        }

    pub charge_tree : (v : ℕ) → v < n → label v ≡ g → Tree n root w label (c ∷ cs) parent
    charge_tree v l e =
        record {
          tight = t.tight;
          between = t.between;
          no_root = t.no_root;
          only = t.only;
          reached = t.reached;
          once = more (entered (t.reached v l) e) t.once;
          unions = more {c = c} (λ x y a b d. rw (is x a, is y b, d)) t.unions;
        }
