-- An arc fixed into its head: what cannot stand beside it in an arborescence of the cheapest total is let go. Assumes
-- nothing.
use mathlib.Core.Path.{◌≡◌, refl, sym, ap, ◌∙◌, subst}
use mathlib.Core.Bool.{Bool, true, false, not, cond}
use mathlib.Core.List.{List}
use mathlib.Core.Logic.{◌≢◌}
use Prim.Native.Nat.{ℕ, ◌<◌}
use lib.Dec.{eqb}
use borrow.Author.Tests.{eqb-true, eqb-false, eq-eqb}
use Rattle.instance.specs.Instance.{Instance}
use Rattle.instance.specs.Arborescence.{parent}
use Rattle.instance.specs.Cuts.{Cut, Proves}
use Rattle.theory.proofs.Slackness.{entered_once}
use Rattle.narrowing.specs.Narrowed.{OfTotal, Admissible, share_cut, stays_beside, Fixed}

module _ (s : Instance) (cs : List Cut) (w : ℕ) (p : Proves s cs w) where
  all_stay : (qs : List ℕ) → OfTotal s w qs → (t v : ℕ) → v < s.n → parent qs v ≡ t → (h : ℕ) → h < s.n → stays_beside cs t v (parent qs h) h ≡ true
  unfolding stays_beside share_cut
  all_stay qs o t v lv e h lh = at (eqb h v) refl
    where
      none : h ≢ v → share_cut cs (parent qs v) v (parent qs h) h ≡ false
      none d = entered_once s qs o.arborescence cs p.feasible (p.adds ∙ sym o.attained) p.positive v h lv lh (λ z. d (sym z))

      at : (b : Bool) → eqb h v ≡ b → cond b (eqb (parent qs h) t) (not (share_cut cs t v (parent qs h) h)) ≡ true
      at true z = eq-eqb (parent qs h) t (ap (λ (x : ℕ). parent qs x) (eqb-true h v z) ∙ e)
      at false z = ap not (subst (λ (x : ℕ). share_cut cs x v (parent qs h) h ≡ false) e (none (eqb-false h v z)))

  -- AN ARBORESCENCE OF THE CHEAPEST TOTAL that has the arc passes the test with the arc fixed
  pub fixed_keeps : (keep keep' : ℕ → ℕ → Bool) (t v : ℕ) → v < s.n → Fixed s.n cs keep keep' t v
      → (qs : List ℕ) → OfTotal s w qs → Admissible s keep qs → parent qs v ≡ t → Admissible s keep' qs
  fixed_keeps keep keep' t v lv f qs o k e h lh r = f.stays (parent qs h) h lh (k h lh r) (all_stay qs o t v lv e h lh)

-- what passes with the arc fixed passes without
pub fixed_less : (s : Instance) (cs : List Cut) (keep keep' : ℕ → ℕ → Bool) (t v : ℕ) → Fixed s.n cs keep keep' t v
    → (qs : List ℕ) → Admissible s keep' qs → Admissible s keep qs
fixed_less s cs keep keep' t v f qs k h l r = f.less (parent qs h) h l (k h l r)
