-- One arc forced: in the matrix that leaves it alone into its head, the arborescences are those that use it. Assumes
-- nothing.
use mathlib.Core.Path.{◌≡◌, refl, sym, subst}
use mathlib.Core.Bool.{Bool, true, false, ◌||◌, not}
use mathlib.Core.List.{List}
use mathlib.Core.Logic.{◌↔◌}
use Prim.Native.Nat.{ℕ, ◌≤◌}
use lib.Dec.{eqb}
use borrow.Author.Tests.{eqb-true, eq-eqb}
use Rattle.instance.specs.Instance.{Instance}
use Rattle.instance.specs.Arborescence.{remaining, parent, is_arborescence, uses}
use Rattle.theory.specs.Usable.{restricted, forced}
use Rattle.instance.proofs.ArcLaws.{remaining_ends}
use Rattle.theory.proofs.Restriction.{restricted_arborescence}

module _ (s : Instance) (t₀ h₀ : ℕ) (small : s.n ≤ 32) (r : remaining s t₀ h₀ ≡ true) where
  pub forced_arborescence : (ps : List ℕ) → (is_arborescence (restricted s (forced t₀ h₀)) ps ≡ true) ↔ ((is_arborescence s ps ≡ true) × (uses ps t₀ h₀ ≡ true))
  unfolding forced uses
  forced_arborescence ps = (
    (λ a.
        let end = remaining_ends s t₀ h₀ r in
        let x = (restricted_arborescence s (forced t₀ h₀) small ps).0 a in
        (x.0, rw (eq-eqb h₀ h₀ refl) at (x.1 h₀ end.head_below end.not_root))),
    (λ x. (restricted_arborescence s (forced t₀ h₀) small ps).1 (x.0, λ v l e. at v x.1 (eqb v h₀) refl)),
  )
    where
      at : (v : ℕ) → eqb (parent ps h₀) t₀ ≡ true → (b : Bool) → eqb v h₀ ≡ b → not b || eqb (parent ps v) t₀ ≡ true
      at v u true e = subst (λ (x : ℕ). eqb (parent ps x) t₀ ≡ true) (sym (eqb-true v h₀ e)) u
      at v u false e = refl
