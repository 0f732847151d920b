-- Whether the outcome of an instance is within a limit, read; and of what is left of an instance where the arcs into
-- one head are restricted. Assumes nothing.
use mathlib.Core.Path.{◌≡◌, refl, sym, ◌∙◌, subst}
use mathlib.Core.Bool.{Bool, true, false, cond, true≢false}
use mathlib.Core.List.{List}
use mathlib.Core.Logic.{◌↔◌}
use mathlib.Core.Option.{Option, none, some}
use Prim.Native.Nat.{ℕ, ◌≤◌, ◌<◌}
use native.Mathlib.Omega.{arith}
use lib.Dec.{leb, eqb}
use borrow.Author.Tests.{le-leb, leb-true, eqb-true}
use Rattle.base.proofs.BoolLaws.{not_both}
use Rattle.instance.specs.Limits.{max_vertices}
use Rattle.instance.specs.Instance.{Instance}
use Rattle.instance.specs.Arborescence.{is_arborescence, total, parent}
use Rattle.instance.specs.Candidates.{cheapest}
use Rattle.instance.specs.Matrix.{matrix_where, matrix_instance}
use Rattle.instance.specs.States.{outcome_at, outcome}
use Rattle.instance.specs.declared.Outcome.TheVariants.{Plan, Over}
use Rattle.theory.specs.Readings.{CheapestReads}
use Rattle.theory.proofs.OutcomeLaws.{cheapest_reads}
use Rattle.theory.proofs.MatrixInstances.{matrix_instance_arborescence, matrix_instance_total}
use Rattle.theory.proofs.Restriction.{restricted_arborescence, restricted_total}
use Rattle.witness.specs.Witness.{within}

-- WITHIN A LIMIT: the total of some arborescence is
pub within_at : (l b v : ℕ) → within l (outcome_at b (some v)) ≡ leb v l
unfolding within outcome_at
within_at l b v = go (leb v b)
  where
    go : (t : Bool) → within l (cond t (Plan v) (Over v)) ≡ leb v l
    go true = refl
    go false = refl

within_none : (l b : ℕ) → within l (outcome_at b none) ≡ false
unfolding within outcome_at
within_none l b = refl

abbrev pub SomeWithin : Instance → (limit : ℕ) → Type 0
SomeWithin s l = (ps : List ℕ) × (is_arborescence s ps ≡ true) × (total s ps ≤ l)

cheapest_within : (s : Instance) (l : ℕ) (o : Option ℕ) → CheapestReads s o → (within l (outcome_at s.budget o) ≡ true) ↔ SomeWithin s l
unfolding CheapestReads
cheapest_within s l none r = (
  (λ e. absurd (true≢false (sym e ∙ within_none l s.budget))),
  (λ w. absurd (not_both (is_arborescence s w.0) w.1 (r w.0))),
)
cheapest_within s l (some v) r = (
  (λ e. (r.parents, r.arborescence, let b = leb-true v l (sym (within_at l s.budget v) ∙ e) in omega (arith, r.attained, b))),
  (λ w. within_at l s.budget v ∙ le-leb v l (let b = r.least w.0 w.1 in omega (arith, b, w.2))),
)

pub within_reads : (s : Instance) (l : ℕ) → (within l (outcome s) ≡ true) ↔ SomeWithin s l
unfolding outcome
within_reads s l = cheapest_within s l (cheapest s) (cheapest_reads s)

-- ONE HEAD'S ARCS RESTRICTED: the arborescences of what is left are those that pass at the head
module _ (s : Instance) (q : ℕ → ℕ → Bool) (h : ℕ) (small : s.n ≤ max_vertices) (below : h < s.n) (not_root : eqb h s.root ≡ false)
    (elsewhere : (g v : ℕ) → eqb v h ≡ false → q g v ≡ true) where
  abbrev left : Instance
  left = matrix_instance s.n s.root s.budget (matrix_where s q)

  pub passing_arborescence :
      (ps : List ℕ) → (is_arborescence (matrix_instance s.n s.root s.budget (matrix_where s q)) ps ≡ true)
      ↔ ((is_arborescence s ps ≡ true) × (q (parent ps h) h ≡ true))
  passing_arborescence ps = (
    (λ a. let x = (restricted_arborescence s q small ps).0 ((matrix_instance_arborescence _ _ _ _ ps).0 a) in (x.0, x.1 h below not_root)),
    (λ x. (matrix_instance_arborescence _ _ _ _ ps).1 ((restricted_arborescence s q small ps).1 (x.0, λ v l e. at v x.1 (eqb v h) refl))),
  )
    where
      at : (v : ℕ) → q (parent ps h) h ≡ true → (b : Bool) → eqb v h ≡ b → q (parent ps v) v ≡ true
      at v u true e = subst (λ (x : ℕ). q (parent ps x) x ≡ true) (sym (eqb-true v h e)) u
      at v u false e = elsewhere (parent ps v) v e

  pub passing_total :
      (ps : List ℕ) → is_arborescence (matrix_instance s.n s.root s.budget (matrix_where s q)) ps ≡ true →
      total (matrix_instance s.n s.root s.budget (matrix_where s q)) ps ≡ total s ps
  passing_total ps a =
      let r = (matrix_instance_arborescence s.n s.root s.budget (matrix_where s q) ps).0 a in
      matrix_instance_total s.n s.root s.budget (matrix_where s q) ps r ∙ restricted_total s q small ps r

  abbrev pub SomePasses : (limit : ℕ) → Type 0
  SomePasses l = (ps : List ℕ) × (is_arborescence s ps ≡ true) × (q (parent ps h) h ≡ true) × (total s ps ≤ l)

  pub passing_within :
      (l : ℕ) → (within l (outcome (matrix_instance s.n s.root s.budget (matrix_where s q))) ≡ true) ↔ SomePasses l
  passing_within l = (
    (λ e.
        let w = (within_reads left l).0 e in
        let x = (passing_arborescence w.0).0 w.1 in
        (w.0, x.0, x.1, subst (λ (k : ℕ). k ≤ l) (passing_total w.0 w.1) w.2)),
    (λ w.
        let a = (passing_arborescence w.0).1 (w.1, w.2) in
        (within_reads left l).1 (w.0, a, subst (λ (k : ℕ). k ≤ l) (sym (passing_total w.0 a)) w.3)),
  )
