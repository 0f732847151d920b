-- The limit on totals under which the states are taken (02, A2): what it is with each outcome, and that the
-- arborescences within it are those of the reading. Assumes nothing.
use mathlib.Core.Path.{◌≡◌, sym, ap}
use mathlib.Core.Bool.{true, false}
use mathlib.Core.List.{List}
use mathlib.Core.Logic.{◌↔◌, ◌⊎◌, inl, inr, ⊎_elim}
use mathlib.Core.Option.{none, some}
use Prim.Native.Nat.{ℕ, max, ◌≤◌}
use native.Mathlib.Omega.{arith}
use lib.Dec.{leb}
use borrow.Author.Tests.{leb-true, leb-false}
use Rattle.base.proofs.BoolLaws.{test}
use Rattle.instance.specs.Instance.{Instance}
use Rattle.instance.specs.Arborescence.{is_arborescence, total}
use Rattle.instance.specs.declared.Outcome.TheVariants.{Plan, Over}
use Rattle.instance.specs.States.{outcome, fits, limit_at, total_limit, with_limit}
use Rattle.theory.specs.Readings.{WithinLimit, LeastTotal, NoArborescence, CheapestReads}
use Rattle.theory.proofs.OutcomeLaws.{some_least, cheapest_only, outcome_reads}
use Rattle.theory.proofs.SameArcs.{SameArcs, same_back, with_budget_arcs, same_arborescence, same_total}
use Rattle.theory.proofs.FitLaws.{fits_arborescence, fits_total, make_fits}

-- WHAT IT IS
module _ (s : Instance) where
  -- "the larger of the budget and the cheapest total", wherever there is a tree; the budget where there is none
  pub limit_larger : (v : ℕ) → LeastTotal s v → total_limit s ≡ max s.budget v
  unfolding total_limit limit_at CheapestReads
  limit_larger v l = ap (limit_at s.budget) (sym (cheapest_only s (some v) l))

  pub limit_none : NoArborescence s → total_limit s ≡ s.budget
  unfolding total_limit limit_at CheapestReads
  limit_none n = ap (limit_at s.budget) (sym (cheapest_only s none n))

  pub limit_plan : (v : ℕ) → outcome s ≡ Plan v → total_limit s ≡ s.budget
  limit_plan v e = let r = ((outcome_reads s).plans v).0 e in let m = limit_larger v r.0 in omega (arith, r.1)

  pub limit_over : (v : ℕ) → outcome s ≡ Over v → total_limit s ≡ v
  limit_over v e = let r = ((outcome_reads s).exceeds v).0 e in let m = limit_larger v r.0 in omega (arith, r.1)

-- WHAT IS WITHIN IT
module _ (s : Instance) where
  limit_arcs : SameArcs (with_limit s) s
  limit_arcs = with_budget_arcs (total_limit s) s

  pub limit_arcs_back : SameArcs s (with_limit s)
  limit_arcs_back = same_back (with_limit s) s limit_arcs

  module _ (ps : List ℕ) where
    -- at most the larger of two numbers is at most one of them
    one_of : (v : ℕ) → LeastTotal s v → total s ps ≤ total_limit s → (total s ps ≤ s.budget) ⊎ ((qs : List ℕ) → is_arborescence s qs ≡ true → total s ps ≤ total s qs)
    one_of v l most =
        let m = limit_larger s v l in
        ⊎_elim (λ (e : leb (total s ps) s.budget ≡ true). inl (leb-true (total s ps) s.budget e))
        (λ (e : leb (total s ps) s.budget ≡ false).
        inr (λ qs b. let past = leb-false (total s ps) s.budget e in let low = l.least qs b in omega arith))
        (test (leb (total s ps) s.budget))

    fits_within : fits (with_limit s) ps ≡ true → WithinLimit s ps
    fits_within f =
        let a = fits_arborescence (with_limit s) ps f in
        let b = same_arborescence (with_limit s) s limit_arcs ps a in
        let least = some_least s ps b in
        let l = fits_total (with_limit s) ps f in
        let e = same_total (with_limit s) s limit_arcs ps a in
        record { arborescence = b; within = one_of least.0 least.1 (omega arith) }

    most_by : (v : ℕ) → LeastTotal s v → WithinLimit s ps → total s ps ≤ total_limit s
    most_by v l c =
        let m = limit_larger s v l in
        ⊎_elim (λ (x : total s ps ≤ s.budget). omega arith)
        (λ (x : (qs : List ℕ) → is_arborescence s qs ≡ true → total s ps ≤ total s qs).
        let y = x l.parents l.arborescence in omega (arith, l.attained))
        c.within

    within_fits : WithinLimit s ps → fits (with_limit s) ps ≡ true
    within_fits c =
        let least = some_least s ps c.arborescence in
        let most = most_by least.0 least.1 c in
        let e = same_total s (with_limit s) limit_arcs_back ps c.arborescence in
        make_fits (with_limit s) ps (same_arborescence s (with_limit s) limit_arcs_back ps c.arborescence) (omega arith)

    -- THE READING
    pub within_limit : (fits (with_limit s) ps ≡ true) ↔ WithinLimit s ps
    within_limit = (fits_within, within_fits)

    -- with a plan it is the plain budget that decides
    pub plan_within : (v : ℕ) → outcome s ≡ Plan v → WithinLimit s ps ↔ (fits s ps ≡ true)
    plan_within v e = (
      (λ c.
          let r = ((outcome_reads s).plans v).0 e in
          let most = most_by v r.0 c in
          let limit = limit_plan s v e in
          make_fits s ps c.arborescence (omega arith)),
      (λ f. record { arborescence = fits_arborescence s ps f; within = inl (fits_total s ps f) }),
    )

    -- over the budget the cheapest trees count, and no others
    pub over_within : (v : ℕ) → outcome s ≡ Over v → WithinLimit s ps ↔ ((is_arborescence s ps ≡ true) × (total s ps ≡ v))
    over_within v e = (
      (λ c.
          let r = ((outcome_reads s).exceeds v).0 e in
          let most = most_by v r.0 c in
          let limit = limit_over s v e in
          let least = r.0.least ps c.arborescence in
          (c.arborescence, omega arith)),
      (λ x.
          let r = ((outcome_reads s).exceeds v).0 e in
          record { arborescence = x.0; within = inr (λ qs b. let low = r.0.least qs b in omega (arith, x.1)) }),
    )
