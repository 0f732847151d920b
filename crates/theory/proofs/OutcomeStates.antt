-- The states that each outcome comes with, and those that follow without listing anything. Assumes nothing.
use mathlib.Core.Path.{◌≡◌, sym, ap, ◌∙◌}
use mathlib.Core.Bool.{true}
use mathlib.Core.List.{List}
use mathlib.Core.Logic.{◌≢◌, inr}
use mathlib.Core.Option.{some}
use Prim.Native.Nat.{ℕ, max, ◌+◌, ◌*◌, ◌/◌, ◌%◌, ◌≤◌, ◌<◌}
use native.Mathlib.Omega.{arith}
use Rattle.base.specs.Lists.{tabulate}
use Rattle.base.proofs.BoolLaws.{not_both}
use Rattle.instance.specs.Instance.{Instance, with_budget, weight, is_arc}
use Rattle.instance.specs.Arborescence.{remaining, is_arborescence, total, uses}
use Rattle.instance.specs.Cuts.{Cut, values, Feasible, reduced_cost}
use Rattle.instance.specs.declared.Outcome.TheVariants.{Over, NoTree}
use Rattle.instance.specs.States.{outcome, fitting, limit_at, total_limit, with_limit, state_over, state, states}
use Rattle.theory.specs.Readings.{WithinLimit, NoneUses, LeastTotal, CheapestReads}
use Rattle.theory.proofs.OutcomeLaws.{cheapest_only, outcome_reads}
use Rattle.theory.proofs.SameArcs.{with_budget_arcs, same_feasible, same_cheapest}
use Rattle.theory.proofs.TotalLimit.{limit_over, limit_arcs_back, within_limit}
use Rattle.theory.proofs.StateLaws.{state_reads, states_tabulate}
use Rattle.theory.proofs.Duality.{reduced_unused}

-- OVER THE BUDGET
module _ (s : Instance) where
  -- what the states depend on besides the sheet: the limit
  abbrev states_under : (limit : ℕ) → List ℕ
  states_under k = tabulate (s.n * s.n) (λ i. state_over (fitting (with_budget k s)) s (i / s.n) (i % s.n))

  limit_decides : (b : ℕ) → states (with_budget b s) ≡ states_under (total_limit (with_budget b s))
  unfolding state state_over is_arc weight
  limit_decides b = states_tabulate (with_budget b s)

  -- "when over budget, the states are to be those for a budget equal to the cheapest total"
  pub over_states : (v : ℕ) → outcome s ≡ Over v → states s ≡ states (with_budget v s)
  unfolding total_limit limit_at CheapestReads
  over_states v e =
      let least = (((outcome_reads s).exceeds v).0 e).0 in
      let same : total_limit (with_budget v s) ≡ max v v =
      ap (limit_at v) (same_cheapest (with_budget v s) s (with_budget_arcs v s) ∙ sym (cheapest_only s (some v) least)) in
      let limit : total_limit s ≡ total_limit (with_budget v s) = limit_over s v e ∙ omega (arith, same) in
      limit_decides s.budget ∙ ap states_under limit ∙ sym (limit_decides v)

-- ONE ARC
module _ (s : Instance) (t h : ℕ) (x : is_arc s t h ≡ true) where
  unused_excluded : NoneUses (WithinLimit s) t h → state s t h ≡ 1
  unused_excluded u = ((state_reads s t h).excluded x).1 u

  -- without a tree "every link is closed"
  pub none_excluded : outcome s ≡ NoTree → state s t h ≡ 1
  none_excluded e = unused_excluded (λ ps c. absurd (not_both (is_arborescence s ps) c.arborescence ((outcome_reads s).fails.0 e ps)))

  -- "If total plus reduced price exceeds the budget, the link is closed": of "the larger of the budget and the cheapest
  -- total" (02, A2), for any feasible cuts
  pub reduced_excludes : (cs : List Cut) → Feasible s cs → remaining s t h ≡ true → total_limit s < values cs + reduced_cost s cs t h → state s t h ≡ 1
  unfolding reduced_cost weight
  reduced_excludes cs f r past =
      let back = limit_arcs_back s in
      let unused = reduced_unused (with_limit s) cs t h (same_feasible s (with_limit s) back cs f) (sym (back.arcs t h) ∙ r) past in
      unused_excluded (λ ps c. unused ps ((within_limit s ps).1 c))

  -- no arc of a cheapest tree is excluded, over the budget neither: where there is a tree, no blank wall is shown
  pub cheapest_not_excluded : (ps : List ℕ) (v : ℕ) → LeastTotal s v → is_arborescence s ps ≡ true → total s ps ≡ v → uses ps t h ≡ true → 2 ≤ state s t h
  cheapest_not_excluded ps v l a e u =
      let r = state_reads s t h in
      let c : WithinLimit s ps = record { arborescence = a; within = inr (λ qs b. let low = l.least qs b in omega arith) } in
      let other : state s t h ≢ 1 = λ z. not_both (uses ps t h) u ((r.excluded x).0 z ps c) in
      omega (arith, (r.present x).0)
