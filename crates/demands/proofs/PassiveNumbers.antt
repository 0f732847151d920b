-- What demand 1 says of the call for passive runs (02, A11): its numbers, that a refusal leaves both buffers as they
-- were, and that what is accepted was a graph without a fault and room for what is shown. Assumes nothing.
use mathlib.Core.Path.{◌≡◌, sym, ap, ◌∙◌, subst}
use mathlib.Core.Bool.{Bool, true}
use mathlib.Core.List.{List}
use Prim.Native.Nat.{ℕ}
use native.Mathlib.Decide.{ℕ_discrete}
use lib.ListN.{length}
use borrow.Author.Tests.{eq-eqb, ne_eqb}
use Rattle.spanning.specs.Graph.{Graph}
use Rattle.spanning.specs.Refusal.{call_refusal, call_numbers}
use Rattle.runs.specs.Planning.{RunsView, view_number, Accepts, Refuses, PlansAt, PlansRuns}
use Rattle.runs.proofs.NumberLaws.{call_listed}
use Rattle.demands.proofs.CallNumbers.{among}

module _ (g : Graph) (b : ℕ) (ss ss' cs cs' : List ℕ) (r : RunsView) (x : PlansRuns g b ss ss' cs cs' r) where
  abbrev refusal : ℕ
  refusal = call_refusal g (length ss) (length cs)

  passed : refusal ≡ 0 → Accepts g b ss ss' cs cs' r
  unfolding PlansRuns PlansAt
  passed e = subst (λ (t : Bool). PlansAt t refusal g b ss ss' cs cs' r) (eq-eqb refusal 0 e) x

  stopped : (refusal ≡ 0 → ⊥) → Refuses refusal ss ss' cs cs' r
  unfolding PlansRuns PlansAt
  stopped n = subst (λ (t : Bool). PlansAt t refusal g b ss ss' cs cs' r) (ne_eqb refusal 0 n) x

  number_is : view_number r ≡ refusal
  unfolding view_number
  number_is = at (ℕ_discrete refusal 0)
    where
      at : Dec (refusal ≡ 0) → view_number r ≡ refusal
      at (yes z) = ap view_number (passed z).result ∙ sym z
      at (no z) = ap view_number (stopped z).result

  pub runs_among : among (view_number r) call_numbers ≡ true
  runs_among = rw number_is (call_listed g (length ss) (length cs))

  pub runs_before : (view_number r ≡ 0 → ⊥) → (ss' ≡ ss) × (cs' ≡ cs)
  runs_before n = let y = stopped (λ z. n (number_is ∙ z)) in (y.states_same, y.costs_same)

  pub runs_passed : view_number r ≡ 0 → call_refusal g (length ss) (length cs) ≡ 0
  runs_passed z = sym number_is ∙ z

  pub runs_accepted : view_number r ≡ 0 → Accepts g b ss ss' cs cs' r
  runs_accepted z = passed (runs_passed z)
