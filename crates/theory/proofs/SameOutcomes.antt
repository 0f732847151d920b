-- Instances that are the same where an arc can be have the same outcome and the same states. Assumes nothing.
use mathlib.Core.Path.{◌≡◌, refl, sym, ap, ◌∙◌, fun_ext}
use mathlib.Core.Bool.{Bool, cond}
use mathlib.Core.List.{List, [], ◌∷◌}
use Prim.Native.Nat.{ℕ, zero, suc, ◌*◌, ◌/◌, ◌%◌}
use lib.Dec.{eqb}
use Rattle.base.specs.Lists.{tabulate, select}
use Rattle.base.proofs.BoolLaws.{same_test}
use Rattle.instance.specs.Limits.{no_parent}
use Rattle.instance.specs.Instance.{Instance, weight, mark}
use Rattle.instance.specs.Candidates.{prefixed, choices, candidates_from, candidates}
use Rattle.instance.specs.States.{outcome_at, outcome, fits, fitting, limit_at, total_limit, with_limit, state_over, state, states}
use Rattle.instance.specs.Same.{SameInstance}
use Rattle.instance.proofs.SameLaws.{same_turned, same_is_arc, same_arc_weight, same_remaining}
use Rattle.instance.proofs.ArcLaws.{remaining_arc}
use Rattle.theory.proofs.SameArcs.{SameArcs, same_cheapest}
use Rattle.theory.proofs.StateLaws.{states_tabulate}
use Rattle.theory.proofs.FitLaws.{fits_there}

pub arcs_same : (a b : Instance) → SameInstance a b → SameArcs a b
arcs_same a b e =
    record {
      vertices = e.same_n;
      roots = e.same_root;
      arcs = same_remaining a b e;
      weights = λ t h r. same_arc_weight a b e t h (remaining_arc b t h (sym (same_remaining a b e t h) ∙ r));
    }

-- THE OUTCOME, and the instances at their limits on totals
module _ (a b : Instance) (e : SameInstance a b) where
  pub same_outcome : outcome a ≡ outcome b
  unfolding outcome
  same_outcome = λ i. outcome_at (e.same_budget i) (same_cheapest a b (arcs_same a b e) i)

  same_with_limit : SameInstance (with_limit a) (with_limit b)
  unfolding total_limit weight mark
  same_with_limit =
      record {
        same_n = e.same_n;
        same_root = e.same_root;
        same_budget = λ i. limit_at (e.same_budget i) (same_cheapest a b (arcs_same a b e) i);
        same_weights = e.same_weights;
        same_marks = e.same_marks;
      }

-- THE FITTING ARBORESCENCES
module _ (a b : Instance) (e : SameInstance a b) where
  same_fits : (ps : List ℕ) → fits a ps ≡ fits b ps
  same_fits ps =
      same_test (fits a ps) (fits b ps) (fits_there a b (arcs_same a b e) e.same_budget ps)
      (fits_there b a (arcs_same b a (same_turned a b e)) (sym e.same_budget) ps)

  same_choices : (v : ℕ) → choices a v ≡ choices b v
  unfolding choices
  same_choices v =
      ap (λ (r : ℕ). cond (eqb v r) (no_parent ∷ []) (tabulate a.n (λ t. t))) e.same_root
      ∙ ap (λ (n : ℕ). cond (eqb v b.root) (no_parent ∷ []) (tabulate n (λ t. t))) e.same_n

  same_candidates : (k v : ℕ) → candidates_from k v a ≡ candidates_from k v b
  unfolding candidates_from
  same_candidates zero v = refl
  same_candidates (suc k) v =
      ap (λ (xs : List ℕ). prefixed xs (candidates_from k (suc v) a)) (same_choices v) ∙ ap (prefixed (choices b v)) (same_candidates k (suc v))

  same_fitting : fitting a ≡ fitting b
  unfolding fitting candidates
  same_fitting =
      ap (λ (q : List ℕ → Bool). select q (candidates_from a.n 0 a)) (fun_ext same_fits)
      ∙ ap (select (fits b)) (same_candidates a.n 0 ∙ ap (λ (k : ℕ). candidates_from k 0 b) e.same_n)

-- THE STATES
module _ (a b : Instance) (e : SameInstance a b) where
  pub same_state : (t h : ℕ) → state a t h ≡ state b t h
  unfolding state state_over
  same_state t h = rw (same_is_arc a b e t h, same_fitting (with_limit a) (with_limit b) (same_with_limit a b e))

  pub same_states : states a ≡ states b
  same_states =
      states_tabulate a ∙ ap (λ (k : ℕ). tabulate (k * k) (λ i. state a (i / k) (i % k))) e.same_n
      ∙ ap (tabulate (b.n * b.n)) (fun_ext (λ i. same_state (i / b.n) (i % b.n))) ∙ sym (states_tabulate b)
