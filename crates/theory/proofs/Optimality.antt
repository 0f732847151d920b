-- What cuts settle: an arborescence whose total they add to is cheapest, a set that no remaining arc enters leaves
-- none. Assumes nothing.
use mathlib.Core.Path.{◌≡◌, refl, sym}
use mathlib.Core.Bool.{true}
use mathlib.Core.List.{List}
use mathlib.Core.Option.{some}
use Prim.Native.Nat.{ℕ}
use native.Mathlib.Omega.{arith}
use Rattle.base.proofs.BoolLaws.{is_false}
use Rattle.instance.specs.Instance.{Instance}
use Rattle.instance.specs.Arborescence.{is_arborescence, total}
use Rattle.instance.specs.Candidates.{cheapest}
use Rattle.instance.specs.Cuts.{Cut, values, Feasible, NoEntry}
use Rattle.instance.specs.declared.Outcome.TheVariants.{NoTree}
use Rattle.instance.specs.States.{outcome}
use Rattle.theory.specs.Readings.{LeastTotal, NoArborescence, CheapestReads}
use Rattle.theory.proofs.OutcomeLaws.{cheapest_only, outcome_reads}
use Rattle.theory.proofs.Duality.{weak_duality, no_entry}

module _ (s : Instance) where
  -- AN ARBORESCENCE THAT CUTS PROVE
  module _ (ps : List ℕ) (cs : List Cut) (a : is_arborescence s ps ≡ true) (f : Feasible s cs) (e : values cs ≡ total s ps) where
    pub proved_least : LeastTotal s (total s ps)
    proved_least = record { parents = ps; arborescence = a; attained = refl; least = λ qs b. let w = weak_duality s qs b cs f in omega arith }

    pub proved_cheapest : cheapest s ≡ some (total s ps)
    unfolding CheapestReads
    proved_cheapest = sym (cheapest_only s (some (total s ps)) proved_least)

  -- A SET THAT NO REMAINING ARC ENTERS
  pub shut_none : (c : Cut) → NoEntry s c → NoArborescence s
  shut_none c e ps = is_false (is_arborescence s ps) (λ a. no_entry s ps a c e)

  pub shut_outcome : (c : Cut) → NoEntry s c → outcome s ≡ NoTree
  shut_outcome c e = (outcome_reads s).fails.1 (shut_none c e)
