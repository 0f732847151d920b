-- Which instances are valid, at the ranges' ends: one list with one claim about the whole list. Computed. Assumes
-- nothing.
use mathlib.Core.Path.{◌≡◌, refl}
use mathlib.Core.Bool.{Bool, true, false}
use mathlib.Core.List.{List, [], ◌∷◌, map}
use Prim.Native.Nat.{ℕ}
use Rattle.base.specs.Bounded.{all_below}
use Rattle.instance.specs.Limits.{no_arc, free, pinned, banned}
use Rattle.instance.specs.Instance.{Instance, can_be_arc}
use Rattle.instance.specs.Valid.{cell_ok, cell_valid, header_valid, valid_instance}
use Rattle.instance.proofs.WorkedCases.{arc, filled, instance_from, instance_q}

pub record Validity : Type 0 where
  pub of : Instance
  pub is : Bool

abbrev judged : Instance → Bool → Validity
judged s v = record { of = s; is = v }

-- two vertices and one arc of that weight and mark
abbrev one_arc : (weight mark : ℕ) → Instance
one_arc w m = instance_from 2 0 5 (arc 0 1 w ∷ []) (arc 0 1 m ∷ [])

unfoldable pub instances : List Validity
instances =
    judged (instance_q 16 (arc 2 1 pinned ∷ arc 0 1 banned ∷ [])) true
    -- "1 to 32 positions", and a root among them
    ∷ judged (instance_from 1 0 0 [] []) true
    ∷ judged (instance_from 0 0 0 [] []) false
    ∷ judged (record { n = 32; root = 31; budget = 0; weights = []; marks = [] }) true
    ∷ judged (record { n = 33; root = 31; budget = 0; weights = []; marks = [] }) false
    ∷ judged (instance_from 2 1 0 [] []) true
    ∷ judged (instance_from 2 2 0 [] []) false
    -- "budgets to 32,505,794" (02, A9)
    ∷ judged (instance_from 1 0 32505794 [] []) true
    ∷ judged (instance_from 1 0 32505795 [] []) false
    -- "Prices go up to 1,048,574 pence" (02, A9); "1,048,575 means no link."
    ∷ judged (one_arc 0 free) true
    ∷ judged (one_arc 1000001 pinned) true
    ∷ judged (one_arc 1048574 banned) true
    ∷ judged (one_arc 1048575 free) true
    ∷ judged (one_arc 1048576 free) false
    -- "0 free, 1 pinned, 2 banned", and "a mark other than 0 on no link"
    ∷ judged (one_arc 5 3) false
    ∷ judged (one_arc 1048574 3) false
    ∷ judged (one_arc no_arc pinned) false
    ∷ judged (one_arc no_arc banned) false
    -- "cells that can never be a link": from a vertex to itself, into the root, outside the instance
    ∷ judged (instance_from 2 0 5 (arc 1 1 1048576 ∷ arc 1 0 2000000 ∷ arc 0 2 4294967295 ∷ []) (arc 1 1 3 ∷ arc 1 0 4 ∷ arc 2 1 9 ∷ [])) true
    -- the last arc of all: 31→30
    ∷ judged (instance_from 32 31 0 [] (arc 31 30 pinned ∷ [])) false
    ∷ []

-- THE CLAIM
pub validity : map (λ j. valid_instance j.of) instances ≡ map (λ j. j.is) instances
unfolding instances instance_q instance_from filled all_below can_be_arc cell_ok cell_valid header_valid valid_instance
validity = refl
