-- Walks with their limits and rooms, tries counted at any budget, and limits refused or not: each as one list with one
-- claim about the whole list. Computed. Assumes nothing.
use mathlib.Core.Path.{◌≡◌, refl}
use mathlib.Core.Bool.{true, false}
use mathlib.Core.List.{List, [], ◌∷◌, map}
use Prim.Native.Nat.{ℕ}
use Rattle.base.specs.Bounded.{all_below, any_below, sum_below}
use Rattle.base.specs.Lists.{join_below}
use Rattle.instance.specs.Limits.{banned}
use Rattle.instance.specs.Instance.{Instance, weight, mark, can_be_arc, is_arc}
use Rattle.instance.specs.Arborescence.{is_pinned, other_pinned, remaining, reaches, total}
use Rattle.instance.proofs.WorkedCases.{arc, filled, instance_from, instance_q}
use Rattle.enumeration.specs.declared.Ended.{Ended}
use Rattle.enumeration.specs.declared.Ended.TheVariants.{Complete, AtLimit, NoRoom}
use Rattle.enumeration.specs.Events.{events_from, events, tries_from, tries}
use Rattle.enumeration.specs.Walk.{limit_refused, Walked, walk, walked}

-- sheet Q; and Q with no arc left into its last vertex
abbrev q : (budget : ℕ) → Instance
q b = instance_q b []

abbrev q_cut : (budget : ℕ) → Instance
q_cut b = instance_q b (arc 0 3 banned ∷ arc 1 3 banned ∷ arc 2 3 banned ∷ [])

abbrev single : (budget : ℕ) → Instance
single b = instance_from 1 0 b [] []

-- a root in the middle, and one that comes last
abbrev middle : (budget : ℕ) → Instance
middle b = instance_from 3 1 b (arc 1 0 2 ∷ arc 2 0 3 ∷ arc 0 2 4 ∷ arc 1 2 5 ∷ []) []

abbrev last : (budget : ℕ) → Instance
last b = instance_from 2 1 b (arc 1 0 5 ∷ []) []

abbrev t₁ : List ℕ
t₁ = 255 ∷ 0 ∷ 1 ∷ 1 ∷ []

abbrev t₂ : List ℕ
t₂ = 255 ∷ 2 ∷ 0 ∷ 1 ∷ []

abbrev t₃ : List ℕ
t₃ = 255 ∷ 3 ∷ 1 ∷ 0 ∷ []

pub record Case : Type 0 where
  pub of : Instance
  pub limit : ℕ
  pub room : ℕ
  pub gives : Walked

abbrev case : (of : Instance) → (limit room : ℕ) → Ended → (trees : List (List ℕ)) → (tries : ℕ) → Case
case s l r e pss k = record { of = s; limit = l; room = r; gives = record { ended = e; trees = pss; tries = k } }

unfoldable pub cases : List Case
cases =
    -- "Sheet Q at 16 lists 0 1 1, 2 0 1, 3 1 0 .. in 24 tries": a limit that is the exact count, and one below it; a
    -- room that is exact, and one byte less, where the tree of try 22 has none
    case (q 16) 24 12 Complete (t₁ ∷ t₂ ∷ t₃ ∷ []) 24 ∷
    case (q 16) 23 12 AtLimit (t₁ ∷ t₂ ∷ t₃ ∷ []) 23 ∷
    case (q 16) 24 11 NoRoom (t₁ ∷ t₂ ∷ []) 22 ∷
    -- the limit is reached by the try of that tree, and one more try would be due: the tree comes first
    case (q 16) 22 11 NoRoom (t₁ ∷ t₂ ∷ []) 22 ∷
    case (q 16) 22 12 AtLimit (t₁ ∷ t₂ ∷ t₃ ∷ []) 22 ∷
    -- one try earlier the limit comes first
    case (q 16) 21 11 AtLimit (t₁ ∷ t₂ ∷ []) 21 ∷
    -- a total equal to the budget is listed; one above it is not, though it is the cheapest. "The budget cuts no walk
    -- short", not even where no arc is within it
    case (q 15) 24 4 Complete (t₁ ∷ []) 24 ∷
    case (q 14) 24 0 Complete [] 24 ∷
    case (q 0) 24 0 Complete [] 24 ∷
    -- "For one position the empty tree is listed with no try": it takes a byte
    case (single 0) 1 1 Complete ((255 ∷ []) ∷ []) 0 ∷
    case (single 0) 1 0 NoRoom [] 0 ∷
    -- prefixes that can never be finished take tries: three arcs into 1, and two into 2 behind each
    case (q_cut 16) 9 12 Complete [] 9 ∷
    case (q_cut 16) 8 12 AtLimit [] 8 ∷
    -- the root takes no try in the middle: two arcs into 0, and two into 2 behind each, of which one closes a cycle;
    -- the last total is over the budget, and at 8 the limit comes before its try
    case (middle 7) 6 6 Complete ((1 ∷ 255 ∷ 0 ∷ []) ∷ (1 ∷ 255 ∷ 1 ∷ []) ∷ []) 6 ∷
    case (middle 8) 5 9 AtLimit ((1 ∷ 255 ∷ 0 ∷ []) ∷ (1 ∷ 255 ∷ 1 ∷ []) ∷ []) 5 ∷
    -- nor at the end
    case (last 5) 1 2 Complete ((1 ∷ 255 ∷ []) ∷ []) 1 ∷ []

-- THE CLAIM
pub worked_walks : map (λ c. walked c.of c.limit c.room) cases ≡ map (λ c. c.gives) cases
unfolding
    cases instance_q instance_from filled all_below any_below sum_below join_below weight mark can_be_arc is_arc is_pinned other_pinned remaining reaches total
    events_from events walk walked
worked_walks = refl

-- the tries of the same instances, at any budget
pub worked_tries : (b : ℕ) → map (λ s. tries s) (q b ∷ q_cut b ∷ single b ∷ middle b ∷ last b ∷ []) ≡ 24 ∷ 9 ∷ 0 ∷ 6 ∷ 1 ∷ []
unfolding
    instance_q instance_from filled all_below any_below sum_below weight mark can_be_arc is_arc is_pinned other_pinned remaining reaches
    tries_from tries
worked_tries b = refl

-- "26 for a try limit of 0 or above 1,000,000"
pub worked_limits : map limit_refused (0 ∷ 1 ∷ 1000000 ∷ 1000001 ∷ []) ≡ true ∷ false ∷ false ∷ true ∷ []
unfolding limit_refused
worked_limits = refl
