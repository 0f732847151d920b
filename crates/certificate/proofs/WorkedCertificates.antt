-- Plans made elsewhere, computed: each number with what it comes before, the traps, and plans that are accepted.
-- Assumes nothing.
use mathlib.Core.Path.{◌≡◌, refl}
use mathlib.Core.List.{List, [], ◌∷◌, ◌++◌, map}
use Prim.Native.Nat.{ℕ, zero, suc}
use Rattle.base.specs.Bounded.{all_below, any_below, sum_below}
use Rattle.instance.specs.Limits.{pinned, banned}
use Rattle.instance.specs.Refusals.{buffer_short, not_arborescence, wrong_total, bad_cut, overcharged, wrong_values}
use Rattle.instance.specs.Instance.{Instance, weight, mark, can_be_arc, is_arc}
use Rattle.instance.specs.Arborescence.{is_pinned, other_pinned, remaining, if_remaining, each_remaining, reaches, parent_ok, is_arborescence, total}
use Rattle.instance.specs.Cuts.{cuts_from, cuts_in, inside, enters, charged, values, set_ok, sets_ok}
use Rattle.instance.proofs.WorkedCases.{At, arc, filled, instance_from, instance_q, two}
use Rattle.certificate.specs.Certificate.{certificate_fault, certificate_refusal}

-- a plan for an instance, as it was sent, and what is answered
pub record Sent : Type 0 where
  pub for : Instance
  pub parents : List ℕ
  pub costs : ℕ
  pub count : ℕ
  pub words : List ℕ
  pub is : ℕ

-- P1's tree, and "Cuts that fit P1: {1} 2, {2} 1, {3} 4, {1,2} 5, {1,2,3} 3."
abbrev tree : List ℕ
tree = 255 ∷ 0 ∷ 1 ∷ 1 ∷ []

abbrev last_four : List ℕ
last_four = 4 ∷ 1 ∷ 8 ∷ 4 ∷ 6 ∷ 5 ∷ 14 ∷ 3 ∷ []

abbrev cuts : List ℕ
cuts = 2 ∷ 2 ∷ last_four

-- a pair so many times
unfoldable pub pairs : (count set value : ℕ) → List ℕ
pairs zero c v = []
pairs (suc k) c v = c ∷ v ∷ pairs k c v

abbrev to_q : (budget : ℕ) → (parents : List ℕ) → (costs count : ℕ) → (words : List ℕ) → (is : ℕ) → Sent
to_q b ps v k ws a = record { for = instance_q b []; parents = ps; costs = v; count = k; words = ws; is = a }

abbrev marked : (budget : ℕ) → (marks : List At) → (parents : List ℕ) → (costs : ℕ) → (is : ℕ) → Sent
marked b ms ps v a = record { for = instance_q b ms; parents = ps; costs = v; count = 5; words = cuts; is = a }

abbrev to_one : (budget : ℕ) → (parents : List ℕ) → (costs count : ℕ) → (words : List ℕ) → (is : ℕ) → Sent
to_one b ps v k ws a = record { for = instance_from 1 0 b [] []; parents = ps; costs = v; count = k; words = ws; is = a }

-- for every budget b, since "the budget is not judged"
unfoldable pub plans : (b : ℕ) → List Sent
plans b =
    -- accepted: with equal sets and values of 0, "Amount 0 is allowed", and so more cuts than 2n − 3, up to 61; bytes
    -- after the first n and words after the pairs are not looked at
    to_q b tree 15 5 cuts 0
    ∷ to_q b tree 15 7 (8 ∷ 0 ∷ cuts ++ (8 ∷ 0 ∷ [])) 0
    ∷ to_q b tree 15 61 (cuts ++ pairs 56 14 0) 0
    ∷ to_q b (tree ++ (0 ∷ 3 ∷ [])) 15 5 (cuts ++ (1 ∷ 1000 ∷ 7 ∷ [])) 0
    -- 14 comes before all else, however large the count
    ∷ to_q b (255 ∷ 0 ∷ 1 ∷ []) 15 5 cuts buffer_short
    ∷ to_q b tree 15 6 (cuts ++ (8 ∷ [])) buffer_short
    ∷ to_q b (0 ∷ 0 ∷ 0 ∷ 0 ∷ []) 99 4000000000 cuts buffer_short
    ∷ to_q b tree 15 2147483648 [] buffer_short
    -- 21: something else than 255 at the root, 255 elsewhere, a cycle, no link (3→2), no position; in the last two
    -- the total is wrong too
    ∷ to_q b (0 ∷ 0 ∷ 1 ∷ 1 ∷ []) 15 5 cuts not_arborescence
    ∷ to_q b (255 ∷ 0 ∷ 1 ∷ 255 ∷ []) 11 5 cuts not_arborescence
    ∷ to_q b (255 ∷ 2 ∷ 1 ∷ 1 ∷ []) 7 5 cuts not_arborescence
    ∷ to_q b (255 ∷ 0 ∷ 3 ∷ 1 ∷ []) 99 5 cuts not_arborescence
    ∷ to_q b (255 ∷ 0 ∷ 4 ∷ 1 ∷ []) 99 5 cuts not_arborescence
    -- 22; the second with a bad cut too
    ∷ to_q b tree 16 5 cuts wrong_total
    ∷ to_q b tree 14 1 (0 ∷ 14 ∷ []) wrong_total
    -- 23: the empty set, the root, a position that is not there; 62 cuts; all cuts are judged before any link
    ∷ to_q b tree 15 5 (0 ∷ 2 ∷ last_four) bad_cut
    ∷ to_q b tree 15 5 (3 ∷ 2 ∷ last_four) bad_cut
    ∷ to_q b tree 15 5 (16 ∷ 2 ∷ last_four) bad_cut
    ∷ to_q b tree 15 62 (cuts ++ pairs 57 14 0) bad_cut
    ∷ to_q b tree 15 2 (14 ∷ 1000 ∷ 1 ∷ 0 ∷ []) bad_cut
    -- 24: 0→1 is charged 11; values that add to 0 in 32 bits; 61 times the greatest; the sum is wrong too
    ∷ to_q b tree 15 5 (2 ∷ 3 ∷ last_four) overcharged
    ∷ to_q b tree 15 7 (cuts ++ pairs 2 14 2147483648) overcharged
    ∷ to_q b tree 15 61 (pairs 61 14 4294967295) overcharged
    -- 25: one less; a cut left out; none; a tree that is not cheapest
    ∷ to_q b tree 15 5 (2 ∷ 1 ∷ last_four) wrong_values
    ∷ to_q b tree 15 4 last_four wrong_values
    ∷ to_q b tree 15 0 [] wrong_values
    ∷ to_q b (255 ∷ 2 ∷ 0 ∷ 1 ∷ []) 16 5 cuts wrong_values
    -- marks: 0→1 banned; 2→1 pinned, and so 0→1 does not remain; two pins that leave no tree
    ∷ marked b (arc 0 1 banned ∷ []) tree 15 not_arborescence
    ∷ marked b (arc 2 1 pinned ∷ []) tree 15 not_arborescence
    ∷ marked b (arc 2 1 pinned ∷ arc 1 2 pinned ∷ []) (255 ∷ 2 ∷ 1 ∷ 1 ∷ []) 7 not_arborescence
    ∷ marked b (arc 2 1 pinned ∷ arc 1 2 pinned ∷ []) (255 ∷ 255 ∷ 255 ∷ 255 ∷ []) 0 not_arborescence
    -- a ban takes a charge away: with 3→1 banned nothing forbids it to be charged 10
    ∷ marked b (arc 3 1 banned ∷ []) tree 15 0
    ∷ record { for = instance_q b (arc 3 1 banned ∷ []); parents = tree; costs = 15; count = 4; words = 2 ∷ 2 ∷ 4 ∷ 1 ∷ 8 ∷ 4 ∷ 6 ∷ 8 ∷ []; is = 0 }
    ∷ to_q b tree 15 4 (2 ∷ 2 ∷ 4 ∷ 1 ∷ 8 ∷ 4 ∷ 6 ∷ 8 ∷ []) overcharged
    -- one position: no cut, or any is a bad one
    ∷ to_one b (255 ∷ []) 0 0 [] 0
    ∷ to_one b (0 ∷ []) 0 0 [] not_arborescence
    ∷ to_one b (255 ∷ []) 1 0 [] wrong_total
    ∷ to_one b (255 ∷ []) 0 1 (0 ∷ 0 ∷ []) bad_cut
    ∷ to_one b (255 ∷ []) 0 1 (1 ∷ 0 ∷ []) bad_cut
    ∷ to_one b (255 ∷ []) 0 1 (2 ∷ 0 ∷ []) bad_cut
    -- P9
    ∷ record { for = two b []; parents = 255 ∷ 0 ∷ []; costs = 5; count = 1; words = 2 ∷ 5 ∷ []; is = 0 }
    ∷ []

-- THE CLAIM
pub plans_judged : (b : ℕ) → map (λ x. certificate_refusal x.for x.parents x.costs x.count x.words) (plans b) ≡ map (λ x. x.is) (plans b)
unfolding
    plans pairs certificate_refusal certificate_fault instance_q two instance_from filled all_below any_below sum_below weight mark can_be_arc is_arc
    is_pinned other_pinned remaining if_remaining each_remaining reaches parent_ok is_arborescence total cuts_from cuts_in inside enters charged values
    set_ok sets_ok
plans_judged b = refl
