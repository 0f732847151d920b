-- A plan made elsewhere, with cuts that are to prove it cheapest: when it is accepted, and by which number it is
-- refused. Everything about it is decided, so a check is an equation. Assumes nothing: these are definitions.
use Rattle.std.specs.Prelude.{Bool, ◌&&◌, ◌||◌, not, cond, List, [], ◌∷◌, ℕ, ◌*◌, ltb, leb, eqb, length, take}
use Rattle.instance.specs.Limits.{max_cuts}
use Rattle.instance.specs.Refusals.{buffer_short, not_arborescence, wrong_total, bad_cut, overcharged, wrong_values}
use Rattle.instance.specs.Instance.{Instance, weight}
use Rattle.instance.specs.Arborescence.{each_remaining, is_arborescence, total}
use Rattle.instance.specs.Cuts.{Cut, cuts_in, charged, values, sets_ok}

-- an arc is charged with at most its weight
abbrev pub covered : Instance → List Cut → (tail head : ℕ) → Bool
covered s cs t h = leb (charged cs t h) (weight s t h)

-- "no remaining link charged above its price"
abbrev pub none_overcharged : Instance → List Cut → Bool
none_overcharged s cs = each_remaining s (covered s cs)

-- "Accepted means: a feed tree with 255 at the root, its total right, every cut a non-empty set of positions without
-- the root, no remaining link charged above its price, and amounts adding to the total." Otherwise "in order .. 21 not
-- a feed tree, 22 wrong total, 23 a bad cut or more than 61, 24 a link overcharged, 25 amounts not adding up". "Amount
-- 0 is allowed; the budget is not judged."
unfoldable pub certificate_fault : Instance → (parents : List ℕ) → (total : ℕ) → (cuts : List Cut) → ℕ
certificate_fault s ps v cs =
    cond (not (is_arborescence s ps)) not_arborescence
    (cond (not (eqb (total s ps) v)) wrong_total
    (cond (not (leb (length cs) max_cuts && sets_ok s cs)) bad_cut
    (cond (not (none_overcharged s cs)) overcharged
    (cond (not (eqb (values cs) v)) wrong_values 0))))

-- as it is sent: "a feeder list, a total, a count of cuts and that many pairs of words". Fewer than n feeders, or fewer
-- than that many pairs, are too short, and 14 comes before 21; what stands after the first n and after the pairs is not
-- looked at
unfoldable pub certificate_refusal : Instance → (parents : List ℕ) → (total count : ℕ) → (words : List ℕ) → ℕ
certificate_refusal s ps v k ws =
    cond (ltb (length ps) s.n || ltb (length ws) (2 * k)) buffer_short
    (certificate_fault s (take s.n ps) v (cuts_in k ws))

-- what it may be: 0 for accepted, "14, 21 not a feed tree, 22 wrong total, 23 a bad cut or more than 61, 24 a link
-- overcharged, 25 amounts not adding up"
abbrev pub certificate_numbers : List ℕ
certificate_numbers = 0 ∷ buffer_short ∷ not_arborescence ∷ wrong_total ∷ bad_cut ∷ overcharged ∷ wrong_values ∷ []
