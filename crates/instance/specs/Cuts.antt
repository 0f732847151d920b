-- Cuts: sets of vertices as bits, with dual values; what they prove. Assumes nothing: these are definitions.
use Rattle.std.specs.Prelude.{◌≡◌, Bool, true, false, ◌&&◌, not, cond, List, [], ◌∷◌, ◌++◌, ℕ, zero, suc, ◌+◌, ◌*◌, ◌-◌, ◌/◌, ◌%◌, ◌^◌, ◌≤◌, ltb, leb, eqb, length, get_or, replicate}
use Rattle.instance.specs.Limits.{cut_limit, cut_words}
use Rattle.instance.specs.Instance.{Instance, weight}
use Rattle.instance.specs.Arborescence.{remaining}

-- A cut (document 01: a cut and its amount): a set of vertices, "bit k of the set for position k", and its dual value.
pub record Cut : Type 0 where
  pub set : ℕ
  pub value : ℕ

-- cuts "as pairs (set, amount)" of words, from pair i on: so many
unfoldable pub cuts_from : (count i : ℕ) → (words : List ℕ) → List Cut
cuts_from zero i ws = []
cuts_from (suc k) i ws = record { set = get_or ws (2 * i) 0; value = get_or ws (2 * i + 1) 0 } ∷ cuts_from k (suc i) ws

unfoldable pub cuts_in : (count : ℕ) → (words : List ℕ) → List Cut
cuts_in k ws = cuts_from k 0 ws

-- and the other way: "Cuts: the first 122 words as pairs (set, amount), .. then zeros"
unfoldable pub pair_words : List Cut → List ℕ
pair_words [] = []
pair_words (c ∷ cs) = c.set ∷ c.value ∷ pair_words cs

unfoldable pub words_of : List Cut → List ℕ
words_of cs = pair_words cs ++ replicate (cut_words - 2 * length cs) 0

unfoldable pub inside : (set v : ℕ) → Bool
inside c v = eqb (c / 2 ^ v % 2) 1

-- "A link enters a cut if its feeder is outside and its fed position inside."
unfoldable pub enters : (set tail head : ℕ) → Bool
enters c t h = not (inside c t) && inside c h

-- what the cuts that an arc enters charge it
unfoldable pub charged : List Cut → (tail head : ℕ) → ℕ
charged [] t h = 0
charged (c ∷ cs) t h = cond (enters c.set t h) c.value 0 + charged cs t h

unfoldable pub values : List Cut → ℕ
values [] = 0
values (c ∷ cs) = c.value + values cs

-- "a non-empty set of positions without the root"
unfoldable pub set_ok : Instance → (set : ℕ) → Bool
set_ok s c = (ltb 0 c && ltb c (2 ^ s.n)) && not (inside c s.root)

unfoldable pub sets_ok : Instance → List Cut → Bool
sets_ok s [] = true
sets_ok s (c ∷ cs) = set_ok s c.set && sets_ok s cs

-- "each amount is at least 1"
unfoldable pub all_positive : List Cut → Bool
all_positive [] = true
all_positive (c ∷ cs) = leb 1 c.value && all_positive cs

-- Dual feasible cuts: "for each remaining link, the amounts of the cuts it enters add to at most its price". A value
-- may be 0 here.
pub record Feasible (s : Instance) (cs : List Cut) : Type 0 where
  pub sets : sets_ok s cs ≡ true
  pub covered : (t h : ℕ) → remaining s t h ≡ true → charged cs t h ≤ weight s t h

-- Cuts that prove a price: "each amount is at least 1", none overcharges, "all amounts add to the cheapest total", "at
-- most 2n − 3".
pub record Proves (s : Instance) (cs : List Cut) (v : ℕ) : Type 0 where
  pub feasible : Feasible s cs
  pub positive : all_positive cs ≡ true
  pub few : length cs ≤ cut_limit s.n
  pub adds : values cs ≡ v

-- The reduced cost (document 01: reduced price) of a remaining arc is "its price less the amounts of the cuts it
-- enters".
unfoldable pub reduced_cost : Instance → List Cut → (tail head : ℕ) → ℕ
reduced_cost s cs t h = weight s t h - charged cs t h

-- "a non-empty set of positions without the root that no remaining link enters, with amount 0"
pub record NoEntry (s : Instance) (c : Cut) : Type 0 where
  pub set_good : set_ok s c.set ≡ true
  pub value_zero : c.value ≡ 0
  pub shut : (t h : ℕ) → remaining s t h ≡ true → enters c.set t h ≡ false
