-- Document 01's words on outcomes, link states and the feeder list, as 02 amends them, read as statements about all
-- lists of parents, where `instance` computes them from a listing. The theorems that the two agree are in proofs/.
-- Assumes nothing: these are definitions.
use Rattle.std.specs.Prelude.{◌≡◌, true, false, List, ◌↔◌, ◌⊎◌, ℕ, ◌+◌, ◌*◌, ◌≤◌, ◌<◌, length, get_or}
use Rattle.std.proofs.Math.Option.{Option, none, some}
use Rattle.instance.specs.Instance.{Instance, is_arc}
use Rattle.instance.specs.Arborescence.{is_arborescence, total, uses}
use Rattle.instance.specs.declared.Outcome.{Outcome}
use Rattle.instance.specs.declared.Outcome.TheVariants.{Plan, Over, NoTree}
use Rattle.instance.specs.States.{fits}
use Rattle.theory.specs.Order.{SameOrBefore}

-- KINDS OF LISTS
-- a feed tree "within budget"
abbrev pub Fits : Instance → List ℕ → Type 0
Fits s ps = fits s ps ≡ true

-- a feed tree within "the larger of the budget and the cheapest total" (02, A2): within the budget, or none is cheaper
pub record WithinLimit (s : Instance) (ps : List ℕ) : Type 0 where
  pub arborescence : is_arborescence s ps ≡ true
  pub within : (total s ps ≤ s.budget) ⊎ ((qs : List ℕ) → is_arborescence s qs ≡ true → total s ps ≤ total s qs)

-- THE LISTS OF A KIND AND AN ARC
abbrev pub SomeAre : (kind : List ℕ → Type 0) → Type 0
SomeAre K = (ps : List ℕ) × K ps

abbrev pub SomeUses : (kind : List ℕ → Type 0) → (tail head : ℕ) → Type 0
SomeUses K t h = (ps : List ℕ) × K ps × (uses ps t h ≡ true)

abbrev pub SomeAvoids : (kind : List ℕ → Type 0) → (tail head : ℕ) → Type 0
SomeAvoids K t h = (ps : List ℕ) × K ps × (uses ps t h ≡ false)

abbrev pub NoneUses : (kind : List ℕ → Type 0) → (tail head : ℕ) → Type 0
NoneUses K t h = (ps : List ℕ) → K ps → uses ps t h ≡ false

abbrev pub AllUse : (kind : List ℕ → Type 0) → (tail head : ℕ) → Type 0
AllUse K t h = (ps : List ℕ) → K ps → uses ps t h ≡ true

-- v is the state of the cell: "0 not a link; 1 closed, no tree uses it; 2 open, some use it and some don't; 3 sure,
-- there is at least one tree and all use it", of the trees within the limit
pub record StateReads (s : Instance) (t h v : ℕ) : Type 0 where
  pub absent : is_arc s t h ≡ false → v ≡ 0
  pub present : is_arc s t h ≡ true → (1 ≤ v) × (v ≤ 3)
  pub excluded : is_arc s t h ≡ true → (v ≡ 1) ↔ NoneUses (WithinLimit s) t h
  pub optional : is_arc s t h ≡ true → (v ≡ 2) ↔ (SomeUses (WithinLimit s) t h × SomeAvoids (WithinLimit s) t h)
  pub mandatory : is_arc s t h ≡ true → (v ≡ 3) ↔ (SomeAre (WithinLimit s) × AllUse (WithinLimit s) t h)

-- "the first n times n bytes, feeder by feeder"
pub record StatesRead (s : Instance) (vs : List ℕ) : Type 0 where
  pub size : length vs ≡ s.n * s.n
  pub reads : (t h : ℕ) → t < s.n → h < s.n → StateReads s t h (get_or vs (t * s.n + h) 0)

-- v is the cheapest total: an arborescence has it, and none has less
pub record LeastTotal (s : Instance) (v : ℕ) : Type 0 where
  pub parents : List ℕ
  pub arborescence : is_arborescence s parents ≡ true
  pub attained : total s parents ≡ v
  pub least : (ps : List ℕ) → is_arborescence s ps ≡ true → v ≤ total s ps

abbrev pub NoArborescence : Instance → Type 0
NoArborescence s = (ps : List ℕ) → is_arborescence s ps ≡ false

-- o is the cheapest total, where there is a tree
unfoldable pub CheapestReads : Instance → Option ℕ → Type 0
CheapestReads s none = NoArborescence s
CheapestReads s (some v) = LeastTotal s v

-- o is the outcome: "plan with its total; over with the cheapest total; none"
pub record OutcomeReads (s : Instance) (o : Outcome) : Type 0 where
  pub plans : (v : ℕ) → (o ≡ Plan v) ↔ (LeastTotal s v × (v ≤ s.budget))
  pub exceeds : (v : ℕ) → (o ≡ Over v) ↔ (LeastTotal s v × (s.budget < v))
  pub fails : (o ≡ NoTree) ↔ NoArborescence s

-- ps is "among all cheapest feed trees, the first when compared position by position" (02, A10): an arborescence; none
-- is cheaper; and each that is as cheap is ps or comes after it
pub record FirstReads (s : Instance) (ps : List ℕ) : Type 0 where
  pub arborescence : is_arborescence s ps ≡ true
  pub least : (qs : List ℕ) → is_arborescence s qs ≡ true → total s ps ≤ total s qs
  pub first : (qs : List ℕ) → is_arborescence s qs ≡ true → total s qs ≡ total s ps → SameOrBefore ps qs
