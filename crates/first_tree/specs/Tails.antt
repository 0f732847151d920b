-- The tails that each vertex can have, as sets: the set at place h has the tails of the admissible arcs into h. Assumes
-- nothing: these are definitions.
use Rattle.std.specs.Prelude.{◌≡◌, Bool, true, ◌&&◌, cond, List, ℕ, ◌≤◌, ◌<◌, eqb, length, get_or}
use Rattle.base.specs.Digits.{from_digits}
use Rattle.instance.specs.Limits.{max_vertices}
use Rattle.instance.specs.Instance.{Instance, cell, is_arc}
use Rattle.instance.specs.Arborescence.{remaining}
use Rattle.instance.specs.Cuts.{inside}
use Rattle.instance.specs.Matrix.{unmarked}

-- whether an arc is admissible
abbrev pub admissible_by : (tails : List ℕ) → (tail head : ℕ) → Bool
admissible_by zs t h = inside (get_or zs h 0) t

-- a set for each vertex, of arcs that remain
pub record TailsOk (s : Instance) (tails : List ℕ) : Type 0 where
  pub size : length tails ≡ max_vertices
  pub arcs : (t h : ℕ) → admissible_by tails t h ≡ true → remaining s t h ≡ true

-- AT FIRST: the arcs of a matrix whose reduced costs are 0
unfoldable pub tight : (m reduced : List ℕ) → (n root tail head : ℕ) → Bool
tight m red n root t h = eqb (get_or red (cell t h) 0) 0 && is_arc (unmarked n root m) t h

-- their tails below a bound
unfoldable pub tight_set : (m reduced : List ℕ) → (n root bound head : ℕ) → ℕ
tight_set m red n root b h = from_digits 2 b (λ t. cond (tight m red n root t h) 1 0)

-- the sets of all heads; none elsewhere
pub record TightTails (m reduced : List ℕ) (n root : ℕ) (tails : List ℕ) : Type 0 where
  pub size : length tails ≡ max_vertices
  pub into : (h : ℕ) → h < n → get_or tails h 0 ≡ tight_set m reduced n root n h
  pub rest : (h : ℕ) → n ≤ h → get_or tails h 0 ≡ 0
