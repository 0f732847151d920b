-- Planning with one arc forced, by taking the other arcs into its head out of the matrix. Assumes nothing: these are
-- definitions.
use Rattle.std.specs.Prelude.{◌≡◌, Bool, true, false, ◌&&◌, not, cond, List, ℕ, ◌/◌, ◌%◌, ◌≤◌, ◌<◌, ltb, eqb, length, get_or, take}
use Rattle.instance.specs.Limits.{no_arc, cells}
use Rattle.instance.specs.Arborescence.{is_arborescence, total, uses}
use Rattle.instance.specs.Matrix.{unmarked}
use Rattle.paths.specs.Tree.{MatrixTree}
use Rattle.edmonds.specs.declared.Planned.{Planned}

-- the cells of the other arcs into the head, of tails below a bound
abbrev pub taken_out : (bound tail₀ head₀ tail head : ℕ) → Bool
taken_out b t₀ h₀ t h = ltb t b && (eqb h h₀ && not (eqb t t₀))

pub record ForcedMatrix (m w : List ℕ) (bound tail₀ head₀ : ℕ) : Type 0 where
  pub size : length w ≡ cells
  pub at : (i : ℕ) → i < cells → get_or w i 0 ≡ cond (taken_out bound tail₀ head₀ (i / 32) (i % 32)) no_arc (get_or m i 0)

-- a cheapest arborescence that uses the arc
pub record ForcedPlan (m : List ℕ) (n root t h : ℕ) (r : Planned) : Type 0 where
  pub tree : MatrixTree n root m r.parents
  pub used : uses (take n r.parents) t h ≡ true
  pub is_total : r.total ≡ total (unmarked n root m) (take n r.parents)
  pub least : (qs : List ℕ) → is_arborescence (unmarked n root m) qs ≡ true → uses qs t h ≡ true → r.total ≤ total (unmarked n root m) qs

-- no arborescence uses the arc
abbrev pub NoneForced : (m : List ℕ) (n root t h : ℕ) → Type 0
NoneForced m n root t h = (qs : List ℕ) → is_arborescence (unmarked n root m) qs ≡ true → uses qs t h ≡ false
