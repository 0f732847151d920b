-- What is maintained while the arcs of a matrix are judged one after the other: a table that says 1 of usable arcs
-- alone, and of every usable arc that has been judged. Assumes nothing: these are definitions.
use Rattle.std.specs.Prelude.{◌≡◌, true, List, ◌≢◌, ℕ, ◌+◌, ◌≤◌, ◌<◌, length}
use Rattle.instance.specs.Limits.{max_vertices, max_budget, no_arc, cells}
use Rattle.instance.specs.Instance.{Instance, weight}
use Rattle.instance.specs.Arborescence.{remaining, is_arborescence, total, uses}
use Rattle.instance.specs.Matrix.{unmarked, MatrixOk}
use Rattle.theory.specs.Usable.{usable}
use Rattle.usable.specs.Table.{is_used}
use Rattle.usable.specs.Fitting.{Reduced}

-- An upper bound on the least total with the arc: its weight, d and the rest. "No arc" as d says that none is known.
pub record UpperBound (s : Instance) (t h rest d : ℕ) : Type 0 where
  pub tree : remaining s t h ≡ true → d < no_arc
      → (qs : List ℕ) × (is_arborescence s qs ≡ true) × (uses qs t h ≡ true) × (total s qs ≤ rest + weight s t h + d)

-- an arc to be judged: of a cheapest arborescence of total v
pub record JudgeableArc (m reduced : List ℕ) (n root v rest d t h : ℕ) : Type 0 where
  pub matrix_ok : MatrixOk n root m
  pub costs : Reduced m reduced n root v
  pub rest_most : rest ≤ v
  pub most : v ≤ max_budget
  pub tail_below : t < n
  pub head_below : h < n
  pub not_root : h ≢ root
  pub bound : UpperBound (unmarked n root m) t h rest d

-- JUDGING
pub record Sound (s : Instance) (used : List ℕ) : Type 0 where
  pub size : length used ≡ cells
  pub right : (t h : ℕ) → t < max_vertices → h < max_vertices → is_used used t h ≡ true → usable s t h ≡ true

-- a table loses nothing
abbrev pub Grows : (before after : List ℕ) → Type 0
Grows us vs = (t h : ℕ) → t < max_vertices → h < max_vertices → is_used us t h ≡ true → is_used vs t h ≡ true

-- one arc is judged: the table stays sound, loses nothing, and has the arc if it is usable
pub record Judged (s : Instance) (t h : ℕ) (before after : List ℕ) : Type 0 where
  pub sound : Sound s after
  pub grown : Grows before after
  pub done : usable s t h ≡ true → is_used after t h ≡ true

-- the arcs into a head are judged, of tails below a bound
pub record JudgedHead (s : Instance) (bound h : ℕ) (before after : List ℕ) : Type 0 where
  pub sound : Sound s after
  pub grown : Grows before after
  pub done : (t : ℕ) → t < bound → usable s t h ≡ true → is_used after t h ≡ true

-- all arcs into the heads below a bound are judged
pub record JudgedAll (s : Instance) (bound : ℕ) (used : List ℕ) : Type 0 where
  pub sound : Sound s used
  pub done : (t h : ℕ) → t < s.n → h < bound → usable s t h ≡ true → is_used used t h ≡ true
