-- Lowering the arcs into a group. Assumes nothing: these are definitions.
use Rattle.std.specs.Prelude.{◌≡◌, ◌&&◌, not, cond, List, ◌⊎◌, ◌≢◌, ℕ, ◌-◌, ◌≤◌, ◌<◌, ltb, eqb, length}
use Rattle.instance.specs.Limits.{max_vertices, no_arc, cells}
use Rattle.contraction.specs.Cells.{nth, cost}

-- a value that no arc into vertex h of the group is below
abbrev pub AffordsInto : (ws ls : List ℕ) (n g h value : ℕ) → Type 0
AffordsInto ws ls n g h a = (t : ℕ) → t < n → nth ls t ≢ g → a ≤ cost ws t h

-- a value that no arc into the group is below
abbrev pub Affords : (ws ls : List ℕ) (n g value : ℕ) → Type 0
Affords ws ls n g a = (h : ℕ) → h < n → nth ls h ≡ g → AffordsInto ws ls n g h a

-- what an arc of weight x becomes
abbrev pub lowered_weight : (ls : List ℕ) (g value t h x : ℕ) → ℕ
lowered_weight ls g a t h x = cond (eqb (nth ls h) g && (not (eqb (nth ls t) g) && ltb x no_arc)) (x - a) x

-- the arcs into h from tails below a bound are lowered, all others are as they were
pub record LoweredInto (ws ws' ls : List ℕ) (bound g h value : ℕ) : Type 0 where
  pub size : length ws' ≡ cells
  pub done : (t : ℕ) → t < bound → cost ws' t h ≡ lowered_weight ls g value t h (cost ws t h)
  pub rest : (t v : ℕ) → v < max_vertices → (bound ≤ t) ⊎ (v ≢ h) → cost ws' t v ≡ cost ws t v

-- the arcs into vertices below a bound are lowered, all others are as they were
pub record LoweredCells (ws ws' ls : List ℕ) (n g value bound : ℕ) : Type 0 where
  pub size : length ws' ≡ cells
  pub done : (t h : ℕ) → t < n → h < bound → cost ws' t h ≡ lowered_weight ls g value t h (cost ws t h)
  pub rest : (t h : ℕ) → h < max_vertices → (n ≤ t) ⊎ (bound ≤ h) → cost ws' t h ≡ cost ws t h
