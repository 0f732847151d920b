-- The search for a cycle: what it needs, and what it gives. Assumes nothing: these are definitions.
use Rattle.std.specs.Prelude.{List, ℕ, ◌≤◌, ◌<◌}
use Rattle.instance.specs.Limits.{max_vertices}
use Rattle.contraction.specs.Cells.{nth}
use Rattle.contraction.specs.Groups.{Labels, Group, Along}
use Rattle.contraction.specs.Search.{Walk}

-- the search can go on from every group
pub record Searchable (ls tails : List ℕ) (n root : ℕ) : Type 0 where
  pub small : n ≤ max_vertices
  pub labels : Labels n root (nth ls)
  pub arc : (g : ℕ) → Group n root (nth ls) g → nth tails g < n

-- the walk that met itself at v
pub record Met (ls tails stamp : List ℕ) (n root v : ℕ) : Type 0 where
  pub first : ℕ
  pub last : ℕ
  pub walk : Walk n root (nth ls) (nth tails) (nth stamp) first last v
  pub met : first ≤ nth stamp v

-- from every group the root's is come to
abbrev pub NoCycle : (ls tails : List ℕ) (n root : ℕ) → Type 0
NoCycle ls tails n root = (v : ℕ) → v < n → Along (λ x. nth ls (nth tails x)) (nth ls root) (nth ls v)
