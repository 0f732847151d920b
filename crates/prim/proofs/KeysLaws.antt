-- The weight of an edge as a program reads it, and the cells of the table of keys. Assumes nothing.
use mathlib.Core.Path.{◌≡◌}
use mathlib.Core.Bool.{Bool, true, false, ◌&&◌, not}
use Prim.Native.Nat.{ℕ, ◌+◌, ◌*◌, ◌/◌, ◌%◌, ◌<◌}
use native.Mathlib.Omega.{arith}
use lib.Dec.{ltb, eqb}
use lib.ListN.{get_or}
use Rattle.base.proofs.ListLaws.{default}
use Rattle.instance.specs.Limits.{no_arc}
use Rattle.spanning.specs.Graph.{Graph, edge_weight}
use Rattle.spanning.specs.Refusal.{ValidGraph}
use Rattle.spanning.specs.Keys.{no_key, edge_key}
use Rattle.spanning.specs.KeyTables.{table_key}
use Rattle.prim.proofs.PlaceLaws.{place}

module _ (g : Graph) (valid : ValidGraph g) (i j : ℕ) (ib : i < g.n) (jb : j < g.n) where
  pub weight_read : get_or g.weights (i * g.n + j) 0 ≡ edge_weight g i j
  weight_read =
      let p = place g.n i j valid.small ib jb in
      let a = p.inside in
      let b = valid.weights_size in
      default g.weights (i * g.n + j) 0 no_arc (omega arith)

-- A CELL OF THE TABLE
module _ (g : Graph) (c : ℕ) where
  pub cell_none : (a b d : Bool) → ltb (c / 32) g.n ≡ a → ltb (c % 32) g.n ≡ b → eqb (c / 32) (c % 32) ≡ d → (a && b) && not d ≡ false → no_key ≡ table_key g c
  unfolding table_key
  cell_none a b d e f h z = rw (e, f, h, z)

  pub cell_some : ltb (c / 32) g.n ≡ true → ltb (c % 32) g.n ≡ true → eqb (c / 32) (c % 32) ≡ false → edge_key g (c / 32) (c % 32) ≡ table_key g c
  unfolding table_key
  cell_some e f h = rw (e, f, h)
