-- `expansion::entry_vertex` meets its contract. No vertex below u is an entry, and there is one. Assumes nothing.
use Prim.Native.Nat.{ℕ, ◌≤◌, ◌<◌}
use Rattle.expansion.specs.Expansion.{CycleEntry}
use Rattle.expansion.proofs.entry_vertex.Given as goal

abbrev pub invariant-loop-u : goal.invariant-loop-u
invariant-loop-u l = (l.u ≤ l.n) × ((q : ℕ) → q < l.u → CycleEntry l.label l.stamp l.parents l.n l.at q → ⊥)
