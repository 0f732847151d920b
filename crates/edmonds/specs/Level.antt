-- One level of contraction: what planning it needs, and what it gives. Assumes nothing: these are definitions.
use Rattle.std.specs.Prelude.{◌≡◌, List, ◌⊎◌, ℕ, ◌+◌, ◌*◌, ◌-◌, ◌≤◌, ◌<◌, length}
use Rattle.instance.specs.Limits.{max_vertices, no_parent}
use Rattle.instance.specs.Cuts.{cuts_from}
use Rattle.contraction.specs.Cells.{nth, cost}
use Rattle.contraction.specs.Groups.{Labels, Chosen, Lowered, groups}
use Rattle.contraction.specs.Trees.{Each, Tree, ProperCut}

-- groups of which each but the root's has chosen an arc of weight 0: at most so many are left
pub record Plannable (ws ls tails heads : List ℕ) (n root left : ℕ) : Type 0 where
  pub tails_size : length tails ≡ max_vertices
  pub heads_size : length heads ≡ max_vertices
  pub small : n ≤ max_vertices
  pub labels : Labels n root (nth ls)
  pub chosen : Chosen n root (cost ws) (nth ls) (nth tails) (nth heads)
  pub enough : groups n (nth ls) ≤ left
  pub two : 2 ≤ left

-- A tree of the groups. The cuts of this level and of those below it are at the places from k up to next, and the
-- matrix holds the reduced costs that they leave.
pub record Solution (ws ws' ls : List ℕ) (n root left k : ℕ) (cuts cuts' ps : List ℕ) (next : ℕ) : Type 0 where
  pub parents_size : length ps ≡ max_vertices
  pub tree : Tree n root (cost ws') (nth ls) (cuts_from (next - k) k cuts') (nth ps)
  pub lowered : Lowered n (cost ws) (cost ws') (cuts_from (next - k) k cuts')
  pub proper_cuts : Each (ProperCut n root) (cuts_from (next - k) k cuts')
  pub least : k ≤ next
  pub most : next + 2 ≤ k + left
  pub frame : (i : ℕ) → (i < 2 * k) ⊎ (2 * next ≤ i) → nth cuts' i ≡ nth cuts i
  pub root_none : nth ps root ≡ no_parent
