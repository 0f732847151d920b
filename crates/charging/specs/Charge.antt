-- Charging a group: what its functions give. Assumes nothing: these are definitions.
use Rattle.std.specs.Prelude.{◌≡◌, false, List, ◌++◌, ◌⊎◌, ◌≢◌, ℕ, ◌+◌, ◌*◌, ◌-◌, ◌≤◌, ◌<◌}
use Rattle.instance.specs.Limits.{no_arc}
use Rattle.instance.specs.Cuts.{Cut, cuts_from, enters}
use Rattle.contraction.specs.Groups.{Lowered}
use Rattle.contraction.specs.Trees.{Each, Tree, Proper, ProperCut}
use Rattle.contraction.specs.Cells.{nth, cost}
use Rattle.charging.specs.declared.charge.Charged.{Charged}

-- an arc of weight 0 into group g
pub record ChosenArc (ws ls : List ℕ) (n g t h : ℕ) : Type 0 where
  pub tail_below : t < n
  pub head_below : h < n
  pub tail_out : nth ls t ≢ g
  pub head_in : nth ls h ≡ g
  pub tight : cost ws t h ≡ 0

-- a set of vertices that no arc enters
pub record Unentered (n root : ℕ) (ws : List ℕ) (set : ℕ) : Type 0 where
  pub proper : Proper n root set
  pub shut : (t h : ℕ) → t < n → h < n → cost ws t h < no_arc → enters set t h ≡ false

-- A charged group: the arc that it chose runs from t to h; the cut, if any, is at place k, and next is the place after
-- it. A tree for the cuts that follow is one for all.
pub record ChargedGroup (ws ws' ls : List ℕ) (n g k : ℕ) (cuts cuts' : List ℕ) (r : Charged) : Type 0 where
  pub least : k ≤ r.next.0
  pub most : r.next.0 ≤ k + 1
  pub frame : (i : ℕ) → (i < 2 * k) ⊎ (2 * r.next.0 ≤ i) → nth cuts' i ≡ nth cuts i
  pub lowered : Lowered n (cost ws) (cost ws') (cuts_from (r.next.0 - k) k cuts')
  pub arc : ChosenArc ws' ls n g r.tail.0 r.head.0
  pub lifts :
      (root : ℕ) → nth ls root ≢ g → (w : ℕ → ℕ → ℕ) (cs : List Cut) (parent : ℕ → ℕ) → Tree n root w (nth ls) cs parent
      → Tree n root w (nth ls) (cuts_from (r.next.0 - k) k cuts' ++ cs) parent
  pub proper_cuts : (root : ℕ) → root < n → nth ls root ≢ g → Each (ProperCut n root) (cuts_from (r.next.0 - k) k cuts')

-- no arc enters the group: a set of vertices that shows it for every root outside
abbrev pub UnenteredGroup : (ws ls : List ℕ) (n g set : ℕ) → Type 0
UnenteredGroup ws ls n g set = (root : ℕ) → root < n → nth ls root ≢ g → (v : ℕ) → v < n → nth ls v ≡ g → Unentered n root ws set
