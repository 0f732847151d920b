-- When two instances are the same. Assumes nothing: these are definitions.
use Rattle.std.specs.Prelude.{◌≡◌, true, ℕ}
use Rattle.instance.specs.Instance.{Instance, weight, mark, can_be_arc}

-- "equal positions, root and budget and, where a link can be, equal prices and marks": cells "that can never be a link
-- .. are never looked at, nor compared"
pub record SameInstance (s t : Instance) : Type 0 where
  pub same_n : s.n ≡ t.n
  pub same_root : s.root ≡ t.root
  pub same_budget : s.budget ≡ t.budget
  pub same_weights : (tail head : ℕ) → can_be_arc t.n t.root tail head ≡ true → weight s tail head ≡ weight t tail head
  pub same_marks : (tail head : ℕ) → can_be_arc t.n t.root tail head ≡ true → mark s tail head ≡ mark t tail head
