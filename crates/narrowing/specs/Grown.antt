-- A tree grown from the root along arcs that pass a test. Assumes nothing: these are definitions.
use Rattle.std.specs.Prelude.{◌≡◌, Bool, true, false, List, ℕ, ◌<◌, eqb, length}
use Rattle.instance.specs.Limits.{no_parent}
use Rattle.instance.specs.Instance.{Instance}
use Rattle.instance.specs.Arborescence.{parent}
use Rattle.paths.specs.Paths.{Descends}

-- the vertices that are reached so far, of n, hang on the root by arcs that pass the test
pub record Grown (n root : ℕ) (keep : (tail head : ℕ) → Bool) (reached : ℕ → Bool) (parents : List ℕ) : Type 0 where
  pub size : length parents ≡ n
  pub root_reached : reached root ≡ true
  pub at_root : parent parents root ≡ no_parent
  pub admissible : (v : ℕ) → reached v ≡ true → eqb v root ≡ false → keep (parent parents v) v ≡ true
  pub parent_reached : (v : ℕ) → reached v ≡ true → eqb v root ≡ false → reached (parent parents v) ≡ true
  pub path : (v : ℕ) → reached v ≡ true → Descends parents root v

-- the vertices that are reached are all that such arcs lead to from the root, and one vertex is not among them
pub record Exhausted (s : Instance) (keep : (tail head : ℕ) → Bool) (reached : ℕ → Bool) (out : ℕ) : Type 0 where
  pub root_reached : reached s.root ≡ true
  pub stays_within : (t h : ℕ) → h < s.n → keep t h ≡ true → reached t ≡ true → reached h ≡ true
  pub out_below : out < s.n
  pub missed : reached out ≡ false
