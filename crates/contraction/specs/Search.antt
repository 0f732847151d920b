-- The search for a cycle by stamps. A walk follows the chosen arcs backwards and stamps the groups that it comes by
-- with 1, 2, 3, and so on; 0 is no stamp. Stamps grow, so a walk that comes to a stamp of its own has closed a cycle:
-- the groups stamped no earlier. Assumes nothing: these are definitions.
use Rattle.std.specs.Prelude.{◌≡◌, Bool, ◌⊎◌, ℕ, suc, ◌≤◌, ◌<◌, leb}
use Rattle.contraction.specs.Groups.{Group, Along}

-- the walk began with the stamp first, the next stamp is now, and it has come to v
pub record Walk (n root : ℕ) (label tail stamp : ℕ → ℕ) (first now v : ℕ) : Type 0 where
  pub first_pos : 1 ≤ first
  pub first_now : first ≤ now
  pub v_below : v < n
  pub v_label : label v ≡ v
  -- stamped by an earlier walk: from there the root's group is come to
  pub old : (g : ℕ) → 1 ≤ stamp g → stamp g < first → Along (λ x. label (tail x)) (label root) g
  -- stamped on this walk: the next group has the next stamp, or is v
  pub new : (g : ℕ) → first ≤ stamp g → (suc (stamp g) ≡ stamp (label (tail g))) ⊎ ((label (tail g) ≡ v) × (suc (stamp g) ≡ now))
  pub last : (g : ℕ) → stamp g < now
  pub distinct : (g h : ℕ) → 1 ≤ stamp g → stamp g ≡ stamp h → g ≡ h
  pub stamped : (g : ℕ) → 1 ≤ stamp g → Group n root label g

-- the groups of the cycle that a walk closed at v: they are stamped no earlier
abbrev pub on_cycle : (stamp : ℕ → ℕ) → (v g : ℕ) → Bool
on_cycle stamp v g = leb (stamp v) (stamp g)
