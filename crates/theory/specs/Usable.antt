-- Usable arcs, and the restriction of an instance by which a program finds them. Assumes nothing: these are
-- definitions.
use Rattle.std.specs.Prelude.{Bool, ◌||◌, not, ℕ, eqb}
use Rattle.base.specs.Lists.{any_of}
use Rattle.instance.specs.Instance.{Instance}
use Rattle.instance.specs.Arborescence.{uses}
use Rattle.instance.specs.States.{fitting}
use Rattle.instance.specs.Matrix.{matrix_where, unmarked}

-- some fitting arborescence uses the arc
unfoldable pub usable : Instance → (tail head : ℕ) → Bool
usable s t h = any_of (λ ps. uses ps t h) (fitting s)

-- the instance that is left of s where only the arcs that pass a test stay
abbrev pub restricted : Instance → (keep : (tail head : ℕ) → Bool) → Instance
restricted s q = unmarked s.n s.root (matrix_where s q)

-- the arcs that are left where the one from tail₀ is to be the only one into head₀
unfoldable pub forced : (tail₀ head₀ : ℕ) → (tail head : ℕ) → Bool
forced t₀ h₀ t h = not (eqb h h₀) || eqb t t₀
