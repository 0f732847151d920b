-- Steps of the search for replacements. Assumes nothing.
use mathlib.Core.Path.{◌≡◌, refl, sym, ◌∙◌}
use mathlib.Core.Bool.{Bool, true, false, ◌&&◌}
use mathlib.Core.List.{List}
use mathlib.Core.Logic.{◌≢◌}
use Prim.Native.Nat.{ℕ, min, ◌+◌, ◌<◌}
use native.Mathlib.Omega.{arith}
use lib.Dec.{eqb}
use lib.ListN.{get_or, take}
use borrow.Author.Tests.{eqb-true, eq-eqb, ne_eqb}
use Rattle.base.proofs.BoolLaws.{same_test, and_false_right}
use Rattle.instance.specs.Arborescence.{parent, reaches}
use Rattle.paths.proofs.TreeLaws.{parent_read}
use Rattle.spanning.specs.Extremes.{least_below}
use Rattle.spanning.specs.Keys.{no_key}
use Rattle.spanning.specs.KeyTables.{crossing_key, least_into}
use Rattle.spanning.proofs.ExtremeLaws.{least_more, least_none}
use Rattle.runs.specs.Tables.{Places}

-- an equation both ways
eqb_turned : (a b : ℕ) → eqb a b ≡ eqb b a
eqb_turned a b = same_test (eqb a b) (eqb b a) (λ e. eq-eqb b a (sym (eqb-true a b e))) (λ e. eq-eqb a b (sym (eqb-true b a e)))

module _ (n : ℕ) (parents : List ℕ) where
  pub own_other : (v j i : ℕ) → j ≢ v → false ≡ eqb i (parent (take n parents) v) && eqb j v
  own_other v j i d = sym (and_false_right (eqb i (parent (take n parents) v)) (eqb j v) (ne_eqb j v d))

  pub own_same : Places n parents → (v j i : ℕ) → v < n → j ≡ v → eqb (get_or parents v 0) i ≡ eqb i (parent (take n parents) v) && eqb j v
  own_same p v j i vb e =
      eqb_turned (get_or parents v 0) i ∙ rw (parent_read n v parents p.small p.size vb, eq-eqb j v e) (whole (eqb i (parent (take n parents) v)))
    where
      whole : (b : Bool) → b ≡ b && true
      whole true = refl
      whole false = refl

-- a loop that keeps the least
pub least_next : (m : ℕ) (f : ℕ → ℕ) (k x best : ℕ) → x ≡ f k → best ≡ least_below m k f → min best x ≡ least_below m (k + 1) f
least_next m f k x best e h = let s = least_more m f k in omega arith

pub least_first : (m : ℕ) (f : ℕ → ℕ) → m ≡ least_below m 0 f
unfolding least_below
least_first m f = refl

-- nothing reconnects into a vertex that is not below
pub into_outside : (ks : List ℕ) (n : ℕ) (ps : List ℕ) (v j : ℕ) → reaches n v ps j ≡ false → no_key ≡ least_into ks n ps v j
unfolding least_into crossing_key
into_outside ks n ps v j e = sym (least_none no_key (crossing_key ks n ps v j) n (λ i l. rw e))
