-- Fitting arborescences: what it is to fit, and that instances with the same arcs and budget have the same. Assumes
-- nothing.
use mathlib.Core.Path.{◌≡◌}
use mathlib.Core.Bool.{true}
use mathlib.Core.List.{List}
use Prim.Native.Nat.{ℕ, ◌≤◌}
use native.Mathlib.Omega.{arith}
use lib.Dec.{leb}
use borrow.Author.Tests.{leb-true, le-leb}
use Rattle.base.proofs.BoolLaws.{and_left, and_right, and_both}
use Rattle.instance.specs.Instance.{Instance}
use Rattle.instance.specs.Arborescence.{is_arborescence, total}
use Rattle.instance.specs.States.{fits}
use Rattle.theory.proofs.SameArcs.{SameArcs, same_arborescence, same_total}

module _ (s : Instance) (ps : List ℕ) where
  pub fits_arborescence : fits s ps ≡ true → is_arborescence s ps ≡ true
  unfolding fits
  fits_arborescence e = and_left (is_arborescence s ps) (leb (total s ps) s.budget) e

  pub fits_total : fits s ps ≡ true → total s ps ≤ s.budget
  unfolding fits
  fits_total e = leb-true (total s ps) s.budget (and_right (is_arborescence s ps) (leb (total s ps) s.budget) e)

  pub make_fits : is_arborescence s ps ≡ true → total s ps ≤ s.budget → fits s ps ≡ true
  unfolding fits
  make_fits a l = and_both (is_arborescence s ps) (leb (total s ps) s.budget) a (le-leb (total s ps) s.budget l)

pub fits_there : (a b : Instance) → SameArcs a b → a.budget ≡ b.budget → (ps : List ℕ) → fits a ps ≡ true → fits b ps ≡ true
fits_there a b e f ps x =
    let q = fits_arborescence a ps x in
    let l = fits_total a ps x in
    let z = same_total a b e ps q in
    make_fits b ps (same_arborescence a b e ps q) (omega arith)
