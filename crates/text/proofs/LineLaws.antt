-- How long lines of labels and numbers are. Assumes nothing.
use mathlib.Core.Path.{◌≡◌}
use mathlib.Core.List.{List, [], ◌∷◌, ◌++◌}
use Prim.Native.Nat.{ℕ, ◌+◌}
use native.Mathlib.Omega.{arith}
use lib.ListN.{length, length-append}
use Rattle.text.specs.Decimal.{decimal}
use Rattle.text.specs.Lines.{line_feed, labelled, line, line_of_three}

pub labelled_length : (l : List ℕ) (v : ℕ) → length (labelled l v) ≡ length l + length (decimal v)
labelled_length l v = length-append l (decimal v)

pub line_length : (l : List ℕ) (v : ℕ) → length (line l v) ≡ length l + length (decimal v) + 1
line_length l v = let e = length-append (labelled l v) (line_feed ∷ []) in omega (arith, labelled_length l v)

pub three_length :
    (a : List ℕ) (x : ℕ) (b : List ℕ) (y : ℕ) (c : List ℕ) (z : ℕ) →
    length (line_of_three a x b y c z) ≡ length a + length b + length c + length (decimal x) + length (decimal y) + length (decimal z) + 1
three_length a x b y c z =
    let e = length-append (labelled a x) (labelled b y) in
    let f = length-append (labelled a x ++ labelled b y) (line c z) in
    omega (arith, labelled_length a x, labelled_length b y, line_length c z)
