-- By how many digits there are, and the first. Assumes nothing.
use mathlib.Core.Path.{sym, ap, ◌∙◌}
use mathlib.Core.Bool.{not}
use Prim.Native.Nat.{ℕ}
use native.Mathlib.Omega.{arith}
use lib.Dec.{eqb}
use Rattle.price_list.proofs.NumberLaws.{number_none, number_one, number_several, first_at}
use Rattle.price_list.proofs.numbers.is_number.Goals as goal

pub returns-then-end-at : goal.returns-then-end-at
returns-then-end-at c = sym (number_none _ (omega (arith, c.requires.1)))

pub returns-then-end-at-2 : goal.returns-then-end-at-2
returns-then-end-at-2 c = sym (number_one _ (omega (arith, c.requires.1)))

pub returns : goal.returns
returns c =
    let a = c.args in
    let p = c.requires.1 in
    sym (number_several _ (omega (arith, p)) ∙ ap (λ (x : ℕ). not (eqb x 48)) (first_at a.text.now a.at (omega (arith, p))))
