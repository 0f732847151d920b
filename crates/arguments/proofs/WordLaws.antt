-- A word that is empty, and one whose digits were looked for. Assumes nothing.
use mathlib.Core.Path.{◌≡◌}
use mathlib.Core.Bool.{false, not}
use mathlib.Core.List.{List}
use mathlib.Core.Logic.{◌≢◌}
use Prim.Native.Nat.{ℕ}
use native.Mathlib.Omega.{arith}
use lib.Dec.{eqb}
use lib.ListN.{length}
use borrow.Author.Tests.{eq-eqb, ne_eqb}
use Rattle.std.specs.Prelude.{Some}
use Rattle.base.proofs.BoolLaws.{and_false_right}
use Rattle.price_format.specs.Numbers.{digits_in}
use Rattle.price_list.specs.Numbers.{Scans}
use Rattle.price_list.specs.declared.numbers.Digits.{Digits}
use Rattle.arguments.specs.Word.{is_number, ReadsWord}

pub reads_none : (w : List ℕ) → length w ≡ 0 → is_number w ≡ false
unfolding is_number
reads_none w e = rw (eq-eqb (length w) 0 e)

-- every byte is a digit where the digits end with the word
pub reads_other : (w : List ℕ) (d : Digits) → Scans w 0 d → d.end ≢ length w → is_number w ≡ false
unfolding is_number
reads_other w d s h =
    and_false_right (not (eqb (length w) 0)) (eqb (length (digits_in w)) (length w)) (ne_eqb (length (digits_in w)) (length w) (λ e. h (omega (arith, e, s.end))))

pub reads_digits : (w : List ℕ) (d : Digits) → length w ≢ 0 → Scans w 0 d → d.end ≡ length w → ReadsWord w (Some d.value)
unfolding is_number
reads_digits w d h s q =
    let e : length (digits_in w) ≡ length w = omega (arith, s.end) in
    (rw (ne_eqb (length w) 0 h, eq-eqb (length (digits_in w)) (length w) e), s.value)
