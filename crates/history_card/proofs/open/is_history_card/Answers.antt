-- `is_history_card` meets its contract: an empty card has no field, which is 0. Assumes nothing.
use mathlib.Core.Path.{◌≡◌, refl, sym, ◌∙◌}
use borrow.Author.Tests.{eqb-true}
use mathlib.Core.Bool.{false}
use mathlib.Core.List.{List, [], ◌∷◌}
use Prim.Native.Nat.{ℕ}
use native.Mathlib.Omega.{arith}
use lib.ListN.{length}
use Rattle.bits.specs.Bits.{bits_in, field, number_from}
use Rattle.history_format.specs.HistoryCard.{is_history}
use Rattle.history_card.proofs.open.is_history_card.Goals as goal

none : (ws : List ℕ) → length ws ≡ 0 → false ≡ is_history ws
unfolding is_history bits_in field number_from
none [] e = refl
none (w ∷ ws) e = absurd (omega arith)

pub returns-then-not-is_empty : goal.returns-then-not-is_empty
unfolding is_history
returns-then-not-is_empty c = rw (← c.read_bits.ensures)

pub returns-else-not-is_empty : goal.returns-else-not-is_empty
returns-else-not-is_empty c =
    let t = c.if-not-is_empty.false in
    rw t (none c.args.card.now (eqb-true _ 0 (sym c.is_empty.ensures ∙ t)))
