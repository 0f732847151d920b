-- The row of prices that is used (02, A12), told by the list that it stands in and the place where it begins: an
-- exported function can hand back no part of a list, and copies none. Assumes nothing: these are definitions.
use Rattle.std.specs.Prelude.{◌≡◌, cond, List, ℕ, ◌*◌}
use Rattle.price_row.specs.Row.{row_refusal, is_own}
use Rattle.feed_planner.specs.Store.{kept}

-- own is 1 where it is the school's list, 0 where it is the shipped one; the row is the n numbers from that place on
-- (`told_row` in proofs/RowLaws.antt)
pub record TellsRow (school shipped : List ℕ) (n tail own own' place place' answer : ℕ) : Type 0 where
  pub number : answer ≡ row_refusal n tail school shipped
  pub list : own' ≡ kept answer (cond (is_own n tail school) 1 0) own
  pub start : place' ≡ kept answer (tail * n) place
