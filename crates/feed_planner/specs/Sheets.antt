-- What a card says, read out for whoever draws it. Assumes nothing: these are definitions.
use Rattle.std.specs.Prelude.{◌≡◌, Bool, ◌||◌, cond, List, ℕ, ◌*◌, ltb, eqb, length}
use Rattle.base.specs.Lists.{in_front}
use Rattle.instance.specs.Refusals.{buffer_short}
use Rattle.commands.specs.Model.{Model}
use Rattle.price_list.specs.Reads.{dense}
use Rattle.history_format.specs.HistoryCard.{open_refusal, model_in}

-- count, root and budget, the number of recorded presses, and of every pair of
-- positions the price and the mark, feeder by feeder as the states of a look are
pub record Sheet : Type 0 where
  pub n : ℕ
  pub root : ℕ
  pub budget : ℕ
  pub records : ℕ
  pub prices : List ℕ
  pub marks : List ℕ

abbrev pub sheet : (n root budget records : ℕ) → (prices marks : List ℕ) → Sheet
sheet n r b k ps ms = record { n = n; root = r; budget = b; records = k; prices = ps; marks = ms }

-- the card's refusal, then 14 for fewer than n times n words or bytes
unfoldable pub sheet_short : (n prices marks : ℕ) → Bool
sheet_short n p m = ltb p (n * n) || ltb m (n * n)

unfoldable pub sheet_refusal : (card : List ℕ) → (prices marks : ℕ) → ℕ
sheet_refusal ws p m = cond (eqb (open_refusal ws) 0) (cond (sheet_short (model_in ws).instance.n p m) buffer_short 0) (open_refusal ws)

unfoldable pub sheet_of : Model → Sheet → Sheet
sheet_of m old =
    let s = m.instance in
    sheet s.n s.root s.budget (length m.history) (in_front (dense s.n s.weights) old.prices) (in_front (dense s.n s.marks) old.marks)

pub record ReadsSheet (ws : List ℕ) (old new : Sheet) (answer : ℕ) : Type 0 where
  pub number : answer ≡ sheet_refusal ws (length old.prices) (length old.marks)
  pub shown : new ≡ cond (eqb answer 0) (sheet_of (model_in ws) old) old
