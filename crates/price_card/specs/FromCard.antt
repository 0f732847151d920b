-- What listing the prices of a card gives, as equations. Assumes nothing: these are definitions.
use Rattle.std.specs.Prelude.{◌≡◌, Bool, false, ◌&&◌, not, cond, List, ℕ, ◌*◌, ◌/◌, ◌%◌, ◌<◌, ltb, eqb, length, get_or}
use Rattle.base.specs.Bounded.{all_below}
use Rattle.base.specs.Lists.{tabulate, in_front}
use Rattle.instance.specs.Limits.{free, cells}
use Rattle.instance.specs.Refusals.{buffer_short}
use Rattle.instance.specs.Instance.{Instance, cell, weight}
use Rattle.commands.specs.Model.{Model}
use Rattle.history_format.specs.HistoryCard.{open_refusal, model_in}
use Rattle.price_format.specs.Writing.{list_text, write_refusal}
use Rattle.price_card.specs.declared.from_card.CardPrices.{CardPrices}
use Rattle.price_card.specs.declared.from_card.CardWeights.{CardWeights}

-- WHAT A LIST DOES NOT SAY
-- a mark other than free, in whatever cell, as on a card only an arc has one; or a record
unfoldable pub marked_by : (marks : List ℕ) → (records : ℕ) → Bool
marked_by ms k = not (all_below cells (λ i. eqb (get_or ms i free) free) && eqb k 0)

unfoldable pub is_marked : Model → Bool
is_marked m = marked_by m.instance.marks (length m.history)

-- THE LIST
-- the n times n weights of an instance, tail by tail
unfoldable pub prices_on : Instance → List ℕ
prices_on s = tabulate (s.n * s.n) (λ i. weight s (i / s.n) (i % s.n))

-- the list of an instance
unfoldable pub instance_list : Instance → List ℕ
instance_list s = list_text s.n s.root (prices_on s)

-- words whose first n times n are the weights of a table with a stride of 32
pub record PricesIn (n : ℕ) (weights prices : List ℕ) : Type 0 where
  pub long : length prices ≡ cells
  pub at : (i : ℕ) → i < n * n → get_or prices i 0 ≡ get_or weights (cell (i / n) (i % n)) 0

-- what is taken of a board
pub record WeightsTaken (m : Model) (r : CardWeights) : Type 0 where
  pub answer : r.answer ≡ 0
  pub n : r.n ≡ m.instance.n
  pub root : r.root ≡ m.instance.root
  pub budget : r.budget ≡ m.instance.budget
  pub marked : r.marked ≡ is_marked m
  pub prices : PricesIn m.instance.n m.instance.weights r.prices

-- and of a card of either kind
pub record WeightsOn (card : List ℕ) (r : CardWeights) : Type 0 where
  pub answer : r.answer ≡ open_refusal card
  pub weights : r.answer ≡ 0 → WeightsTaken (model_in card) r

-- THE CALLS
abbrev pub refused : (answer : ℕ) → CardPrices
refused k = record { answer = k; n = 0; root = 0; budget = 0; marked = false; length = 0 }

-- what is listed of weights that were taken: their own refusal, or that of a list that is written of them
unfoldable pub weights_listed : CardWeights → (bytes : ℕ) → CardPrices
weights_listed t k =
    cond (eqb t.answer 0)
    (cond (eqb (write_refusal t.n t.root t.prices k) 0)
    (record { answer = 0; n = t.n; root = t.root; budget = t.budget; marked = t.marked; length = length (list_text t.n t.root t.prices) })
    (refused (write_refusal t.n t.root t.prices k)))
    (refused t.answer)

pub record ListsWeights (t : CardWeights) (old new : List ℕ) (r : CardPrices) : Type 0 where
  pub result : r ≡ weights_listed t (length old)
  pub buffer : new ≡ cond (eqb r.answer 0) (in_front (list_text t.n t.root t.prices) old) old

-- of a board that is valid: 14 where the list does not fit into so many bytes
unfoldable pub listed : Model → (bytes : ℕ) → CardPrices
listed m k =
    let s = m.instance in
    let size = length (instance_list s) in
    cond (ltb k size) (refused buffer_short)
    (record { answer = 0; n = s.n; root = s.root; budget = s.budget; marked = is_marked m; length = size })

-- a card of either kind: its refusal, or what is listed of it; refused, the buffer is as it was, and bytes behind the
-- list stay
pub record ListsCard (card old new : List ℕ) (r : CardPrices) : Type 0 where
  pub result : r ≡ cond (eqb (open_refusal card) 0) (listed (model_in card) (length old)) (refused (open_refusal card))
  pub buffer : new ≡ cond (eqb r.answer 0) (in_front (instance_list (model_in card).instance) old) old
