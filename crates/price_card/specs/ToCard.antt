-- What making a card of a price list gives, as equations. Assumes nothing: these are definitions.
use Rattle.std.specs.Prelude.{◌≡◌, cond, List, ℕ, ◌/◌, ◌%◌, ltb, eqb, length, replicate, Result, Ok, Err, unwrap_or}
use Rattle.base.specs.Lists.{tabulate, in_front}
use Rattle.instance.specs.Limits.{max_budget, free, cells}
use Rattle.instance.specs.Refusals.{bad_card_budget, buffer_short}
use Rattle.instance.specs.RefusalNumbers.{refusal_number}
use Rattle.instance.specs.Instance.{Instance, instance_with}
use Rattle.card_format.specs.Card.{bytes_needed, card_of}
use Rattle.price_format.specs.Lines.{Line}
use Rattle.price_format.specs.Reading.{weight_named, read_list, count_refusal}
use Rattle.price_list.specs.declared.list_refusal.Refused.{Refused}

-- 0 and the length of the card; or the refusal, and of a faulty line which it is, counted from 1
pub record CardMade : Type 0 where
  pub answer : ℕ
  pub line : ℕ
  pub length : ℕ

-- what a call tells
abbrev pub making_told : Result ℕ Refused → CardMade
making_told (Ok k) = record { answer = 0; line = 0; length = k }
making_told (Err e) = record { answer = refusal_number e.refusal; line = unwrap_or e.line 0; length = 0 }

-- 2 and 4 for a bad count or root, as for a list; then 5 for a budget above the limit, as on a card; 0 if none of them
unfoldable pub card_count_refusal : (n root budget : ℕ) → ℕ
card_count_refusal n r b = cond (eqb (count_refusal n r) 0) (cond (ltb max_budget b) bad_card_budget 0) (count_refusal n r)

-- the weights that lines give, with a stride of 32; no arc where they name none
unfoldable pub weights_of : List Line → List ℕ
weights_of ls = tabulate cells (λ i. weight_named ls (i / 32) (i % 32))

-- the instance of a list: its weights, and every mark free
unfoldable pub instance_listed : (n root budget : ℕ) → (text : List ℕ) → Instance
instance_listed n r b t = instance_with n r b (weights_of (read_list n r t).lines) (replicate cells free)

-- and its card
abbrev pub card_listed : (n root budget : ℕ) → (text : List ℕ) → List ℕ
card_listed n r b t = card_of (instance_listed n r b t)

-- the numbers, then the list by its first faulty line, then 14; else the length of the card
unfoldable pub made : (text : List ℕ) → (n root budget bytes : ℕ) → CardMade
made t n r b k =
    cond (eqb (card_count_refusal n r b) 0)
    (cond (eqb (read_list n r t).answer 0)
    (cond (ltb k (bytes_needed n)) (record { answer = buffer_short; line = 0; length = 0 }) (record { answer = 0; line = 0; length = bytes_needed n }))
    (record { answer = (read_list n r t).answer; line = (read_list n r t).line; length = 0 }))
    (record { answer = card_count_refusal n r b; line = 0; length = 0 })

-- refused, the buffer is as it was; bytes behind the card stay
pub record MakesCard (text : List ℕ) (n root budget : ℕ) (old new : List ℕ) (r : CardMade) : Type 0 where
  pub result : r ≡ made text n root budget (length old)
  pub buffer : new ≡ cond (eqb r.answer 0) (in_front (card_listed n root budget text) old) old
