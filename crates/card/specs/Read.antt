-- What reading a card gives: the header, and the whole. Assumes nothing: these are definitions.
use Rattle.std.specs.Prelude.{◌≡◌, cond, List, ℕ, ltb, leb, Result, IfOk}
use Rattle.instance.specs.Limits.{max_budget}
use Rattle.instance.specs.Refusals.{bad_root, bad_card_budget}
use Rattle.instance.specs.RefusalNumbers.{answer_of}
use Rattle.instance.specs.declared.refusals.Refusal.{Refusal}
use Rattle.instance.specs.Instance.{Instance}
use Rattle.card_format.specs.Card.{root_in, budget_in, instance_in, card_refusal}
use Rattle.card.specs.declared.read.Header.{Header}
use Rattle.card.specs.declared.read.Contents.{Contents}

-- THE HEADER
-- 4 and 5: of the card whose bits these are, and whose number of vertices is n
unfoldable pub fields_refusal : (n : ℕ) → (bits : List ℕ) → ℕ
fields_refusal n bs = cond (leb n (root_in bs)) bad_root (cond (ltb max_budget (budget_in bs)) bad_card_budget 0)

-- the refusal with this number, or the fields before the cells: of the card whose bits these are, and whose number of
-- vertices is n
pub record HeaderRead (refusal n : ℕ) (bits : List ℕ) (r : Result Header Refusal) : Type 0 where
  pub judged : answer_of r ≡ refusal
  pub fields : IfOk r (λ h. h ≡ record { n = n; root = root_in bits; budget = budget_in bits })

-- THE WHOLE
abbrev pub contents_with : Instance → Contents
contents_with s = record { n = s.n; root = s.root; budget = s.budget; weights = s.weights; marks = s.marks }

-- what every list of bytes says: its refusal, or an instance
pub record CardRead (card : List ℕ) (r : Result Contents Refusal) : Type 0 where
  pub judged : answer_of r ≡ card_refusal card
  pub said : IfOk r (λ c. c ≡ contents_with (instance_in card))
