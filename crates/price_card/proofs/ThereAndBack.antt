-- The round trips by the calls' own promises: the card that `card_from_prices` leaves opens; what `prices_from_card`
-- says of it is the list again, if that was in written order; and a plain card with no mark comes back from the list
-- that `prices_from_card` leaves of it. On the way only a short buffer is refused. Assumes nothing.
use mathlib.Core.Path.{◌≡◌, refl, sym, ap, ◌∙◌}
use mathlib.Core.Bool.{Bool, true, false, cond}
use mathlib.Core.List.{List}
use Prim.Native.Nat.{ℕ}
use native.Mathlib.Omega.{arith}
use lib.Dec.{ltb, eqb}
use lib.ListN.{length, take}
use borrow.Author.Tests.{eqb-true, eqb-false, eq-eqb}
use Rattle.base.specs.Lists.{in_front}
use Rattle.base.proofs.FrontLaws.{front_take}
use Rattle.instance.specs.Refusals.{buffer_short}
use Rattle.instance.specs.Instance.{Instance}
use Rattle.bits.specs.Bits.{are_bytes}
use Rattle.card_format.specs.Card.{bytes_needed, instance_in, card_refusal}
use Rattle.card_format.proofs.LengthLaws.{length_card_of}
use Rattle.commands.specs.Model.{Model, opened}
use Rattle.history_format.specs.HistoryCard.{open_refusal, model_in}
use Rattle.history_format.proofs.HistoryAgain.{model_of_card}
use Rattle.history_format.proofs.Moves.{card_not_history, plain_card_opens}
use Rattle.price_format.specs.Reading.{read_list, in_order}
use Rattle.price_card.specs.declared.from_card.CardPrices.{CardPrices}
use Rattle.price_card.specs.ToCard.{CardMade, card_count_refusal, instance_listed, card_listed, made, MakesCard}
use Rattle.price_card.specs.FromCard.{is_marked, instance_list, refused, listed, ListsCard}
use Rattle.price_card.proofs.RoundTrips.{made_opens, made_model, list_again, again_accepted, again_numbers, card_again}

-- A CARD THAT WAS MADE
pub record MadeCard (t : List ℕ) (n r b : ℕ) (new : List ℕ) (m : CardMade) : Type 0 where
  pub numbers : card_count_refusal n r b ≡ 0
  pub list : (read_list n r t).answer ≡ 0
  pub card : take m.length new ≡ card_listed n r b t

pub made_card : (t : List ℕ) (n r b : ℕ) (old new : List ℕ) (m : CardMade) → MakesCard t n r b old new m → m.answer ≡ 0 → MadeCard t n r b new m
unfolding made instance_listed
made_card t n r b old new m x z =
    by (eqb (card_count_refusal n r b) 0) (eqb (read_list n r t).answer 0) (ltb (length old) (bytes_needed n)) refl refl x.result (rw z at x.buffer)
  where
    said : CardMade → ℕ
    said y = y.answer

    by : (h l s : Bool) → eqb (card_count_refusal n r b) 0 ≡ h → eqb (read_list n r t).answer 0 ≡ l
        → m ≡ cond h (cond l (cond s (record { answer = buffer_short; line = 0; length = 0 }) (record { answer = 0; line = 0; length = bytes_needed n }))
        (record { answer = (read_list n r t).answer; line = (read_list n r t).line; length = 0 })) (record { answer = card_count_refusal n r b; line = 0; length = 0 })
        → new ≡ in_front (card_listed n r b t) old → MadeCard t n r b new m
    by false l s p q e f = absurd (eqb-false (card_count_refusal n r b) 0 p (sym (ap said e) ∙ z))
    by true false s p q e f = absurd (eqb-false (read_list n r t).answer 0 q (sym (ap said e) ∙ z))
    by true true true p q e f = let d = sym (ap said e) ∙ z in absurd (omega arith)
    by true true false p q e f =
        record {
          numbers = eqb-true (card_count_refusal n r b) 0 p;
          list = eqb-true (read_list n r t).answer 0 q;
          card = rw (e, f) (front_take (card_listed n r b t) old (bytes_needed n) (length_card_of (instance_listed n r b t)));
        }

-- A LIST THAT WAS WRITTEN of a card
pub record ListedCard (ws new : List ℕ) (q : CardPrices) : Type 0 where
  pub opens : open_refusal ws ≡ 0
  pub text : take q.length new ≡ instance_list (model_in ws).instance
  pub n : q.n ≡ (model_in ws).instance.n
  pub root : q.root ≡ (model_in ws).instance.root
  pub budget : q.budget ≡ (model_in ws).instance.budget
  pub marked : q.marked ≡ is_marked (model_in ws)

pub listed_card : (ws old new : List ℕ) (q : CardPrices) → ListsCard ws old new q → q.answer ≡ 0 → ListedCard ws new q
unfolding listed
listed_card ws old new q x z =
    by (eqb (open_refusal ws) 0) (ltb (length old) (length (instance_list s))) refl x.result (rw z at x.buffer)
  where
    s : Instance
    s = (model_in ws).instance

    said : CardPrices → ℕ
    said y = y.answer

    by : (o c : Bool) → eqb (open_refusal ws) 0 ≡ o
        → q ≡ cond o (cond c (refused buffer_short)
        (record { answer = 0; n = s.n; root = s.root; budget = s.budget; marked = is_marked (model_in ws); length = length (instance_list s) })) (refused (open_refusal ws))
        → new ≡ in_front (instance_list s) old → ListedCard ws new q
    by false c p e f = absurd (eqb-false (open_refusal ws) 0 p (sym (ap said e) ∙ z))
    by true true p e f = let d = sym (ap said e) ∙ z in absurd (omega arith)
    by true false p e f =
        record {
          opens = eqb-true (open_refusal ws) 0 p;
          text = rw (e, f) (front_take (instance_list s) old (length (instance_list s)) refl);
          n = ap (λ (y : CardPrices). y.n) e;
          root = ap (λ (y : CardPrices). y.root) e;
          budget = ap (λ (y : CardPrices). y.budget) e;
          marked = ap (λ (y : CardPrices). y.marked) e;
        }

-- THE CARD OPENS, as the instance of the list
module _ (t : List ℕ) (n r b : ℕ) (old new : List ℕ) (m : CardMade) (x : MakesCard t n r b old new m) (z : m.answer ≡ 0) where
  abbrev Card : List ℕ
  Card = take m.length new

  k : MadeCard t n r b new m
  k = made_card t n r b old new m x z

  pub card_opens : card_refusal Card ≡ 0
  card_opens = rw k.card (made_opens n r b t k.numbers)

  pub card_says : (model_in Card).instance ≡ instance_listed n r b t
  card_says = rw k.card (made_model n r b t k.numbers)

  -- THE LIST AGAIN
  pub list_back : in_order (read_list n r t).lines ≡ true → instance_list (model_in Card).instance ≡ t
  list_back o = rw k.card (list_again n r b t k.numbers k.list o)

  module _ (old₂ new₂ : List ℕ) (q : CardPrices) (y : ListsCard Card old₂ new₂ q) where
    -- only a short buffer is refused
    pub list_refused_short : (q.answer ≡ 0 → ⊥) → q.answer ≡ buffer_short
    unfolding listed
    list_refused_short a =
        by (ltb (length old₂) (length (instance_list (model_in Card).instance))) (rw (eq-eqb (open_refusal Card) 0 (plain_card_opens Card card_opens)) at y.result)
      where
        full : CardPrices
        full = record { answer = 0; n = (model_in Card).instance.n; root = (model_in Card).instance.root; budget = (model_in Card).instance.budget; marked = is_marked (model_in Card); length = length (instance_list (model_in Card).instance) }

        by : (c : Bool) → q ≡ cond c (refused buffer_short) full → q.answer ≡ buffer_short
        by true e = ap (λ (x : CardPrices). x.answer) e
        by false e = absurd (a (ap (λ (x : CardPrices). x.answer) e))

    pub list_there_and_back : q.answer ≡ 0 → in_order (read_list n r t).lines ≡ true → take q.length new₂ ≡ t
    list_there_and_back a o = (listed_card Card old₂ new₂ q y a).text ∙ list_back o

    -- with the numbers that the list came with
    pub numbers_back : q.answer ≡ 0 → (q.n ≡ n) × (q.root ≡ r) × (q.budget ≡ b)
    unfolding instance_listed
    numbers_back a =
        let l = listed_card Card old₂ new₂ q y a in (
          l.n ∙ ap (λ (s : Instance). s.n) card_says,
          l.root ∙ ap (λ (s : Instance). s.root) card_says,
          l.budget ∙ ap (λ (s : Instance). s.budget) card_says,
        )

-- A PLAIN CARD WITH NO MARK, by its list
module _ (ws : List ℕ) (bytes : are_bytes ws ≡ true) (opens : card_refusal ws ≡ 0) (old new : List ℕ) (q : CardPrices) (x : ListsCard ws old new q)
    (z : q.answer ≡ 0) (unmarked : q.marked ≡ false) where
  said : ListedCard ws new q
  said = listed_card ws old new q x z

  its_instance : (model_in ws).instance ≡ instance_in ws
  unfolding opened
  its_instance = ap (λ (m : Model). m.instance) (model_of_card ws (card_not_history ws opens))

  abbrev C : Instance
  C = instance_in ws

  abbrev Text : List ℕ
  Text = take q.length new

  text_said : Text ≡ instance_list C
  text_said = said.text ∙ ap instance_list its_instance

  n_said : q.n ≡ C.n
  n_said = said.n ∙ ap (λ (s : Instance). s.n) its_instance

  root_said : q.root ≡ C.root
  root_said = said.root ∙ ap (λ (s : Instance). s.root) its_instance

  budget_said : q.budget ≡ C.budget
  budget_said = said.budget ∙ ap (λ (s : Instance). s.budget) its_instance

  module _ (old₂ new₂ : List ℕ) (m : CardMade) (y : MakesCard Text q.n q.root q.budget old₂ new₂ m) where
    -- only a short buffer is refused
    pub card_refused_short : (m.answer ≡ 0 → ⊥) → m.answer ≡ buffer_short
    unfolding made
    card_refused_short a =
        let numbers : card_count_refusal q.n q.root q.budget ≡ 0 = rw (n_said, root_said, budget_said) (again_numbers ws opens) in
        let list : (read_list q.n q.root Text).answer ≡ 0 = rw (n_said, root_said, text_said) (again_accepted ws opens) in
        by (ltb (length old₂) (bytes_needed q.n))
        (rw (eq-eqb (card_count_refusal q.n q.root q.budget) 0 numbers, eq-eqb (read_list q.n q.root Text).answer 0 list) at y.result)
      where
        by : (c : Bool) → m ≡ cond c (record { answer = buffer_short; line = 0; length = 0 }) (record { answer = 0; line = 0; length = bytes_needed q.n })
            → m.answer ≡ buffer_short
        by true e = ap (λ (x : CardMade). x.answer) e
        by false e = absurd (a (ap (λ (x : CardMade). x.answer) e))

    pub card_there_and_back : m.answer ≡ 0 → take m.length new₂ ≡ ws
    card_there_and_back a =
        (made_card Text q.n q.root q.budget old₂ new₂ m y a).card
        ∙ rw (n_said, root_said, budget_said, text_said) (card_again ws opens (sym said.marked ∙ unmarked) bytes)
