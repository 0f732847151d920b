-- What demand 1 says of the two calls on price lists (02, A3): their numbers, what a refusal leaves as it was, and that
-- what is accepted was a list without a fault, or prices that can be written. Assumes nothing.
use mathlib.Core.Path.{◌≡◌, refl, sym, ap, ◌∙◌}
use mathlib.Core.Bool.{Bool, true, false, cond}
use mathlib.Core.List.{List}
use Prim.Native.Nat.{ℕ, ◌≤◌}
use lib.Dec.{ltb, eqb}
use lib.ListN.{length}
use borrow.Author.Tests.{eqb-true, eqb-false, eq-eqb, ne_eqb, le-ltb}
use Rattle.base.specs.Lists.{in_front}
use Rattle.instance.specs.Refusals.{buffer_short}
use Rattle.price_format.specs.Reading.{prices_of, read_list, room_refusal, read_numbers}
use Rattle.price_format.specs.Writing.{list_text, prices_refusal, write_refusal, write_numbers}
use Rattle.price_format.proofs.RefusalLaws.{list_listed, room_listed, write_listed}
use Rattle.price_list.specs.Reads.{read_result, Reads}
use Rattle.price_list.specs.Writes.{write_result, Writes}
use Rattle.price_list.specs.Reads.{PricesRead}
use Rattle.price_list.specs.Writes.{ListWritten}
use Rattle.demands.proofs.CallNumbers.{among}

-- READING
module _ (t : List ℕ) (n root : ℕ) (ps ps' : List ℕ) (r : PricesRead) (x : Reads t n root ps ps' r) where
  -- the answer by whether something before the text is refused
  abbrev answer_by : (c : Bool) → ℕ
  answer_by c = (cond {A = PricesRead} c (record { answer = (read_list n root t).answer; line = (read_list n root t).line }) (record { answer = room_refusal n root (length ps); line = 0 })).answer

  pub read_answer : r.answer ≡ (read_result t n root (length ps)).answer
  read_answer = ap (λ (y : PricesRead). y.answer) x.result

  pub read_among : among r.answer read_numbers ≡ true
  unfolding read_result
  read_among = rw read_answer (by (eqb (room_refusal n root (length ps)) 0))
    where
      by : (c : Bool) → among (answer_by c) read_numbers ≡ true
      by true = list_listed n root t
      by false = room_listed n root (length ps)

  pub read_before : (r.answer ≡ 0 → ⊥) → ps' ≡ ps
  read_before z = x.buffer ∙ rw (ne_eqb r.answer 0 z)

  -- what is accepted has a good count, root and room, and no faulty line
  pub read_passed : r.answer ≡ 0 → (room_refusal n root (length ps) ≡ 0) × ((read_list n root t).answer ≡ 0)
  unfolding read_result
  read_passed z = by (eqb (room_refusal n root (length ps)) 0) refl (sym read_answer ∙ z)
    where
      by : (c : Bool) → eqb (room_refusal n root (length ps)) 0 ≡ c → answer_by c ≡ 0 → (room_refusal n root (length ps) ≡ 0) × ((read_list n root t).answer ≡ 0)
      by true e a = (eqb-true (room_refusal n root (length ps)) 0 e, a)
      by false e a = absurd (eqb-false (room_refusal n root (length ps)) 0 e a)

  -- where the words suffice, all goes by the list
  pub read_whole : room_refusal n root (length ps) ≡ 0
      → (r ≡ record { answer = (read_list n root t).answer; line = (read_list n root t).line }) × ((read_list n root t).answer ≡ 0 → ps' ≡ in_front (prices_of n (read_list n root t).lines) ps)
  unfolding read_result
  read_whole e =
      let q : r ≡ record { answer = (read_list n root t).answer; line = (read_list n root t).line } = x.result ∙ rw (eq-eqb (room_refusal n root (length ps)) 0 e) in
      (q, λ a. x.buffer ∙ rw (eq-eqb r.answer 0 (ap (λ (y : PricesRead). y.answer) q ∙ a)))

-- WRITING
module _ (ps : List ℕ) (n root : ℕ) (out out' : List ℕ) (r : ListWritten) (x : Writes ps n root out out' r) where
  pub write_answer : r.answer ≡ write_refusal n root ps (length out)
  unfolding write_result
  write_answer = ap (λ (y : ListWritten). y.answer) x.result ∙ by (eqb (write_refusal n root ps (length out)) 0) refl
    where
      by : (c : Bool) → eqb (write_refusal n root ps (length out)) 0 ≡ c
          → (cond {A = ListWritten} c (record { answer = 0; length = length (list_text n root ps) }) (record { answer = write_refusal n root ps (length out); length = 0 })).answer ≡ write_refusal n root ps (length out)
      by true e = sym (eqb-true (write_refusal n root ps (length out)) 0 e)
      by false e = refl

  pub write_among : among r.answer write_numbers ≡ true
  write_among = rw write_answer (write_listed n root ps (length out))

  pub write_before : (r.answer ≡ 0 → ⊥) → out' ≡ out
  write_before z = x.buffer ∙ rw (ne_eqb r.answer 0 z)

  pub write_passed : r.answer ≡ 0 → write_refusal n root ps (length out) ≡ 0
  write_passed z = sym write_answer ∙ z

  pub write_accepted : r.answer ≡ 0 → prices_refusal n root ps ≡ 0
  unfolding write_refusal
  write_accepted z = by (eqb (prices_refusal n root ps) 0) refl (write_passed z)
    where
      by : (c : Bool) → eqb (prices_refusal n root ps) 0 ≡ c → cond c (cond (ltb (length out) (length (list_text n root ps))) buffer_short 0) (prices_refusal n root ps) ≡ 0 → prices_refusal n root ps ≡ 0
      by true e a = eqb-true (prices_refusal n root ps) 0 e
      by false e a = a

  -- where the prices and the room are right, the whole text
  pub write_whole : prices_refusal n root ps ≡ 0 → length (list_text n root ps) ≤ length out
      → (r ≡ record { answer = 0; length = length (list_text n root ps) }) × (out' ≡ in_front (list_text n root ps) out)
  unfolding write_result write_refusal
  write_whole e h =
      let q : r ≡ record { answer = 0; length = length (list_text n root ps) } =
      x.result ∙ rw (eq-eqb (prices_refusal n root ps) 0 e, le-ltb (length out) (length (list_text n root ps)) h) in
      (q, x.buffer ∙ rw (ap (λ (y : ListWritten). y.answer) q))

  pub write_length : r.answer ≡ 0 → r.length ≡ length (list_text n root ps)
  unfolding write_result
  write_length z = ap (λ (y : ListWritten). y.length) x.result ∙ rw (sym write_answer ∙ z)
