-- Laws of writing a list: how long a place's line is, that every place counts, and the whole call. Assumes nothing.
use mathlib.Core.Path.{◌≡◌, refl, ◌∙◌}
use mathlib.Core.Bool.{Bool, true, false, cond}
use mathlib.Core.List.{List, [], ◌∷◌}
use Prim.Native.Nat.{ℕ, ◌+◌, ◌*◌, ◌/◌, ◌%◌, ◌^◌, ◌≤◌, ◌<◌}
use native.Mathlib.Omega.{arith}
use native.Mathlib.Nat.{div-le_self, mod-le}
use lib.Dec.{eqb}
use lib.ListN.{length, get_or}
use borrow.Author.Tests.{eq-eqb, ne_eqb, eqb-true, lt-ltb, le-ltb}
use Rattle.base.specs.Bounded.{all_below}
use Rattle.base.proofs.BoolLaws.{passes_only}
use Rattle.base.proofs.ListLaws.{default}
use Rattle.instance.specs.Limits.{no_arc}
use Rattle.instance.specs.Refusals.{buffer_short, weight_too_high}
use Rattle.instance.specs.RefusalNumbers.{refusal_number}
use Rattle.instance.specs.declared.refusals.Refusal.{Refusal}
use Rattle.text.specs.Decimal.{decimal}
use Rattle.text.specs.Lines.{space}
use Rattle.text.specs.Buffer.{Puts}
use Rattle.text.proofs.DecimalLaws.{decimal_length}
use Rattle.text.proofs.LineLaws.{three_length}
use Rattle.text.proofs.BufferLaws.{puts_filled}
use Rattle.price_format.specs.Reading.{room_refusal}
use Rattle.price_format.specs.Writing.{price_at, is_written, place_text, list_text, place_ok, prices_refusal, write_refusal}
use Rattle.price_list.specs.Writes.{write_result, Writes}
use Rattle.instance.proofs.RefusalLaws.{not_0}

-- A PLACE
-- within the list the default does not matter
pub price_here : (ps : List ℕ) (i : ℕ) → i < length ps → get_or ps i 0 ≡ price_at ps i
price_here ps i h = default ps i 0 no_arc h

pub written_length : (n r i w : ℕ) → is_written n r i w ≡ true → length (place_text n r i w) ≡ length (decimal (i / n)) + length (decimal (i % n)) + length (decimal w) + 3
unfolding place_text
written_length n r i w e = rw e (three_length [] (i / n) (space ∷ []) (i % n) (space ∷ []) w ∙ omega arith)

pub unwritten_length : (n r i w : ℕ) → is_written n r i w ≡ false → length (place_text n r i w) ≡ 0
unfolding place_text
unwritten_length n r i w e = rw e

-- no line is longer than three numbers of ten digits
pub place_most : (n r i w : ℕ) → i < 10 ^ 10 → w < 10 ^ 10 → length (place_text n r i w) ≤ 33
place_most n r i w bi bw = go (is_written n r i w) refl
  where
    go : (c : Bool) → is_written n r i w ≡ c → length (place_text n r i w) ≤ 33
    go false e = omega (arith, unwritten_length n r i w e)
    go true e =
        let q : i / n ≤ i = div-le_self i n in
        let m : i % n ≤ i = mod-le i n in
        let a = decimal_length 10 (i / n) (omega arith) (omega arith) in
        let b = decimal_length 10 (i % n) (omega arith) (omega arith) in
        let d = decimal_length 10 w (omega arith) bw in
        omega (arith, written_length n r i w e)

-- THE PRICES
module _ (n r : ℕ) (ps : List ℕ) (e : prices_refusal n r ps ≡ 0) where
  pub prices_room : room_refusal n r (length ps) ≡ 0
  unfolding prices_refusal
  prices_room = go (eqb (room_refusal n r (length ps)) 0) refl e
    where
      go : (c : Bool) → eqb (room_refusal n r (length ps)) 0 ≡ c
          → cond c (cond (all_below (n * n) (λ i. place_ok n r i (price_at ps i))) 0 weight_too_high) (room_refusal n r (length ps)) ≡ 0
          → room_refusal n r (length ps) ≡ 0
      go true q p = eqb-true (room_refusal n r (length ps)) 0 q
      go false q p = p

  pub prices_ok : all_below (n * n) (λ i. place_ok n r i (price_at ps i)) ≡ true
  unfolding prices_refusal
  prices_ok =
      passes_only (all_below (n * n) (λ i. place_ok n r i (price_at ps i))) 18 (rw (eq-eqb (room_refusal n r (length ps)) 0 prices_room) at e)

-- THE WHOLE CALL
module _ (ps : List ℕ) (n r : ℕ) (old : List ℕ) where
  pub writes_refused : (e : Refusal) → refusal_number e ≡ prices_refusal n r ps → Writes ps n r old old (record { answer = refusal_number e; length = 0 })
  unfolding write_result write_refusal
  writes_refused e f = let z = ne_eqb (refusal_number e) 0 (not_0 e) in record { result = rw (← f, z, z); buffer = rw z }

  module _ (room : 0 ≡ prices_refusal n r ps) where
    pub writes_short : length old < length (list_text n r ps) → Writes ps n r old old (record { answer = buffer_short; length = 0 })
    unfolding write_result write_refusal
    writes_short l = record { result = rw (← room, lt-ltb (length old) (length (list_text n r ps)) l); buffer = refl }

    pub writes_whole : (new : List ℕ) (next : ℕ) → length (list_text n r ps) ≤ length old → Puts (list_text n r ps) old new 0 next
        → Writes ps n r old new (record { answer = 0; length = length (list_text n r ps) })
    unfolding write_result write_refusal
    writes_whole new next l p =
        record { result = rw (← room, le-ltb (length old) (length (list_text n r ps)) l); buffer = (puts_filled p).buffer }
