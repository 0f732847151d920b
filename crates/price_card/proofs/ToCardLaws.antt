-- The ways of making a card: the numbers are refused, the list is refused, or the card of its table is written. Assumes
-- nothing.
use mathlib.Core.Path.{◌≡◌, sym, ap, ◌∙◌, subst}
use mathlib.Core.Bool.{Bool, true, false, cond}
use mathlib.Core.List.{List}
use Prim.Native.Nat.{ℕ, ◌+◌, ◌*◌, ◌/◌, ◌%◌, ◌≤◌, ◌<◌}
use native.Mathlib.Omega.{arith}
use lib.Dec.{ltb, eqb}
use lib.ListN.{length, get_or, replicate, drop, length-append}
use borrow.Author.Tests.{eq-eqb, ne_eqb}
use Rattle.base.specs.Lists.{in_front}
use Rattle.base.proofs.ListLaws.{tabulate_is}
use Rattle.instance.specs.Limits.{max_vertices, free, cells}
use Rattle.instance.specs.Refusals.{buffer_short}
use Rattle.instance.specs.Instance.{Instance, instance_with, cell}
use Rattle.card_format.specs.Card.{bytes_needed, card_of}
use Rattle.card_format.proofs.LengthLaws.{length_card_of}
use Rattle.card.specs.Write.{written_to, buffer_after, CardWritten}
use Rattle.card.specs.Write.{Written}
use Rattle.price_format.specs.Lines.{Line}
use Rattle.price_format.specs.Reading.{weight_named, read_list}
use Rattle.price_card.specs.ToCard.{CardMade, card_count_refusal, weights_of, instance_listed, made, MakesCard}

-- a table that agrees with some lines, whatever its cells are read with past their end, is that of these lines
pub table_weights : (ls : List Line) (ws : List ℕ) → length ws ≡ cells
    → ((t h : ℕ) → t < max_vertices → h < max_vertices → get_or ws (cell t h) 0 ≡ weight_named ls t h) → ws ≡ weights_of ls
unfolding weights_of
table_weights ls ws l at =
    tabulate_is cells ws (λ i. weight_named ls (i / 32) (i % 32)) 0 l
    (λ i h.
    let q : 32 * (i / 32) + i % 32 ≡ i = omega arith in
    subst (λ (k : ℕ). get_or ws k 0 ≡ weight_named ls (i / 32) (i % 32)) q (at (i / 32) (i % 32) (omega arith) (omega arith)))

written_short : (s : Instance) (old : List ℕ) (w : Written) → w ≡ written_to s old → (w.answer ≡ 0 → ⊥) → w ≡ record { answer = buffer_short; length = 0 }
unfolding written_to
written_short s old w e z = by (ltb (length old) (bytes_needed s.n)) e
  where
    by : (c : Bool) → w ≡ cond c (record { answer = buffer_short; length = 0 }) (record { answer = 0; length = bytes_needed s.n })
        → w ≡ record { answer = buffer_short; length = 0 }
    by true f = f
    by false f = absurd (z (ap (λ (y : Written). y.answer) f))

abbrev made_with : Written → CardMade
made_with w = record { answer = w.answer; line = 0; length = w.length }

module _ (t : List ℕ) (n r b : ℕ) (old : List ℕ) where
  pub numbers_refused : (k : ℕ) → k ≡ card_count_refusal n r b → (k ≡ 0 → ⊥) → MakesCard t n r b old old (record { answer = k; line = 0; length = 0 })
  unfolding made
  numbers_refused k e z = record { result = rw (← e, ne_eqb k 0 z); buffer = rw (ne_eqb k 0 z) }

  module _ (k : ℕ) (e : k ≡ card_count_refusal n r b) (passes : k ≡ 0) where
    numbers_pass : eqb (card_count_refusal n r b) 0 ≡ true
    numbers_pass = eq-eqb (card_count_refusal n r b) 0 (sym e ∙ passes)

    pub list_refused : (a l : ℕ) → a ≡ (read_list n r t).answer → l ≡ (read_list n r t).line → (a ≡ 0 → ⊥)
        → MakesCard t n r b old old (record { answer = a; line = l; length = 0 })
    unfolding made
    list_refused a l p q z = record { result = rw (numbers_pass, ← p, ← q, ne_eqb a 0 z); buffer = rw (ne_eqb a 0 z) }

    module _ (ws ms : List ℕ) (same : ws ≡ weights_of (read_list n r t).lines) (unmarked : ms ≡ replicate cells free)
        (a : ℕ) (p : a ≡ (read_list n r t).answer) (z : a ≡ 0) (new : List ℕ) (w : Written)
        (x : CardWritten (instance_with n r b ws ms) old new w) where
      list_passes : eqb (read_list n r t).answer 0 ≡ true
      list_passes = eq-eqb (read_list n r t).answer 0 (sym p ∙ z)

      instance_same : instance_with n r b ws ms ≡ instance_listed n r b t
      unfolding instance_listed
      instance_same = rw (same, unmarked)

      -- by whether the buffer is too short
      short_by : (c : Bool) → w ≡ cond c (record { answer = buffer_short; length = 0 }) (record { answer = 0; length = bytes_needed n })
          → made_with w ≡ cond c (record { answer = buffer_short; line = 0; length = 0 }) (record { answer = 0; line = 0; length = bytes_needed n })
      short_by true e = rw e
      short_by false e = rw e

      front_by : (c : Bool) (card : List ℕ) → w ≡ cond c (record { answer = buffer_short; length = 0 }) (record { answer = 0; length = bytes_needed n })
          → new ≡ cond c old (in_front card old) → new ≡ cond (eqb w.answer 0) (in_front card old) old
      front_by true card e f = rw e f
      front_by false card e f = rw e f

      pub card_written : MakesCard t n r b old new (made_with w)
      unfolding made written_to buffer_after instance_listed
      card_written = record {
        result = rw (numbers_pass, list_passes) (short_by (ltb (length old) (bytes_needed n)) x.result);
        buffer = rw (← instance_same) (front_by (ltb (length old) (bytes_needed n)) (card_of (instance_with n r b ws ms)) x.result x.buffer);
      }

-- the card lies within the buffer
pub made_within : (t : List ℕ) (n r b : ℕ) (old new : List ℕ) (m : CardMade) → MakesCard t n r b old new m → m.length ≤ length new
unfolding made instance_listed
made_within t n r b old new m x =
    by (eqb (card_count_refusal n r b) 0) (eqb (read_list n r t).answer 0) (ltb (length old) (bytes_needed n)) x.result x.buffer
  where
    card : List ℕ
    card = card_of (instance_listed n r b t)

    by : (h l s : Bool)
        → m ≡ cond h (cond l (cond s (record { answer = buffer_short; line = 0; length = 0 }) (record { answer = 0; line = 0; length = bytes_needed n }))
        (record { answer = (read_list n r t).answer; line = (read_list n r t).line; length = 0 })) (record { answer = card_count_refusal n r b; line = 0; length = 0 })
        → new ≡ cond (eqb m.answer 0) (in_front card old) old → m.length ≤ length new
    by false l s e f = let z = ap (λ (y : CardMade). y.length) e in omega arith
    by true false s e f = let z = ap (λ (y : CardMade). y.length) e in omega arith
    by true true true e f = let z = ap (λ (y : CardMade). y.length) e in omega arith
    by true true false e f =
        let z = ap (λ (y : CardMade). y.length) e in
        let g : new ≡ in_front card old = rw e at f in
        let k : length card ≡ bytes_needed n = length_card_of (instance_listed n r b t) in
        omega (arith, ap length g ∙ length-append card (drop (length card) old))
