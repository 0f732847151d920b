-- Laws of numbers that are read up to a cap, digit by digit. Assumes nothing.
use mathlib.Core.Path.{◌≡◌, refl, sym, ap, ◌∙◌}
use mathlib.Core.Bool.{Bool, true, false, not, cond}
use mathlib.Core.List.{List, [], ◌∷◌}
use Prim.Native.Nat.{ℕ, ◌+◌, ◌*◌, ◌-◌, ◌≤◌, ◌<◌}
use native.Mathlib.Omega.{arith}
use native.Mathlib.Nat.{add-zero}
use native.Mathlib.Numerals.{add-one}
use lib.Dec.{leb, eqb}
use lib.ListN.{length, get_or, drop, drop_of_length-le, get_or-eq_default}
use lib.Seq.{drop-cons, get_or-drop}
use borrow.Author.Tests.{leb-true, leb-false, le-leb, eq-eqb, ne_eqb}
use Rattle.base.proofs.BoolLaws.{and_false_right}
use Rattle.text.specs.Decimal.{value_after}
use Rattle.price_format.specs.Numbers.{is_digit, digits_in, is_number}
use Rattle.price_format.specs.Lines.{number_then, first_number}
use Rattle.price_list.specs.Numbers.{cap, capped, Scans, NumberAt}

-- THE CAP
pub capped_low : (v : ℕ) → v ≤ cap → capped v ≡ v
unfolding capped
capped_low v h = rw (le-leb v cap h)

pub capped_high : (v : ℕ) → cap ≤ v → capped v ≡ cap
unfolding capped
capped_high v h = go (leb v cap) refl
  where
    go : (c : Bool) → leb v cap ≡ c → cond c v cap ≡ cap
    go true e = let l = leb-true v cap e in omega arith
    go false e = refl

pub capped_most : (v : ℕ) → capped v ≤ cap
unfolding capped
capped_most v = go (leb v cap) refl
  where
    go : (c : Bool) → leb v cap ≡ c → cond c v cap ≤ cap
    go true e = leb-true v cap e
    go false e = omega arith

-- a number that was capped, with one digit more, is capped like the number itself
one_more : (v d : ℕ) → capped (10 * capped v + d) ≡ capped (10 * v + d)
one_more v d = go (leb v cap) refl
  where
    go : (c : Bool) → leb v cap ≡ c → capped (10 * capped v + d) ≡ capped (10 * v + d)
    go true e = rw (capped_low v (leb-true v cap e))
    go false e =
        let l = leb-false v cap e in
        let h = capped_high v (omega arith) in
        capped_high (10 * capped v + d) (omega arith) ∙ sym (capped_high (10 * v + d) (omega arith))

pub capped_after : (v : ℕ) (ds : List ℕ) → capped (value_after (capped v) ds) ≡ capped (value_after v ds)
unfolding value_after
capped_after v [] = go (leb v cap) refl
  where
    go : (c : Bool) → leb v cap ≡ c → capped (capped v) ≡ capped v
    go true e = ap capped (capped_low v (leb-true v cap e))
    go false e = let l = leb-false v cap e in ap capped (capped_high v (omega arith)) ∙ capped_high cap (omega arith) ∙ sym (capped_high v (omega arith))
capped_after v (d ∷ ds) =
    sym (capped_after (10 * capped v + (d - 48)) ds) ∙ ap (λ (x : ℕ). capped (value_after x ds)) (one_more v (d - 48)) ∙ capped_after (10 * v + (d - 48)) ds

-- DIGITS BY PLACE
module _ (text : List ℕ) (i : ℕ) where
  pub digits_end : length text ≤ i → digits_in (drop i text) ≡ []
  unfolding digits_in
  digits_end h = ap digits_in (drop_of_length-le text h)

  pub digits_none : i < length text → is_digit (get_or text i 0) ≡ false → digits_in (drop i text) ≡ []
  unfolding digits_in
  digits_none h e = rw (drop-cons text i 0 h, e)

  pub digits_more : i < length text → is_digit (get_or text i 0) ≡ true → digits_in (drop i text) ≡ get_or text i 0 ∷ digits_in (drop (i + 1) text)
  unfolding digits_in
  digits_more h e = rw (drop-cons text i 0 h, e, add-one)

-- HOW FAR THE DIGITS FROM A PLACE ON ARE READ: what was read and what is left make up the number
pub record Scanning (text : List ℕ) (at value end : ℕ) : Type 0 where
  pub within : end ≤ length text
  pub low : value ≤ cap
  pub number : capped (value_after value (digits_in (drop end text))) ≡ capped (first_number (drop at text))
  pub left : end + length (digits_in (drop end text)) ≡ at + length (digits_in (drop at text))

pub scan_start : (text : List ℕ) (at : ℕ) → at ≤ length text → Scanning text at 0 at
unfolding first_number
scan_start text at h = record { within = h; low = omega arith; number = refl; left = refl }

module _ (text : List ℕ) (at v i : ℕ) (s : Scanning text at v i) where
  pub scan_more : (w : ℕ) → i < length text → is_digit (get_or text i 0) ≡ true → w ≡ capped (10 * v + (get_or text i 0 - 48)) → Scanning text at w (i + 1)
  unfolding value_after
  scan_more w h e q =
      let m = digits_more text i h e in
      let n = rw m at s.number in
      let l = rw m at s.left in
      record {
        within = omega arith;
        low = rw q (capped_most (10 * v + (get_or text i 0 - 48)));
        number = rw q (capped_after (10 * v + (get_or text i 0 - 48)) (digits_in (drop (i + 1) text)) ∙ n);
        left = omega (arith, l);
      }

  pub scan_end : digits_in (drop i text) ≡ [] → Scans text at (record { value = v; end = i })
  unfolding value_after
  scan_end e =
      let n = rw e at s.number in
      let l = rw e at s.left in
      record { value = sym (capped_low v s.low) ∙ n; end = omega (arith, l); within = s.within }

-- A NUMBER BY ITS LENGTH AND FIRST DIGIT
pub number_none : (ds : List ℕ) → length ds ≡ 0 → is_number ds ≡ false
unfolding is_number
number_none [] e = refl
number_none (d ∷ ds) e = absurd (omega arith)

pub number_one : (ds : List ℕ) → length ds ≡ 1 → is_number ds ≡ true
unfolding is_number
number_one [] e = absurd (omega arith)
number_one (d ∷ []) e = refl
number_one (d ∷ f ∷ ds) e = absurd (omega arith)

pub number_several : (ds : List ℕ) → 1 < length ds → is_number ds ≡ not (eqb (get_or ds 0 0) 48)
unfolding is_number
number_several [] h = absurd (omega arith)
number_several (d ∷ []) h = absurd (omega arith)
number_several (d ∷ f ∷ ds) h = refl

first_digit : (t : List ℕ) → 0 < length (digits_in t) → get_or (digits_in t) 0 0 ≡ get_or t 0 0
unfolding digits_in
first_digit [] h = absurd (omega arith)
first_digit (b ∷ bs) h = go (is_digit b) h
  where
    go : (c : Bool) → 0 < length (cond c (b ∷ digits_in bs) []) → get_or (cond c (b ∷ digits_in bs) []) 0 0 ≡ b
    go true l = refl
    go false l = absurd (omega arith)

pub first_at : (text : List ℕ) (at : ℕ) → 0 < length (digits_in (drop at text)) → get_or (digits_in (drop at text)) 0 0 ≡ get_or text at 0
first_at text at h = first_digit (drop at text) h ∙ get_or-drop at text 0 0 ∙ ap (λ (k : ℕ). get_or text k 0) (add-zero at)

-- A NUMBER AND ITS SEPARATOR
module _ (text : List ℕ) (at sep value end : ℕ) (s : Scans text at (record { value = value; end = end })) where
  behind : get_or (drop at text) (length (digits_in (drop at text))) 0 ≡ get_or text end 0
  behind = get_or-drop at text (length (digits_in (drop at text))) 0 ∙ ap (λ (k : ℕ). get_or text k 0) (sym s.end)

  pub bad_digits : is_number (digits_in (drop at text)) ≡ false → number_then sep (drop at text) ≡ false
  unfolding number_then
  bad_digits e = rw e

  pub bad_separator : (get_or text end 0 ≡ sep → ⊥) → number_then sep (drop at text) ≡ false
  unfolding number_then
  bad_separator n =
      rw behind (and_false_right (is_number (digits_in (drop at text))) (eqb (get_or text end 0) sep) (ne_eqb (get_or text end 0) sep n))

  -- past the end there is no separator
  pub bad_end : 1 ≤ sep → length text ≤ end → number_then sep (drop at text) ≡ false
  bad_end h l = bad_separator (λ e. omega (arith, sym e ∙ get_or-eq_default text 0 l))

  pub good_number : is_number (digits_in (drop at text)) ≡ true → get_or text end 0 ≡ sep → end < length text
      → NumberAt text at sep (record { value = value; next = end + 1 })
  unfolding number_then
  good_number n e l =
      record {
        stands = rw (n, behind) (eq-eqb (get_or text end 0) sep e);
        value = s.value;
        next = omega (arith, s.end);
        within = omega arith;
      }
