-- Laws of the line at the front of a text: a written line is read as its own numbers, and a line that is read is the
-- one that would be written. Assumes nothing.
use mathlib.Core.Path.{◌≡◌, refl, sym, ap, ◌∙◌}
use mathlib.Core.Bool.{Bool, true, false, ◌&&◌}
use mathlib.Core.List.{List, ◌∷◌, ◌++◌, append_assoc}
use Prim.Native.Nat.{ℕ, ◌+◌, ◌^◌, ◌<◌}
use native.Mathlib.Omega.{arith}
use native.Mathlib.Numerals.{add-one}
use lib.Dec.{ltb, eqb}
use lib.ListN.{length, get_or, length-drop, get_or-eq_default}
use lib.Seq.{drop-cons, drop-append-add, get_or-append_seam}
use borrow.Author.Tests.{eqb-true, eq-eqb, ltb-true, ltb-false}
use Rattle.base.specs.Lists.{all_of}
use Rattle.base.proofs.BoolLaws.{and_left, and_right}
use Rattle.text.specs.Decimal.{decimal, value_after}
use Rattle.text.specs.Lines.{space, line_feed}
use Rattle.text.proofs.DecimalLaws.{decimal_value}
use Rattle.price_format.specs.Numbers.{is_digit, digits_in, is_number}
use Rattle.price_format.specs.Lines.{number_then, first_number, after_number, has_line, first_line, after_line, line_text}
use Rattle.price_format.proofs.NumberLaws.{digits_stop, digits_all, digits_front, decimal_digits, decimal_number, number_decimal}

not_space : is_digit space ≡ false
unfolding is_digit
not_space = refl

not_line_feed : is_digit line_feed ≡ false
unfolding is_digit
not_line_feed = refl

-- A NUMBER AND ITS SEPARATOR, put together
module _ (ds : List ℕ) (s : ℕ) (rest : List ℕ) (all : all_of is_digit ds ≡ true) (stop : is_digit s ≡ false) where
  front_digits : digits_in (ds ++ (s ∷ rest)) ≡ ds
  front_digits = digits_stop ds s rest all stop

  pub made_then : is_number ds ≡ true → number_then s (ds ++ (s ∷ rest)) ≡ true
  unfolding number_then
  made_then n = rw (front_digits, n, get_or-append_seam ds s rest 0) (eq-eqb s s refl)

  pub made_number : first_number (ds ++ (s ∷ rest)) ≡ value_after 0 ds
  unfolding first_number
  made_number = ap (value_after 0) front_digits

  pub made_after : after_number (ds ++ (s ∷ rest)) ≡ rest
  unfolding after_number
  made_after = rw (front_digits) (drop-append-add ds (s ∷ rest) 1)

-- and taken apart
module _ (s : ℕ) (t : List ℕ) (some : 0 < s) (h : number_then s t ≡ true) where
  pub then_number : is_number (digits_in t) ≡ true
  unfolding number_then
  then_number = and_left (is_number (digits_in t)) (eqb (get_or t (length (digits_in t)) 0) s) h

  then_separator : get_or t (length (digits_in t)) 0 ≡ s
  unfolding number_then
  then_separator = eqb-true (get_or t (length (digits_in t)) 0) s (and_right (is_number (digits_in t)) (eqb (get_or t (length (digits_in t)) 0) s) h)

  -- there is a byte behind the digits, since past the end there would be 0
  pub then_within : length (digits_in t) < length t
  then_within = go (ltb (length (digits_in t)) (length t)) refl
    where
      go : (c : Bool) → ltb (length (digits_in t)) (length t) ≡ c → length (digits_in t) < length t
      go true e = ltb-true (length (digits_in t)) (length t) e
      go false e = absurd (omega (arith, sym then_separator ∙ get_or-eq_default t 0 (ltb-false (length (digits_in t)) (length t) e)))

  pub then_split : digits_in t ++ (s ∷ after_number t) ≡ t
  unfolding after_number
  then_split =
      let e = drop-cons t (length (digits_in t)) 0 then_within in
      rw (add-one, ← then_separator, ← e) (digits_front t)

  -- what follows is shorter
  pub then_shorter : length (after_number t) < length t
  unfolding after_number
  then_shorter = let l = then_within in let e = length-drop (length (digits_in t) + 1) t in omega arith

-- A LINE, put together from digits
module _ (ts hs ws rest : List ℕ) (dt : all_of is_digit ts ≡ true) (dh : all_of is_digit hs ≡ true) (dw : all_of is_digit ws ≡ true) where
  abbrev third : List ℕ
  third = ws ++ (line_feed ∷ rest)

  abbrev second : List ℕ
  second = hs ++ (space ∷ third)

  abbrev whole : List ℕ
  whole = ts ++ (space ∷ second)

  after_first : after_number whole ≡ second
  after_first = made_after ts space second dt not_space

  after_second : after_number second ≡ third
  after_second = made_after hs space third dh not_space

  pub made_line : is_number ts ≡ true → is_number hs ≡ true → is_number ws ≡ true → has_line whole ≡ true
  unfolding has_line
  made_line nt nh nw =
      rw (after_first, after_second, made_then ts space second dt not_space nt, made_then hs space third dh not_space nh)
      (made_then ws line_feed rest dw not_line_feed nw)

  pub made_first : first_line whole ≡ record { tail = value_after 0 ts; head = value_after 0 hs; weight = value_after 0 ws }
  unfolding first_line
  made_first =
      rw (after_first, after_second, made_number ts space second dt not_space, made_number hs space third dh not_space, made_number ws line_feed rest dw not_line_feed)

  pub made_rest : after_line whole ≡ rest
  unfolding after_line
  made_rest = rw (after_first, after_second) (made_after ws line_feed rest dw not_line_feed)

-- A LINE THAT IS WRITTEN
-- its pieces one behind the other
line_pieces : (t h w : ℕ) (rest : List ℕ) →
    line_text t h w ++ rest ≡ decimal t ++ (space ∷ (decimal h ++ (space ∷ (decimal w ++ (line_feed ∷ rest)))))
line_pieces t h w rest = simp append_assoc

-- it is read as its own numbers
module _ (t h w : ℕ) (rest : List ℕ) (bt : t < 10 ^ 10) (bh : h < 10 ^ 10) (bw : w < 10 ^ 10) where
  pub written_line : has_line (line_text t h w ++ rest) ≡ true
  written_line =
      rw (line_pieces t h w rest)
      (made_line (decimal t) (decimal h) (decimal w) rest (decimal_digits t) (decimal_digits h) (decimal_digits w) (decimal_number t bt) (decimal_number h bh) (decimal_number w bw))

  pub written_first : first_line (line_text t h w ++ rest) ≡ record { tail = t; head = h; weight = w }
  written_first =
      rw (line_pieces t h w rest, made_first (decimal t) (decimal h) (decimal w) rest (decimal_digits t) (decimal_digits h) (decimal_digits w), decimal_value t bt, decimal_value h bh, decimal_value w bw)

  pub written_after : after_line (line_text t h w ++ rest) ≡ rest
  written_after = rw (line_pieces t h w rest) (made_rest (decimal t) (decimal h) (decimal w) rest (decimal_digits t) (decimal_digits h) (decimal_digits w))

-- A LINE THAT IS READ
module _ (t : List ℕ) (h : has_line t ≡ true) where
  abbrev a₁ : List ℕ
  a₁ = after_number t

  abbrev a₂ : List ℕ
  a₂ = after_number a₁

  pub first_then : number_then space t ≡ true
  unfolding has_line
  first_then = and_left (number_then space t) (number_then space a₁ && number_then line_feed a₂) h

  both : number_then space a₁ && number_then line_feed a₂ ≡ true
  unfolding has_line
  both = and_right (number_then space t) (number_then space a₁ && number_then line_feed a₂) h

  pub second_then : number_then space a₁ ≡ true
  second_then = and_left (number_then space a₁) (number_then line_feed a₂) both

  pub third_then : number_then line_feed a₂ ≡ true
  third_then = and_right (number_then space a₁) (number_then line_feed a₂) both

  -- it takes some bytes
  pub line_shorter : length (after_line t) < length t
  unfolding after_line
  line_shorter =
      let x = then_shorter space t (omega arith) first_then in
      let y = then_shorter space a₁ (omega arith) second_then in
      let z = then_shorter line_feed a₂ (omega arith) third_then in
      omega arith

  -- its numbers in decimal are its bytes
  pub read_line_text : (first_line t).tail < 10 ^ 10 → (first_line t).head < 10 ^ 10 → (first_line t).weight < 10 ^ 10
      → line_text (first_line t).tail (first_line t).head (first_line t).weight ++ after_line t ≡ t
  unfolding first_line first_number after_line
  read_line_text bt bh bw =
      line_pieces (first_number t) (first_number a₁) (first_number a₂) (after_number a₂)
      ∙ rw (number_decimal (digits_in t) (then_number space t (omega arith) first_then) (digits_all t) bt, number_decimal (digits_in a₁) (then_number space a₁ (omega arith) second_then) (digits_all a₁) bh, number_decimal (digits_in a₂) (then_number line_feed a₂ (omega arith) third_then) (digits_all a₂) bw, then_split line_feed a₂ (omega arith) third_then, then_split space a₁ (omega arith) second_then)
      (then_split space t (omega arith) first_then)
