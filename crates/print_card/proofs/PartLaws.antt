-- The whole lines at the beginning of an input decide, if they are refused: with more text behind them the answer and
-- the line are the same. A run of digits that begins before a line feed ends before it, so each line is read alike.
-- Assumes nothing.
use mathlib.Core.Path.{◌≡◌, refl, sym, ap, ◌∙◌, subst}
use mathlib.Core.Bool.{Bool, true, false, ◌&&◌, cond}
use mathlib.Core.List.{List, [], ◌∷◌, ◌++◌, append_assoc, append-nil}
use Prim.Native.Nat.{ℕ, zero, suc, ◌+◌, ◌-◌, ◌≤◌, ◌<◌}
use native.Mathlib.Omega.{arith}
use lib.Dec.{ltb, eqb}
use lib.ListN.{length, get_or, take, drop, length-append, length-drop, take-append-drop, drop_of_length-le, get_or-append}
use lib.Seq.{drop-append-le, get_or-append-add, get_or-drop, get_or-take, length-take-le}
use borrow.Author.Tests.{ltb-true, ltb-false, lt-ltb, eqb-true}
use Rattle.base.specs.Lists.{all_of}
use Rattle.base.proofs.AllOfLaws.{all_of_first, all_of_rest}
use Rattle.base.proofs.BoolLaws.{and_right, not_both}
use Rattle.instance.specs.Limits.{max_vertices}
use Rattle.instance.specs.Refusals.{bad_line}
use Rattle.text.specs.Decimal.{value_after}
use Rattle.text.specs.Lines.{space, line_feed}
use Rattle.price_format.specs.Numbers.{is_digit, digits_in, is_number}
use Rattle.price_format.specs.Lines.{Line, number_then, first_number, after_number, has_line, first_line}
use Rattle.price_format.specs.Reading.{numbers_refusal, line_refusal, ListRead, read_lines, read_list, lines_text}
use Rattle.price_format.proofs.NumberLaws.{digits_all, digits_front}
use Rattle.price_format.proofs.LineLaws.{first_then, second_then}
use Rattle.price_format.proofs.Readings.{FaultReads, ListReads, accepted, faulty, list_reads, list_only}
use Rattle.print_card.specs.Judge.{max_read, line_end, judged_part}
use Rattle.print_card.proofs.JudgeLaws.{end_within}

-- a text that ends in a line feed
record Ends (t : List ℕ) : Type 0 where
  some : 0 < length t
  last : get_or t (length t - 1) 0 ≡ line_feed

all_digit : (l : List ℕ) (i : ℕ) → i < length l → all_of is_digit l ≡ true → is_digit (get_or l i 0) ≡ true
all_digit [] i h a = absurd (omega arith)
all_digit (x ∷ l) zero h a = all_of_first is_digit x l a
all_digit (x ∷ l) (suc i) h a = all_digit l i (omega arith) (all_of_rest is_digit x l a)

no_digit : is_digit line_feed ≡ false
unfolding is_digit
no_digit = refl

-- digits that end within a text are those of any longer one
digits_same : (t u : List ℕ) → length (digits_in t) < length t → digits_in (t ++ u) ≡ digits_in t
unfolding digits_in
digits_same [] u h = absurd (omega arith)
digits_same (b ∷ bs) u h = go (is_digit b) h (digits_same bs u)
  where
    go : (c : Bool) → length (cond c (b ∷ digits_in bs) []) < length (b ∷ bs) → (length (digits_in bs) < length bs → digits_in (bs ++ u) ≡ digits_in bs)
        → cond c (b ∷ digits_in (bs ++ u)) [] ≡ cond c (b ∷ digits_in bs) []
    go true l r = ap (λ (x : List ℕ). b ∷ x) (r (omega arith))
    go false l r = refl

module _ (t : List ℕ) (e : Ends t) where
  -- the digits at its front end before the line feed
  digits_within : length (digits_in t) < length t
  digits_within = by (ltb (length (digits_in t)) (length t)) refl
    where
      by : (c : Bool) → ltb (length (digits_in t)) (length t) ≡ c → length (digits_in t) < length t
      by true q = ltb-true (length (digits_in t)) (length t) q
      by false q =
          let l = ltb-false (length (digits_in t)) (length t) q in
          let same : digits_in t ≡ t =
          sym (append-nil (digits_in t)) ∙ ap (λ (x : List ℕ). digits_in t ++ x) (sym (drop_of_length-le t l)) ∙ digits_front t in
          let a : all_of is_digit t ≡ true = subst (λ (x : List ℕ). all_of is_digit x ≡ true) same (digits_all t) in
          let d = all_digit t (length t - 1) (omega (arith, e.some)) a in
          absurd (not_both (is_digit line_feed) (rw e.last at d) no_digit)

  -- what follows a number and a space ends in the line feed too
  rest_ends : number_then space t ≡ true → Ends (after_number t)
  unfolding number_then after_number
  rest_ends h =
      let k = length (digits_in t) in
      let w = digits_within in
      let g : get_or t k 0 ≡ space = eqb-true (get_or t k 0) space (and_right (is_number (digits_in t)) (eqb (get_or t k 0) space) h) in
      let m : k + 1 < length t = before k w g in
      let l = length-drop (k + 1) t in
      let i : k + 1 + (length (drop (k + 1) t) - 1) ≡ length t - 1 = omega arith in
      record { some = omega arith; last = get_or-drop (k + 1) t (length (drop (k + 1) t) - 1) 0 ∙ ap (λ (j : ℕ). get_or t j 0) i ∙ e.last }
    where
      before : (k : ℕ) → k < length t → get_or t k 0 ≡ space → k + 1 < length t
      before k w g = by (ltb (k + 1) (length t)) refl
        where
          by : (c : Bool) → ltb (k + 1) (length t) ≡ c → k + 1 < length t
          by true q = ltb-true (k + 1) (length t) q
          by false q =
              let l = ltb-false (k + 1) (length t) q in
              let i : length t - 1 ≡ k = omega arith in
              absurd (omega (arith, sym g ∙ ap (λ (j : ℕ). get_or t j 0) (sym i) ∙ e.last))

  module _ (u : List ℕ) where
    then_same : (s : ℕ) → number_then s (t ++ u) ≡ number_then s t
    unfolding number_then
    then_same s = rw (digits_same t u digits_within, get_or-append t u 0 (length (digits_in t)) digits_within)

    number_same : first_number (t ++ u) ≡ first_number t
    unfolding first_number
    number_same = ap (value_after 0) (digits_same t u digits_within)

    after_same : after_number (t ++ u) ≡ after_number t ++ u
    unfolding after_number
    after_same = let w = digits_within in rw (digits_same t u digits_within) (drop-append-le (length (digits_in t) + 1) t u (omega arith))

-- A LINE that begins within such a text is read alike with more behind it
module _ (t u : List ℕ) (e : Ends t) where
  line_same : has_line (t ++ u) ≡ has_line t
  unfolding has_line
  line_same = rw (then_same t e u space, after_same t e u) (first (number_then space t) refl)
    where
      t₁ : List ℕ
      t₁ = after_number t

      third : Ends t₁ → number_then space t₁ ≡ true → number_then line_feed (after_number (t₁ ++ u)) ≡ number_then line_feed (after_number t₁)
      third f d = rw (after_same t₁ f u) (then_same (after_number t₁) (rest_ends t₁ f d) u line_feed)

      second : (c : Bool) → Ends t₁ → number_then space t₁ ≡ c → c && number_then line_feed (after_number (t₁ ++ u)) ≡ c && number_then line_feed (after_number t₁)
      second true f q = third f q
      second false f q = refl

      first : (c : Bool) → number_then space t ≡ c
          → c && (number_then space (t₁ ++ u) && number_then line_feed (after_number (t₁ ++ u))) ≡ c && (number_then space t₁ && number_then line_feed (after_number t₁))
      first true q = let f = rest_ends t e q in rw (then_same t₁ f u space) (second (number_then space t₁) f refl)
      first false q = refl

  numbers_same : has_line t ≡ true → first_line (t ++ u) ≡ first_line t
  unfolding first_line
  numbers_same h =
      let f = rest_ends t e (first_then t h) in
      let g = rest_ends (after_number t) f (second_then t h) in
      rw (number_same t e u, after_same t e u, number_same (after_number t) f u, after_same (after_number t) f u, number_same (after_number (after_number t)) g u)

  refusal_same : (n r : ℕ) (before : List Line) → line_refusal n r before (t ++ u) ≡ line_refusal n r before t
  unfolding line_refusal
  refusal_same n r before = rw line_same (by (has_line t) refl)
    where
      by : (c : Bool) → has_line t ≡ c → cond c (numbers_refusal n r before (first_line (t ++ u))) bad_line ≡ cond c (numbers_refusal n r before (first_line t)) bad_line
      by true q = ap (numbers_refusal n r before) (numbers_same q)
      by false q = refl

-- the end of a text that is put behind another is the end of both
ends_behind : (s t : List ℕ) → 0 < length t → Ends (s ++ t) → Ends t
ends_behind s t h e =
    let l = length-append s t in
    let i : length (s ++ t) - 1 ≡ length s + (length t - 1) = omega arith in
    record { some = h; last = sym (get_or-append-add s t (length t - 1) 0) ∙ ap (λ (j : ℕ). get_or (s ++ t) j 0) (sym i) ∙ e.last }

-- WHOLE LINES that are refused decide
module _ (n r : ℕ) (small : n ≤ max_vertices) (front rest : List ℕ) (e : Ends front) where
  fault_behind : (x : ListRead) → FaultReads n r front x → FaultReads n r (front ++ rest) x
  fault_behind x f =
      let g : Ends f.rest = ends_behind (lines_text x.lines) f.rest f.some (subst Ends f.whole e) in
      let l = length-append f.rest rest in
      record {
        rest = f.rest ++ rest;
        sound = f.sound;
        whole = ap (λ (t : List ℕ). t ++ rest) f.whole ∙ append_assoc (lines_text x.lines) f.rest rest;
        some = omega (arith, f.some);
        fault = refusal_same f.rest rest g n r x.lines ∙ f.fault;
        refused = f.refused;
        counted = f.counted;
      }

  lines_decide : ((read_list n r front).answer ≡ 0 → ⊥) → read_list n r (front ++ rest) ≡ read_list n r front
  lines_decide z = by (read_list n r front) (list_reads n r small front) z
    where
      by : (x : ListRead) → ListReads n r front x → (x.answer ≡ 0 → ⊥) → read_list n r (front ++ rest) ≡ x
      by x (accepted s q) z = absurd (z refl)
      by x (faulty f) z = list_only n r small (front ++ rest) x (faulty (fault_behind x f))

-- THE LAW, of what is judged of an input that goes on
end_feed : (k : ℕ) (t : List ℕ) → 0 < line_end k t → get_or t (line_end k t - 1) 0 ≡ line_feed
unfolding line_end
end_feed zero t h = absurd (omega arith)
end_feed (suc k) t h = by (eqb (get_or t k 0) line_feed) refl h (end_feed k t)
  where
    by : (c : Bool) → eqb (get_or t k 0) line_feed ≡ c → 0 < cond c (suc k) (line_end k t) → (0 < line_end k t → get_or t (line_end k t - 1) 0 ≡ line_feed)
        → get_or t (cond c (suc k) (line_end k t) - 1) 0 ≡ line_feed
    by true q h r = let i : suc k - 1 ≡ k = omega arith in rw i (eqb-true (get_or t k 0) line_feed q)
    by false q h r = r h

-- the empty text is a list
not_empty : (n r : ℕ) (p : List ℕ) → ((read_list n r p).answer ≡ 0 → ⊥) → 0 < length p
unfolding read_list read_lines
not_empty n r [] y = absurd (y refl)
not_empty n r (b ∷ bs) y = omega arith

pub part_decides : (n r : ℕ) (t more : List ℕ) → n ≤ max_vertices → max_read < length t → ((read_list n r (judged_part t)).answer ≡ 0 → ⊥)
    → read_list n r (t ++ more) ≡ read_list n r (judged_part t)
unfolding judged_part read_list read_lines
part_decides n r t more small h z =
    let k = line_end (length t) t in
    let w = end_within t (length t) in
    let p = take k t in
    let l : length p ≡ k = length-take-le k t w in
    let q : judged_part t ≡ p = rw (lt-ltb max_read (length t) h) in
    let y : ((read_list n r p).answer ≡ 0 → ⊥) = subst (λ (x : List ℕ). ((read_list n r x).answer ≡ 0 → ⊥)) q z in
    let some : 0 < length p = not_empty n r p y in
    let e : Ends p = record { some = some; last = get_or-take k t (length p - 1) 0 (omega arith) ∙ rw l (end_feed (length t) t (omega arith)) } in
    let whole : t ++ more ≡ p ++ (drop k t ++ more) = ap (λ (x : List ℕ). x ++ more) (sym (take-append-drop k t)) ∙ append_assoc p (drop k t) more in
    ap (read_list n r) whole ∙ lines_decide n r small p (drop k t ++ more) e y ∙ ap (read_list n r) (sym q)
