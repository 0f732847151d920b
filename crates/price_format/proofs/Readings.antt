-- What the definitions say in document 02's words, in both directions: "A line is feeder, space, fed, space, pence,
-- line feed", and "by the first faulty line". Assumes nothing.
use mathlib.Core.Path.{◌≡◌, refl, sym, ap, ◌∙◌}
use mathlib.Core.Bool.{Bool, true, false, cond}
use mathlib.Core.List.{List, [], ◌∷◌, ◌++◌, append_assoc, append-nil}
use Prim.Native.Nat.{ℕ, zero, suc, ◌+◌, ◌≤◌, ◌<◌}
use native.Mathlib.Omega.{arith}
use lib.Dec.{eqb}
use lib.ListN.{length}
use borrow.Author.Tests.{eqb-true, eqb-false}
use Rattle.base.specs.Lists.{all_of}
use Rattle.instance.specs.Limits.{max_vertices}
use Rattle.text.specs.Decimal.{value_after}
use Rattle.text.specs.Lines.{space, line_feed}
use Rattle.price_format.specs.Numbers.{is_digit, digits_in, is_number}
use Rattle.price_format.specs.Lines.{Line, first_number, after_number, has_line, first_line, after_line, line_text}
use Rattle.price_format.specs.Reading.{line_refusal, ListRead, read_lines, read_list, lines_text}
use Rattle.price_format.proofs.NumberLaws.{digits_all}
use Rattle.price_format.proofs.LineLaws.{made_line, made_first, made_rest, then_number, then_split, first_then, second_then, third_then, line_shorter, read_line_text}
use Rattle.price_format.proofs.ReadingLaws.{accepted_line, Sound, none, more, read_refuses}
use Rattle.price_format.proofs.LinesRead.{lines_taken, lines_read}

-- A NUMBER: "decimal with no needless leading zero", of any length
pub record NumberReads (digits : List ℕ) (value : ℕ) : Type 0 where
  pub digits_only : all_of is_digit digits ≡ true
  pub no_needless_zero : is_number digits ≡ true
  pub shows : value_after 0 digits ≡ value

-- A LINE with its three numbers, and what follows it
pub record LineReads (text : List ℕ) (l : Line) (rest : List ℕ) : Type 0 where
  pub tail_digits : List ℕ
  pub head_digits : List ℕ
  pub weight_digits : List ℕ
  pub tail : NumberReads tail_digits l.tail
  pub head : NumberReads head_digits l.head
  pub weight : NumberReads weight_digits l.weight
  pub whole : text ≡ tail_digits ++ (space ∷ (head_digits ++ (space ∷ (weight_digits ++ (line_feed ∷ rest)))))

pub line_reads : (t : List ℕ) → has_line t ≡ true → LineReads t (first_line t) (after_line t)
unfolding first_line first_number after_line
line_reads t h =
    record {
      tail_digits = digits_in t;
      head_digits = digits_in (after_number t);
      weight_digits = digits_in (after_number (after_number t));
      tail = record { digits_only = digits_all t; no_needless_zero = then_number space t (omega arith) (first_then t h); shows = refl };
      head = record { digits_only = digits_all (after_number t); no_needless_zero = then_number space (after_number t) (omega arith) (second_then t h); shows = refl };
      weight = record { digits_only = digits_all (after_number (after_number t)); no_needless_zero = then_number line_feed (after_number (after_number t)) (omega arith) (third_then t h); shows = refl };
      whole =
          sym (rw (then_split line_feed (after_number (after_number t)) (omega arith) (third_then t h), then_split space (after_number t) (omega arith) (second_then t h)) (then_split space t (omega arith) (first_then t h)));
    }

pub line_only : (t : List ℕ) (l : Line) (rest : List ℕ) → LineReads t l rest → (has_line t ≡ true) × (first_line t ≡ l) × (after_line t ≡ rest)
line_only t l rest x =
    let a = x.tail_digits in
    let b = x.head_digits in
    let w = x.weight_digits in
    let da = x.tail.digits_only in
    let db = x.head.digits_only in
    let dw = x.weight.digits_only in
    rw x.whole (
      made_line a b w rest da db dw x.tail.no_needless_zero x.head.no_needless_zero x.weight.no_needless_zero,
      made_first a b w rest da db dw ∙ rw (x.tail.shows, x.head.shows, x.weight.shows),
      made_rest a b w rest da db dw,
    )

lines_append : (l : Line) (ls : List Line) (rest : List ℕ) → lines_text (l ∷ ls) ++ rest ≡ lines_text ls ++ (line_text l.tail l.head l.weight ++ rest)
unfolding lines_text
lines_append l ls rest = append_assoc (lines_text ls) (line_text l.tail l.head l.weight) rest

-- THE FIRST FAULTY LINE: the lines before it could be accepted one after the other, and what follows them begins with
-- a line that is refused so
pub record FaultReads (n root : ℕ) (text : List ℕ) (x : ListRead) : Type 0 where
  pub rest : List ℕ
  pub sound : Sound n root x.lines
  pub whole : text ≡ lines_text x.lines ++ rest
  pub some : 0 < length rest
  pub fault : line_refusal n root x.lines rest ≡ x.answer
  pub refused : x.answer ≡ 0 → ⊥
  pub counted : x.line ≡ length x.lines + 1

-- A WHOLE LIST: lines that can be accepted one after the other and nothing else; or such lines and then a faulty one
pub data ListReads (n root : ℕ) (text : List ℕ) : ListRead → Type 0 where
  accepted : {ls : List Line} → Sound n root ls → text ≡ lines_text ls → ListReads n root text (record { answer = 0; line = 0; lines = ls })
  faulty : {x : ListRead} → FaultReads n root text x → ListReads n root text x

module _ (n r : ℕ) (small : n ≤ max_vertices) where
  reads_on : (k : ℕ) (before : List Line) (t : List ℕ) → Sound n r before → length t ≤ k → ListReads n r (lines_text before ++ t) (read_lines k n r before t)
  unfolding read_lines
  reads_on zero before [] s l = accepted s (append-nil (lines_text before))
  reads_on zero before (b ∷ bs) s l = absurd (omega arith)
  reads_on (suc k) before [] s l = accepted s (append-nil (lines_text before))
  reads_on (suc k) before (b ∷ bs) s l = go (eqb (line_refusal n r before (b ∷ bs)) 0) refl (reads_on k (first_line (b ∷ bs) ∷ before) (after_line (b ∷ bs)))
    where
      t : List ℕ
      t = b ∷ bs

      next : ListRead
      next = read_lines k n r (first_line t ∷ before) (after_line t)

      stopped : ListRead
      stopped = record { answer = line_refusal n r before t; line = length before + 1; lines = before }

      go : (c : Bool) → eqb (line_refusal n r before t) 0 ≡ c
          → (Sound n r (first_line t ∷ before) → length (after_line t) ≤ k → ListReads n r (lines_text (first_line t ∷ before) ++ after_line t) next)
          → ListReads n r (lines_text before ++ t) (cond c next stopped)
      go false q later =
          faulty (record { rest = t; sound = s; whole = refl; some = omega arith; fault = refl; refused = eqb-false (line_refusal n r before t) 0 q; counted = refl })
      go true q later =
          let p = accepted_line n r before t (eqb-true (line_refusal n r before t) 0 q) in
          let a = p.1 in
          let h = line_shorter t p.0 in
          let same : lines_text (first_line t ∷ before) ++ after_line t ≡ lines_text before ++ t =
          lines_append (first_line t) before (after_line t)
          ∙ ap (λ (x : List ℕ). lines_text before ++ x) (read_line_text t p.0 (omega (arith, a.tail)) (omega (arith, a.head)) (omega (arith, a.weight))) in
          rw same at (later (more s a) (omega arith))

  -- every list reads so, and in one way only
  pub list_reads : (t : List ℕ) → ListReads n r t (read_list n r t)
  unfolding read_list lines_text
  list_reads t = reads_on (length t) [] t none (omega arith)

  fault_only : (t : List ℕ) (x : ListRead) → FaultReads n r t x → read_list n r t ≡ x
  unfolding read_list
  fault_only t x f =
      rw f.whole
      (lines_taken n r small x.lines f.rest (length (lines_text x.lines ++ f.rest)) (length f.rest) f.sound (omega arith) (omega arith)
      ∙ read_refuses n r x.lines f.rest f.some (λ z. f.refused (sym f.fault ∙ z)) ∙ rw (f.fault, ← f.counted))

  pub list_only : (t : List ℕ) (x : ListRead) → ListReads n r t x → read_list n r t ≡ x
  list_only t x (accepted {ls} s e) = rw e (lines_read n r small ls s)
  list_only t x (faulty f) = fault_only t x f

  -- an accepted list is the text of its lines
  pub accepted_text : (t : List ℕ) → (read_list n r t).answer ≡ 0 → lines_text (read_list n r t).lines ≡ t
  accepted_text t e = by (read_list n r t) (list_reads t) e
    where
      by : (x : ListRead) → ListReads n r t x → x.answer ≡ 0 → lines_text x.lines ≡ t
      by x (accepted s e) z = sym e
      by x (faulty f) z = absurd (f.refused z)
