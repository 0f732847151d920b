-- What demand 1 says of each call but the commands: its numbers, that every answer is one of them, what a refusal
-- leaves as it was, and that what is accepted was asked of a valid board or of a card that opens. Assumes nothing.
use mathlib.Core.Path.{◌≡◌, refl, sym, ap, ◌∙◌, subst}
use mathlib.Core.Bool.{Bool, true, false, cond, true≢false}
use mathlib.Core.List.{List, [], ◌∷◌}
use Prim.Native.Nat.{ℕ, zero, suc, ◌≤◌}
use native.Mathlib.Omega.{arith}
use lib.Dec.{eqb}
use lib.ListN.{length}
use borrow.Author.Tests.{eqb-true}
use Rattle.base.proofs.BoolLaws.{or_right}
use Rattle.base.specs.Lists.{any_of, in_front}
use Rattle.instance.specs.Refusals.{card_short, bad_count, bad_length, bad_root, bad_card_budget, bad_mark, bad_filling, buffer_short, invalid_board, bad_try_limit}
use Rattle.instance.specs.Instance.{Instance}
use Rattle.card_format.specs.Card.{card_refusal}
use Rattle.card_format.proofs.OpensLaws.{card_refusal_most}
use Rattle.card_format.proofs.SixRetired.{six_retired}
use Rattle.card.specs.Write.{Written}
use Rattle.certificate.specs.Certificate.{certificate_refusal, certificate_numbers}
use Rattle.certificate.proofs.CertificateLaws.{refusal_listed}
use Rattle.commands.specs.Valid.{valid}
use Rattle.commands.specs.Log.{Log}
use Rattle.board.specs.ModelOf.{model_of, instance_of}
use Rattle.board.specs.Create.{blank}
use Rattle.board.specs.declared.Board.{Board}
use Rattle.board.specs.declared.Answered.{Answered}
use Rattle.text.specs.Buffer.{Filled}
use Rattle.report_text.specs.Whole.{refused_text}
use Rattle.report.specs.declared.Reported.{Reported}
use Rattle.report.specs.Reports.{ReportsBy}
use Rattle.enumeration.specs.Walk.{limit_refused, joined}
use Rattle.planner.specs.declared.View.{View}
use Rattle.history_format.specs.HistoryCard.{is_history, history_refusal, open_refusal, model_in}
use Rattle.history_format.proofs.HistoryNumbers.{history_numbers, history_listed, open_listed}
use Rattle.planner.specs.Opening.{opened_from}
use Rattle.planner.specs.Looking.{Buffers, answer_of, LooksAt}
use Rattle.planner.specs.Checking.{check_answer}
use Rattle.planner.specs.Enumerating.{Listing, Refused, list_answer, walked_on, listed_as, Lists}
use Rattle.planner.specs.Replaying.{Call, ReplaysAt}
use Rattle.planner.proofs.CallSteps.{shown_answer}
use Rattle.planner.proofs.WritingLaws.{board_refusal, StoreCase, refused_by, no_room, put}
use Rattle.planner.proofs.OpeningLaws.{blank_by, opened_answer}

-- THE NUMBERS OF EACH CALL, 0 for accepted. A plain card: "Cards: 1 to 5 in that order; then the first faulty cell ..;
-- then 8." Of a cell it is 7: "6 is retired" (02, A9). A history card may get 27 too: `history_numbers` (02, A8); a
-- move to a plain card 28: `to_plain_numbers`.
abbrev pub card_numbers : List ℕ
card_numbers = 0 ∷ card_short ∷ bad_count ∷ bad_length ∷ bad_root ∷ bad_card_budget ∷ bad_mark ∷ bad_filling ∷ []

-- a card of either kind: each has its own
abbrev pub open_numbers : (card : List ℕ) → List ℕ
open_numbers ws = cond (is_history ws) history_numbers card_numbers

-- "14 for looks and writes"
abbrev pub buffer_numbers : List ℕ
buffer_numbers = 0 ∷ invalid_board ∷ buffer_short ∷ []

-- "in order 15, 14, 21 .. 25" (02, A6)
abbrev pub check_numbers : List ℕ
check_numbers = invalid_board ∷ certificate_numbers

-- "Answers: 15, then 26 for a try limit of 0 or above 1,000,000" (02, A7)
abbrev pub enumerate_numbers : List ℕ
enumerate_numbers = 0 ∷ invalid_board ∷ bad_try_limit ∷ []

abbrev pub among : (a : ℕ) → List ℕ → Bool
among a ns = any_of (eqb a) ns

-- a report that is refused: 14 leaves the buffer as it was; the line of a refused card is what it is to write
pub record ReportsBefore (out out' : List ℕ) (r : Reported) : Type 0 where
  pub short : r.answer ≡ buffer_short → out' ≡ out
  pub line : (r.answer ≡ buffer_short → ⊥) → Filled (refused_text r.answer) out out' r.length

-- CARDS
card_listed : (a : ℕ) → a ≤ bad_filling → (a ≡ 6 → ⊥) → among a card_numbers ≡ true
unfolding any_of
card_listed zero h n = refl
card_listed (suc zero) h n = refl
card_listed (suc (suc zero)) h n = refl
card_listed (suc (suc (suc zero))) h n = refl
card_listed (suc (suc (suc (suc zero)))) h n = refl
card_listed (suc (suc (suc (suc (suc zero))))) h n = refl
card_listed (suc (suc (suc (suc (suc (suc zero)))))) h n = absurd (n refl)
card_listed (suc (suc (suc (suc (suc (suc (suc zero))))))) h n = refl
card_listed (suc (suc (suc (suc (suc (suc (suc (suc zero)))))))) h n = refl
card_listed (suc (suc (suc (suc (suc (suc (suc (suc (suc a))))))))) h n = absurd (omega arith)

pub card_among : (ws : List ℕ) → among (card_refusal ws) card_numbers ≡ true
card_among ws = card_listed (card_refusal ws) (card_refusal_most ws) (six_retired ws)

pub open_among : (ws : List ℕ) → among (open_refusal ws) (open_numbers ws) ≡ true
unfolding open_refusal
open_among ws = by (is_history ws)
  where
    by : (k : Bool) → among (cond k (history_refusal ws) (card_refusal ws)) (cond k history_numbers card_numbers) ≡ true
    by true = history_listed ws
    by false = card_among ws

pub zero_among : (ws : List ℕ) → among 0 (open_numbers ws) ≡ true
unfolding any_of history_numbers
zero_among ws = by (is_history ws)
  where
    by : (k : Bool) → among 0 (cond k history_numbers card_numbers) ≡ true
    by true = refl
    by false = refl

pub opened_as_before : (ws : List ℕ) (o : Answered) → o ≡ opened_from ws → (o.answer ≡ 0 → ⊥) → o.board ≡ blank
unfolding opened_from
opened_as_before ws o e n =
    let z : open_refusal ws ≡ 0 → ⊥ = λ z. n (opened_answer ws o e ∙ z) in
    ap (λ (x : Answered). x.board) (e ∙ blank_by (open_refusal ws) (model_in ws) z)

-- LOOKS
module _ (s : Instance) (v : View) (old new : Buffers) where
  pub looks_at_among : (g t : Bool) → LooksAt g t s old new v → among (answer_of v) buffer_numbers ≡ true
  unfolding LooksAt any_of
  looks_at_among false t u = rw (ap answer_of u.result)
  looks_at_among true true u = rw (ap answer_of u.result)
  looks_at_among true false x = rw (shown_answer s v old new x)

  pub looks_at_as_before : (g t : Bool) → LooksAt g t s old new v → (answer_of v ≡ 0 → ⊥) → new ≡ old
  unfolding LooksAt
  looks_at_as_before false t u n = u.buffers
  looks_at_as_before true true u n = u.buffers
  looks_at_as_before true false x n = absurd (n (shown_answer s v old new x))

  pub looks_at_valid : (g t : Bool) → LooksAt g t s old new v → answer_of v ≡ 0 → g ≡ true
  unfolding LooksAt
  looks_at_valid true t u e = refl
  looks_at_valid false t u e = absurd (omega (arith, sym e ∙ ap answer_of u.result))

-- CARDS STORED: a board written, with its records or without, and the moves
module _ (k : ℕ) (card out out' : List ℕ) (r : Written) where
  pub stores_among : (ns : List ℕ) → among k ns ≡ true → among 0 ns ≡ true → among buffer_short ns ≡ true → StoreCase k card out out' r → among r.answer ns ≡ true
  stores_among ns own none short (refused_by n p q) = rw (ap (λ (x : Written). x.answer) p) own
  stores_among ns own none short (no_room z l p q) = rw (ap (λ (x : Written). x.answer) p) short
  stores_among ns own none short (put z l p q) = rw (ap (λ (x : Written). x.answer) p) none

  pub stores_as_before : StoreCase k card out out' r → (r.answer ≡ 0 → ⊥) → out' ≡ out
  stores_as_before (refused_by n p q) a = q
  stores_as_before (no_room z l p q) a = q
  stores_as_before (put z l p q) a = absurd (a (ap (λ (x : Written). x.answer) p))

  pub stores_passed : StoreCase k card out out' r → r.answer ≡ 0 → k ≡ 0
  stores_passed (refused_by n p q) a = absurd (n (sym (ap (λ (x : Written). x.answer) p) ∙ a))
  stores_passed (no_room z l p q) a = z
  stores_passed (put z l p q) a = z

-- a board that is refused by nothing is valid
pub board_passed : (b : Board) → board_refusal b ≡ 0 → valid (model_of b) ≡ true
board_passed b = by (valid (model_of b))
  where
    by : (v : Bool) → cond v 0 invalid_board ≡ 0 → v ≡ true
    by true e = refl
    by false e = absurd (omega (arith, e))

pub board_among : (b : Board) → among (board_refusal b) buffer_numbers ≡ true
unfolding any_of
board_among b = by (valid (model_of b))
  where
    by : (v : Bool) → among (cond v 0 invalid_board) buffer_numbers ≡ true
    by true = refl
    by false = refl

-- CHECKS
module _ (b : Board) (ps : List ℕ) (v k : ℕ) (ws : List ℕ) where
  pub check_among : among (check_answer b ps v k ws) check_numbers ≡ true
  unfolding any_of
  check_among = by (valid (model_of b))
    where
      by : (g : Bool) → among (cond g (certificate_refusal (instance_of b) ps v k ws) invalid_board) check_numbers ≡ true
      by false = refl
      by true =
          or_right (eqb (certificate_refusal (instance_of b) ps v k ws) invalid_board) (among (certificate_refusal (instance_of b) ps v k ws) certificate_numbers)
          (refusal_listed (instance_of b) ps v k ws)

  pub check_valid : check_answer b ps v k ws ≡ 0 → valid (model_of b) ≡ true
  check_valid = by (valid (model_of b))
    where
      by : (g : Bool) → cond g (certificate_refusal (instance_of b) ps v k ws) invalid_board ≡ 0 → g ≡ true
      by true e = refl
      by false e = absurd (omega (arith, e))

-- LISTINGS
module _ (b : Board) (limit : ℕ) (out out' : List ℕ) (r : Listing) (x : Lists b limit out out' r) where
  abbrev answers : (valid refused : Bool) → Listing
  answers g t = cond g (cond t (Refused bad_try_limit) (listed_as (walked_on b limit out))) (Refused invalid_board)

  pub enumerate_among : among (list_answer r) enumerate_numbers ≡ true
  unfolding any_of
  enumerate_among = rw x.result (by (valid (model_of b)) (limit_refused limit))
    where
      by : (g t : Bool) → among (list_answer (answers g t)) enumerate_numbers ≡ true
      by false t = refl
      by true true = refl
      by true false = refl

  pub enumerate_before : (list_answer r ≡ 0 → ⊥) → out' ≡ out
  enumerate_before n = x.buffer ∙ by (valid (model_of b)) (limit_refused limit) (λ z. n (ap list_answer x.result ∙ z))
    where
      by : (g t : Bool) → (list_answer (answers g t) ≡ 0 → ⊥) → cond g (cond t out (in_front (joined (walked_on b limit out).trees) out)) out ≡ out
      by false t n = refl
      by true true n = refl
      by true false n = absurd (n refl)

  pub enumerate_valid : list_answer r ≡ 0 → valid (model_of b) ≡ true
  enumerate_valid z = by (valid (model_of b)) (limit_refused limit) (sym (ap list_answer x.result) ∙ z)
    where
      by : (g t : Bool) → list_answer (answers g t) ≡ 0 → g ≡ true
      by true t e = refl
      by false t e = absurd (omega (arith, e))

-- no card is refused with 14
not_fourteen : (ws : List ℕ) → open_refusal ws ≡ buffer_short → ⊥
unfolding any_of history_numbers
not_fourteen ws e = true≢false (sym (open_listed ws) ∙ ap (λ (a : ℕ). among a history_numbers) e)

-- REPORTS, by whether the buffer is too short and the card opens
module _ (ws : List ℕ) (r : Reported) (out out' : List ℕ) where
  abbrev opens : Bool
  opens = eqb (open_refusal ws) 0

  pub reports_among : (t u : Bool) → ReportsBy t u ws out out' r → among r.answer (buffer_short ∷ open_numbers ws) ≡ true
  unfolding ReportsBy any_of
  reports_among true u x = rw (ap (λ (y : Reported). y.answer) x.result)
  reports_among false false x =
      subst (λ (a : ℕ). among a (buffer_short ∷ open_numbers ws) ≡ true) (sym x.answer)
      (or_right (eqb (open_refusal ws) buffer_short) (among (open_refusal ws) (open_numbers ws)) (open_among ws))
  reports_among false true x =
      subst (λ (a : ℕ). among a (buffer_short ∷ open_numbers ws) ≡ true) (sym x.answer)
      (or_right (eqb 0 buffer_short) (among 0 (open_numbers ws)) (zero_among ws))

  pub reports_before : (t u : Bool) → ReportsBy t u ws out out' r → (r.answer ≡ 0 → ⊥) → ReportsBefore out out' r
  unfolding ReportsBy
  reports_before true u x n = record { short = λ e. x.buffer; line = λ e. absurd (e (ap (λ (y : Reported). y.answer) x.result)) }
  reports_before false false x n =
      record {
        short = λ e. absurd (not_fourteen ws (sym x.answer ∙ e));
        line = λ e. subst (λ (a : ℕ). Filled (refused_text a) out out' r.length) (sym x.answer) x.text;
      }
  reports_before false true x n = absurd (n x.answer)

  pub reports_opened : (t u : Bool) → opens ≡ u → ReportsBy t u ws out out' r → r.answer ≡ 0 → open_refusal ws ≡ 0
  unfolding ReportsBy
  reports_opened true u q x e = absurd (omega (arith, sym e ∙ ap (λ (y : Reported). y.answer) x.result))
  reports_opened false false q x e = sym x.answer ∙ e
  reports_opened false true q x e = eqb-true (open_refusal ws) 0 q

-- REPLAYS
module _ (cs : List Call) (k : Log) (v : View) (xs xs' : List ℕ) (old new : Buffers) where
  pub replays_among : (ns : List ℕ) (a : ℕ) (t : Bool) → among a ns ≡ true → among 0 ns ≡ true → ReplaysAt a t cs k xs xs' old new v → among (answer_of v) (buffer_short ∷ ns) ≡ true
  unfolding ReplaysAt any_of
  replays_among ns (suc a) t l o r =
      subst (λ (b : ℕ). among b (buffer_short ∷ ns) ≡ true) (sym (ap answer_of r.1.result)) (or_right (eqb (suc a) buffer_short) (among (suc a) ns) l)
  replays_among ns zero true l o r = subst (λ (b : ℕ). among b (buffer_short ∷ ns) ≡ true) (sym (ap answer_of r.1.result)) refl
  replays_among ns zero false l o r =
      subst (λ (a : ℕ). among a (buffer_short ∷ ns) ≡ true) (sym (shown_answer _ v old new r.1)) (or_right (eqb 0 buffer_short) (among 0 ns) o)

  pub replays_as_before : (a : ℕ) (t : Bool) → ReplaysAt a t cs k xs xs' old new v → (answer_of v ≡ 0 → ⊥) → (xs' ≡ xs) × (new ≡ old)
  unfolding ReplaysAt
  replays_as_before (suc a) t r n = (r.0, r.1.buffers)
  replays_as_before zero true r n = (r.0, r.1.buffers)
  replays_as_before zero false r n = absurd (n (shown_answer _ v old new r.1))

  pub replays_opened : (a : ℕ) (t : Bool) → ReplaysAt a t cs k xs xs' old new v → answer_of v ≡ 0 → a ≡ 0
  unfolding ReplaysAt
  replays_opened zero t r e = refl
  replays_opened (suc a) t r e = absurd (omega (arith, sym e ∙ ap answer_of r.1.result))
