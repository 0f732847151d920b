-- A history card is refused by 1 to 5, 7, 8 or 27 and by no other number, so 6 is retired there too; opening a card of
-- either kind answers one of these, and a move to a plain card 28 besides. Nothing is asked of the card: its numbers
-- need not be bytes. Assumes nothing.
use mathlib.Core.Path.{◌≡◌, refl, sym}
use mathlib.Core.Bool.{Bool, true, false, ◌||◌, not, cond, true≢false}
use mathlib.Core.List.{List, [], ◌∷◌}
use mathlib.Core.Logic.{⊎_elim}
use Prim.Native.Nat.{ℕ, zero, suc, ◌≤◌}
use native.Mathlib.Omega.{arith}
use lib.Dec.{ltb, leb, eqb}
use lib.ListN.{length, drop}
use borrow.Author.Tests.{leb-true, eqb-true}
use Rattle.base.specs.Lists.{any_of, all_of}
use Rattle.base.specs.Bounded.{all_below}
use Rattle.base.proofs.BoolLaws.{or_cases, or_right}
use Rattle.base.proofs.BoundedLaws.{all_at}
use Rattle.base.proofs.AllOfLaws.{all_of_first, all_of_rest}
use Rattle.bits.specs.Bits.{are_bits}
use Rattle.instance.specs.Limits.{max_vertices, max_budget, max_records}
use Rattle.instance.specs.Refusals.{card_short, bad_count, bad_length, bad_root, bad_card_budget, bad_weight, bad_mark, bad_filling, bad_record, has_records}
use Rattle.instance.specs.Instance.{Instance}
use Rattle.card_format.specs.Card.{n_in, root_in, budget_in, bits_needed, min_card, instance_of_bits, cells_refusal, card_refusal}
use Rattle.card_format.proofs.CellLaws.{cells_refusal_most}
use Rattle.card_format.proofs.OpensLaws.{card_refusal_most}
use Rattle.card_format.proofs.SixRetired.{cells_not_six, six_retired}
use Rattle.commands.specs.Valid.{record_ok}
use Rattle.history_format.specs.RecordWidths.{count_width}
use Rattle.history_format.specs.RecordBits.{kind_in, record_length, replaced_in, form_refusal, record_refusal}
use Rattle.history_format.specs.HistoryCard.{is_history, behind_marker, behind_cells, count_in, history_model, end_refusal, records_refusal, behind_refusal, history_header_refusal, history_refusal, open_refusal, to_plain_refusal}
use Rattle.history_format.proofs.InnerCard.{behind_marker_bits}

unfoldable pub history_numbers : List ℕ
history_numbers = 0 ∷ card_short ∷ bad_count ∷ bad_length ∷ bad_root ∷ bad_card_budget ∷ bad_mark ∷ bad_filling ∷ bad_record ∷ []

-- of a move to a plain card
unfoldable pub to_plain_numbers : List ℕ
to_plain_numbers = has_records ∷ history_numbers

abbrev listed : (answer : ℕ) → Bool
listed k = any_of (eqb k) history_numbers

-- a choice of two numbers, both of them listed
either_listed : (b : Bool) (x y : ℕ) → listed x ≡ true → listed y ≡ true → listed (cond b x y) ≡ true
either_listed true x y p q = p
either_listed false x y p q = q

-- PLAIN CARDS AND CELLS
-- every number up to 8 but 6 (card_format: SixRetired)
plain_listed : (a : ℕ) → a ≤ bad_filling → (a ≡ bad_weight → ⊥) → listed a ≡ true
unfolding all_below history_numbers any_of
plain_listed a l n =
    ⊎_elim (λ (q : eqb a bad_weight ≡ true). absurd (n (eqb-true a bad_weight q))) (λ (q : listed a ≡ true). q)
    (or_cases (eqb a bad_weight) (listed a) (all_at (suc bad_filling) (λ k. eqb k bad_weight || listed k) a (omega arith) refl))

card_listed : (ws : List ℕ) → listed (card_refusal ws) ≡ true
card_listed ws = plain_listed (card_refusal ws) (card_refusal_most ws) (six_retired ws)

cells_listed : (bs : List ℕ) → are_bits bs ≡ true → listed (cells_refusal (instance_of_bits bs).weights (instance_of_bits bs).marks) ≡ true
cells_listed bs b =
    let s = instance_of_bits bs in
    plain_listed (cells_refusal s.weights s.marks) (omega (arith, cells_refusal_most s.weights s.marks)) (cells_not_six bs b)

-- RECORDS
form_listed : (bs : List ℕ) → listed (form_refusal bs) ≡ true
unfolding form_refusal history_numbers any_of
form_listed bs =
    either_listed (ltb (length bs) (record_length bs)) bad_length _ refl
    (either_listed (eqb (kind_in bs) 3) bad_record 0 refl refl)

one_listed : (s : Instance) (bs : List ℕ) → listed (record_refusal s bs) ≡ true
unfolding record_refusal history_numbers any_of
one_listed s bs =
    either_listed (eqb (form_refusal bs) 0) _ (form_refusal bs)
    (either_listed (record_ok s (replaced_in bs)) 0 bad_record refl refl) (form_listed bs)

records_listed : (k : ℕ) (s : Instance) (bs : List ℕ) → listed (records_refusal k s bs) ≡ true
unfolding records_refusal end_refusal history_numbers any_of
records_listed zero s bs =
    either_listed (leb 8 (length bs)) bad_length _ refl
    (either_listed (all_of (λ b. eqb b 0) bs) 0 bad_filling refl refl)
records_listed (suc k) s bs =
    either_listed (eqb (record_refusal s bs) 0) _ (record_refusal s bs) (records_listed k s (drop (record_length bs) bs)) (one_listed s bs)

behind_listed : (s : Instance) (bs : List ℕ) → listed (behind_refusal s bs) ≡ true
unfolding behind_refusal history_numbers any_of
behind_listed s bs =
    either_listed (ltb (length bs) count_width) bad_length _ refl
    (either_listed (ltb max_records (count_in bs)) bad_record _ refl (records_listed (count_in bs) s (drop count_width bs)))

-- CARDS
pub history_listed : (ws : List ℕ) → any_of (eqb (history_refusal ws)) history_numbers ≡ true
unfolding history_refusal history_header_refusal history_numbers any_of
history_listed ws =
    let bs = behind_marker ws in
    let n = n_in bs in
    let s = instance_of_bits bs in
    let c = cells_refusal s.weights s.marks in
    either_listed (ltb (length ws) min_card) card_short _ refl
    (either_listed (not (is_history ws)) bad_count _ refl
    (either_listed (eqb n 0 || ltb max_vertices n) bad_count _ refl
    (either_listed (ltb (length bs) (bits_needed n)) bad_length _ refl
    (either_listed (leb n (root_in bs)) bad_root _ refl
    (either_listed (ltb max_budget (budget_in bs)) bad_card_budget _ refl
    (either_listed (eqb c 0) _ c (behind_listed s (behind_cells ws)) (cells_listed bs (behind_marker_bits ws))))))))

pub open_listed : (ws : List ℕ) → any_of (eqb (open_refusal ws)) history_numbers ≡ true
unfolding open_refusal
open_listed ws = either_listed (is_history ws) (history_refusal ws) (card_refusal ws) (history_listed ws) (card_listed ws)

plain_either : (b : Bool) (x y : ℕ) → any_of (eqb x) to_plain_numbers ≡ true → any_of (eqb y) to_plain_numbers ≡ true →
    any_of (eqb (cond b x y)) to_plain_numbers ≡ true
plain_either true x y p q = p
plain_either false x y p q = q

listed_plain : (k : ℕ) → listed k ≡ true → any_of (eqb k) to_plain_numbers ≡ true
unfolding to_plain_numbers any_of
listed_plain k e = or_right (eqb k has_records) (listed k) e

pub to_plain_listed : (ws : List ℕ) → any_of (eqb (to_plain_refusal ws)) to_plain_numbers ≡ true
unfolding to_plain_refusal to_plain_numbers history_numbers any_of
to_plain_listed ws =
    plain_either (eqb (history_refusal ws) 0) _ (history_refusal ws)
    (plain_either (eqb (length (history_model ws).history) 0) 0 has_records refl refl)
    (listed_plain (history_refusal ws) (history_listed ws))

-- HOW LARGE
any_most : (k most : ℕ) (xs : List ℕ) → all_of (λ x. leb x most) xs ≡ true → any_of (eqb k) xs ≡ true → k ≤ most
unfolding any_of
any_most k most [] a e = absurd (true≢false (sym e))
any_most k most (x ∷ xs) a e =
    ⊎_elim (λ (q : eqb k x ≡ true). let l = leb-true x most (all_of_first (λ y. leb y most) x xs a) in let z = eqb-true k x q in omega arith)
    (λ (q : any_of (eqb k) xs ≡ true). any_most k most xs (all_of_rest (λ y. leb y most) x xs a) q) (or_cases (eqb k x) (any_of (eqb k) xs) e)

numbers_most : all_of (λ x. leb x has_records) history_numbers ≡ true
unfolding history_numbers all_of
numbers_most = refl

pub open_refusal_most : (ws : List ℕ) → open_refusal ws ≤ has_records
open_refusal_most ws = any_most (open_refusal ws) has_records history_numbers numbers_most (open_listed ws)
