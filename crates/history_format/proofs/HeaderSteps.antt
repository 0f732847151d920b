-- What the header of a history card that passes tells, its refusals before those of the rest, and what is known of a
-- history card that opens. Assumes nothing.
use mathlib.Core.Path.{◌≡◌, refl, ◌∙◌, sym}
use mathlib.Core.Bool.{Bool, true, false, ◌||◌, not, cond}
use mathlib.Core.List.{List}
use Prim.Native.Nat.{ℕ, ◌≤◌, ◌<◌}
use native.Mathlib.Omega.{arith}
use lib.Dec.{ltb, leb, eqb}
use lib.ListN.{length, drop}
use borrow.Author.Tests.{ltb-false, leb-false, eqb-false, not-false}
use Rattle.base.proofs.BoolLaws.{or_false_left, or_false_right, passed}
use Rattle.instance.specs.Limits.{max_vertices, max_budget, max_records, cells}
use Rattle.instance.specs.Refusals.{card_short, bad_count, bad_length, bad_root, bad_card_budget}
use Rattle.instance.specs.Instance.{Instance}
use Rattle.card_format.specs.Card.{n_in, root_in, budget_in, bits_needed, min_card, instance_of_bits, cells_refusal}
use Rattle.card_format.specs.Offsets.{offset}
use Rattle.card_format.proofs.OffsetLaws.{offset_end}
use Rattle.card_format.proofs.CellLaws.{first_passes}
use Rattle.history_format.specs.RecordWidths.{count_width}
use Rattle.history_format.specs.HistoryCard.{is_history, behind_marker, behind_cells, count_in, records_refusal, behind_refusal, history_header_refusal, history_refusal}

-- A HEADER THAT PASSES
pub record HistoryHeaderKnown (ws : List ℕ) : Type 0 where
  pub long : min_card ≤ length ws
  pub kind : is_history ws ≡ true
  pub n_low : 1 ≤ n_in (behind_marker ws)
  pub n_high : n_in (behind_marker ws) ≤ max_vertices
  pub fits : bits_needed (n_in (behind_marker ws)) ≤ length (behind_marker ws)
  pub root_low : root_in (behind_marker ws) < n_in (behind_marker ws)
  pub budget_low : budget_in (behind_marker ws) ≤ max_budget
  pub end : offset (n_in (behind_marker ws)) (root_in (behind_marker ws)) cells ≡ bits_needed (n_in (behind_marker ws))

pub history_header_known : (ws : List ℕ) → history_header_refusal ws 0 ≡ 0 → HistoryHeaderKnown ws
unfolding history_header_refusal
history_header_known ws e =
    let bs = behind_marker ws in
    let n = n_in bs in
    let a = passed (ltb (length ws) min_card) 0 _ e in
    let k = passed (not (is_history ws)) 1 _ a.1 in
    let b = passed (eqb n 0 || ltb max_vertices n) 1 _ k.1 in
    let c = passed (ltb (length bs) (bits_needed n)) 2 _ b.1 in
    let d = passed (leb n (root_in bs)) 3 _ c.1 in
    let f = passed (ltb max_budget (budget_in bs)) 4 _ d.1 in
    let low = eqb-false n 0 (or_false_left (eqb n 0) (ltb max_vertices n) b.0) in
    let high : n ≤ max_vertices = ltb-false max_vertices n (or_false_right (eqb n 0) (ltb max_vertices n) b.0) in
    let inside : root_in bs < n = leb-false n (root_in bs) d.0 in
    record {
      long = ltb-false (length ws) min_card a.0;
      kind = not-false (is_history ws) k.0;
      n_low = omega arith;
      n_high = high;
      fits = ltb-false (length bs) (bits_needed n) c.0;
      root_low = inside;
      budget_low = ltb-false max_budget (budget_in bs) f.0;
      end = offset_end n (root_in bs) high inside;
    }

-- THE HEADER BEFORE THE REST
steps : (a k b c d e : Bool) (x : ℕ) →
    let by : ℕ → ℕ = λ y. cond a card_short (cond k bad_count (cond b bad_count (cond c bad_length (cond d bad_root (cond e bad_card_budget y))))) in
    by x ≡ cond (eqb (by 0) 0) x (by 0)
steps true k b c d e x = refl
steps false true b c d e x = refl
steps false false true c d e x = refl
steps false false false true d e x = refl
steps false false false false true e x = refl
steps false false false false false true x = refl
steps false false false false false false x = refl

pub history_header_first : (ws : List ℕ) (rest : ℕ) →
    history_header_refusal ws rest ≡ cond (eqb (history_header_refusal ws 0) 0) rest (history_header_refusal ws 0)
unfolding history_header_refusal
history_header_first ws rest =
    let bs = behind_marker ws in
    let n = n_in bs in
    steps (ltb (length ws) min_card) (not (is_history ws)) (eqb n 0 || ltb max_vertices n) (ltb (length bs) (bits_needed n)) (leb n (root_in bs))
    (ltb max_budget (budget_in bs)) rest

-- the refusals of the cells, of the count and of the records, once the header passes; the bits are those behind the
-- cells
abbrev pub rest_of : Instance → (bits : List ℕ) → ℕ
rest_of s bs = let c = cells_refusal s.weights s.marks in cond (eqb c 0) (behind_refusal s bs) c

abbrev pub history_rest : (card : List ℕ) → ℕ
history_rest ws = rest_of (instance_of_bits (behind_marker ws)) (behind_cells ws)

pub history_by_steps : (ws : List ℕ) →
    history_refusal ws ≡ cond (eqb (history_header_refusal ws 0) 0) (history_rest ws) (history_header_refusal ws 0)
unfolding history_refusal
history_by_steps ws = history_header_first ws (history_rest ws)

-- A HISTORY CARD THAT OPENS
pub record HistoryOpens (ws : List ℕ) : Type 0 where
  pub header : HistoryHeaderKnown ws
  pub cells_pass : cells_refusal (instance_of_bits (behind_marker ws)).weights (instance_of_bits (behind_marker ws)).marks ≡ 0
  pub counted : count_width ≤ length (behind_cells ws)
  pub few : count_in (behind_cells ws) ≤ max_records
  pub records_pass : records_refusal (count_in (behind_cells ws)) (instance_of_bits (behind_marker ws)) (drop count_width (behind_cells ws)) ≡ 0

pub history_opens : (ws : List ℕ) → history_refusal ws ≡ 0 → HistoryOpens ws
unfolding behind_refusal
history_opens ws e =
    let s = instance_of_bits (behind_marker ws) in
    let bs = behind_cells ws in
    let a = first_passes (history_header_refusal ws 0) (history_rest ws) (sym (history_by_steps ws) ∙ e) in
    let b = first_passes (cells_refusal s.weights s.marks) (behind_refusal s bs) a.1 in
    let c = passed (ltb (length bs) count_width) 2 _ b.1 in
    let d = passed (ltb max_records (count_in bs)) 26 _ c.1 in
    record {
      header = history_header_known ws a.0;
      cells_pass = b.0;
      counted = ltb-false (length bs) count_width c.0;
      few = ltb-false max_records (count_in bs) d.0;
      records_pass = d.1;
    }
