-- The bits of a history card as it is written: that they are bits, and how many. Its bytes hold them, and behind them
-- fewer than eight zeros. Assumes nothing.
use mathlib.Core.Path.{◌≡◌, refl, ◌∙◌}
use mathlib.Core.Bool.{Bool, true, false, cond}
use mathlib.Core.List.{List, [], ◌∷◌, ◌++◌, append_assoc}
use Prim.Native.Nat.{ℕ, zero, suc, ◌+◌, ◌*◌, ◌-◌, ◌≤◌, ◌<◌}
use native.Mathlib.Omega.{arith}
use lib.ListN.{length, get_or, replicate, length-append, length-replicate}
use Rattle.bits.specs.Bits.{bits_of, bits_in, are_bits}
use Rattle.bits.proofs.NumberLaws.{length_bits_of, bits_of_are_bits, are_bits_append, zeros_are_bits}
use Rattle.bits.proofs.ByteLaws.{length_packed, bits_in_packed}
use Rattle.bits.proofs.FieldLaws.{field_read}
use Rattle.instance.specs.Limits.{max_vertices, free}
use Rattle.instance.specs.Cuts.{inside}
use Rattle.card_format.specs.Widths.{budget_width, mark_width}
use Rattle.card_format.specs.Card.{bits_needed, instance_bits}
use Rattle.card_format.proofs.WrittenBits.{length_instance_bits, instance_are_bits}
use Rattle.commands.specs.Model.{Replaced, old_mark, old_marks, old_budget, Model}
use Rattle.history_format.specs.RecordWidths.{marker_width, history_marker, count_width, kind_width, vertex_width, heads_width}
use Rattle.history_format.specs.RecordBits.{mark_bits, record_bits}
use Rattle.history_format.specs.HistoryCard.{is_history, records_bits, history_bits, history_bytes, history_card_of}

-- ARE BITS
-- bits behind a number's
behind : (k v : ℕ) (bs : List ℕ) → are_bits bs ≡ true → are_bits (bits_of k v ++ bs) ≡ true
behind k v bs e = are_bits_append (bits_of k v) bs (bits_of_are_bits k v) e

one_are_bits : (b : Bool) (m : ℕ) → are_bits (cond b (bits_of mark_width m) []) ≡ true
one_are_bits true m = bits_of_are_bits mark_width m
one_are_bits false m = zeros_are_bits 0

marks_are_bits : (h c : ℕ) (ms : List ℕ) → are_bits (mark_bits h c ms) ≡ true
unfolding mark_bits
marks_are_bits zero c ms = zeros_are_bits 0
marks_are_bits (suc h) c ms =
    are_bits_append (mark_bits h c ms) (cond (inside c h) (bits_of mark_width (get_or ms h free)) []) (marks_are_bits h c ms)
    (one_are_bits (inside c h) (get_or ms h free))

pub record_are_bits : (o : Replaced) → are_bits (record_bits o) ≡ true
unfolding record_bits
record_are_bits (old_mark t h m) = behind kind_width 0 _ (behind vertex_width t _ (behind vertex_width h _ (bits_of_are_bits mark_width m)))
record_are_bits (old_marks t c ms) = behind kind_width 2 _ (behind vertex_width t _ (behind heads_width c _ (marks_are_bits max_vertices c ms)))
record_are_bits (old_budget v) = behind kind_width 1 _ (bits_of_are_bits budget_width v)

pub records_are_bits : (h : List Replaced) → are_bits (records_bits h) ≡ true
unfolding records_bits
records_are_bits [] = zeros_are_bits 0
records_are_bits (o ∷ os) = are_bits_append (records_bits os) (record_bits o) (records_are_bits os) (record_are_bits o)

pub history_are_bits : (m : Model) → are_bits (history_bits m) ≡ true
unfolding history_bits
history_are_bits m =
    let behind_cells = behind count_width (length m.history) (records_bits m.history) (records_are_bits m.history) in
    behind marker_width history_marker _ (are_bits_append (instance_bits m.instance) _ (instance_are_bits m.instance) behind_cells)

-- HOW MANY
pub length_history_bits : (m : Model) → m.instance.n ≤ max_vertices → m.instance.root < m.instance.n →
    length (history_bits m) ≡ marker_width + bits_needed m.instance.n + count_width + length (records_bits m.history)
unfolding history_bits
length_history_bits m few inner =
    simp (length-append, length_bits_of, length_instance_bits m.instance few inner) (omega arith)

-- WHOLE BYTES
-- what fills the last byte
abbrev pub history_filling : Model → List ℕ
history_filling m = replicate (8 * history_bytes m - length (history_bits m)) 0

module _ (m : Model) where
  -- the bits end within the last byte
  pub bytes_room : length (history_bits m) ≤ 8 * history_bytes m
  unfolding history_bytes
  bytes_room = omega arith

  pub bytes_close : 8 * history_bytes m ≤ length (history_bits m) + 7
  unfolding history_bytes
  bytes_close = omega arith

  pub filling_short : length (history_filling m) < 8
  filling_short = omega (arith, bytes_close, length-replicate {A = ℕ} (8 * history_bytes m - length (history_bits m)) 0)

  pub length_history_card : length (history_card_of m) ≡ history_bytes m
  unfolding history_card_of
  length_history_card = length_packed (history_bytes m) (history_bits m ++ history_filling m)

  pub history_bits_in : bits_in (history_card_of m) ≡ history_bits m ++ history_filling m
  unfolding history_card_of
  history_bits_in =
      let k = 8 * history_bytes m - length (history_bits m) in
      bits_in_packed (history_bytes m) (history_bits m ++ history_filling m)
      (length-append (history_bits m) (history_filling m) ∙ omega (arith, bytes_room, length-replicate {A = ℕ} k 0))
      (are_bits_append (history_bits m) (history_filling m) (history_are_bits m) (zeros_are_bits k))

  -- part by part
  pub written_bits_in : bits_in (history_card_of m)
      ≡ bits_of marker_width history_marker
      ++ (instance_bits m.instance ++ (bits_of count_width (length m.history) ++ (records_bits m.history ++ history_filling m)))
  unfolding history_bits
  written_bits_in = history_bits_in ∙ simp append_assoc

  -- of whatever board, it is a history card
  pub history_kind_again : is_history (history_card_of m) ≡ true
  unfolding is_history
  history_kind_again = rw (written_bits_in, field_read [] _ 0 marker_width history_marker refl)
