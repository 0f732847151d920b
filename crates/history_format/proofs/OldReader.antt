-- "An old console refuses every new card by 2": the six bits 63 stand where a plain card has n. The other
-- way round, what does not begin with them is no history card, and is refused by 2 as one. Under five bytes both kinds
-- are refused by 1. Assumes nothing.
use mathlib.Core.Path.{◌≡◌, refl}
use mathlib.Core.Bool.{Bool, true, false, cond}
use mathlib.Core.List.{List}
use Prim.Native.Nat.{ℕ, ◌≤◌, ◌<◌}
use lib.ListN.{length}
use borrow.Author.Tests.{eqb-true, lt-ltb, le-ltb}
use Rattle.bits.specs.Bits.{bits_in}
use Rattle.instance.specs.Refusals.{card_short, bad_count}
use Rattle.card_format.specs.Card.{n_in, min_card, header_refusal, card_refusal}
use Rattle.history_format.specs.RecordWidths.{history_marker}
use Rattle.history_format.specs.HistoryCard.{is_history, history_header_refusal, history_refusal, open_refusal}
use Rattle.history_format.proofs.HeaderSteps.{history_opens}

pub marker_read : (ws : List ℕ) → is_history ws ≡ true → n_in (bits_in ws) ≡ history_marker
unfolding is_history
marker_read ws e = eqb-true (n_in (bits_in ws)) history_marker e

pub old_reader : (ws : List ℕ) → is_history ws ≡ true → min_card ≤ length ws → card_refusal ws ≡ bad_count
unfolding card_refusal header_refusal
old_reader ws e h = rw (le-ltb (length ws) min_card h, marker_read ws e)

-- every history card that opens
pub old_reader_refuses : (ws : List ℕ) → history_refusal ws ≡ 0 → card_refusal ws ≡ bad_count
old_reader_refuses ws e = let o = history_opens ws e in old_reader ws o.header.kind o.header.long

-- a move that is handed a plain card
pub not_history : (ws : List ℕ) → is_history ws ≡ false → min_card ≤ length ws → history_refusal ws ≡ bad_count
unfolding history_refusal history_header_refusal
not_history ws e h = rw (le-ltb (length ws) min_card h, e)

-- UNDER FIVE BYTES
pub short_card : (ws : List ℕ) → length ws < min_card → card_refusal ws ≡ card_short
unfolding card_refusal header_refusal
short_card ws h = rw (lt-ltb (length ws) min_card h)

pub short_history : (ws : List ℕ) → length ws < min_card → history_refusal ws ≡ card_short
unfolding history_refusal history_header_refusal
short_history ws h = rw (lt-ltb (length ws) min_card h)

pub short_input : (ws : List ℕ) → length ws < min_card → open_refusal ws ≡ card_short
unfolding open_refusal
short_input ws h = rw (short_card ws h, short_history ws h) (same (is_history ws))
  where
    same : (b : Bool) → ◌≡◌ {A = ℕ} (cond b card_short card_short) card_short
    same true = refl
    same false = refl
