-- The round trips of price lists (02, A3), as theorems about the two calls, for every list and all prices: "A list
-- written and read again yields the same prices where a link can be, and a list in written order is reproduced byte for
-- byte", and "Lines may come in any order". Assumes nothing.
use mathlib.Core.Path.{◌≡◌, refl, ap, ◌∙◌}
use mathlib.Core.Bool.{true}
use mathlib.Core.List.{List, ◌++◌, Permᴰ}
use Prim.Native.Nat.{ℕ, ◌*◌, ◌/◌, ◌%◌, ◌≤◌}
use native.Mathlib.Omega.{arith}
use lib.ListN.{length, take, drop}
use borrow.Author.Tests.{eq-eqb}
use Rattle.base.specs.Lists.{in_front}
use Rattle.base.proofs.FrontLaws.{front_length, front_take}
use Rattle.base.proofs.ListLaws.{length_tabulate}
use Rattle.instance.specs.Limits.{max_vertices}
use Rattle.price_format.specs.Lines.{Line}
use Rattle.price_format.specs.Reading.{weight_named, prices_of, read_list, count_refusal, room_refusal, lines_text, in_order}
use Rattle.price_format.specs.Writing.{list_text, prices_refusal, arcs_only}
use Rattle.price_format.proofs.ReadingLaws.{list_sound}
use Rattle.price_format.proofs.OrderLaws.{any_order}
use Rattle.price_format.proofs.ReadWritten.{read_written, read_text_again, read_ok_again}
use Rattle.price_format.proofs.WrittenRead.{written_accepted, written_read}
use Rattle.price_list.specs.Reads.{PricesRead}
use Rattle.price_list.specs.Writes.{ListWritten}
use Rattle.price_list.proofs.RoomLaws.{count_small, room_count, room_words, room_enough}
use Rattle.price_list.proofs.WriteLaws.{prices_room, prices_ok}
use Rattle.price_list.proofs.Learnt.{PricesAreRead, prices_read, PricesWritten, prices_written}
use Rattle.demands.proofs.PriceNumbers.{read_passed, read_whole, write_accepted, write_whole, write_length}

-- WRITTEN AND READ AGAIN: the bytes that the first call wrote, handed to the second
module _ {ps : List ℕ} {n root : ℕ} {out out' : List ℕ} {w : ListWritten} (x : PricesWritten ps n root out out' w) (a : w.answer ≡ 0) where
  fits : prices_refusal n root ps ≡ 0
  fits = write_accepted ps n root out out' w (prices_written x) a

  count_ok : count_refusal n root ≡ 0
  count_ok = room_count n root (length ps) (prices_room n root ps fits)

  bytes : take w.length out' ≡ list_text n root ps
  bytes =
      let l = write_length ps n root out out' w (prices_written x) a in
      rw ((prices_written x).buffer, eq-eqb w.answer 0 a, l) (front_take (list_text n root ps) out (length (list_text n root ps)) refl)

  pub prices_again : {buf buf' : List ℕ} {r : PricesRead} → PricesAreRead (take w.length out') n root buf buf' r → n * n ≤ length buf
      → (r ≡ record { answer = 0; line = 0 }) × (buf' ≡ in_front (arcs_only n root ps) buf)
  prices_again {buf} {buf'} {r} y h =
      let small = count_small n root count_ok in
      let ok = prices_ok n root ps fits in
      let z = read_whole (take w.length out') n root buf buf' r (prices_read y) (room_enough n root (length buf) count_ok h) in
      let e = written_accepted n root ps ok small in
      (z.0 ∙ rw (bytes, e), z.1 (rw (bytes, e)) ∙ rw (bytes) (ap (λ (l : List ℕ). in_front l buf) (written_read n root ps ok small)))

-- READ AND WRITTEN AGAIN
module _ {t : List ℕ} {n root : ℕ} {buf buf' : List ℕ} {r : PricesRead} (x : PricesAreRead t n root buf buf' r) (a : r.answer ≡ 0) where
  accepted : (read_list n root t).answer ≡ 0
  accepted = (read_passed t n root buf buf' r (prices_read x) a).1

  room_ok : room_refusal n root (length buf) ≡ 0
  room_ok = (read_passed t n root buf buf' r (prices_read x) a).0

  count_good : count_refusal n root ≡ 0
  count_good = room_count n root (length buf) room_ok

  small : n ≤ max_vertices
  small = count_small n root count_good

  abbrev lines : List Line
  lines = (read_list n root t).lines

  abbrev behind : List ℕ
  behind = drop (length (prices_of n lines)) buf

  words : buf' ≡ prices_of n lines ++ behind
  words = (read_whole t n root buf buf' r (prices_read x) room_ok).1 accepted

  same_text : in_order lines ≡ true → list_text n root buf' ≡ t
  same_text o = rw words (read_text_again n root lines behind ∙ read_written n root t small accepted o)

  -- the prices are as many words as before, and each can be written
  can_be_written : prices_refusal n root buf' ≡ 0
  unfolding prices_refusal prices_of
  can_be_written =
      let m = room_words n root (length buf) room_ok in
      let l = length_tabulate (n * n) (λ i. weight_named lines (i / n) (i % n)) in
      let f = front_length (prices_of n lines) buf (omega (arith, l)) in
      rw (words, f, eq-eqb (room_refusal n root (length buf)) 0 room_ok, read_ok_again n root lines behind (list_sound n root t))

  pub list_again : in_order (read_list n root t).lines ≡ true → {out out' : List ℕ} {w : ListWritten} → PricesWritten buf' n root out out' w → length t ≤ length out
      → (w ≡ record { answer = 0; length = length t }) × (out' ≡ in_front t out)
  list_again o {out} {out'} {w} y h =
      let z = write_whole buf' n root out out' w (prices_written y) can_be_written (rw (same_text o) h) in
      (z.0 ∙ rw (same_text o), z.1 ∙ rw (same_text o))

  -- IN ANY ORDER
  pub order_again : (ms : List Line) → Permᴰ (read_list n root t).lines ms → {old new : List ℕ} {s : PricesRead} → PricesAreRead (lines_text ms) n root old new s → n * n ≤ length old
      → (s ≡ record { answer = 0; line = 0 }) × (new ≡ in_front (prices_of n (read_list n root t).lines) old)
  order_again ms p {old} {new} {s} y h =
      let o = any_order n root t ms small accepted p in
      let z = read_whole (lines_text ms) n root old new s (prices_read y) (room_enough n root (length old) count_good h) in
      (z.0 ∙ rw o.0, z.1 (rw o.0) ∙ rw (o.0, o.1))
