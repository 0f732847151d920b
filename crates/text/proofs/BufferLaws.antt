-- How pieces of text that are put into a buffer one after the other make one piece. Assumes nothing.
use mathlib.Core.Path.{◌≡◌, refl, sym, ap, ◌∙◌}
use mathlib.Core.List.{List, [], ◌∷◌, ◌++◌, append_assoc}
use Prim.Native.Nat.{ℕ, ◌+◌, ◌≤◌, ◌<◌}
use native.Mathlib.Omega.{arith}
use native.Mathlib.Numerals.{add-one}
use native.Mathlib.Nat.{add-zero, zero-add}
use lib.ListN.{length, get_or, set, take, drop, length-append, length-take, length-drop, take-append-drop}
use borrow.Rule.Slice.PartMut.{put_mid}
use lib.Seq.{set_split, take_at, drop_at, drop-drop, length-take-le, take-suc}
use Rattle.base.specs.Lists.{in_front}
use Rattle.base.proofs.FrontLaws.{front_length}
use Rattle.text.specs.Buffer.{Room, placed, Puts, Filled}

-- A TEXT IN A BUFFER
module _ (s t old : List ℕ) where
  -- a text in front is its first part, and the rest in front of what follows
  front_append : in_front (s ++ t) old ≡ s ++ in_front t (drop (length s) old)
  front_append =
      append_assoc s t (drop (length (s ++ t)) old)
      ∙ ap (λ (l : List ℕ). s ++ (t ++ l)) (ap (λ (k : ℕ). drop k old) (length-append s t) ∙ sym (drop-drop (length t) (length s) old))

module _ (t old : List ℕ) (at : ℕ) (room : at + length t ≤ length old) where
  placed_length : length (placed t old at) ≡ length old
  unfolding placed
  placed_length =
      let first = length-take-le at old (omega arith) in
      let rest = length-drop at old in
      let front = front_length t (drop at old) (omega arith) in
      length-append (take at old) (in_front t (drop at old)) ∙ omega arith

  -- the place after the text
  length_first : length (take at old ++ t) ≡ at + length t
  length_first = length-append (take at old) t ∙ ap (λ (k : ℕ). k + length t) (length-take-le at old (omega arith))

-- a text after a text
placed_append : (s t old : List ℕ) (at : ℕ) → at + length s ≤ length old → placed t (placed s old at) (at + length s) ≡ placed (s ++ t) old at
unfolding placed
placed_append s t old at room =
    let p = take at old ++ s in
    let rest = drop (length s) (drop at old) in
    let long = length_first s old at room in
    rw (sym (append_assoc (take at old) s rest), take_at p rest (at + length s) long, drop_at p rest (at + length s) long)
    (append_assoc (take at old) s (in_front t rest) ∙ ap (λ (l : List ℕ). take at old ++ l) (sym (front_append s t (drop at old))))

-- one byte
placed_byte : (old : List ℕ) (at b : ℕ) → at < length old → set old at b ≡ placed (b ∷ []) old at
unfolding placed
placed_byte old at b h =
    set_split old at b h ∙ ap (λ (k : ℕ). take at old ++ b ∷ drop k old) (sym (add-one at)) ∙ ap (λ (l : List ℕ). take at old ++ b ∷ l) (sym (drop-drop 1 at old))

-- ROOM
pub room_first : {old s : List ℕ} {at : ℕ} (t : List ℕ) → Room (s ++ t) old at → Room s old at
room_first {old} {s} {at} t h = let e = length-append s t in record { long_enough = omega arith }

pub room_whole : (text old : List ℕ) → length text ≤ length old → Room text old 0
room_whole text old h = record { long_enough = omega arith }

-- A PART OF THE BUFFER OVERWRITTEN
pub puts_part : (text old : List ℕ) (at k : ℕ) → k ≡ length text → Puts text old (put_mid at k old text) at (at + length text)
unfolding placed
puts_part text old at k e = rw e (record { buffer = refl; place = refl })

-- NOTHING, ONE BYTE, A TEXT MORE, ONE BYTE MORE
pub puts_none : (old : List ℕ) (at : ℕ) → Puts [] old old at at
unfolding placed
puts_none old at = record { buffer = sym (take-append-drop at old); place = sym (add-zero at) }

pub puts_one : (old : List ℕ) (at b : ℕ) → at < length old → Puts (b ∷ []) old (set old at b) at (at + 1)
puts_one old at b h = record { buffer = placed_byte old at b h; place = refl }

module _ {old mid s : List ℕ} {at m : ℕ} (a : Puts s old mid at m) where
  -- there is room for what follows
  pub puts_room : (t : List ℕ) → Room (s ++ t) old at → Room t mid m
  puts_room t room =
      let e = length-append s t in
      let n = ap length a.buffer ∙ placed_length s old at (room_first {s = s} t room).long_enough in
      record { long_enough = omega (arith, a.place) }

  pub puts_then : {new t : List ℕ} {r : ℕ} → Room (s ++ t) old at → Puts t mid new m r → Puts (s ++ t) old new at r
  puts_then {new} {t} {r} room b =
      let e = length-append s t in
      record {
        buffer =
            b.buffer ∙ ap (λ (l : List ℕ). placed t l m) a.buffer ∙ ap (placed t (placed s old at)) a.place
            ∙ placed_append s t old at (room_first {s = s} t room).long_enough;
        place = omega (arith, a.place, b.place);
      }

  -- one byte more: it is in the buffer
  pub byte_room : (b : ℕ) → Room (s ++ (b ∷ [])) old at → m < length mid
  byte_room b room = let h = puts_room (b ∷ []) room in omega arith

  pub puts_byte : (b : ℕ) → Room (s ++ (b ∷ [])) old at → Puts (s ++ (b ∷ [])) old (set mid m b) at (m + 1)
  puts_byte b room = puts_then room (puts_one mid m b (byte_room b room))

-- A LIST THAT IS COPIED: the place after i bytes of it, and one byte more
module _ {old mid : List ℕ} {at m : ℕ} (l : List ℕ) (i : ℕ) (a : Puts (take i l) old mid at m) where
  pub copied_place : i ≤ length l → m ≡ at + i
  copied_place h = a.place ∙ ap (λ (k : ℕ). at + k) (length-take-le i l h)

  pub copied_next : i < length l → Room l old at → Puts (take (i + 1) l) old (set mid m (get_or l i 0)) at (m + 1)
  copied_next h room =
      let r : at + length (take i l ++ (get_or l i 0 ∷ [])) ≤ length old = rw (length-append, length-take) (omega arith) in
      rw (add-one i, take-suc l i 0 h) (puts_byte a (get_or l i 0) (record { long_enough = r }))

-- FROM THE BEGINNING ON
pub puts_filled : {text old new : List ℕ} {r : ℕ} → Puts text old new 0 r → Filled text old new r
unfolding placed
puts_filled {text} w = record { buffer = w.buffer; place = w.place ∙ zero-add (length text) }
