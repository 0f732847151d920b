-- Bits put by a writer: within one call, one call after another, and whole bytes from the start, the last of them
-- filled with zeros. Assumes nothing.
use mathlib.Core.Path.{◌≡◌, refl, ap, ◌∙◌, sym}
use mathlib.Core.Bool.{true}
use mathlib.Core.List.{List, [], ◌∷◌, ◌++◌, append_assoc, append-nil}
use Prim.Native.Nat.{ℕ, ◌+◌, ◌*◌, ◌-◌, ◌/◌, ◌%◌, ◌^◌, ◌≤◌, ◌<◌}
use native.Mathlib.Omega.{arith}
use native.Mathlib.Numerals.{add-one}
use lib.Dec.{ltb}
use lib.ListN.{length, set, take, drop, replicate, length-set, length-append, length-replicate, take-append-drop}
use lib.Seq.{take-suc-set, drop-set-lt, length-take-le}
use Rattle.bits.specs.Bits.{bits_of, bits_in, packed, are_bytes}
use Rattle.bits.specs.Writer.{bits_put, new_writer, filling, Ready, Put}
use Rattle.bits.specs.declared.BitWriter.{BitWriter}
use Rattle.base.specs.Lists.{in_front}
use Rattle.base.proofs.AllOfLaws.{all_of_take}
use Rattle.base.proofs.FrontLaws.{front_is}
use Rattle.base.proofs.PartLaws.{drop_later}
use Rattle.bits.proofs.NumberLaws.{length_bits_of, bits_of_none, bits_of_split, bits_of_cut, bits_of_join}
use Rattle.bits.proofs.ByteLaws.{bits_in_append, bits_in_one, packed_bits_in, length_packed}

-- WITHIN ONE CALL
-- The bits that wait and the new ones are one number, `bits`, of which `left` are not stored yet. The loop stores the
-- upper eight.
pub record Storing (before : List ℕ) (first some bits : ℕ) (out : List ℕ) (at left : ℕ) : Type 0 where
  pub stored : bits_in (take at out) ++ bits_of left bits ≡ bits_in (take first before) ++ bits_of some bits
  pub unchanged : drop at out ≡ drop at before
  pub long : length out ≡ length before
  pub fewer : left ≤ some
  pub moved : 8 * at + left ≡ 8 * first + some

byte_then : (k v : ℕ) → 8 ≤ k → bits_of 8 (v / 2 ^ (k - 8) % 256) ++ bits_of (k - 8) v ≡ bits_of k v
byte_then k v h =
    let e : 8 + (k - 8) ≡ k = omega arith in
    rw (bits_of_cut 0 8 (v / 2 ^ (k - 8))) (sym (bits_of_split 8 (k - 8) v) ∙ rw e)

pub store_byte : {before : List ℕ} {first some bits : ℕ} (out : List ℕ) (at left : ℕ) → Storing before first some bits out at left →
    at < length out → 8 ≤ left → Storing before first some bits (set out at (bits / 2 ^ (left - 8) % 256)) (at + 1) (left - 8)
store_byte {before} {first} {some} {bits} out at left s h l =
    let b = bits / 2 ^ (left - 8) % 256 in
    record {
      stored =
          rw (add-one, take-suc-set out at b h, bits_in_append (take at out) (b ∷ []), bits_in_one b, append_assoc, byte_then left bits l) s.stored;
      unchanged = drop-set-lt (at + 1) out at b (omega arith) ∙ drop_later at (at + 1) out before (omega arith) s.unchanged;
      long = length-set out at b ∙ s.long;
      fewer = omega (arith, s.fewer);
      moved = omega (arith, s.moved);
    }

-- what the loop leaves is what one call puts
pub all_stored : (before : List ℕ) (w : BitWriter) (k v : ℕ) (out : List ℕ) (at left : ℕ) →
    Storing before w.at (w.count + k) (w.partial * 2 ^ k + v % 2 ^ k) out at left → left < 8 →
    Put (bits_of k v) w before out (record { at = at; partial = (w.partial * 2 ^ k + v % 2 ^ k) % 256; count = left })
unfolding bits_put
all_stored before w k v out at left s h =
    let b = w.partial * 2 ^ k + v % 2 ^ k in
    let e : 8 - left + left ≡ 8 = omega arith in
    let c : bits_of left (b % 256) ≡ bits_of left b = rw e at (bits_of_cut (8 - left) left b) in
    record {
      all_put = rw c (s.stored ∙ rw (bits_of_join w.count k w.partial v) (sym (append_assoc (bits_in (take w.at before)) (bits_of w.count w.partial) (bits_of k v))));
      unchanged = s.unchanged;
      long = s.long;
      few = h;
      moved = rw (length_bits_of k v) (omega (arith, s.moved));
    }

-- ONE CALL AFTER ANOTHER
pub put_none : (out : List ℕ) (w : BitWriter) → w.count < 8 → Put [] w out out w
put_none out w h = record { all_put = sym (append-nil (bits_put out w)); unchanged = refl; long = refl; few = h; moved = omega arith }

pub put_then : (xs ys zs : List ℕ) (p q r : BitWriter) (cs bs : List ℕ) → Put cs p xs ys q → Put bs q ys zs r → Put (cs ++ bs) p xs zs r
put_then xs ys zs p q r cs bs u v = record {
  all_put = v.all_put ∙ rw (u.all_put, append_assoc);
  unchanged = v.unchanged ∙ drop_later q.at r.at ys xs (omega (arith, v.moved, v.few, u.few)) u.unchanged;
  long = v.long ∙ u.long;
  few = v.few;
  moved = rw (length-append cs bs) (omega (arith, u.moved, v.moved));
}

-- room for what comes next
pub ready_next : (xs ys : List ℕ) (p q : BitWriter) (bs : List ℕ) (k m : ℕ) → Put bs p xs ys q → length bs ≡ k → Ready (k + m) p xs → Ready m q ys
ready_next xs ys p q bs k m u e r = record { few = u.few; room = omega (arith, u.moved, u.long, r.room) }

-- room for fewer bits
pub ready_fewer : (out : List ℕ) (w : BitWriter) (k m : ℕ) → m ≤ k → Ready k w out → Ready m w out
ready_fewer out w k m h r = record { few = r.few; room = omega (arith, r.room) }

-- room for a part of bits that all have room
pub ready_part : (xs ys : List ℕ) (p q : BitWriter) (bs cs ds all : List ℕ) → Put bs p xs ys q → bs ++ (cs ++ ds) ≡ all → Ready (length all) p xs → Ready (length cs) q ys
ready_part xs ys p q bs cs ds all u e r =
    let l : length bs + (length cs + length ds) ≡ length all = simp length-append at (ap length e) in
    record { few = u.few; room = omega (arith, u.moved, u.long, r.room) }

-- WHOLE BYTES
none_put : (xs : List ℕ) → bits_put xs new_writer ≡ []
unfolding bits_put bits_of bits_in
none_put xs = refl

-- whole bytes were put from the start: they replace the front of the buffer
pub bytes_put : (xs ys : List ℕ) (r : BitWriter) (bs : List ℕ) (k : ℕ) → Put bs new_writer xs ys r → length bs ≡ 8 * k → k ≤ length xs → are_bytes ys ≡ true →
    (r.at ≡ k) × (ys ≡ in_front (packed k bs) xs)
unfolding bits_put
bytes_put xs ys r bs k u n l b =
    let h : r.count ≡ 0 = omega (arith, u.moved, u.few) in
    let a : r.at ≡ k = omega (arith, u.moved, u.few) in
    let e : bits_in (take k ys) ≡ bs = rw (none_put xs, h, a, bits_of_none, append-nil) at u.all_put in
    let t : length (take k ys) ≡ k = length-take-le k ys (omega (arith, u.long)) in
    let w : packed k bs ≡ take k ys = rw (t, e) at (packed_bits_in (take k ys) (all_of_take (λ x. ltb x 256) k ys b)) in
    let d : take k ys ++ drop k ys ≡ packed k bs ++ drop k xs = rw (w, ← rw a at u.unchanged) in
    (a, sym (take-append-drop k ys) ∙ d ∙ front_is (packed k bs) xs k (length_packed k bs))

-- WHAT FILLS THE LAST BYTE: bits put from the start, and then zeros, are whole bytes
module _ (out zs : List ℕ) (p : BitWriter) (bs : List ℕ) (k : ℕ) (u : Put bs new_writer out zs p) (whole : k ≡ (length bs + 7) / 8) (room : k ≤ length out) where
  filled : 8 * p.at + p.count + filling p.count ≡ 8 * k
  filled = omega (arith, u.moved, u.few)

  pub filling_room : Ready (filling p.count) p zs
  filling_room = record { few = u.few; room = omega (arith, filled, u.long) }

  pub filled_bytes : (xs : List ℕ) (o : BitWriter) → Put (replicate (filling p.count) 0) p zs xs o → are_bytes xs ≡ true →
      xs ≡ in_front (packed k (bs ++ replicate (8 * k - length bs) 0)) out
  filled_bytes xs o x e =
      let f : filling p.count ≡ 8 * k - length bs = omega (arith, filled, u.moved) in
      let l : length (bs ++ replicate (filling p.count) 0) ≡ 8 * k =
      length-append bs (replicate (filling p.count) 0) ∙ omega (arith, filled, u.moved, length-replicate {A = ℕ} (filling p.count) 0) in
      let g = put_then out zs xs new_writer p o bs (replicate (filling p.count) 0) u x in
      (bytes_put out xs o (bs ++ replicate (filling p.count) 0) k g l room e).1 ∙ rw f
