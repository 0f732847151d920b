-- The marks of a record of several arcs: how many bits they take head by head, what is put next of them, and the room
-- for it. Assumes nothing.
--
-- Marks are put one behind the other: what is put of the heads below h and then of h is that of the heads below h + 1,
-- and these are not more than all.
use mathlib.Core.Path.{◌≡◌, refl, ap}
use mathlib.Core.Bool.{Bool, true, false, cond}
use mathlib.Core.List.{List, [], ◌++◌}
use mathlib.Core.Logic.{⊎_elim}
use Prim.Native.Nat.{ℕ, zero, suc, ◌+◌, ◌*◌, ◌/◌, ◌%◌, ◌^◌, ◌≤◌, ◌<◌}
use native.Mathlib.Omega.{arith}
use native.Mathlib.Nat.{eq-or-lt_of_le}
use native.Mathlib.Numerals.{add-one}
use lib.ListN.{length}
use Rattle.base.specs.Digits.{digit}
use Rattle.bits.specs.Bits.{bits_of}
use Rattle.bits.specs.Writer.{Ready, Put}
use Rattle.bits.specs.declared.BitWriter.{BitWriter}
use Rattle.instance.specs.Limits.{max_vertices, free}
use Rattle.instance.specs.Cuts.{inside}
use Rattle.card_format.specs.Widths.{mark_width}
use Rattle.heads.specs.RecordMarks.{record_marks}
use Rattle.heads.proofs.LoopLaws.{four_pow}
use Rattle.heads.proofs.RecordMarksLaws.{record_marks_at}
use Rattle.history_format.specs.RecordBits.{mark_offset, mark_bits}
use Rattle.history_format.proofs.MemberMarks.{offset_more, length_one, length_mark_bits}
use Rattle.history_card.specs.Marks.{one_mark}

-- HOW MANY BITS
-- one head more takes two, or none if it is not in the set
pub offset_in : (c h : ℕ) → inside c h ≡ true → mark_offset c h + mark_width ≡ mark_offset c (h + 1)
offset_in c h e = rw (add-one h, offset_more c h, e)

pub offset_out : (c h : ℕ) → inside c h ≡ false → mark_offset c h ≡ mark_offset c (h + 1)
offset_out c h e = rw (add-one h, offset_more c h, e) (omega arith)

pub offset_rises : (c h k : ℕ) → h ≤ k → mark_offset c h ≤ mark_offset c k
offset_rises c h zero l = let e : h ≡ 0 = omega arith in rw e (omega arith)
offset_rises c h (suc k) l =
    ⊎_elim (λ (e : h ≡ suc k). rw e (omega arith)) (λ (q : h < suc k). omega (arith, offset_more c k, offset_rises c h k (omega arith)))
    (eq-or-lt_of_le {n = h} {m = suc k} l)

-- WHAT IS PUT
-- the program shifts by two bits a head
pub shifted_digit : (v h : ℕ) → v / 2 ^ (2 * h) % 4 ≡ digit 4 v h
unfolding digit
shifted_digit v h = rw (four_pow h)

one_alike : (b : Bool) (x d : ℕ) → cond b (bits_of mark_width (cond b x d)) [] ≡ cond b (bits_of mark_width x) []
one_alike true x d = refl
one_alike false x d = refl

pub mark_put : (c v h : ℕ) → inside c h ≡ true → one_mark c v h ≡ bits_of mark_width (digit 4 v h)
unfolding one_mark
mark_put c v h e = rw e

pub mark_left_out : (c v h : ℕ) → inside c h ≡ false → one_mark c v h ≡ []
unfolding one_mark
mark_left_out c v h e = rw e

pub marks_none : (c : ℕ) (ms : List ℕ) → mark_bits 0 c ms ≡ []
unfolding mark_bits
marks_none c ms = refl

pub next_mark : (c v h : ℕ) → h < max_vertices → mark_bits (h + 1) c (record_marks c v) ≡ mark_bits h c (record_marks c v) ++ one_mark c v h
unfolding mark_bits one_mark
next_mark c v h l =
    rw (add-one h, record_marks_at c v h l) (ap (λ (bs : List ℕ). mark_bits h c (record_marks c v) ++ bs) (one_alike (inside c h) (digit 4 v h) free))

-- THE ROOM
-- bits were put, and there is room for them and for those that come next
pub next_room : (xs ys : List ℕ) (p q : BitWriter) (bs cs : List ℕ) (k : ℕ) → Put bs p xs ys q → length bs + length cs ≤ k → Ready k p xs →
    Ready (length cs) q ys
next_room xs ys p q bs cs k u l r = record { few = u.few; room = omega (arith, u.moved, u.long, r.room) }

mark_within : (c v h : ℕ) → h < max_vertices → mark_offset c h + length (one_mark c v h) ≤ mark_offset c max_vertices
unfolding one_mark
mark_within c v h l =
    omega (arith, offset_more c h, length_one (inside c h) (digit 4 v h), offset_rises c (suc h) max_vertices l)

pub mark_room : (xs ys : List ℕ) (p q : BitWriter) (c v h : ℕ) → h < max_vertices → Put (mark_bits h c (record_marks c v)) p xs ys q →
    Ready (mark_offset c max_vertices) p xs → Ready (length (one_mark c v h)) q ys
mark_room xs ys p q c v h l u r =
    next_room xs ys p q (mark_bits h c (record_marks c v)) (one_mark c v h) (mark_offset c max_vertices) u
    (omega (arith, length_mark_bits h c (record_marks c v), mark_within c v h l)) r
