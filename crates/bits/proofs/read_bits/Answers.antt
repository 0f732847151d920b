-- `read_bits` meets its contract. The loop's invariant: the value is the field of the bytes read so far. The field
-- that is asked for lies within that of all its bytes. Assumes nothing.
use mathlib.Core.Path.{◌≡◌, refl, sym, ◌∙◌}
use mathlib.Core.List.{List}
use Prim.Native.Nat.{ℕ, ◌<◌, ◌+◌, ◌*◌, ◌-◌, ◌/◌, ◌%◌}
use native.Mathlib.Omega.{arith}
use Rattle.bits.proofs.NumberLaws.{power_word}
use Rattle.bits.proofs.FieldLaws.{field_none, bytes_more, bytes_below, field_in_bytes}
use Rattle.bits.specs.Bits.{field, bits_in}
use lib.ListN.{get_or, take, drop}
use Rattle.std.proofs.lemmas.List.{get_or-drop, get_or-take}
use Rattle.bits.proofs.read_bits.Goals as goal

-- the byte that the loop is at is one of the card's
byte_at : (ws : List ℕ) (i n k : ℕ) → k < n → get_or (take (i + n - i) (drop i ws)) k 0 ≡ get_or ws (i + k) 0
byte_at ws i n k h = get_or-take (i + n - i) (drop i ws) k 0 (omega arith) ∙ get_or-drop i ws k 0

pub loop-byte-init : goal.loop-byte-init
loop-byte-init c = (omega arith, sym (field_none _ _))

pub overflow_mul-value : goal.overflow_mul-value
overflow_mul-value c = let a = c.args in omega (arith, bytes_below a.bytes.now (a.at / 8) c.loop-byte.byte-index 5 (omega arith))

pub returns : goal.returns
returns c =
    let a = c.args in
    let l = c.loop-byte in
    let count = (a.at % 8 + a.width + 7) / 8 in
    let z : l.byte-index ≡ count = omega arith in
    let v : l.value ≡ field (8 * (a.at / 8)) (8 * count) (bits_in a.bytes.now) = rw z at l.invariant.1 in
    rw (power_word a.width (omega arith), v) (field_in_bytes a.bytes.now a.at a.width count (omega arith) refl)

pub overflow_add-value : goal.overflow_add-value
overflow_add-value c =
    let a = c.args in
    let k = c.loop-byte.byte-index in
    let b = byte_at a.bytes.now (a.at / 8) ((a.at % 8 + a.width + 7) / 8) k (omega arith) in
    omega (arith, c.from.ensures, b, bytes_below a.bytes.now (a.at / 8) k 5 (omega arith), (c.type_inv.bytes (a.at / 8 + k)).fits)

pub loop-byte-preserved : goal.loop-byte-preserved
loop-byte-preserved c =
    let a = c.args in
    let k = c.loop-byte.byte-index in
    let b = byte_at a.bytes.now (a.at / 8) ((a.at % 8 + a.width + 7) / 8) k (omega arith) in
    (omega arith, omega (arith, c.from.ensures, b, bytes_more a.bytes.now (a.at / 8) k (omega arith), (c.type_inv.bytes (a.at / 8 + k)).fits))
