-- What a bit writer has put into a buffer. Assumes nothing: these are definitions.
use Rattle.std.specs.Prelude.{◌≡◌, List, ◌++◌, ℕ, ◌+◌, ◌*◌, ◌-◌, ◌%◌, ◌<◌, ◌≤◌, length, take, drop}
use Rattle.bits.specs.Bits.{bits_of, bits_in}
use Rattle.bits.specs.declared.BitWriter.{BitWriter}

-- the bits put so far: those of the whole bytes before its place, and those that wait for a full byte
unfoldable pub bits_put : (out : List ℕ) → BitWriter → List ℕ
bits_put out w = bits_in (take w.at out) ++ bits_of w.count w.partial

-- a writer at the beginning of a buffer has put nothing
abbrev pub new_writer : BitWriter
new_writer = record { at = 0; partial = 0; count = 0 }

-- there is room for so many bits more
pub record Ready (width : ℕ) (w : BitWriter) (out : List ℕ) : Type 0 where
  pub few : w.count < 8
  pub room : 8 * w.at + w.count + width ≤ 8 * length out

-- bits were put behind those that stood there, and every byte from the new place on is as it was
pub record Put (bits : List ℕ) (w : BitWriter) (before after : List ℕ) (r : BitWriter) : Type 0 where
  pub all_put : bits_put after r ≡ bits_put before w ++ bits
  pub unchanged : drop r.at after ≡ drop r.at before
  pub long : length after ≡ length before
  pub few : r.count < 8
  pub moved : 8 * r.at + r.count ≡ 8 * w.at + w.count + length bits

-- the bits that fill a byte of which so many are used; none if none is
abbrev pub filling : (count : ℕ) → ℕ
filling c = (8 - c) % 8
