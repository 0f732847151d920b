-- How many bytes were read, whether or not a read failed. Assumes nothing: this is a definition.
use Rattle.std.specs.Prelude.{ℕ, Result, Ok, Err}
use Rattle.card_input.specs.declared.ReadFailed.{ReadFailed}

abbrev pub length_read : Result ℕ ReadFailed → ℕ
length_read (Ok k) = k
length_read (Err e) = e.length
