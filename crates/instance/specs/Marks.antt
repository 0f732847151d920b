-- The marks that a command can set. Assumes nothing: these are definitions.
use Rattle.std.specs.Prelude.{ℕ}
use Rattle.instance.specs.Limits.{free, pinned, banned}
use Rattle.instance.specs.declared.Mark.{Mark}
use Rattle.instance.specs.declared.Mark.TheVariants.{Free, Pinned, Banned}

-- "0 free, 1 pinned, 2 banned"
abbrev pub mark_number : Mark → ℕ
mark_number Free = free
mark_number Pinned = pinned
mark_number Banned = banned
