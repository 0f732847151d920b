-- Marks as a number of two bits a head, as a record has them. Assumes nothing: these are definitions.
use Rattle.std.specs.Prelude.{cond, List, ℕ}
use Rattle.base.specs.Lists.{tabulate}
use Rattle.base.specs.Digits.{digit}
use Rattle.instance.specs.Limits.{max_vertices, free}
use Rattle.instance.specs.Cuts.{inside}

-- the marks in a number, two bits a head; at a head that is not in the set nothing is looked at (DECISIONS 63)
unfoldable pub record_marks : (heads value : ℕ) → List ℕ
record_marks c v = tabulate max_vertices (λ h. cond (inside c h) (digit 4 v h) free)
