-- The first two lines of a listing: the instance's numbers and how the listing ended (02, A7). Assumes nothing: these
-- are definitions.
use Rattle.std.specs.Prelude.{List, ◌++◌, ℕ}
use Rattle.enumeration.specs.declared.Ended.{Ended}
use Rattle.enumeration.specs.declared.Ended.TheVariants.{Complete, AtLimit, NoRoom}
use Rattle.text.specs.Lines.{codes, labelled, line}
use Rattle.report_text.specs.Heading.{header_line}

-- "The walk ends complete, at the try limit, or before the first tree without room"
unfoldable pub ending_label : Ended → List ℕ
ending_label Complete = codes "complete trees "
ending_label AtLimit = codes "limit trees "
ending_label NoRoom = codes "room trees "

-- "the result says which, and how many trees stand in the buffer"; "The number of tries in the result"
unfoldable pub ending_line : Ended → (trees tries : ℕ) → List ℕ
ending_line e k t = labelled (ending_label e) k ++ line (codes " tries ") t

-- the first line is that of a report
unfoldable pub heading_lines : (n root budget : ℕ) → Ended → (trees tries : ℕ) → List ℕ
heading_lines n r b e k t = header_line n r b ++ ending_line e k t
