-- The text is written in four steps: header, outcome, feed lines and rows. It goes by the first n parents and the first
-- n times n states, and with those that a look shows it is the instance's text. Assumes nothing.
use mathlib.Core.Path.{◌≡◌}
use mathlib.Core.List.{List, ◌++◌}
use Prim.Native.Nat.{ℕ, ◌*◌, ◌≤◌}
use lib.ListN.{length, take}
use Rattle.instance.specs.Instance.{Instance}
use Rattle.instance.specs.declared.Outcome.{Outcome}
use Rattle.instance.specs.Candidates.{first_tree}
use Rattle.instance.specs.States.{outcome, states}
use Rattle.text.specs.Buffer.{Room, Puts, Filled}
use Rattle.text.proofs.BufferLaws.{room_whole, room_first, puts_room, puts_then, puts_filled}
use Rattle.report_text.specs.Heading.{header_line, outcome_line}
use Rattle.report_text.specs.Feeds.{feed_lines}
use Rattle.report_text.specs.Rows.{row_lines}
use Rattle.report_text.specs.Whole.{whole_text, report_text}
use Rattle.report_text.proofs.FeedLaws.{feeds_same}
use Rattle.report_text.proofs.RowLaws.{rows_same}

module _ (ws ps ss : List ℕ) (n r b : ℕ) (o : Outcome) {old : List ℕ} (fits : length (whole_text ws ps ss n r b o) ≤ length old) where
  all : Room (header_line n r b ++ outcome_line o ++ feed_lines ws ps n r o ++ row_lines ss n) old 0
  unfolding whole_text
  all = room_whole (whole_text ws ps ss n r b o) old fits

  with_feeds : Room (header_line n r b ++ outcome_line o ++ feed_lines ws ps n r o) old 0
  with_feeds = room_first (row_lines ss n) all

  with_outcome : Room (header_line n r b ++ outcome_line o) old 0
  with_outcome = room_first (feed_lines ws ps n r o) with_feeds

  pub header_room : Room (header_line n r b) old 0
  header_room = room_first (outcome_line o) with_outcome

  module _ {second : List ℕ} {at₂ : ℕ} (header : Puts (header_line n r b) old second 0 at₂) where
    pub outcome_room : Room (outcome_line o) second at₂
    outcome_room = puts_room header (outcome_line o) with_outcome

    module _ {third : List ℕ} {at₃ : ℕ} (outcome : Puts (outcome_line o) second third at₂ at₃) where
      pub feeds_room : Room (feed_lines ws ps n r o) third at₃
      feeds_room = puts_room (puts_then header with_outcome outcome) (feed_lines ws ps n r o) with_feeds

      module _ {fourth : List ℕ} {at₄ : ℕ} (feeds : Puts (feed_lines ws ps n r o) third fourth at₃ at₄) where
        before_rows : Puts (header_line n r b ++ outcome_line o ++ feed_lines ws ps n r o) old fourth 0 at₄
        before_rows = puts_then (puts_then header with_outcome outcome) with_feeds feeds

        pub rows_room : Room (row_lines ss n) fourth at₄
        rows_room = puts_room before_rows (row_lines ss n) all

        pub text_put : {new : List ℕ} {end : ℕ} → Puts (row_lines ss n) fourth new at₄ end → Filled (whole_text ws ps ss n r b o) old new end
        unfolding whole_text
        text_put rows = puts_filled (puts_then before_rows all rows)

pub text_of_instance :
    (s : Instance) (o : Outcome) (ps ss : List ℕ) → o ≡ outcome s → take s.n ps ≡ first_tree s → take (s.n * s.n) ss ≡ states s →
    whole_text s.weights ps ss s.n s.root s.budget o ≡ report_text s
unfolding whole_text report_text
text_of_instance s o ps ss found tree e = rw (found, feeds_same s.weights ps s.n s.root (outcome s), tree, rows_same ss s.n, e)
