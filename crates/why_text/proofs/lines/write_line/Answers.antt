-- One call for each line: it fits the buffer, since its numbers are of 32 bits. Assumes nothing.
use native.Mathlib.Omega.{arith}
use Rattle.text.specs.Lines.{codes}
use Rattle.report_text.specs.Whole.{refused_text}
use Rattle.why_text.specs.Lines.{line_text}
use Rattle.why_text.proofs.LengthLaws.{line_room, line_written, banned_fits, rival_fits, excluded_fits, excluded_none_fits, optional_fits, mandatory_fits, mandatory_none_fits, with_fits, without_fits, feed_fits, cut_fits, refused_fits}
use Rattle.why_text.proofs.lines.write_line.Goals as goal

pub put_banned-requires : goal.put_banned-requires
put_banned-requires c =
    line_room (banned_fits _ _ (omega arith) (omega arith)) c.requires

pub put_rival-requires : goal.put_rival-requires
put_rival-requires c =
    line_room (rival_fits _ _ (omega arith) (omega arith) _ _ (omega arith) (omega arith)) c.requires

pub put_excluded-requires : goal.put_excluded-requires
put_excluded-requires c =
    line_room (excluded_fits _ _ (omega arith) (omega arith) _ _ _ (omega arith) (omega arith) (omega arith)) c.requires

pub put_excluded_none-requires : goal.put_excluded_none-requires
put_excluded_none-requires c =
    line_room (excluded_none_fits _ _ (omega arith) (omega arith)) c.requires

pub put_amount_line-requires : goal.put_amount_line-requires
unfolding codes line_text
put_amount_line-requires c =
    line_room (optional_fits _ (omega arith)) c.requires

pub put_mandatory-requires : goal.put_mandatory-requires
put_mandatory-requires c =
    line_room (mandatory_fits _ (omega arith) _ _ (omega arith) (omega arith)) c.requires

pub put_amount_line-requires-in-With : goal.put_amount_line-requires-in-With
unfolding codes line_text
put_amount_line-requires-in-With c =
    line_room (with_fits _ (omega arith)) c.requires

pub put_amount_line-requires-in-Without : goal.put_amount_line-requires-in-Without
unfolding codes line_text
put_amount_line-requires-in-Without c =
    line_room (without_fits _ (omega arith)) c.requires

pub put_feed-requires : goal.put_feed-requires
unfolding line_text
put_feed-requires c =
    line_room (feed_fits _ (omega arith) _ _ (omega arith) (omega arith)) c.requires

pub put_cut-requires : goal.put_cut-requires
unfolding line_text
put_cut-requires c =
    line_room (cut_fits _ (omega arith) _) c.requires

pub put_line-requires : goal.put_line-requires
unfolding codes line_text refused_text
put_line-requires c =
    line_room (refused_fits _ (omega arith)) c.requires

pub returns-in-Banned : goal.returns-in-Banned
returns-in-Banned c =
    line_written c.in-Banned.is (banned_fits _ _ (omega arith) (omega arith)) c.put_banned.ensures

pub returns-in-Rival : goal.returns-in-Rival
returns-in-Rival c =
    line_written c.in-Rival.is (rival_fits _ _ (omega arith) (omega arith) _ _ (omega arith) (omega arith)) c.put_rival.ensures

pub returns-in-Excluded : goal.returns-in-Excluded
returns-in-Excluded c =
    line_written c.in-Excluded.is (excluded_fits _ _ (omega arith) (omega arith) _ _ _ (omega arith) (omega arith) (omega arith)) c.put_excluded.ensures

pub returns-in-ExcludedNone : goal.returns-in-ExcludedNone
returns-in-ExcludedNone c =
    line_written c.in-ExcludedNone.is (excluded_none_fits _ _ (omega arith) (omega arith)) c.put_excluded_none.ensures

pub returns-in-Optional : goal.returns-in-Optional
unfolding codes line_text
returns-in-Optional c =
    line_written c.in-Optional.is (optional_fits _ (omega arith)) c.put_amount_line.ensures

pub returns-in-Mandatory : goal.returns-in-Mandatory
returns-in-Mandatory c =
    line_written c.in-Mandatory.is (mandatory_fits _ (omega arith) _ _ (omega arith) (omega arith)) c.put_mandatory.ensures

pub returns-in-MandatoryNone : goal.returns-in-MandatoryNone
unfolding codes line_text
returns-in-MandatoryNone c = line_written c.in-MandatoryNone.is mandatory_none_fits c.put_bytes.ensures

pub returns-in-With : goal.returns-in-With
unfolding codes line_text
returns-in-With c =
    line_written c.in-With.is (with_fits _ (omega arith)) c.put_amount_line-in-With.ensures

pub returns-in-Without : goal.returns-in-Without
unfolding codes line_text
returns-in-Without c =
    line_written c.in-Without.is (without_fits _ (omega arith)) c.put_amount_line-in-Without.ensures

pub returns-in-Feed : goal.returns-in-Feed
unfolding line_text
returns-in-Feed c =
    line_written c.in-Feed.is (feed_fits _ (omega arith) _ _ (omega arith) (omega arith)) c.put_feed.ensures

pub returns-in-Cut : goal.returns-in-Cut
unfolding line_text
returns-in-Cut c =
    line_written c.in-Cut.is (cut_fits _ (omega arith) _) c.put_cut.ensures

pub returns-in-Refused : goal.returns-in-Refused
unfolding codes line_text refused_text
returns-in-Refused c =
    line_written c.in-Refused.is (refused_fits _ (omega arith)) c.put_line.ensures
