-- The first three words by the arm that set them, the others by the view that it kept. Assumes nothing.
use mathlib.Core.Path.{refl, ap}
use Rattle.feed_planner.specs.Words.{Words, words_with}
use Rattle.feed_planner.proofs.words.keep_reason.Goals as goal

pub returns-in-Banned : goal.returns-in-Banned
returns-in-Banned c =
    let v = c.keep_view.ensures in
    rw c.in-Banned.is (record { number = v.number; words = ap (λ (w : Words). words_with 1 c.in-Banned.by 0 w) v.words })

pub returns-in-Rival : goal.returns-in-Rival
returns-in-Rival c =
    let v = c.keep_view-in-Rival.ensures in
    rw c.in-Rival.is (record { number = v.number; words = ap (λ (w : Words). words_with 2 c.in-Rival.by c.in-Rival.other.0 w) v.words })

pub returns-in-Priced : goal.returns-in-Priced
returns-in-Priced c =
    let v = c.keep_view-in-Priced.ensures in
    rw c.in-Priced.is (record { number = v.number; words = ap (λ (w : Words). words_with 3 0 0 w) v.words })

pub returns-in-Refused : goal.returns-in-Refused
returns-in-Refused c = rw c.in-Refused.is (record { number = refl; words = refl })
