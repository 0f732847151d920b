-- The tests of the code are those of the definition. Assumes nothing.
use mathlib.Core.Path.{◌≡◌}
use mathlib.Core.List.{List, []}
use Prim.Native.Nat.{ℕ, ◌<◌}
use borrow.Author.Tests.{eq-eqb, ne_eqb}
use lib.ListN.{length, get_or}
use Rattle.base.proofs.ListLaws.{default}
use Rattle.instance.specs.Limits.{no_parent}
use Rattle.report_text.specs.Feeds.{feed_line, listed_weight, feed_at}
use Rattle.text.proofs.BufferLaws.{puts_none}
use Rattle.report_text.proofs.feeds.put_feed_at.Goals as goal

-- the root has no line
at_root : (ws ps : List ℕ) (r v : ℕ) → v ≡ r → feed_at ws ps r v ≡ []
unfolding feed_at
at_root ws ps r v e = rw (eq-eqb _ _ e)

elsewhere :
    (ws ps : List ℕ) (r v x : ℕ) → (v ≡ r → ⊥) → v < length ps → x ≡ listed_weight ws (get_or ps v 0) v →
    feed_at ws ps r v ≡ feed_line v (get_or ps v 0) x
unfolding feed_at
elsewhere ws ps r v x h l e = rw (ne_eqb _ _ h, default ps v no_parent 0 l, e)

pub returns-then-v-root : goal.returns-then-v-root
returns-then-v-root c =
    let a = c.args in
    rw (at_root a.weights.now a.parents.now a.root a.v c.if-v-root.true) (puts_none _ _)

pub put_feed-requires : goal.put_feed-requires
put_feed-requires c =
    let w = c.listed_weight-weight in
    let a = c.args in
    rw (elsewhere a.weights.now a.parents.now a.root a.v w.result c.if-v-root.false c.requires.v_in_bounds w.ensures)
    at c.requires.room

pub returns : goal.returns
returns c =
    let a = c.args in
    let w = c.listed_weight-weight in
    rw (elsewhere a.weights.now a.parents.now a.root a.v w.result c.if-v-root.false c.requires.v_in_bounds w.ensures)
    c.put_feed.ensures
