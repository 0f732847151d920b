-- The feed lines go by the first n parents, whatever the list holds behind them; and how long they can be. Assumes
-- nothing.
--
-- A feed line is bounded by its fixed part and its numbers' digits, and the lines of 32 vertices by the sum over the
-- digits of 0 to 31, which is computed; the root has no line, which makes up for its digits in the header.
use mathlib.Core.Path.{◌≡◌, refl, sym, ap}
use mathlib.Core.Bool.{Bool, true, false, cond}
use mathlib.Core.List.{List, []}
use Prim.Native.Nat.{ℕ, ◌+◌, ◌^◌, ◌≤◌, ◌<◌}
use native.Mathlib.Omega.{arith}
use borrow.Author.Tests.{eq-eqb, eqb-false}
use lib.Dec.{eqb}
use lib.ListN.{length, take}
use lib.Seq.{get_or-take}
use Rattle.base.specs.Lists.{join_below}
use Rattle.base.specs.Bounded.{sum_below}
use Rattle.base.proofs.BoundedLaws.{sum_room}
use Rattle.base.proofs.SumLaws.{sum_longer}
use Rattle.base.proofs.JoinLaws.{join_same, join_length}
use Rattle.instance.specs.Limits.{max_vertices, no_parent}
use Rattle.instance.specs.Arborescence.{parent}
use Rattle.instance.specs.declared.Outcome.{Outcome}
use Rattle.text.specs.Decimal.{decimal_in, decimal}
use Rattle.text.specs.Lines.{codes}
use Rattle.text.proofs.DecimalLaws.{decimal_length}
use Rattle.text.proofs.LineLaws.{three_length}
use Rattle.report_text.specs.Feeds.{feed_line, listed_weight, feed_at, feed_lines, shows_tree}

pub feeds_same : (ws ps : List ℕ) (n r : ℕ) (o : Outcome) → feed_lines ws ps n r o ≡ feed_lines ws (take n ps) n r o
unfolding feed_lines feed_at
feeds_same ws ps n r o =
    ap (λ (l : List ℕ). cond (shows_tree o) l [])
    (join_same n (feed_at ws ps r) (feed_at ws (take n ps) r)
    (λ k l. ap (λ (t : ℕ). cond (eqb k r) [] (feed_line k t (listed_weight ws t k))) (sym (get_or-take n ps k no_parent l))))

-- with and without a tree
pub feeds_shown : (ws ps : List ℕ) (n r : ℕ) (o : Outcome) → shows_tree o ≡ true → feed_lines ws ps n r o ≡ join_below n (feed_at ws ps r)
unfolding feed_lines
feeds_shown ws ps n r o e = rw e

pub feeds_none : (ws ps : List ℕ) (n r : ℕ) (o : Outcome) → shows_tree o ≡ false → feed_lines ws ps n r o ≡ []
unfolding feed_lines
feeds_none ws ps n r o e = rw e

-- LENGTHS
feed_length : (h t w : ℕ) → t < 100 → w < 10 ^ 7 → length (feed_line h t w) ≤ 28 + length (decimal h)
unfolding feed_line codes
feed_length h t w ht hw =
    let a = decimal_length 2 t (omega arith) ht in
    let d = decimal_length 7 w (omega arith) hw in
    omega (arith, three_length (codes "feed ") h (codes " from ") t (codes " price ") w)

-- what a feed line of v is at most; the sum over 32 vertices is computed
abbrev pub feed_most : ℕ → ℕ
feed_most v = 28 + length (decimal v)

feeds_most : sum_below max_vertices feed_most ≡ 950
unfolding sum_below decimal decimal_in
feeds_most = refl

module _ (ws ps : List ℕ) (n r : ℕ) where
  -- the numbers of the feed lines are short
  abbrev pub ShortFeeds : Type 0
  ShortFeeds = (v : ℕ) → v < n → (v ≡ r → ⊥) → (parent ps v < 100) × (listed_weight ws (parent ps v) v < 10 ^ 7)

  feed_at_length : ShortFeeds → (v : ℕ) → v < n → length (feed_at ws ps r v) ≤ feed_most v
  unfolding feed_at
  feed_at_length short v h = go (eqb v r) refl
    where
      go : (t : Bool) → eqb v r ≡ t → length (cond t [] (feed_line v (parent ps v) (listed_weight ws (parent ps v) v))) ≤ feed_most v
      go true e = omega arith
      go false e = let s = short v h (eqb-false _ _ e) in feed_length v (parent ps v) (listed_weight ws (parent ps v) v) s.0 s.1

  root_length : length (feed_at ws ps r r) ≡ 0
  unfolding feed_at
  root_length = rw (eq-eqb r r refl)

  module _ (small : n ≤ max_vertices) (below : r < n) where
    all_length : ShortFeeds → length (join_below n (feed_at ws ps r)) + feed_most r ≤ 950
    all_length short =
        let j = join_length (feed_at ws ps r) n in
        let s = sum_room n (λ v. length (feed_at ws ps r v)) feed_most (feed_at_length short) r below in
        let l = sum_longer feed_most n max_vertices small in
        omega (arith, feeds_most, root_length)

    pub feeds_length : (o : Outcome) → (shows_tree o ≡ true → ShortFeeds) → length (feed_lines ws ps n r o) + feed_most r ≤ 950
    unfolding feed_lines
    feeds_length o = go (shows_tree o)
      where
        go : (t : Bool) → (t ≡ true → ShortFeeds) → length (cond t (join_below n (feed_at ws ps r)) []) + feed_most r ≤ 950
        go true short = all_length (short refl)
        go false short = let d = decimal_length 2 r (omega arith) (omega arith) in omega arith
