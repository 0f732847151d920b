-- How long each line can be: no line with numbers of 32 bits is longer than `max_line`. Assumes nothing.
use mathlib.Core.Path.{◌≡◌, refl}
use mathlib.Core.Bool.{Bool, true, false, cond}
use mathlib.Core.List.{List, [], ◌∷◌, ◌++◌}
use Prim.Native.Nat.{ℕ, ◌+◌, ◌^◌, ◌≤◌, ◌<◌}
use native.Mathlib.Omega.{arith}
use lib.Dec.{eqb, ltb}
use lib.ListN.{length, length-append}
use Rattle.base.specs.Bounded.{sum_below}
use Rattle.base.specs.Lists.{join_below}
use Rattle.base.proofs.BoundedLaws.{sum_mono}
use Rattle.base.proofs.JoinLaws.{join_length}
use Rattle.instance.specs.Limits.{max_vertices}
use Rattle.instance.specs.Cuts.{inside}
use Rattle.text.specs.Buffer.{Room, Puts, Filled}
use Rattle.text.specs.Decimal.{decimal_in, decimal}
use Rattle.text.specs.Lines.{codes, space, line_feed, labelled, line}
use Rattle.text.proofs.BufferLaws.{puts_filled}
use Rattle.text.proofs.DecimalLaws.{decimal_length}
use Rattle.text.proofs.LineLaws.{labelled_length, line_length, three_length}
use Rattle.report_text.specs.Feeds.{feed_line}
use Rattle.report_text.specs.Whole.{refused_text}
use Rattle.why_text.specs.declared.lines.Line.{Line}
use Rattle.why_text.specs.declared.lines.Line.TheVariants.{Banned, Rival, Excluded, ExcludedNone, Optional, Mandatory, MandatoryNone, With, Without, Feed, Cut, Refused}
use Rattle.why_text.specs.Grouped.{grouped, amount, amount_line}
use Rattle.why_text.specs.Endings.{arrow, arc_text, setter_end, least_text, limit_end}
use Rattle.why_text.specs.Cut.{member_text, cut_line}
use Rattle.why_text.specs.Lines.{line_text, max_line}
use Rattle.why_text.proofs.GroupedLaws.{grouped_length}

-- a number of 32 bits
abbrev pub Word : ℕ → Type 0
Word v = v < 2 ^ 32

ten : (v : ℕ) → Word v → length (decimal v) ≤ 10
ten v h = decimal_length 10 v (omega arith) (omega arith)

-- PARTS
amount_length : (l : List ℕ) (v : ℕ) → Word v → length (amount l v) ≤ length l + 13
amount_length l v h = let e = length-append l (grouped v) in let g = grouped_length v h in omega arith

amount_line_length : (l : List ℕ) (v : ℕ) → Word v → length (amount_line l v) ≤ length l + 14
amount_line_length l v h =
    let e = length-append (amount l v) (line_feed ∷ []) in
    omega (arith, amount_length l v h)

arc_length : (l : List ℕ) (t h : ℕ) → Word t → Word h → length (arc_text l t h) ≤ length l + 23
arc_length l t h wt wh =
    let e = length-append (labelled l t) (labelled arrow h) in
    omega (arith, labelled_length l t, labelled_length arrow h, ten t wt, ten h wh)

setter_length : (p k : ℕ) → Word p → Word k → length (setter_end p k) ≤ 49
unfolding setter_end codes
setter_length p k wp wk = go (eqb p 0)
  where
    go : (t : Bool) → length (cond t (line_feed ∷ []) (labelled (codes ", by its recorded press ") p ++ line (codes " of ") k)) ≤ 49
    go true = omega arith
    go false =
        let e = length-append (labelled (codes ", by its recorded press ") p) (line (codes " of ") k) in
        omega (arith, labelled_length (codes ", by its recorded press ") p, line_length (codes " of ") k, ten p wp, ten k wk)

least_length : (v b : ℕ) → Word v → length (least_text v b) ≤ 41
unfolding least_text codes
least_length v b w = go (ltb b v)
  where
    go : (t : Bool) → length (cond t (amount (codes ", the cheapest of all costs ") v) []) ≤ 41
    go true = amount_length (codes ", the cheapest of all costs ") v w
    go false = omega arith

limit_length : (v b : ℕ) → Word v → Word b → length (limit_end v b) ≤ 71
unfolding limit_end codes
limit_length v b wv wb =
    let e = length-append (least_text v b) (amount_line (codes ", the budget is ") b) in
    omega (arith, least_length v b wv, amount_line_length (codes ", the budget is ") b wb)

-- A CUT: a vertex takes a space and its digits, and the sum over 32 of them is computed
abbrev member_most : ℕ → ℕ
member_most v = 1 + length (decimal v)

member_length : (c v : ℕ) → length (member_text c v) ≤ member_most v
unfolding member_text
member_length c v = go (inside c v)
  where
    go : (t : Bool) → length (cond t (labelled (space ∷ []) v) []) ≤ member_most v
    go true = omega (arith, labelled_length (space ∷ []) v)
    go false = omega arith

members_most : sum_below max_vertices member_most ≡ 86
unfolding sum_below decimal decimal_in
members_most = refl

members_length : (c : ℕ) → length (join_below max_vertices (member_text c)) ≤ 86
members_length c =
    let m = sum_mono max_vertices (λ v. length (member_text c v)) member_most (λ v l. member_length c v) in
    omega (arith, join_length (member_text c) max_vertices, members_most)

-- EACH LINE
module _ (p k : ℕ) (wp : Word p) (wk : Word k) where
  pub banned_fits : length (line_text (Banned p k)) ≤ max_line
  unfolding line_text codes
  banned_fits = let e = length-append (codes "closed: banned on the card") (setter_end p k) in omega (arith, setter_length p k wp wk)

  pub rival_fits : (g h : ℕ) → Word g → Word h → length (line_text (Rival g h p k)) ≤ max_line
  unfolding line_text codes
  rival_fits g h wg wh =
      let words = codes " is pinned on the card" in
      let e = length-append (arc_text (codes "closed: ") g h ++ words) (setter_end p k) in
      let f = length-append (arc_text (codes "closed: ") g h) words in
      omega (arith, arc_length (codes "closed: ") g h wg wh, setter_length p k wp wk)

module _ (t h : ℕ) (wt : Word t) (wh : Word h) where
  -- the longest line
  pub excluded_fits : (v l b : ℕ) → Word v → Word l → Word b → length (line_text (Excluded t h v l b)) ≤ max_line
  unfolding line_text codes
  excluded_fits v l b wv wl wb =
      let label = codes "closed: the cheapest tree with " in
      let e = length-append (arc_text label t h ++ amount (codes " costs ") v) (limit_end l b) in
      let f = length-append (arc_text label t h) (amount (codes " costs ") v) in
      omega (arith, arc_length label t h wt wh, amount_length (codes " costs ") v wv, limit_length l b wl wb)

  pub excluded_none_fits : length (line_text (ExcludedNone t h)) ≤ max_line
  unfolding line_text codes
  excluded_none_fits =
      let label = codes "closed: no tree has " in
      let e = length-append (arc_text label t h) (line_feed ∷ []) in
      omega (arith, arc_length label t h wt wh)

module _ (v : ℕ) (wv : Word v) where
  pub optional_fits : length (line_text (Optional v)) ≤ max_line
  unfolding line_text codes
  optional_fits = omega (arith, amount_line_length (codes "open: this tree uses it: total ") v wv)

  pub with_fits : length (line_text (With v)) ≤ max_line
  unfolding line_text codes
  with_fits = omega (arith, amount_line_length (codes "with it: total ") v wv)

  pub without_fits : length (line_text (Without v)) ≤ max_line
  unfolding line_text codes
  without_fits = omega (arith, amount_line_length (codes "without it: total ") v wv)

  pub refused_fits : length (line_text (Refused v)) ≤ max_line
  unfolding line_text refused_text codes
  refused_fits = omega (arith, line_length (codes "refused ") v, ten v wv)

  pub mandatory_fits : (l b : ℕ) → Word l → Word b → length (line_text (Mandatory v l b)) ≤ max_line
  unfolding line_text codes
  mandatory_fits l b wl wb =
      let label = codes "sure: without it the cheapest costs " in
      let e = length-append (amount label v) (limit_end l b) in
      omega (arith, amount_length label v wv, limit_length l b wl wb)

  pub feed_fits : (h t : ℕ) → Word h → Word t → length (line_text (Feed h t v)) ≤ max_line
  unfolding line_text feed_line codes
  feed_fits h t wh wt = omega (arith, three_length (codes "feed ") h (codes " from ") t (codes " price ") v, ten h wh, ten t wt, ten v wv)

  pub cut_fits : (c : ℕ) → length (line_text (Cut c v)) ≤ max_line
  unfolding line_text cut_line codes
  cut_fits c =
      let members = join_below max_vertices (member_text c) in
      let e = length-append (codes "cut" ++ members) (line (codes " pence ") v) in
      let f = length-append (codes "cut") members in
      omega (arith, members_length c, line_length (codes " pence ") v, ten v wv)

pub mandatory_none_fits : length (line_text MandatoryNone) ≤ max_line
unfolding line_text codes
mandatory_none_fits = omega arith

-- A LINE IN A BUFFER: one of that length has room for each
pub line_room : {text old : List ℕ} → length text ≤ max_line → max_line ≤ length old → Room text old 0
line_room h l = record { long_enough = omega arith }

-- and it is filled with the text of what the line is known to be
pub line_written :
    {l m : Line} {old new : List ℕ} {r : ℕ} → l ≡ m → length (line_text m) ≤ max_line → Puts (line_text m) old new 0 r →
    Filled (line_text l) old new r × (r ≤ max_line)
line_written e h w = let f = puts_filled w in (rw e f, omega (arith, f.place))
