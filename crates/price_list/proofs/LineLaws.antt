-- Laws of a line that is read by three numbers, and of judging it by a table. Assumes nothing.
use mathlib.Core.Path.{◌≡◌, refl, sym, ap, ◌∙◌}
use mathlib.Core.Bool.{Bool, true, false, ◌||◌, not, cond}
use mathlib.Core.List.{List, [], ◌∷◌}
use Prim.Native.Nat.{ℕ, ◌≤◌, ◌<◌}
use native.Mathlib.Omega.{arith}
use native.Mathlib.Decide.{ℕ_discrete}
use lib.Dec.{ltb, leb, eqb}
use lib.ListN.{get_or, set, drop, replicate, length-set, length-replicate, get_or-replicate}
use lib.Seq.{drop-drop, get_or-set_same, get_or-set_other}
use borrow.Author.Tests.{leb-true, leb-false, le-leb, ltb-false, lt-ltb, eqb-true, eq-eqb, ne_eqb}
use Rattle.std.specs.Prelude.{Ok, Err}
use Rattle.base.specs.Lists.{any_of}
use Rattle.base.proofs.BoolLaws.{passed, and_false_right, and_not, or_false_left, or_false_right}
use Rattle.instance.specs.Limits.{max_vertices, max_weight, no_arc, cells}
use Rattle.instance.specs.Refusals.{bad_line}
use Rattle.instance.specs.RefusalNumbers.{refusal_number}
use Rattle.instance.specs.declared.refusals.Refusal.{Refusal}
use Rattle.instance.specs.declared.refusals.Refusal.TheVariants.{BadLine}
use Rattle.instance.specs.Instance.{cell}
use Rattle.text.specs.Lines.{space, line_feed}
use Rattle.price_format.specs.Lines.{Line, number_then, first_number, after_number, has_line, first_line, after_line}
use Rattle.price_format.specs.Reading.{names, is_named, weight_named, numbers_refusal, line_refusal}
use Rattle.price_format.proofs.ReadingLaws.{Sound, more}
use Rattle.price_list.specs.Numbers.{cap, capped, NumberAt}
use Rattle.price_list.specs.Lines.{LineAt, TableOf, table_refusal, refusal_at, TakesLine}
use Rattle.price_list.specs.declared.numbers.Number.{Number}
use Rattle.price_list.specs.declared.lines.LineRead.{LineRead}
use Rattle.price_list.proofs.NumberLaws.{capped_low, capped_high}

-- THREE NUMBERS
-- what follows a number that was read
number_rest : (text : List ℕ) (at sep : ℕ) (r : Number) → NumberAt text at sep r → drop r.next text ≡ after_number (drop at text)
unfolding after_number
number_rest text at sep r n = ap (λ (k : ℕ). drop k text) n.next ∙ sym (drop-drop _ at text)

number_forward : (text : List ℕ) (at sep : ℕ) (r : Number) → NumberAt text at sep r → at < r.next
number_forward text at sep r n = omega (arith, n.next)

pub first_bad : (text : List ℕ) (at : ℕ) → number_then space (drop at text) ≡ false → has_line (drop at text) ≡ false
unfolding has_line
first_bad text at e = rw e

module _ (text : List ℕ) (at : ℕ) (a : Number) (x : NumberAt text at space a) where
  second_rest : drop a.next text ≡ after_number (drop at text)
  second_rest = number_rest text at space a x

  pub second_bad : number_then space (drop a.next text) ≡ false → has_line (drop at text) ≡ false
  unfolding has_line
  second_bad e =
      rw (sym (ap (number_then space) second_rest) ∙ e) (and_false_right (number_then space (drop at text)) false refl)

  module _ (b : Number) (y : NumberAt text a.next space b) where
    second_good : number_then space (after_number (drop at text)) ≡ true
    second_good = sym (ap (number_then space) second_rest) ∙ y.stands

    third_rest : drop b.next text ≡ after_number (after_number (drop at text))
    third_rest = number_rest text a.next space b y ∙ ap after_number second_rest

    pub third_bad : number_then line_feed (drop b.next text) ≡ false → has_line (drop at text) ≡ false
    unfolding has_line
    third_bad e =
        rw (sym (ap (number_then line_feed) third_rest) ∙ e, second_good) (and_false_right (number_then space (drop at text)) false refl)

    pub line_good : (d : Number) → NumberAt text b.next line_feed d → LineAt text at (record { tail = a.value; head = b.value; weight = d.value; next = d.next })
    unfolding has_line first_line after_line
    line_good d z =
        record {
          stands = rw (sym (ap (number_then line_feed) third_rest) ∙ z.stands, second_good, x.stands);
          tail = x.value;
          head = y.value ∙ ap (λ (t : List ℕ). capped (first_number t)) second_rest;
          weight = z.value ∙ ap (λ (t : List ℕ). capped (first_number t)) third_rest;
          rest = number_rest text b.next line_feed d z ∙ ap after_number third_rest;
          forward = omega (arith, number_forward text at space a x, number_forward text a.next space b y, number_forward text b.next line_feed d z);
          within = z.within;
        }

-- JUDGED BY A TABLE
-- a number that was capped is as far from every bound as the number itself
capped_reach : (n t : ℕ) → n ≤ cap → leb n (capped t) ≡ leb n t
capped_reach n t h = go (leb t cap) refl
  where
    go : (c : Bool) → leb t cap ≡ c → leb n (capped t) ≡ leb n t
    go true e = rw (capped_low t (leb-true t cap e))
    go false e = let l = leb-false t cap e in rw (capped_high t (omega arith), le-leb n cap h) (sym (le-leb n t (omega arith)))

-- a capped number below the cap is the number itself
uncapped : (c v : ℕ) → c ≡ capped v → c < cap → c ≡ v
uncapped c v e h = go (leb v cap) refl
  where
    go : (b : Bool) → leb v cap ≡ b → c ≡ v
    go true q = e ∙ capped_low v (leb-true v cap q)
    go false q = let l = leb-false v cap q in absurd (omega (arith, e ∙ capped_high v (omega arith)))

capped_above : (w : ℕ) → ltb max_weight (capped w) ≡ ltb max_weight w
capped_above w = go (leb w cap) refl
  where
    go : (c : Bool) → leb w cap ≡ c → ltb max_weight (capped w) ≡ ltb max_weight w
    go true e = rw (capped_low w (leb-true w cap e))
    go false e = let l = leb-false w cap e in rw (capped_high w (omega arith)) (sym (lt-ltb max_weight w (omega arith)))

module _ (n r : ℕ) (table : List ℕ) (t h w : ℕ) (small : n ≤ max_vertices) where
  -- so the capped numbers of a line are judged as its numbers
  table_capped : table_refusal n r table (capped t) (capped h) (capped w) ≡ table_refusal n r table t h w
  unfolding table_refusal
  table_capped = go (leb n t || leb n h) refl
    where
      go : (c : Bool) → leb n t || leb n h ≡ c → table_refusal n r table (capped t) (capped h) (capped w) ≡ table_refusal n r table t h w
      go true e = rw (capped_reach n t (omega arith), capped_reach n h (omega arith), e)
      go false e =
          let lt = leb-false n t (or_false_left (leb n t) (leb n h) e) in
          let lh = leb-false n h (or_false_right (leb n t) (leb n h) e) in
          rw (capped_low t (omega arith), capped_low h (omega arith), capped_above w)

  -- an arc without a fault
  pub refusal_none : table_refusal n r table t h w ≡ 0 → (t < n) × (h < n) × (w ≤ max_weight)
  unfolding table_refusal
  refusal_none e =
      let p = passed (leb n t || leb n h) 16 _ e in
      let q = passed (eqb t h || eqb h r) 17 _ p.1 in
      let u = passed (ltb max_weight w) 18 _ q.1 in (
        leb-false n t (or_false_left (leb n t) (leb n h) p.0),
        leb-false n h (or_false_right (leb n t) (leb n h) p.0),
        ltb-false max_weight w u.0,
      )

-- no line gives the weight of no arc, so the table tells whether an arc was named
pub named_weight : (n r : ℕ) (ls : List Line) (t h : ℕ) → Sound n r ls → not (eqb (weight_named ls t h) no_arc) ≡ is_named ls t h
unfolding weight_named is_named any_of
named_weight n r [] t h s = refl
named_weight n r (l ∷ ls) t h (more s a) = go (names l t h) (named_weight n r ls t h s)
  where
    go : (c : Bool) → not (eqb (weight_named ls t h) no_arc) ≡ any_of (λ m. names m t h) ls
        → not (eqb (cond c l.weight (weight_named ls t h)) no_arc) ≡ c || any_of (λ m. names m t h) ls
    go true e = rw (ne_eqb l.weight no_arc (λ q. omega (arith, a.weight)))
    go false e = e

module _ (n r : ℕ) (ls : List Line) (table : List ℕ) (small : n ≤ max_vertices) (s : Sound n r ls) (o : TableOf ls table) where
  table_judges : (l : Line) → table_refusal n r table l.tail l.head l.weight ≡ numbers_refusal n r ls l
  unfolding table_refusal numbers_refusal
  table_judges l = go (leb n l.tail || leb n l.head) refl
    where
      go : (c : Bool) → leb n l.tail || leb n l.head ≡ c → table_refusal n r table l.tail l.head l.weight ≡ numbers_refusal n r ls l
      go true e = rw e
      go false e =
          let lt = leb-false n l.tail (or_false_left (leb n l.tail) (leb n l.head) e) in
          let lh = leb-false n l.head (or_false_right (leb n l.tail) (leb n l.head) e) in
          rw (o.at l.tail l.head (omega arith) (omega arith), named_weight n r ls l.tail l.head s)

  pub judges_at : (text : List ℕ) (at : ℕ) → refusal_at text at n r table ≡ line_refusal n r ls (drop at text)
  unfolding refusal_at line_refusal
  judges_at text at = ap (λ (k : ℕ). cond (has_line (drop at text)) k bad_line) (table_judges (first_line (drop at text)))

-- the table of no lines
pub table_none : TableOf [] (replicate cells no_arc)
unfolding weight_named
table_none = record { long = length-replicate cells no_arc; at = λ t h x y. get_or-replicate cells (cell t h) no_arc 0 (omega arith) }

-- one line more in the table
pub table_more : (ls : List Line) (table : List ℕ) (l : Line) → TableOf ls table → l.tail < max_vertices → l.head < max_vertices
    → TableOf (l ∷ ls) (set table (cell l.tail l.head) l.weight)
unfolding weight_named names
table_more ls table l o lt lh = record { long = simp length-set o.long; at = λ t h x y. by t h x y (ℕ_discrete (cell t h) (cell l.tail l.head)) }
  where
    by : (t h : ℕ) → t < max_vertices → h < max_vertices → Dec (cell t h ≡ cell l.tail l.head)
        → get_or (set table (cell l.tail l.head) l.weight) (cell t h) 0 ≡ weight_named (l ∷ ls) t h
    by t h x y (yes e) =
        let i : l.tail ≡ t = omega arith in
        let j : l.head ≡ h = omega arith in
        rw (e, get_or-set_same table (cell l.tail l.head) l.weight 0 (omega (arith, o.long)), eq-eqb l.tail t i, eq-eqb l.head h j)
    by t h x y (no d) =
        rw (get_or-set_other table (cell l.tail l.head) (cell t h) l.weight 0 d, and_not (eqb l.tail t) (eqb l.head h) (λ p q. let i = eqb-true l.tail t p in let j = eqb-true l.head h q in d (omega arith)))
        (o.at t h x y)

-- WHAT TAKING A LINE LEAVES
module _ (text : List ℕ) (at n r : ℕ) (old : List ℕ) where
  pub takes_none : has_line (drop at text) ≡ false → TakesLine text at n r old old (Err BadLine)
  unfolding refusal_at
  takes_none e = record { answer = rw e; table = refl }

  module _ (x : LineRead) (l : LineAt text at x) (small : n ≤ max_vertices) where
    judged : table_refusal n r old x.tail x.head x.weight ≡ refusal_at text at n r old
    unfolding refusal_at
    judged =
        let f = first_line (drop at text) in
        rw (l.stands, l.tail, l.head, l.weight) (table_capped n r old f.tail f.head f.weight small)

    pub takes_refused : (e : Refusal) → refusal_number e ≡ table_refusal n r old x.tail x.head x.weight → TakesLine text at n r old old (Err e)
    takes_refused e f = record { answer = f ∙ judged; table = refl }

    module _ (e : 0 ≡ table_refusal n r old x.tail x.head x.weight) where
      pub takes_low : (x.tail < n) × (x.head < n) × (x.weight ≤ max_weight)
      takes_low = refusal_none n r old x.tail x.head x.weight small (sym e)

      pub takes_stored : TakesLine text at n r old (set old (cell x.tail x.head) x.weight) (Ok x.next)
      takes_stored =
          let low = takes_low in
          record {
            answer = e ∙ judged;
            table = record {
              stored = rw (uncapped x.tail (first_line (drop at text)).tail l.tail (omega (arith, low.0)), uncapped x.head (first_line (drop at text)).head l.head (omega (arith, low.1)), uncapped x.weight (first_line (drop at text)).weight l.weight (omega (arith, low.2)));
              rest = l.rest;
              forward = l.forward;
              within = l.within;
            };
          }
