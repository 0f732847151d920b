-- The ways of judging an input: all of it, or its whole lines. Assumes nothing.
use mathlib.Core.Path.{◌≡◌, refl, sym, ap, ◌∙◌}
use mathlib.Core.Bool.{Bool, true, false, ◌&&◌, cond, true≢false}
use mathlib.Core.List.{List}
use Prim.Native.Nat.{ℕ, zero, suc, ◌+◌, ◌-◌, ◌≤◌, ◌<◌}
use native.Mathlib.Omega.{arith}
use native.Mathlib.Numerals.{add-one}
use lib.Dec.{ltb, eqb}
use lib.ListN.{length, get_or, take, length-take}
use borrow.Author.Tests.{eq-eqb, ne_eqb, lt-ltb, le-ltb}
use Rattle.base.specs.Bounded.{sum_below, count_below}
use Rattle.text.specs.Lines.{line_feed}
use Rattle.std.specs.Prelude.{Result, Ok, Err, MatchResult, is_ok, IsErrAnd}
use Rattle.price_list.specs.declared.list_refusal.Refused.{Refused}
use Rattle.instance.proofs.RefusalLaws.{not_0}
use Rattle.price_card.specs.ToCard.{CardMade, making_told, made, MakesCard}
use Rattle.price_card.proofs.ToCardLaws.{made_within}
use Rattle.print_card.specs.declared.judge.InputRefused.{InputRefused}
use Rattle.print_card.specs.declared.judge.InputRefused.TheVariants.{List as Listed}
use Rattle.print_card.specs.Judge.{Judged, judging_told, max_read, line_end, line_feeds, judged_part, judged, Judges}

pub taken_most : (k m : ℕ) (l : List ℕ) → k ≤ length l → length l ≡ m → length (take k l) ≤ m
taken_most k m l h e = let q = length-take k l in omega arith

-- THE LAST LINE FEED, from the end on
module _ (t : List ℕ) where
  end_step : (k : ℕ) → 0 < k → line_end k t ≡ cond (eqb (get_or t (k - 1) 0) line_feed) k (line_end (k - 1) t)
  unfolding line_end
  end_step zero h = absurd (omega arith)
  end_step (suc k) h = let e : suc k - 1 ≡ k = omega arith in rw e

  pub end_here : (k : ℕ) → 0 < k → get_or t (k - 1) 0 ≡ line_feed → line_end k t ≡ k
  end_here k h e = end_step k h ∙ rw (eq-eqb (get_or t (k - 1) 0) line_feed e)

  pub end_before : (k : ℕ) → 0 < k → (get_or t (k - 1) 0 ≡ line_feed → ⊥) → line_end k t ≡ line_end (k - 1) t
  end_before k h e = end_step k h ∙ rw (ne_eqb (get_or t (k - 1) 0) line_feed e)

  pub end_none : line_end 0 t ≡ 0
  unfolding line_end
  end_none = refl

  pub end_within : (k : ℕ) → line_end k t ≤ k
  unfolding line_end
  end_within zero = omega arith
  end_within (suc k) = by (eqb (get_or t k 0) line_feed) (end_within k)
    where
      by : (c : Bool) → line_end k t ≤ k → cond c (suc k) (line_end k t) ≤ suc k
      by true h = omega arith
      by false h = omega arith

  -- LINE FEEDS COUNTED, from the front on
  pub none_counted : line_feeds 0 t ≡ 0
  unfolding line_feeds count_below sum_below
  none_counted = refl

  pub count_step : (k : ℕ) → line_feeds (k + 1) t ≡ cond (eqb (get_or t k 0) line_feed) 1 0 + line_feeds k t
  unfolding line_feeds count_below sum_below
  count_step k = rw (add-one k)

  pub feeds_within : (k : ℕ) → line_feeds k t ≤ k
  unfolding line_feeds count_below sum_below
  feeds_within zero = omega arith
  feeds_within (suc k) = by (eqb (get_or t k 0) line_feed) (feeds_within k)
    where
      by : (c : Bool) → line_feeds k t ≤ k → cond c 1 0 + line_feeds k t ≤ suc k
      by true h = omega arith
      by false h = omega arith

  pub count_most : (c : Bool) → cond c 1 0 ≤ 1
  count_most true = omega arith
  count_most false = omega arith

-- THE WAYS
module _ (t : List ℕ) (n r b : ℕ) (old new : List ℕ) (m : CardMade) where
  abbrev as_made : Judged
  as_made = record { long = false; answer = m.answer; line = m.line; length = m.length }

  pub judged_whole : length t ≤ max_read → MakesCard t n r b old new m → Judges t n r b old new as_made
  unfolding judged judged_part
  judged_whole h x = let q = le-ltb max_read (length t) h in record { result = rw (q, ← x.result); card = λ e. rw q x.buffer }

  module _ (h : max_read < length t) (k : ℕ) (e : k ≡ line_end (length t) t) (y : MakesCard (take k t) n r b old new m) where
    x : MakesCard (take (line_end (length t) t) t) n r b old new m
    x = rw e at y

    more : ltb max_read (length t) ≡ true
    more = lt-ltb max_read (length t) h

    pub part_refused : (m.answer ≡ 0 → ⊥) → Judges t n r b old new as_made
    unfolding judged judged_part
    part_refused z = record { result = rw (more, ← x.result, ne_eqb m.answer 0 z); card = λ e. rw more x.buffer }

    pub part_accepted : m.answer ≡ 0 → (l : ℕ) → l ≡ line_feeds (length t) t → Judges t n r b old new (record { long = true; answer = 0; line = l + 1; length = 0 })
    unfolding judged judged_part
    part_accepted z l q =
        record { result = rw (more, ← x.result, eq-eqb m.answer 0 z, q); card = λ e. absurd (true≢false e) }

-- WHAT THE CALLS TELL
pub list_told : (m : Result ℕ Refused) (y : Result ℕ InputRefused) → MatchResult m (λ x. y ≡ Ok x) (λ e. IsErrAnd y (λ d. d ≡ Listed e))
    → judging_told y ≡ record { long = false; answer = (making_told m).answer; line = (making_told m).line; length = (making_told m).length }
list_told (Ok k) y p = ap judging_told p
list_told (Err e) (Ok k) p = absurd p
list_told (Err e) (Err d) p = ap (λ (x : InputRefused). judging_told (Err x)) p

pub made_ok : (m : Result ℕ Refused) → true ≡ is_ok m → (making_told m).answer ≡ 0
made_ok (Ok k) e = refl
made_ok (Err d) e = absurd (true≢false e)

pub made_err : (m : Result ℕ Refused) → false ≡ is_ok m → (making_told m).answer ≡ 0 → ⊥
made_err (Ok k) e = absurd (true≢false (sym e))
made_err (Err d) e = not_0 d.refusal

-- the card lies within the buffer
pub judged_within : (t : List ℕ) (n r b : ℕ) (old new : List ℕ) (j : Judged) → Judges t n r b old new j → j.long ≡ false → j.length ≤ length new
unfolding judged
judged_within t n r b old new j x q = by (ltb max_read (length t) && eqb m.answer 0) x.result
  where
    m : CardMade
    m = made (judged_part t) n r b (length old)

    by : (c : Bool)
        → j ≡ cond c (record { long = true; answer = 0; line = line_feeds (length t) t + 1; length = 0 }) (record { long = false; answer = m.answer; line = m.line; length = m.length })
        → j.length ≤ length new
    by true e = absurd (true≢false (sym (ap (λ (y : Judged). y.long) e) ∙ q))
    by false e =
        let y : MakesCard (judged_part t) n r b old new m = record { result = refl; buffer = rw e at (x.card q) } in
        let w = made_within (judged_part t) n r b old new m y in
        let z = ap (λ (y : Judged). y.length) e in
        omega arith
