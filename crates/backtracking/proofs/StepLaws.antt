-- Laws of the walk step by step: events one after the other, a walk that has ended, one tail after the other, and what
-- each way through the program does. Assumes nothing.
use mathlib.Core.Path.{◌≡◌, refl, sym, ap, ◌∙◌}
use mathlib.Core.Bool.{true, false, cond, true≢false}
use mathlib.Core.List.{List, [], ◌∷◌, ◌++◌}
use mathlib.Core.Logic.{◌≢◌}
use Prim.Native.Nat.{ℕ, suc, ◌+◌, ◌-◌, ◌*◌, ◌≤◌, ◌<◌}
use native.Mathlib.Numerals.{add-one}
use native.Mathlib.Omega.{arith}
use lib.ListN.{length}
use lib.Seq.{paste}
use borrow.Author.Tests.{ne_eqb, eq-eqb, le-leb, lt-leb}
use Rattle.base.specs.Lists.{join_below}
use Rattle.base.proofs.JoinLaws.{join_more}
use Rattle.instance.specs.Limits.{no_parent}
use Rattle.instance.specs.Instance.{Instance}
use Rattle.instance.specs.Arborescence.{remaining, reaches, total}
use Rattle.enumeration.specs.Events.{Event, tried, listed, events_from, tail_events}
use Rattle.enumeration.specs.declared.Ended.{Ended}
use Rattle.enumeration.specs.declared.Ended.TheVariants.{Complete, AtLimit, NoRoom}
use Rattle.backtracking.specs.Listing.{is_complete, Place, place, step, scan}

-- ONE EVENT AFTER THE OTHER
pub scan_append : (n : ℕ) (xs ys : List Event) (w : Place) → scan n (xs ++ ys) w ≡ scan n ys (scan n xs w)
unfolding scan
scan_append n [] ys w = refl
scan_append n (e ∷ xs) ys w = scan_append n xs ys (step n e w)

scan_cons : (n : ℕ) (e : Event) (es : List Event) (w : Place) → scan n (e ∷ es) w ≡ scan n es (step n e w)
unfolding scan
scan_cons n e es w = refl

pub scan_none : (n : ℕ) (w : Place) → scan n [] w ≡ w
unfolding scan
scan_none n w = refl

scan_one : (n : ℕ) (e : Event) (w : Place) → scan n (e ∷ []) w ≡ step n e w
unfolding scan
scan_one n e w = refl

-- A WALK THAT HAS ENDED stays where it is
step_ended : (n : ℕ) (e : Event) (w : Place) → is_complete w.ended ≡ false → step n e w ≡ w
unfolding step
step_ended n tried w h = rw h
step_ended n (listed ps) w h = rw h

pub scan_ended : (n : ℕ) (es : List Event) (w : Place) → is_complete w.ended ≡ false → scan n es w ≡ w
unfolding scan
scan_ended n [] w h = refl
scan_ended n (e ∷ es) w h = rw (step_ended n e w h) (scan_ended n es w h)

-- ONE TRY
module _ (n left trees : ℕ) (e : Ended) (out : List ℕ) (on : is_complete e ≡ true) where
  step_limit : left ≡ 0 → step n tried (place left trees e out) ≡ place 0 trees AtLimit out
  unfolding step
  step_limit z = rw (on, eq-eqb left 0 z)

  pub step_try : left ≢ 0 → step n tried (place left trees e out) ≡ place (left - 1) trees Complete out
  unfolding step
  step_try z = rw (on, ne_eqb left 0 z)

  -- ONE TREE
  pub tree_stored : (ps : List ℕ) → trees * n + n ≤ length out
      → scan n (listed ps ∷ []) (place left trees e out) ≡ place left (trees + 1) Complete (paste out (trees * n) ps n)
  unfolding scan step
  tree_stored ps r = rw (on, le-leb (trees * n + n) (length out) r)

  pub tree_without_room : (ps : List ℕ) → length out < trees * n + n → scan n (listed ps ∷ []) (place left trees e out) ≡ place left trees NoRoom out
  unfolding scan step
  tree_without_room ps r = rw (on, lt-leb (trees * n + n) (length out) r)

-- a walk that nothing has ended
pub complete_is : (e : Ended) → is_complete e ≡ true → e ≡ Complete
complete_is Complete q = refl
complete_is AtLimit q = absurd (true≢false (sym q))
complete_is NoRoom q = absurd (true≢false (sym q))

-- SETTLING A VERTEX: all are settled, the root, one tail after the other
module _ (v : ℕ) (s : Instance) (ps : List ℕ) (w : Place) where
  pub leaf_over : v ≡ s.n → s.budget < total s ps → scan s.n (events_from (s.n - v) v s ps) w ≡ w
  unfolding events_from
  leaf_over h b = let z : s.n - v ≡ 0 = omega arith in rw (z, lt-leb (total s ps) s.budget b) (scan_none s.n w)

  pub leaf_in : v ≡ s.n → total s ps ≤ s.budget → scan s.n (events_from (s.n - v) v s ps) w ≡ scan s.n (listed ps ∷ []) w
  unfolding events_from
  leaf_in h b = let z : s.n - v ≡ 0 = omega arith in rw (z, le-leb (total s ps) s.budget b)

  pub at_root : v < s.n → v ≡ s.root
      → scan s.n (events_from (s.n - v) v s ps) w ≡ scan s.n (events_from (s.n - (v + 1)) (v + 1) s (ps ++ (no_parent ∷ []))) w
  unfolding events_from
  at_root h r =
      let z : s.n - v ≡ suc (s.n - (v + 1)) = omega arith in
      rw (z, add-one v, eq-eqb v s.root r)

  pub by_tails : v < s.n → v ≢ s.root
      → scan s.n (events_from (s.n - v) v s ps) w ≡ scan s.n (join_below s.n (tail_events (s.n - (v + 1)) v s ps)) w
  unfolding events_from
  by_tails h r =
      let z : s.n - v ≡ suc (s.n - (v + 1)) = omega arith in
      rw (z, ne_eqb v s.root r)

pub no_tails : (k v : ℕ) (s : Instance) (ps : List ℕ) (w : Place) → scan s.n (join_below 0 (tail_events k v s ps)) w ≡ w
unfolding join_below
no_tails k v s ps w = scan_none s.n w

pub one_tail : (k v t : ℕ) (s : Instance) (ps : List ℕ) (w : Place)
    → scan s.n (join_below (t + 1) (tail_events k v s ps)) w ≡ scan s.n (tail_events k v s ps t) (scan s.n (join_below t (tail_events k v s ps)) w)
one_tail k v t s ps w =
    ap (λ (es : List Event). scan s.n es w) (join_more (tail_events k v s ps) t) ∙ scan_append s.n (join_below t (tail_events k v s ps)) (tail_events k v s ps t) w

-- TRYING A TAIL: no arc, the limit, a cycle, the next vertex
module _ (v t : ℕ) (s : Instance) (ps : List ℕ) where
  abbrev tail : List Event
  tail = tail_events (s.n - (v + 1)) v s ps t

  pub no_arc_there : (w : Place) → remaining s t v ≡ false → scan s.n tail w ≡ w
  no_arc_there w e = rw e (scan_none s.n w)

  module _ (left trees : ℕ) (e : Ended) (out : List ℕ) (arc : remaining s t v ≡ true) (on : is_complete e ≡ true) where
    pub limit_met : left ≡ 0 → scan s.n tail (place left trees e out) ≡ place 0 trees AtLimit out
    limit_met z =
        let rest : List Event = cond (reaches s.n v ps t) [] (events_from (s.n - (v + 1)) (suc v) s (ps ++ (t ∷ []))) in
        rw arc
        (scan_cons s.n tried rest (place left trees e out) ∙ ap (scan s.n rest) (step_limit s.n left trees e out on z)
        ∙ scan_ended s.n rest (place 0 trees AtLimit out) refl)

    pub cycle_met : left ≢ 0 → reaches s.n v ps t ≡ true → scan s.n tail (place left trees e out) ≡ place (left - 1) trees Complete out
    cycle_met z r = rw (arc, r) (scan_one s.n tried (place left trees e out) ∙ step_try s.n left trees e out on z)

    pub goes_on : left ≢ 0 → reaches s.n v ps t ≡ false
        → scan s.n tail (place left trees e out)
        ≡ scan s.n (events_from (s.n - (v + 1)) (v + 1) s (ps ++ (t ∷ []))) (place (left - 1) trees Complete out)
    goes_on z r =
        let rest : List Event = events_from (s.n - (v + 1)) (suc v) s (ps ++ (t ∷ [])) in
        let at : Place = place (left - 1) trees Complete out in
        rw (arc, r)
        (scan_cons s.n tried rest (place left trees e out) ∙ ap (scan s.n rest) (step_try s.n left trees e out on z)
        ∙ ap (λ (u : ℕ). scan s.n (events_from (s.n - (v + 1)) u s (ps ++ (t ∷ []))) at) (sym (add-one v)))

    -- all are settled, and over the budget
    pub over_met : left ≢ 0 → reaches s.n v ps t ≡ false → v + 1 ≡ s.n → s.budget < total s (ps ++ (t ∷ []))
        → scan s.n tail (place left trees e out) ≡ place (left - 1) trees Complete out
    over_met z r l b = goes_on z r ∙ leaf_over (v + 1) s (ps ++ (t ∷ [])) (place (left - 1) trees Complete out) l b
