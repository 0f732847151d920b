-- Trees against tries. Each tree comes after the try of its last arc, and no other tree comes between the two; so with
-- two vertices or more there are no more trees than tries, wherever the walk ends. One vertex alone has a tree and no
-- try. Assumes nothing.
use mathlib.Core.Path.{◌≡◌}
use mathlib.Core.Bool.{Bool, true, false, cond}
use mathlib.Core.List.{List, [], ◌∷◌, ◌++◌}
use mathlib.Core.Logic.{◌⊎◌, inl, inr, ◌≢◌}
use Prim.Native.Nat.{ℕ, zero, suc, ◌+◌, ◌≤◌}
use native.Mathlib.Omega.{arith}
use lib.Dec.{leb, eqb}
use lib.ListN.{length}
use borrow.Author.Tests.{eqb-true, eqb-false, ne_eqb}
use Rattle.base.specs.Lists.{join_below}
use Rattle.base.proofs.BoolLaws.{test}
use Rattle.instance.specs.Limits.{no_parent}
use Rattle.instance.specs.Instance.{Instance}
use Rattle.instance.specs.Arborescence.{remaining, reaches, total}
use Rattle.enumeration.specs.Events.{Event, tried, listed, events_from, tail_events, events}
use Rattle.enumeration.specs.Walk.{Walked}
use Rattle.enumeration.proofs.RunLaws.{Run, over, limited, a_try, a_tree, full}

-- at no place among the events have the trees come to more than the tries, and c
pub data Ahead : (c : ℕ) → List Event → Type 0 where
  none : {c : ℕ} → Ahead c []
  try_next : {c : ℕ} {es : List Event} → Ahead (suc c) es → Ahead c (tried ∷ es)
  tree_next : {c : ℕ} {ps : List ℕ} {es : List Event} → Ahead c es → Ahead (suc c) (listed ps ∷ es)

ahead_one : {c : ℕ} {es : List Event} → Ahead c es → Ahead (suc c) es
ahead_one none = none
ahead_one (try_next a) = try_next (ahead_one a)
ahead_one (tree_next a) = tree_next (ahead_one a)

ahead_more : (c : ℕ) {es : List Event} → Ahead 0 es → Ahead c es
ahead_more zero a = a
ahead_more (suc c) a = ahead_one (ahead_more c a)

ahead_append : {c : ℕ} {es fs : List Event} → Ahead c es → Ahead 0 fs → Ahead c (es ++ fs)
ahead_append {c} none b = ahead_more c b
ahead_append (try_next a) b = try_next (ahead_append a b)
ahead_append (tree_next a) b = tree_next (ahead_append a b)

ahead_join : (n : ℕ) (g : ℕ → List Event) → ((t : ℕ) → Ahead 0 (g t)) → Ahead 0 (join_below n g)
unfolding join_below
ahead_join zero g h = none
ahead_join (suc n) g h = ahead_append (ahead_join n g h) (h n)

ahead_leaf : (ps : List ℕ) (b : Bool) → Ahead 1 (cond b (listed ps ∷ []) [])
ahead_leaf ps true = tree_next none
ahead_leaf ps false = none

module _ (s : Instance) where
  -- the tries of one vertex make up for the trees behind them
  ahead_tails : (k v : ℕ) (ps : List ℕ) → ((qs : List ℕ) → Ahead 1 (events_from k (suc v) s qs)) → Ahead 0 (join_below s.n (tail_events k v s ps))
  ahead_tails k v ps ih = ahead_join s.n (tail_events k v s ps) (λ t. at t (remaining s t v) (reaches s.n v ps t))
    where
      at : (t : ℕ) (r c : Bool) → Ahead 0 (cond r (tried ∷ cond c [] (events_from k (suc v) s (ps ++ (t ∷ [])))) [])
      at t false c = none
      at t true true = try_next none
      at t true false = try_next (ih (ps ++ (t ∷ [])))

  -- so the trees are never more than one ahead
  pub ahead_events : (k v : ℕ) (ps : List ℕ) → Ahead 1 (events_from k v s ps)
  unfolding events_from
  ahead_events zero v ps = ahead_leaf ps (leb (total s ps) s.budget)
  ahead_events (suc k) v ps = at (eqb v s.root) (λ qs. ahead_events k (suc v) qs)
    where
      at : (b : Bool) → ((qs : List ℕ) → Ahead 1 (events_from k (suc v) s qs))
          → Ahead 1 (cond b (events_from k (suc v) s (ps ++ (no_parent ∷ []))) (join_below s.n (tail_events k v s ps)))
      at true ih = ih (ps ++ (no_parent ∷ []))
      at false ih = ahead_one (ahead_tails k v ps ih)

  -- and not at all where a vertex that is not the root comes first, or after the root
  other_first : (k v : ℕ) (ps : List ℕ) → v ≢ s.root → Ahead 0 (events_from (suc k) v s ps)
  unfolding events_from
  other_first k v ps d = rw (ne_eqb v s.root d) (ahead_tails k v ps (λ qs. ahead_events k (suc v) qs))

  root_first : (k v : ℕ) (ps : List ℕ) → eqb v s.root ≡ true → Ahead 0 (events_from (suc (suc k)) v s ps)
  unfolding events_from
  root_first k v ps e = let q = eqb-true v s.root e in rw e (other_first k (suc v) (ps ++ (no_parent ∷ [])) (omega arith))

  pub ahead_two : 2 ≤ s.n → Ahead 0 (events s)
  unfolding events
  ahead_two l = at s.n l (test (eqb 0 s.root))
    where
      at : (n : ℕ) → 2 ≤ n → (eqb 0 s.root ≡ true) ⊎ (eqb 0 s.root ≡ false) → Ahead 0 (events_from n 0 s [])
      at zero m e = absurd (omega arith)
      at (suc zero) m e = absurd (omega arith)
      at (suc (suc k)) m (inl e) = root_first k 0 [] e
      at (suc (suc k)) m (inr e) = other_first (suc k) 0 [] (eqb-false 0 s.root e)

-- THE WALK OVER SUCH EVENTS
pub run_ahead : {n c limit room : ℕ} {es : List Event} {w : Walked} → Ahead c es → Run n limit room es w → length w.trees ≤ w.tries + c
run_ahead a over = omega arith
run_ahead a limited = omega arith
run_ahead {c = c} (try_next a) (a_try r) = let h = run_ahead {c = suc c} a r in omega arith
run_ahead {c = zero} a (a_tree l r) = elim a [ ]
run_ahead {c = suc c} (tree_next a) (a_tree l r) = let h = run_ahead {c = c} a r in omega arith
run_ahead a (full l) = omega arith
