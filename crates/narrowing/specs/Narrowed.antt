-- The search for the first cheapest arborescence: vertices are settled upwards, each with the least parent that a
-- cheapest arborescence can have there beside those settled before. A test on arcs, `keep`, narrows down what such
-- arborescences may still use. Assumes nothing: these are definitions.
use Rattle.std.specs.Prelude.{◌≡◌, Bool, true, false, ◌&&◌, not, cond, List, ℕ, ◌≤◌, ◌<◌, eqb}
use Rattle.base.specs.Lists.{any_of}
use Rattle.instance.specs.Instance.{Instance}
use Rattle.instance.specs.Arborescence.{parent, is_arborescence, total}
use Rattle.instance.specs.Cuts.{Cut, enters}

-- an arborescence of total w
pub record OfTotal (s : Instance) (w : ℕ) (parents : List ℕ) : Type 0 where
  pub arborescence : is_arborescence s parents ≡ true
  pub attained : total s parents ≡ w

-- the same parents below v
abbrev pub Agree : (v : ℕ) → (ps qs : List ℕ) → Type 0
Agree v ps qs = (u : ℕ) → u < v → parent ps u ≡ parent qs u

-- each arc is admissible: it passes the test
abbrev pub Admissible : Instance → (keep : (tail head : ℕ) → Bool) → (parents : List ℕ) → Type 0
Admissible s keep ps = (v : ℕ) → v < s.n → eqb v s.root ≡ false → keep (parent ps v) v ≡ true

-- WHAT IS SETTLED BELOW v, where w is the cheapest total: an arborescence ps of that total, which no other that is as
-- cheap comes before at a vertex below v; and a test that those of them pass that begin like ps, and that no
-- arborescence passes that begins otherwise
pub record Narrowed (s : Instance) (w v : ℕ) (keep : (tail head : ℕ) → Bool) (ps : List ℕ) : Type 0 where
  pub tree : OfTotal s w ps
  pub tree_admissible : Admissible s keep ps
  pub keeps : (qs : List ℕ) → OfTotal s w qs → Agree v ps qs → Admissible s keep qs
  pub agrees : (qs : List ℕ) → is_arborescence s qs ≡ true → Admissible s keep qs → Agree v ps qs
  pub least : (u : ℕ) → u < v → (qs : List ℕ) → OfTotal s w qs → Agree u ps qs → parent ps u ≤ parent qs u

-- while v is being settled: no tail below t can be had
abbrev pub NoneBelow : (s : Instance) → (w v : ℕ) → (ps : List ℕ) → (t : ℕ) → Type 0
NoneBelow s w v ps t = (qs : List ℕ) → OfTotal s w qs → Agree v ps qs → t ≤ parent qs v

-- the arc from t to v cannot be had
abbrev pub Refuted : (s : Instance) → (w v : ℕ) → (ps : List ℕ) → (t : ℕ) → Type 0
Refuted s w v ps t = (qs : List ℕ) → OfTotal s w qs → Agree v ps qs → parent qs v ≡ t → ⊥

-- THE ARCS THAT STAY where the arc from t to v is fixed: into v no other; and elsewhere none that enters a cut which
-- that arc enters
unfoldable pub share_cut : List Cut → (t v g h : ℕ) → Bool
share_cut cs t v g h = any_of (λ c. enters c.set t v && enters c.set g h) cs

unfoldable pub stays_beside : List Cut → (t v g h : ℕ) → Bool
stays_beside cs t v g h = cond (eqb h v) (eqb g t) (not (share_cut cs t v g h))

-- a test with that arc fixed: it lets nothing more pass, and all that stays
pub record Fixed (n : ℕ) (cs : List Cut) (keep keep' : (tail head : ℕ) → Bool) (t v : ℕ) : Type 0 where
  pub less : (g h : ℕ) → h < n → keep' g h ≡ true → keep g h ≡ true
  pub only : (g : ℕ) → keep' g v ≡ true → g ≡ t
  pub stays : (g h : ℕ) → h < n → keep g h ≡ true → stays_beside cs t v g h ≡ true → keep' g h ≡ true
