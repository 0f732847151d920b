-- Remaining arcs, arborescences and their totals. Assumes nothing: these are definitions.
use Rattle.std.specs.Prelude.{Bool, true, ◌&&◌, ◌||◌, not, cond, List, ℕ, zero, suc, eqb, length, get_or}
use Rattle.base.specs.Bounded.{all_below, any_below, sum_below}
use Rattle.instance.specs.Limits.{pinned, banned, no_parent}
use Rattle.instance.specs.Instance.{Instance, weight, mark, is_arc}

unfoldable pub is_pinned : Instance → (tail head : ℕ) → Bool
is_pinned s t h = is_arc s t h && eqb (mark s t h) pinned

-- an arc into head from another tail is pinned
unfoldable pub other_pinned : Instance → (tail head : ℕ) → Bool
other_pinned s t h = any_below s.n (λ g. not (eqb g t) && is_pinned s g h)

-- A remaining arc (document 01: a remaining link) is "not banned, and not entering a position that has a different
-- pinned feeder. Two pins into one position therefore leave it with none."
unfoldable pub remaining : Instance → (tail head : ℕ) → Bool
remaining s t h = is_arc s t h && (not (eqb (mark s t h) banned) && not (other_pinned s t h))

-- P holds of an arc, if it remains; and of every remaining arc
unfoldable pub if_remaining : Instance → (P : (tail head : ℕ) → Bool) → (tail head : ℕ) → Bool
if_remaining s P t h = cond (remaining s t h) (P t h) true

unfoldable pub each_remaining : Instance → (P : (tail head : ℕ) → Bool) → Bool
each_remaining s P = all_below s.n (λ h. all_below s.n (λ t. if_remaining s P t h))

-- A list of parents (document 01: a feeder list) has the tail of the arc into each vertex, and 255 at the root.
abbrev pub parent : (parents : List ℕ) → (v : ℕ) → ℕ
parent ps v = get_or ps v no_parent

-- the root is met after at most so many steps from v to its parent
unfoldable pub reaches : (steps : ℕ) → (root : ℕ) → (parents : List ℕ) → (v : ℕ) → Bool
reaches zero r ps v = eqb v r
reaches (suc k) r ps v = eqb v r || reaches k r ps (parent ps v)

unfoldable pub parent_ok : Instance → (parents : List ℕ) → (v : ℕ) → Bool
parent_ok s ps v = cond (eqb v s.root) (eqb (parent ps v) no_parent) (remaining s (parent ps v) v && reaches s.n s.root ps v)

-- An arborescence (document 01: a feed tree) "picks one remaining link into each position except the root, so that
-- every position is reached from the root".
unfoldable pub is_arborescence : Instance → (parents : List ℕ) → Bool
is_arborescence s ps = eqb (length ps) s.n && all_below s.n (parent_ok s ps)

-- "Its total is the sum of its prices."
unfoldable pub total : Instance → (parents : List ℕ) → ℕ
total s ps = sum_below s.n (λ v. cond (eqb v s.root) 0 (weight s (parent ps v) v))

unfoldable pub uses : (parents : List ℕ) → (tail head : ℕ) → Bool
uses ps t h = eqb (parent ps h) t
