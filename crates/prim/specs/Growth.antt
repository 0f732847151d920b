-- The steps of the search, on a table of keys. Assumes nothing: these are definitions.
use Rattle.std.specs.Prelude.{◌≡◌, Bool, true, false, cond, List, ℕ, Option, None, Some, ◌+◌, ◌≤◌, ◌<◌, ltb, length, get_or, take}
use Rattle.instance.specs.Limits.{max_vertices}
use Rattle.spanning.specs.Graph.{Graph, is_pinned}
use Rattle.spanning.specs.SpanningTrees.{directed}
use Rattle.spanning.specs.Spans.{Spans}
use Rattle.spanning.specs.Keys.{no_key}
use Rattle.spanning.specs.KeyTables.{key_at, KeysOf}
use Rattle.spanning.specs.Growth.{Grown}

-- in the tree so far
abbrev pub is_settled : (settled : List Bool) → (v : ℕ) → Bool
is_settled fs v = get_or fs v false

-- the key of the edge from a vertex outside to its parent; a settled vertex has more than any key
unfoldable pub outside_key : (keys : List ℕ) → (settled : List Bool) → (parents : List ℕ) → (v : ℕ) → ℕ
outside_key ks fs ps v = cond (is_settled fs v) (no_key + 1) (key_at ks (get_or ps v 0) v)

-- vertices outside have parents
abbrev pub TailsBelow : (n : ℕ) → (settled : List Bool) → (parents : List ℕ) → Type 0
TailsBelow n fs ps = (v : ℕ) → v < n → is_settled fs v ≡ false → get_or ps v 0 < n

-- the first vertices, up to a bound, have no keys below this one; a vertex that has it, or none where it is past all
abbrev pub HasLeast : (keys : List ℕ) → (settled : List Bool) → (parents : List ℕ) → (bound least : ℕ) → (best : Option ℕ) → Type 0
HasLeast ks fs ps bound least None = no_key < least
HasLeast ks fs ps bound least (Some v) = (least ≤ no_key) × (v < bound) × (outside_key ks fs ps v ≡ least)

pub record PickedBelow (keys : List ℕ) (settled : List Bool) (parents : List ℕ) (bound : ℕ) (best : Option ℕ) (least : ℕ) : Type 0 where
  pub most : least ≤ no_key + 1
  pub least_of : (w : ℕ) → w < bound → least ≤ outside_key keys settled parents w
  pub held : HasLeast keys settled parents bound least best

-- the vertex outside that is nearest, or that none is outside
abbrev pub Picked : (keys : List ℕ) → (settled : List Bool) → (parents : List ℕ) → (n : ℕ) → (best : Option ℕ) → Type 0
Picked ks fs ps n best = (least : ℕ) × PickedBelow ks fs ps n best least

-- w is outside and nearer to v than to its parent
unfoldable pub is_closer : (keys : List ℕ) → (settled : List Bool) → (parents : List ℕ) → (v w : ℕ) → Bool
is_closer ks fs ps v w = cond (is_settled fs w) false (ltb (key_at ks v w) (key_at ks (get_or ps w 0) w))

-- these vertices, up to a bound, have v for their parent, and the others what they had
pub record JoinedBelow (keys : List ℕ) (settled : List Bool) (v bound : ℕ) (old new : List ℕ) : Type 0 where
  pub size : length new ≡ max_vertices
  pub before : (w : ℕ) → w < bound → get_or new w 0 ≡ cond (is_closer keys settled old v w) v (get_or old w 0)
  pub after : (w : ℕ) → bound ≤ w → get_or new w 0 ≡ get_or old w 0

abbrev pub Joined : (keys : List ℕ) → (settled : List Bool) → (n v : ℕ) → (old new : List ℕ) → Type 0
Joined ks fs n v old new = JoinedBelow ks fs v n old new

-- a grown tree with every vertex in it
pub record Whole (g : Graph) (parents : List ℕ) : Type 0 where
  pub inside : ℕ → Bool
  pub grown : Grown g inside parents
  pub all : (v : ℕ) → v < g.n → inside v ≡ true

-- a table that no graph with a spanning tree has for its keys
abbrev pub NoneSpans : (keys : List ℕ) → (n : ℕ) → Type 0
NoneSpans ks n = (g : Graph) → KeysOf g n ks → (qs : List ℕ) → Spans (directed g 0) (is_pinned g) qs → ⊥

pub record GrownTree (keys : List ℕ) (n : ℕ) (parents : List ℕ) : Type 0 where
  pub places : length parents ≡ max_vertices
  pub tree : (g : Graph) → KeysOf g n keys → Whole g (take n parents)

-- such a tree of each graph with these keys, or none of them has a spanning tree
abbrev pub Grows : (keys : List ℕ) → (n : ℕ) → Option (List ℕ) → Type 0
Grows ks n None = NoneSpans ks n
Grows ks n (Some ps) = GrownTree ks n ps
