-- Groups of vertices. Contraction keeps the vertices' numbers: each vertex has a label, the number of one vertex of its
-- group, and a contraction gives all vertices of a cycle of groups one label. Assumes nothing: these are definitions.
use Rattle.std.specs.Prelude.{◌≡◌, Bool, true, false, ◌&&◌, not, cond, List, ◌⊎◌, ◌≢◌, ℕ, ◌+◌, ◌≤◌, ◌<◌, eqb}
use Rattle.base.specs.Bounded.{count_below}
use Rattle.instance.specs.Limits.{max_vertices, no_arc, no_parent}
use Rattle.instance.specs.Cuts.{Cut, charged}

-- a vertex's label is a vertex that is its own label
pub record Labels (n root : ℕ) (label : ℕ → ℕ) : Type 0 where
  pub below : (v : ℕ) → v < n → label v < n
  pub self : (v : ℕ) → v < n → label (label v) ≡ label v
  pub root_below : root < n

-- the number of groups: of the vertices that are their own labels
abbrev pub groups : (n : ℕ) (label : ℕ → ℕ) → ℕ
groups n label = count_below n (λ v. eqb (label v) v)

-- g is the label of a group other than the root's
abbrev pub Group : (n root : ℕ) (label : ℕ → ℕ) → ℕ → Type 0
Group n root label g = (g < n) × (label g ≡ g) × (g ≢ label root)

-- each group other than the root's has chosen an arc of weight 0 that enters it, from tail g to head g
pub record Chosen (n root : ℕ) (w : ℕ → ℕ → ℕ) (label tail head : ℕ → ℕ) : Type 0 where
  pub head_below : (g : ℕ) → Group n root label g → head g < n
  pub head_in : (g : ℕ) → Group n root label g → label (head g) ≡ g
  pub tail_below : (g : ℕ) → Group n root label g → tail g < n
  pub tail_out : (g : ℕ) → Group n root label g → label (tail g) ≢ g
  pub tight : (g : ℕ) → Group n root label g → w (tail g) (head g) ≡ 0

-- h is met on the way from g by next
pub data Along (next : ℕ → ℕ) (h : ℕ) : ℕ → Type 0 where
  stop : {g : ℕ} → g ≡ h → Along next h g
  go : {g : ℕ} → Along next h (next g) → Along next h g

-- A cycle of chosen arcs: on tells its groups, c is one of them.
pub record Cycle (n root : ℕ) (w : ℕ → ℕ → ℕ) (label tail head : ℕ → ℕ) (on : ℕ → Bool) (c : ℕ) : Type 0 where
  pub root_off : on (label root) ≡ false
  pub c_on : on c ≡ true
  pub head_below : (g : ℕ) → on g ≡ true → head g < n
  pub head_in : (g : ℕ) → on g ≡ true → label (head g) ≡ g
  pub tail_below : (g : ℕ) → on g ≡ true → tail g < n
  pub tail_on : (g : ℕ) → on g ≡ true → on (label (tail g)) ≡ true
  pub tail_out : (g : ℕ) → on g ≡ true → label (tail g) ≢ g
  pub tight : (g : ℕ) → on g ≡ true → w (tail g) (head g) ≡ 0
  pub round : (g h : ℕ) → on g ≡ true → on h ≡ true → Along (λ x. label (tail x)) h g

-- CONTRACTION: the groups of a cycle become one, with the label c
abbrev pub contracted : (label : ℕ → ℕ) (on : ℕ → Bool) (c : ℕ) → ℕ → ℕ
contracted label on c v = cond (on (label v)) c (label v)

-- EXPANSION: each group of the cycle takes its own arc again, all but the group gj, which the arc chosen outside
-- enters: exactly one arc of the cycle is dropped
abbrev pub expanded : (label tail head : ℕ → ℕ) (on : ℕ → Bool) (gj : ℕ) (parent : ℕ → ℕ) → ℕ → ℕ
expanded label tail head on gj parent v =
    cond (on (label v) && (not (eqb (label v) gj) && eqb (head (label v)) v)) (tail (label v)) (parent v)

-- where there is no cycle: each group's own arc, at the vertex that it enters
abbrev pub own_arcs : (root : ℕ) (label tail head : ℕ → ℕ) → ℕ → ℕ
own_arcs root label tail head v = cond (not (eqb (label v) (label root)) && eqb (head (label v)) v) (tail (label v)) no_parent

-- LOWERING: the weights w' are w less what the cuts charge; a cell that holds no arc, or lies beyond n, is as it was
pub record Lowered (n : ℕ) (w w' : ℕ → ℕ → ℕ) (cs : List Cut) : Type 0 where
  pub paid : (t h : ℕ) → t < n → h < n → w t h < no_arc → w' t h + charged cs t h ≡ w t h
  pub same : (t h : ℕ) → h < max_vertices → (n ≤ t) ⊎ ((n ≤ h) ⊎ (no_arc ≤ w t h)) → w' t h ≡ w t h
