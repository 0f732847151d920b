-- What happens on the walk that lists every arborescence within marks and budget (02, A7), in order, and how often it
-- tries an arc. Assumes nothing: these are definitions.
use Rattle.std.specs.Prelude.{cond, List, [], ◌∷◌, ◌++◌, ℕ, zero, suc, leb, eqb}
use Rattle.base.specs.Bounded.{sum_below}
use Rattle.base.specs.Lists.{join_below}
use Rattle.instance.specs.Limits.{no_parent}
use Rattle.instance.specs.Instance.{Instance}
use Rattle.instance.specs.Arborescence.{remaining, reaches, total}

-- an arc into the next vertex is tried; or every vertex has its parent, and the list of parents is listed
pub data Event : Type 0 where
  tried : Event
  listed : (parents : List ℕ) → Event

-- One tail t of vertex v, behind a prefix (02: beginning), which has the parents of the vertices below v: "one for each
-- remaining link into the next position, for each ring-free beginning, whether or not the link closes a ring". It does
-- where the path from t comes to v, as far as the prefix has parents; otherwise it goes on by what is next.
abbrev pub one_tail : Instance → (v : ℕ) → (prefix : List ℕ) → (next : ℕ → List Event) → (t : ℕ) → List Event
one_tail s v ps next t = cond (remaining s t v) (tried ∷ cond (reaches s.n v ps t) [] (next t)) []

-- "The walk settles positions upwards: settling a position hands over to trying its feeders, each trial to the next
-- position", with left vertices that have no parent yet. The root takes no try, wherever it stands. "The budget cuts no
-- walk short": it judges whole lists alone, and it is the plain budget, not 02's larger one of A2.
unfoldable pub events_from : (left v : ℕ) → Instance → (prefix : List ℕ) → List Event
events_from zero v s ps = cond (leb (total s ps) s.budget) (listed ps ∷ []) []
events_from (suc k) v s ps =
    let next : ℕ → List Event = λ p. events_from k (suc v) s (ps ++ (p ∷ [])) in
    cond (eqb v s.root) (next no_parent) (join_below s.n (one_tail s v ps next))

-- the part of one tail, with left vertices behind v
abbrev pub tail_events : (left v : ℕ) → Instance → (prefix : List ℕ) → (t : ℕ) → List Event
tail_events k v s ps = one_tail s v ps (λ p. events_from k (suc v) s (ps ++ (p ∷ [])))

unfoldable pub events : Instance → List Event
events s = events_from s.n 0 s []

-- THE WALK'S OWN COUNT: "one for each remaining link into the next position, for each ring-free beginning, whether or
-- not the link closes a ring". It knows no budget, no limit and no buffer.
unfoldable pub tries_from : (left v : ℕ) → Instance → (prefix : List ℕ) → ℕ
tries_from zero v s ps = 0
tries_from (suc k) v s ps =
    let next : ℕ → ℕ = λ p. tries_from k (suc v) s (ps ++ (p ∷ [])) in
    cond (eqb v s.root) (next no_parent) (sum_below s.n (λ t. cond (remaining s t v) (suc (cond (reaches s.n v ps t) 0 (next t))) 0))

unfoldable pub tries : Instance → ℕ
tries s = tries_from s.n 0 s []
