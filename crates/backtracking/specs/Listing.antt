-- The walk as the program makes it: step by step, with the buffer in it. That it is the walk of `enumeration` is a law
-- (BufferLaws). Assumes nothing: these are definitions.
use Rattle.std.specs.Prelude.{◌≡◌, Bool, true, false, cond, List, [], ◌∷◌, ℕ, ◌+◌, ◌-◌, ◌*◌, ◌≤◌, ◌<◌, leb, eqb, length, get_or}
use Rattle.std.proofs.Math.Seq.{paste}
use Rattle.base.specs.Bounded.{sum_below}
use Rattle.base.specs.Lists.{in_front}
use Rattle.instance.specs.Limits.{max_vertices, no_arc, max_tries}
use Rattle.instance.specs.Instance.{Instance, cell}
use Rattle.instance.specs.Arborescence.{parent}
use Rattle.instance.specs.Matrix.{MatrixOk}
use Rattle.enumeration.specs.Events.{Event, tried, listed}
use Rattle.enumeration.specs.Walk.{walked, joined}
use Rattle.enumeration.specs.declared.Ended.{Ended}
use Rattle.enumeration.specs.declared.Ended.TheVariants.{Complete, AtLimit, NoRoom}
use Rattle.backtracking.specs.declared.Progress.{Progress}

abbrev pub is_complete : Ended → Bool
is_complete Complete = true
is_complete AtLimit = false
is_complete NoRoom = false

-- where the walk stands: the tries that are left, how many trees are stored, what ended it, and the buffer
pub record Place : Type 0 where
  pub left : ℕ
  pub trees : ℕ
  pub ended : Ended
  pub out : List ℕ

abbrev pub place : (left trees : ℕ) → Ended → (out : List ℕ) → Place
place l k e out = record { left = l; trees = k; ended = e; out = out }

abbrev pub place_of : Progress → (out : List ℕ) → Place
place_of p out = place p.left p.trees p.ended out

-- nothing happens any more once the walk has ended
unfoldable pub step : (n : ℕ) → Event → Place → Place
step n tried w =
    cond (is_complete w.ended) (cond (eqb w.left 0) (place 0 w.trees AtLimit w.out) (place (w.left - 1) w.trees Complete w.out)) w
step n (listed ps) w =
    cond (is_complete w.ended)
    (cond (leb (w.trees * n + n) (length w.out)) (place w.left (w.trees + 1) Complete (paste w.out (w.trees * n) ps n)) (place w.left w.trees NoRoom w.out)) w

unfoldable pub scan : (n : ℕ) → List Event → Place → Place
scan n [] w = w
scan n (e ∷ es) w = scan n es (step n e w)

-- the walk goes on from p and the buffer old, over these events, to r and the buffer new; between two trees there is a
-- try, so the trees and the tries that are left pass the greatest limit by one at most
pub record Walks (n : ℕ) (es : List Event) (p : Progress) (old new : List ℕ) (r : Progress) : Type 0 where
  pub scanned : place_of r new ≡ scan n es (place_of p old)
  pub counted : r.trees + r.left ≤ max_tries + 1

-- what is asked where vertex v is to be settled: a matrix with no loop, and the sum of the arcs into those below v
pub record Settling (m parents : List ℕ) (n root v sum : ℕ) : Type 0 where
  pub matrix_ok : MatrixOk n root m
  pub loopless : (u : ℕ) → u < n → get_or m (cell u u) no_arc ≡ no_arc
  pub places : length parents ≡ max_vertices
  pub up_to : v ≤ n
  pub summed : sum ≡ sum_below v (λ u. cond (eqb u root) 0 (get_or m (cell (parent parents u) u) no_arc))

-- what listing the trees of an instance gives, all of it equations with the walk that the limit and the buffer's length
-- decide. "Later bytes keep their contents."
pub record ListsTrees (s : Instance) (limit : ℕ) (old new : List ℕ) (r : Progress) : Type 0 where
  pub ended : r.ended ≡ (walked s limit (length old)).ended
  pub trees : r.trees ≡ length (walked s limit (length old)).trees
  pub tries : limit - r.left ≡ (walked s limit (length old)).tries
  pub left : r.left ≤ limit
  pub buffer : new ≡ in_front (joined (walked s limit (length old)).trees) old
