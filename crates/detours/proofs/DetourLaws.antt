-- The exchange of one or two arcs that a detour stands for. Assumes nothing.
use mathlib.Core.Path.{◌≡◌}
use mathlib.Core.Bool.{Bool, true}
use mathlib.Core.List.{List}
use mathlib.Core.Logic.{◌≢◌}
use Prim.Native.Nat.{ℕ, ◌+◌, ◌≤◌, ◌<◌}
use native.Mathlib.Omega.{arith}
use lib.ListN.{length, get_or, set, take}
use borrow.Author.Tests.{eq-eqb, ne_eqb}
use Rattle.base.proofs.ListLaws.{default}
use Rattle.base.proofs.FillingLaws.{filled_none, filled_more}
use Rattle.instance.specs.Limits.{max_vertices, no_arc}
use Rattle.instance.specs.Instance.{Instance, cell, weight}
use Rattle.instance.specs.Arborescence.{remaining, parent, uses}
use Rattle.instance.specs.Matrix.{unmarked}
use Rattle.instance.proofs.MatrixLaws.{matrix_arc}
use Rattle.paths.specs.Paths.{Rooted, Descends, Avoids, OnPath, start, onward}
use Rattle.paths.specs.Tree.{MatrixTree}
use Rattle.paths.proofs.PathLaws.{descends_not, path_descends, root_avoids}
use Rattle.paths.proofs.ExchangeLaws.{exchange, exchange_total, exchange_uses, exchange_two, exchange_two_total, exchange_two_uses}
use Rattle.paths.proofs.TreeLaws.{tree_rooted}
use Rattle.detours.specs.Descendants.{Descendants}
use Rattle.detours.specs.Increases.{Increase, Increases}
use Rattle.detours.specs.Detours.{Detour, PathLeast, Detours}

module _ (ps table : List ℕ) (h t : ℕ) where
  pub path_none : PathLeast ps table t h no_arc
  path_none = record { at = λ l. absurd (omega arith) }

  pub path_take : (k d : ℕ) → OnPath ps t h k → k ≢ h → get_or table k 0 ≡ d → PathLeast ps table t h d
  path_take k d w e q = record { at = λ l. (k, w, e, q) }

-- whatever lies on the path from a vertex to h is a vertex
path_within : (n root : ℕ) (ps : List ℕ) (h t v : ℕ) → Rooted n root ps → n ≤ max_vertices → h < n → h ≢ root → t < n → Descends ps h t → OnPath ps t h v → v < n
path_within n root ps h t v k small l e b u start = b
path_within n root ps h t v k small l e b u (onward {v = w} way ne) =
    let inside = path_within n root ps h t w k small l e b u way in
    k.below w inside (ne_eqb w root (λ z. descends_not ps h root (rw z at (path_descends ps h t w way u)) (root_avoids n root ps k small h l e)))

-- THE EXCHANGES
module _ (n root : ℕ) (m ps : List ℕ) (k : MatrixTree n root m ps) (h t : ℕ) where
  abbrev s : Instance
  s = unmarked n root m

  abbrev tree : List ℕ
  tree = take n ps

  pub detour_one : Avoids tree h t → Detour s tree t h 0
  unfolding unmarked uses
  detour_one out =
      record {
        exchange =
            λ r _.
            let below = k.matrix_ok.root_below in
            let e = exchange_total s tree below k.arborescence t h r out in
            record {
              made = set tree h t;
              arborescence = exchange s tree below k.arborescence t h r out;
              used = eq-eqb (parent (set tree h t) h) t (exchange_uses s tree below k.arborescence t h r out);
              cost = omega arith;
            };
      }

  module _ (inside : h < n) (no_root : h ≢ root) (t_inside : t < n) (below : List Bool) (b : Descendants tree n h below) (under : Descends tree h t) where
    -- the arc behind the increase at a vertex on the path
    record Step (v d : ℕ) : Type 0 where
      tail : ℕ
      out : Avoids tree h tail
      arc : remaining s tail v ≡ true
      cost : weight s tail v ≤ weight s (parent tree v) v + d

    step : (v d : ℕ) → OnPath tree t h v → v ≢ h → d < no_arc → Increase m tree below n v d → Step v d
    unfolding unmarked weight
    step v d way ne l i =
        let x = i.tail l in
        let root_in = tree_rooted n root m ps k in
        let small = k.matrix_ok.small in
        let v_in = path_within n root tree h t v root_in small inside no_root t_inside under way in
        let v_under = path_descends tree h t v way under in
        let v_root : v ≢ root = λ z. descends_not tree h root (rw z at v_under) (root_avoids n root tree root_in small h inside no_root) in
        let out = (b.at x.0 x.1).apart x.2 in
        let distinct : x.0 ≢ v = λ z. descends_not tree h v v_under (rw z at out) in
        let size = k.matrix_ok.size in
        let x_in = x.1 in
        let up_in = root_in.below v v_in (ne_eqb v root v_root) in
        let here = default m (cell x.0 v) 0 no_arc (omega arith) in
        let own = default m (cell (parent tree v) v) 0 no_arc (omega arith) in
        let there = x.3 in
        let most = x.4 in
        record {
          tail = x.0;
          out = out;
          arc = matrix_arc n root m x.0 v x_in v_in distinct v_root (λ z. omega arith);
          cost = omega arith;
        }

    pub detour_two : (table : List ℕ) (d : ℕ) → Increases m tree below n n table → PathLeast tree table t h d → Detour s tree t h d
    unfolding unmarked uses
    detour_two table d i p =
        record {
          exchange =
              λ r l.
              let v = p.at l in
              let v_in = path_within n root tree h t v.0 (tree_rooted n root m ps k) k.matrix_ok.small inside no_root t_inside under v.1 in
              let x = step v.0 d v.1 v.2 l (rw v.3 at (i.at v.0 v_in)) in
              let below_root = k.matrix_ok.root_below in
              let e = exchange_two_total s tree below_root k.arborescence t h x.tail v.0 r x.arc v.1 v.2 under x.out in
              let c = x.cost in
              record {
                made = set (set tree v.0 x.tail) h t;
                arborescence = exchange_two s tree below_root k.arborescence t h x.tail v.0 r x.arc v.1 v.2 under x.out;
                used =
                    eq-eqb (parent (set (set tree v.0 x.tail) h t) h) t
                    (exchange_two_uses s tree below_root k.arborescence t h x.tail v.0 r x.arc v.1 v.2 under x.out);
                cost = omega arith;
              };
        }

module _ (s : Instance) (ps : List ℕ) (h : ℕ) where
  pub detours_none : (table : List ℕ) → Detours s ps h 0 table
  detours_none table = record { at = filled_none (λ t d. Detour s ps t h d) table }

  pub detours_more : (table : List ℕ) (t d : ℕ) → t < length table → Detours s ps h t table → Detour s ps t h d → Detours s ps h (t + 1) (set table t d)
  detours_more table t d l i q = record { at = filled_more (λ u x. Detour s ps u h x) table t d l i.at q }
