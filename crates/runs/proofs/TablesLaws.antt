-- The two tables of a tree, filled vertex by vertex. The path from a vertex to one that is done is its own edge and the
-- path from its parent, since nothing that is done is below it. Assumes nothing.
use mathlib.Core.Path.{◌≡◌, refl, sym, ap, ◌∙◌, subst}
use mathlib.Core.Bool.{Bool, true, false, cond, not}
use mathlib.Core.List.{List}
use mathlib.Core.Logic.{◌≢◌}
use Prim.Native.Nat.{ℕ, max, ◌+◌, ◌*◌, ◌≤◌, ◌<◌}
use native.Mathlib.Omega.{arith}
use native.Mathlib.Decide.{ℕ_discrete}
use lib.Dec.{eqb}
use lib.ListN.{length, get_or, set, take, length-set}
use lib.Seq.{get_or-set_same, get_or-set_other}
use borrow.Author.Tests.{ne_eqb, not-true}
use Rattle.base.proofs.BoolLaws.{not_both, is_false, same_test, and_left, and_right}
use Rattle.instance.specs.Limits.{max_vertices, cells}
use Rattle.instance.specs.Instance.{cell}
use Rattle.instance.specs.Arborescence.{parent, reaches}
use Rattle.paths.proofs.PathLaws.{descends_here, descends_up, descends_on, no_return}
use Rattle.paths.proofs.TreeLaws.{parent_read, rooted_tail}
use Rattle.spanning.specs.KeyTables.{key_at, between_key, greatest_between}
use Rattle.spanning.proofs.ExtremeLaws.{greatest_same, greatest_one, greatest_zero}
use Rattle.spanning.proofs.CrossingLaws.{descends_tested}
use Rattle.runs.specs.Tables.{Tree, is_done, is_ready, ExtendsBelow, ExtendsBetween}

-- A TREE AS A PROGRAM READS IT
module _ (n : ℕ) (ps : List ℕ) (t : Tree n ps) where
  pub parent_at : (v : ℕ) → v < n → get_or ps v 0 ≡ parent (take n ps) v
  parent_at v vb = parent_read n v ps t.places.small t.places.size vb

  pub tail_at : (v : ℕ) → v < n → v ≢ 0 → get_or ps v 0 < n
  tail_at v vb d = rooted_tail n 0 v ps t.places.small t.places.size t.rooted vb d

  pub tail_apart : (v : ℕ) → v < n → v ≢ 0 → parent (take n ps) v ≢ v
  tail_apart v vb d z = no_return n 0 (take n ps) t.rooted t.places.small v vb d (descends_here (take n ps) v (parent (take n ps) v) z)

  -- ONE STEP UP
  module _ (v : ℕ) (vb : v < n) (va : v ≢ 0) where
    abbrev p : ℕ
    p = parent (take n ps) v

    pb : p < n
    pb = rw (← parent_at v vb) (tail_at v vb va)

    pub reach_own : reaches n v (take n ps) v ≡ true
    reach_own = descends_tested n 0 (take n ps) t.rooted t.places.small v v vb vb (descends_here (take n ps) v v refl)

    pub reach_parent : reaches n v (take n ps) p ≡ false
    reach_parent = is_false (reaches n v (take n ps) p) (λ r. no_return n 0 (take n ps) t.rooted t.places.small v vb va (n, r))

    pub reach_step : (y : ℕ) → y < n → y ≢ v → reaches n y (take n ps) v ≡ reaches n y (take n ps) p
    reach_step y yb d =
        same_test (reaches n y (take n ps) v) (reaches n y (take n ps) p)
        (λ r. descends_tested n 0 (take n ps) t.rooted t.places.small y p yb pb (descends_on (take n ps) y v (λ z. d (sym z)) (n, r)))
        (λ r. descends_tested n 0 (take n ps) t.rooted t.places.small y v yb vb (descends_up (take n ps) y v (n, r)))

    -- what lies between v and a vertex that is not below it
    pub between_step : (ks : List ℕ) (x : ℕ) → reaches n v (take n ps) x ≡ false
        → greatest_between ks n (take n ps) v x ≡ max (key_at ks p v) (greatest_between ks n (take n ps) p x)
    unfolding greatest_between between_key
    between_step ks x o =
        greatest_one n v (between_key ks n (take n ps) v x) (between_key ks n (take n ps) p x) (key_at ks p v) vb (rw (ne_eqb v 0 va, reach_own, o))
        (rw (ne_eqb v 0 va, reach_parent, o)) (λ y yb d. rw (reach_step y yb d))

pub between_turned : (ks : List ℕ) (n : ℕ) (ps : List ℕ) (x y : ℕ) → greatest_between ks n ps x y ≡ greatest_between ks n ps y x
unfolding greatest_between between_key
between_turned ks n ps x y = greatest_same n (between_key ks n ps x y) (between_key ks n ps y x) (λ v _. at v (reaches n v ps x) (reaches n v ps y))
  where
    at : (v : ℕ) (a b : Bool) → cond (eqb v 0) 0 (cond a (cond b 0 (key_at ks (parent ps v) v)) (cond b (key_at ks (parent ps v) v) 0))
        ≡ cond (eqb v 0) 0 (cond b (cond a 0 (key_at ks (parent ps v) v)) (cond a (key_at ks (parent ps v) v) 0))
    at v true true = refl
    at v true false = refl
    at v false true = refl
    at v false false = refl

pub between_same : (ks : List ℕ) (n : ℕ) (ps : List ℕ) (x : ℕ) → greatest_between ks n ps x x ≡ 0
unfolding greatest_between between_key
between_same ks n ps x = greatest_zero n (between_key ks n ps x x) (λ v _. at v (eqb v 0) (reaches n v ps x))
  where
    at : (v : ℕ) (o a : Bool) → cond o 0 (cond a (cond a 0 (key_at ks (parent ps v) v)) (cond a (key_at ks (parent ps v) v) 0)) ≡ 0
    at v true a = refl
    at v false true = refl
    at v false false = refl

-- A VERTEX THAT IS READY
module _ (ps : List ℕ) (ds : List Bool) where
  pub ready_by : (v : ℕ) → is_done ds v ≡ false → is_done ds (get_or ps v 0) ≡ is_ready ps ds v
  unfolding is_ready
  ready_by v e = rw e

  pub ready_parts : (v : ℕ) → is_ready ps ds v ≡ true → (is_done ds v ≡ false) × (is_done ds (get_or ps v 0) ≡ true)
  unfolding is_ready
  ready_parts v e =
      (not-true (is_done ds v) (and_left (not (is_done ds v)) (is_done ds (get_or ps v 0)) e), and_right (not (is_done ds v)) (is_done ds (get_or ps v 0)) e)

  -- one vertex more that is not ready
  pub ready_more : (v : ℕ) → ((w : ℕ) → w < v → w ≢ 0 → is_ready ps ds w ≡ false) → is_ready ps ds v ≡ false → (w : ℕ) → w < v + 1 → w ≢ 0 → is_ready ps ds w ≡ false
  ready_more v h e w l d = at (ℕ_discrete w v)
    where
      at : Dec (w ≡ v) → is_ready ps ds w ≡ false
      at (yes z) = rw z e
      at (no z) = h w (omega arith) d

-- THE COLUMN OF THE FIRST TABLE
pub record Column (v tail bound : ℕ) (old new : List Bool) : Type 0 where
  pub size : length new ≡ cells
  pub done : (y : ℕ) → y < bound → get_or new (32 * y + v) false ≡ get_or old (32 * y + tail) false
  pub others : (y x : ℕ) → x < max_vertices → x ≢ v → get_or new (32 * y + x) false ≡ get_or old (32 * y + x) false
  pub later : (y x : ℕ) → x < max_vertices → bound ≤ y → get_or new (32 * y + x) false ≡ get_or old (32 * y + x) false

pub column_first : (v tail : ℕ) (old : List Bool) → length old ≡ cells → Column v tail 0 old old
column_first v tail old e = record { size = e; done = λ y l. absurd (omega arith); others = λ y x _ _. refl; later = λ y x _ _. refl }

module _ (v tail b : ℕ) (old new : List Bool) (c : Column v tail b old new) (vb : v < max_vertices) (tb : tail < max_vertices) (bb : b < max_vertices) where
  pub column_more : Column v tail (b + 1) old (set new (32 * b + v) (get_or new (32 * b + tail) false))
  column_more =
      let s = c.size in
      record {
        size = simp length-set c.size;
        done = λ y l. at y l (ℕ_discrete y b);
        others = λ y x xb d. get_or-set_other new (32 * b + v) (32 * y + x) _ false (λ z. d (omega arith)) ∙ c.others y x xb d;
        later = λ y x xb l. get_or-set_other new (32 * b + v) (32 * y + x) _ false (λ z. omega arith) ∙ c.later y x xb (omega arith);
      }
    where
      at : (y : ℕ) → y < b + 1 → Dec (y ≡ b) → get_or (set new (32 * b + v) (get_or new (32 * b + tail) false)) (32 * y + v) false ≡ get_or old (32 * y + tail) false
      at y l (yes z) = let s = c.size in rw z (get_or-set_same new (32 * b + v) (get_or new (32 * b + tail) false) false (omega arith) ∙ c.later b tail tb (omega arith))
      at y l (no z) = get_or-set_other new (32 * b + v) (32 * y + v) _ false (λ q. z (omega arith)) ∙ c.done y (omega arith)

pub column_end : (n v tail b : ℕ) (old new : List Bool) → Column v tail b old new → n ≤ b → v < n → n ≤ max_vertices → ExtendsBelow n v tail old (set new (32 * v + v) true)
column_end n v tail b old new c l vb small =
    let s = c.size in
    record {
      size = simp length-set c.size;
      column = λ y yb d. get_or-set_other new (32 * v + v) (32 * y + v) true false (λ z. d (omega arith)) ∙ c.done y (omega arith);
      own = get_or-set_same new (32 * v + v) true false (omega arith);
      others = λ y x xb d. get_or-set_other new (32 * v + v) (32 * y + x) true false (λ z. d (omega arith)) ∙ c.others y x xb d;
    }

-- THE ROW AND THE COLUMN OF THE SECOND TABLE
module _ (ds : List Bool) (v tail key : ℕ) (old : List ℕ) where
  pub row_first : length old ≡ cells → ExtendsBetween ds v tail key 0 old old
  row_first e = record { size = e; row = λ x l. absurd (omega arith); column = λ x l. absurd (omega arith); own = refl; others = λ x y _ _ _ _. refl }

  module _ (b : ℕ) (new : List ℕ) (e : ExtendsBetween ds v tail key b old new) where
    pub row_skip : is_done ds b ≡ false → ExtendsBetween ds v tail key (b + 1) old new
    row_skip o =
        record {
          size = e.size;
          row = λ x l i. e.row x (less x l i) i;
          column = λ x l i. e.column x (less x l i) i;
          own = e.own;
          others = e.others;
        }
      where
        less : (x : ℕ) → x < b + 1 → is_done ds x ≡ true → x < b
        less x l i = at (ℕ_discrete x b)
          where
            at : Dec (x ≡ b) → x < b
            at (yes z) = absurd (not_both (is_done ds b) (subst (λ (y : ℕ). is_done ds y ≡ true) z i) o)
            at (no z) = omega arith

    module _ (vb : v < max_vertices) (tb : tail < max_vertices) (bb : b < max_vertices) (tv : tail ≢ v) (bv : b ≢ v) (g : ℕ) (ge : g ≡ max key (get_or new (cell tail b) 0)) where
      abbrev one : List ℕ
      one = set new (32 * v + b) g

      abbrev two : List ℕ
      two = set one (32 * b + v) g

      g_is : g ≡ max key (get_or old (cell tail b) 0)
      g_is = ge ∙ ap (λ (k : ℕ). max key k) (e.others tail b tb bb tv bv)

      pub row_more : ExtendsBetween ds v tail key (b + 1) old two
      row_more =
          let s = e.size in
          record {
            size = simp length-set e.size;
            row = λ x l i. row_at x l i (ℕ_discrete x b);
            column = λ x l i. column_at x l i (ℕ_discrete x b);
            own =
                get_or-set_other one (32 * b + v) (cell v v) g 0 (λ z. bv (omega arith)) ∙ get_or-set_other new (32 * v + b) (cell v v) g 0 (λ z. bv (omega arith)) ∙ e.own;
            others =
                λ x y xb yb xv yv.
                get_or-set_other one (32 * b + v) (cell x y) g 0 (λ z. yv (omega arith)) ∙ get_or-set_other new (32 * v + b) (cell x y) g 0 (λ z. xv (omega arith)) ∙ e.others x y xb yb xv yv;
          }
        where
          row_at : (x : ℕ) → x < b + 1 → is_done ds x ≡ true → Dec (x ≡ b) → get_or two (cell v x) 0 ≡ max key (get_or old (cell tail x) 0)
          row_at x l i (yes z) =
              let s = e.size in
              rw z (get_or-set_other one (32 * b + v) (cell v b) g 0 (λ q. bv (omega arith)) ∙ get_or-set_same new (32 * v + b) g 0 (omega arith) ∙ g_is)
          row_at x l i (no z) =
              get_or-set_other one (32 * b + v) (cell v x) g 0 (λ q. bv (omega arith)) ∙ get_or-set_other new (32 * v + b) (cell v x) g 0 (λ q. z (omega arith)) ∙ e.row x (omega arith) i

          column_at : (x : ℕ) → x < b + 1 → is_done ds x ≡ true → Dec (x ≡ b) → get_or two (cell x v) 0 ≡ max key (get_or old (cell tail x) 0)
          column_at x l i (yes z) = let s = e.size in rw z (get_or-set_same one (32 * b + v) g 0 (simp length-set (omega arith)) ∙ g_is)
          column_at x l i (no z) =
              get_or-set_other one (32 * b + v) (cell x v) g 0 (λ q. z (omega arith)) ∙ get_or-set_other new (32 * v + b) (cell x v) g 0 (λ q. far x l q) ∙ e.column x (omega arith) i
            where
              far : (x : ℕ) → x < b + 1 → cell x v ≡ 32 * v + b → ⊥
              far x l q = bv (omega arith)
