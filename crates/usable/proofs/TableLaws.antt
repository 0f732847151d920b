-- Laws of tables of arcs: adding an arborescence; and a table with nothing in it, which is right where there is no
-- arborescence. Assumes nothing.
use mathlib.Core.Path.{◌≡◌, refl, sym, ◌∙◌}
use mathlib.Core.Bool.{false, ◌&&◌, not, cond}
use mathlib.Core.List.{List}
use mathlib.Core.Logic.{◌≢◌}
use Prim.Native.Nat.{ℕ, ◌+◌, ◌/◌, ◌%◌, ◌≤◌, ◌<◌}
use native.Mathlib.Omega.{arith}
use native.Mathlib.Decide.{ℕ_discrete}
use lib.Dec.{ltb, eqb}
use lib.ListN.{length, get_or, set, length-set, replicate, get_or-replicate}
use lib.Seq.{get_or-set_same, get_or-set_other}
use borrow.Author.Tests.{lt-ltb, le-ltb, eq-eqb, ne_eqb}
use Rattle.base.proofs.BoolLaws.{and_false_right}
use Rattle.base.proofs.FillingLaws.{ltb_more}
use Rattle.instance.specs.Limits.{max_vertices, cells}
use Rattle.instance.specs.Instance.{cell}
use Rattle.instance.specs.Arborescence.{parent, uses}
use Rattle.instance.specs.Cuts.{Cut, NoEntry}
use Rattle.instance.specs.Matrix.{matrix_instance, unmarked}
use Rattle.theory.proofs.FitLaws.{fits_arborescence}
use Rattle.theory.proofs.Duality.{no_entry}
use Rattle.theory.proofs.Usable.{usable_none}
use Rattle.theory.proofs.MatrixInstances.{matrix_instance_arborescence}
use Rattle.usable.specs.Table.{is_used, UsableTable, in_tree, TreeAdded}

-- ADDING AN ARBORESCENCE
module _ (root : ℕ) (ps : List ℕ) where
  -- one head more changes its own cells alone, and the root's not even
  more_other : (v t h : ℕ) → h ≢ v → in_tree (v + 1) root ps t h ≡ in_tree v root ps t h
  unfolding in_tree
  more_other v t h e = rw (ltb_more v h e)

  more_root : (v t h : ℕ) → v ≡ root → in_tree (v + 1) root ps t h ≡ in_tree v root ps t h
  unfolding in_tree
  more_root v t h e = at (ℕ_discrete h v)
    where
      at : Dec (h ≡ v) → (ltb h (v + 1) && not (eqb h root)) && uses ps t h ≡ (ltb h v && not (eqb h root)) && uses ps t h
      at (no z) = rw (ltb_more v h z)
      at (yes z) = rw (eq-eqb h root (z ∙ e), and_false_right (ltb h (v + 1)) false refl, and_false_right (ltb h v) false refl)

  more_own : (v t : ℕ) → v ≢ root → in_tree (v + 1) root ps t v ≡ eqb (parent ps v) t
  unfolding in_tree uses
  more_own v t e = rw (lt-ltb v (v + 1) (omega arith), ne_eqb v root e)

  before_own : (v t : ℕ) → in_tree v root ps t v ≡ false
  unfolding in_tree
  before_own v t = rw (le-ltb v v (omega arith))

module _ (root : ℕ) (ps before : List ℕ) where
  pub add_none : TreeAdded ps 0 root before before
  unfolding in_tree
  add_none = record { size = refl; at = λ i l. rw (le-ltb (i % 32) 0 (omega arith)) }

  pub add_root : (v : ℕ) (after : List ℕ) → v ≡ root → TreeAdded ps v root before after → TreeAdded ps (v + 1) root before after
  add_root v after e k = record { size = k.size; at = λ i l. rw (more_root root ps v (i / 32) (i % 32) e) (k.at i l) }

  pub add_more : (v p : ℕ) (after : List ℕ) → v ≢ root → p ≡ parent ps v → p < max_vertices → v < max_vertices → length before ≡ cells → TreeAdded ps v root before after
      → TreeAdded ps (v + 1) root before (set after (cell p v) 1)
  add_more v p after e q l m size k = record { size = simp length-set k.size; at = λ i b. cases i b (ℕ_discrete i (cell p v)) }
    where
      there : length after ≡ cells
      there = k.size ∙ size

      other : (i : ℕ) → i < cells → i ≢ cell p v → Dec (i % 32 ≡ v) → get_or after i 0 ≡ cond (in_tree (v + 1) root ps (i / 32) (i % 32)) 1 (get_or before i 0)
      other i b ne (no z) = rw (more_other root ps v (i / 32) (i % 32) z) (k.at i b)
      other i b ne (yes z) =
          let apart : parent ps v ≢ i / 32 = λ w. ne (omega arith) in
          let was : get_or after i 0 ≡ get_or before i 0 = k.at i b ∙ rw (z, before_own root ps v (i / 32)) in
          was ∙ rw (z, more_own root ps v (i / 32) e, ne_eqb (parent ps v) (i / 32) apart)

      cases : (i : ℕ) → i < cells → Dec (i ≡ cell p v) → get_or (set after (cell p v) 1) i 0 ≡ cond (in_tree (v + 1) root ps (i / 32) (i % 32)) 1 (get_or before i 0)
      cases i b (yes z) =
          let d : cell p v / 32 ≡ p = omega arith in
          let g : cell p v % 32 ≡ v = omega arith in
          rw (z, get_or-set_same after (cell p v) 1 0 (omega arith), d, g, more_own root ps v p e, eq-eqb (parent ps v) p (sym q))
      cases i b (no z) = rw (get_or-set_other after (cell p v) i 1 0 z) (other i b z (ℕ_discrete (i % 32) v))

-- NO ARC ENTERS SOME SET, so that no arborescence fits and no arc is usable
pub shut_table : (n root b : ℕ) (m : List ℕ) → n ≤ max_vertices → (c : Cut) → NoEntry (unmarked n root m) c → UsableTable (matrix_instance n root b m) (replicate cells 0)
shut_table n root b m small c e =
    let s = matrix_instance n root b m in
    record {
      exact =
          λ t h l k.
          let z : is_used (replicate cells 0) t h ≡ false = rw (get_or-replicate {A = ℕ} cells (cell t h) 0 0 (omega arith)) in
          z
          ∙ sym
          ((usable_none s t h).1
          (λ ps f. absurd (no_entry (unmarked n root m) ps ((matrix_instance_arborescence n root b m ps).0 (fits_arborescence s ps f)) c e)));
    }
