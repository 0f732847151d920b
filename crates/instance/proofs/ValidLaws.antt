-- What a valid instance holds: its ranges, each cell's weight, and the weight and the mark of each arc; a cell as a
-- program reads it. Assumes nothing.
use mathlib.Core.Path.{◌≡◌, refl}
use mathlib.Core.Bool.{Bool, true, false, ◌&&◌, not}
use mathlib.Core.Logic.{⊎_elim}
use Prim.Native.Nat.{ℕ, ◌/◌, ◌%◌, ◌≤◌, ◌<◌}
use native.Mathlib.Omega.{arith}
use lib.Dec.{ltb, leb, eqb}
use lib.ListN.{length, get_or}
use borrow.Author.Tests.{ltb-true, leb-true, eqb-true, eqb-false, not-true}
use Rattle.base.specs.Bounded.{all_below}
use Rattle.base.proofs.BoolLaws.{test, and_left, and_right}
use Rattle.base.proofs.BoundedLaws.{all_at}
use Rattle.base.proofs.ListLaws.{default}
use Rattle.instance.specs.Limits.{max_vertices, max_weight, max_budget, no_arc, free, banned, cells}
use Rattle.instance.specs.Instance.{Instance, cell, weight_at, mark_at, weight, mark, can_be_arc, is_arc}
use Rattle.instance.specs.Valid.{cell_ok, cell_valid, header_valid, valid_instance}
use Rattle.instance.proofs.ArcLaws.{ends}

pub weight_fits : (w m : ℕ) → cell_ok w m ≡ true → w ≤ no_arc
unfolding cell_ok
weight_fits w m e =
    ⊎_elim (λ (b : leb w max_weight ≡ true). let l = leb-true w max_weight b in omega arith)
    (λ (b : leb w max_weight ≡ false).
    let z = eqb-true w no_arc (and_left (eqb w no_arc) (eqb m free) (rw b at e)) in
    omega arith)
    (test (leb w max_weight))

module _ (s : Instance) (v : valid_instance s ≡ true) where
  header : header_valid s.n s.root s.budget ≡ true
  unfolding valid_instance
  header = and_left (header_valid s.n s.root s.budget) (all_below cells (cell_valid s)) v

  pub valid_some : 1 ≤ s.n
  unfolding header_valid
  valid_some =
      leb-true 1 s.n
      (and_left (leb 1 s.n) (leb s.n max_vertices)
      (and_left (leb 1 s.n && leb s.n max_vertices) (ltb s.root s.n && leb s.budget max_budget) header))

  pub valid_small : s.n ≤ max_vertices
  unfolding header_valid
  valid_small =
      leb-true s.n max_vertices
      (and_right (leb 1 s.n) (leb s.n max_vertices)
      (and_left (leb 1 s.n && leb s.n max_vertices) (ltb s.root s.n && leb s.budget max_budget) header))

  bounds : ltb s.root s.n && leb s.budget max_budget ≡ true
  unfolding header_valid
  bounds = and_right (leb 1 s.n && leb s.n max_vertices) (ltb s.root s.n && leb s.budget max_budget) header

  pub valid_root : s.root < s.n
  valid_root = ltb-true s.root s.n (and_left (ltb s.root s.n) (leb s.budget max_budget) bounds)

  pub valid_budget : s.budget ≤ max_budget
  valid_budget = leb-true s.budget max_budget (and_right (ltb s.root s.n) (leb s.budget max_budget) bounds)

  pub valid_cells : all_below cells (cell_valid s) ≡ true
  unfolding valid_instance
  valid_cells = and_right (header_valid s.n s.root s.budget) (all_below cells (cell_valid s)) v

-- AN ARC of a valid instance has its weight and its mark in range
pub record InRange (w m : ℕ) : Type 0 where
  pub weight_most : leb w max_weight ≡ true
  pub mark_most : leb m banned ≡ true

cell_in_range : (w m : ℕ) → cell_ok w m ≡ true → (w ≡ no_arc → ⊥) → InRange w m
unfolding cell_ok
cell_in_range w m e k = go (leb w max_weight) refl
  where
    go : (b : Bool) → leb w max_weight ≡ b → InRange w m
    go true q = record { weight_most = q; mark_most = rw q at e }
    go false q = absurd (k (eqb-true w no_arc (and_left (eqb w no_arc) (eqb m free) (rw q at e))))

pub arc_in_range :
    (s : Instance) (t h : ℕ) → s.n ≤ max_vertices → all_below cells (cell_valid s) ≡ true → is_arc s t h ≡ true →
    InRange (weight s t h) (mark s t h)
unfolding is_arc cell_valid weight mark
arc_in_range s t h l a e =
    let C = can_be_arc s.n s.root t h in
    let Q = eqb (weight_at s (cell t h)) no_arc in
    let c = and_left C (not Q) e in
    let k = ends s.n s.root t h c in
    let q : cell t h / 32 ≡ t = omega arith in
    let r : cell t h % 32 ≡ h = omega arith in
    let v = rw (q, r, c) at (all_at cells (cell_valid s) (cell t h) (omega arith) a) in
    cell_in_range (weight_at s (cell t h)) (mark_at s (cell t h)) v (eqb-false (weight_at s (cell t h)) no_arc (not-true Q (and_right C (not Q) e)))

-- A CELL AS A PROGRAM READS IT
pub cell_read :
    (s : Instance) (i : ℕ) → i < length s.weights → can_be_arc s.n s.root (i / 32) (i % 32) ≡ true →
    cell_ok (get_or s.weights i 0) (mark_at s i) ≡ cell_valid s i
unfolding cell_valid
cell_read s i l e = rw (e, default s.weights i 0 no_arc l)

pub cell_passed : (s : Instance) (i : ℕ) → can_be_arc s.n s.root (i / 32) (i % 32) ≡ false → true ≡ cell_valid s i
unfolding cell_valid
cell_passed s i e = rw e
