-- What a valid board is, part by part and test by test; which fields of an instance the tests of records and cells look
-- at. Assumes nothing.
use mathlib.Core.Path.{◌≡◌, refl, ◌∙◌}
use mathlib.Core.Bool.{Bool, true, false, ◌&&◌}
use mathlib.Core.List.{List}
use Prim.Native.Nat.{ℕ, ◌≤◌, ◌<◌}
use native.Mathlib.Omega.{arith}
use lib.Dec.{ltb, leb}
use lib.ListN.{length, get_or}
use borrow.Author.Tests.{lt-ltb, lt-leb, le-leb, leb-true}
use Rattle.base.specs.Bounded.{all_below, any_below}
use Rattle.base.specs.Lists.{all_of}
use Rattle.base.proofs.BoolLaws.{and_left, and_right, and_both, cond_where, cond_true}
use Rattle.base.proofs.BoundedLaws.{all_at, all_intro, any_found, any_intro}
use Rattle.base.proofs.AllOfLaws.{all_of_eq}
use Rattle.instance.specs.Limits.{max_vertices, max_budget, free, banned, max_records, cells}
use Rattle.instance.specs.Instance.{Instance, with_budget, cell, weight, is_arc}
use Rattle.instance.specs.Cuts.{inside}
use Rattle.instance.specs.Matrix.{unmarked}
use Rattle.instance.specs.Valid.{cell_valid, header_valid, valid_instance}
use Rattle.instance.proofs.ArcLaws.{arc_ends}
use Rattle.instance.proofs.ValidLaws.{valid_some, valid_small, valid_root, valid_budget, valid_cells}
use Rattle.commands.specs.Model.{Replaced, old_mark, old_marks, old_budget, Model, opened}
use Rattle.commands.specs.Valid.{head_ok, record_ok, valid}

-- what a valid board is, part by part
pub record Valid (b : Model) : Type 0 where
  pub n_low : 1 ≤ b.instance.n
  pub n_high : b.instance.n ≤ max_vertices
  pub root_below : b.instance.root < b.instance.n
  pub budget_most : b.instance.budget ≤ max_budget
  pub cells_ok : all_below cells (cell_valid b.instance) ≡ true
  pub few : length b.history ≤ max_records
  pub records_ok : all_of (record_ok b.instance) b.history ≡ true

pub valid_fields : (b : Model) → valid b ≡ true → valid_instance b.instance ≡ true
unfolding valid
valid_fields b e = and_left (valid_instance b.instance) (leb (length b.history) max_records && all_of (record_ok b.instance) b.history) e

pub valid_parts : (b : Model) → valid b ≡ true → Valid b
unfolding valid
valid_parts b e =
    let s = b.instance in
    let F = leb (length b.history) max_records in
    let G = all_of (record_ok s) b.history in
    let i = valid_fields b e in
    let r = and_right (valid_instance s) (F && G) e in
    record {
      n_low = valid_some s i;
      n_high = valid_small s i;
      root_below = valid_root s i;
      budget_most = valid_budget s i;
      cells_ok = valid_cells s i;
      few = leb-true (length b.history) max_records (and_left F G r);
      records_ok = and_right F G r;
    }

pub parts_valid : (b : Model) → Valid b → valid b ≡ true
unfolding valid valid_instance header_valid
parts_valid b v =
    simp (
      le-leb _ _ v.n_low,
      le-leb _ _ v.n_high,
      lt-ltb _ _ v.root_below,
      le-leb _ _ v.budget_most,
      v.cells_ok,
      le-leb _ _ v.few,
      v.records_ok,
    )

pub opened_valid : (s : Instance) → valid_instance s ≡ true → valid (opened s) ≡ true
unfolding valid opened all_of
opened_valid s e = rw e

-- WHAT THE TESTS LOOK AT
-- arcs and records are judged by vertices, root and weights alone
pub record_ok_of : (s : Instance) (r : Replaced) → record_ok (unmarked s.n s.root s.weights) r ≡ record_ok s r
unfolding record_ok head_ok is_arc weight unmarked
record_ok_of s (old_mark t h m) = refl
record_ok_of s (old_marks t c ms) = refl
record_ok_of s (old_budget v) = refl

pub records_ok_of : (s : Instance) (rs : List Replaced) → all_of (record_ok (unmarked s.n s.root s.weights)) rs ≡ all_of (record_ok s) rs
records_ok_of s rs = all_of_eq (record_ok (unmarked s.n s.root s.weights)) (record_ok s) (record_ok_of s) rs

-- cells are judged without the budget
pub cells_valid_of : (s : Instance) (v : ℕ) → all_below cells (cell_valid (with_budget v s)) ≡ all_below cells (cell_valid s)
unfolding cell_valid
cells_valid_of s v = refl

-- a record of a valid board names a cell of the arrays
pub record_cell : (s : Instance) (t h m : ℕ) → s.n ≤ max_vertices → record_ok s (old_mark t h m) ≡ true → cell t h < cells
unfolding record_ok
record_cell s t h m l e = let k = arc_ends s t h (and_left (is_arc s t h) (leb m banned) e) in omega arith

-- a record of several arcs: it names one at least, each that it names is an arc, and what it restores is in range
module _ (s : Instance) (t c : ℕ) (ms : List ℕ) where
  abbrev pub ok_at : ℕ → Bool
  ok_at h = head_ok s t c (get_or ms h free) h

  pub record NamesArcs : Type 0 where
    pub some : (h : ℕ) × (h < max_vertices) × (inside c h ≡ true)
    pub arcs : (h : ℕ) → h < max_vertices → inside c h ≡ true → is_arc s t h ≡ true
    pub low : (h : ℕ) → h < max_vertices → inside c h ≡ true → get_or ms h free ≤ banned

  pub record_arcs : record_ok s (old_marks t c ms) ≡ true → NamesArcs
  unfolding record_ok head_ok
  record_arcs e =
      let all = and_right (any_below max_vertices (inside c)) (all_below max_vertices ok_at) e in
      let here : (h : ℕ) → h < max_vertices → inside c h ≡ true → is_arc s t h && leb (get_or ms h free) banned ≡ true =
      λ h l i. rw i at (all_at max_vertices ok_at h l all) in
      record {
        some = any_found max_vertices (inside c) (and_left (any_below max_vertices (inside c)) (all_below max_vertices ok_at) e);
        arcs = λ h l i. and_left (is_arc s t h) (leb (get_or ms h free) banned) (here h l i);
        low = λ h l i. leb-true (get_or ms h free) banned (and_right (is_arc s t h) (leb (get_or ms h free) banned) (here h l i));
      }

  pub arcs_record : NamesArcs → record_ok s (old_marks t c ms) ≡ true
  unfolding record_ok head_ok
  arcs_record a =
      and_both (any_below max_vertices (inside c)) (all_below max_vertices ok_at)
      (any_intro max_vertices (inside c) a.some.0 a.some.1 a.some.2)
      (all_intro max_vertices ok_at
      (λ h l. cond_where (inside c h) (is_arc s t h && leb (get_or ms h free) banned) true true
      (λ i. and_both (is_arc s t h) (leb (get_or ms h free) banned) (a.arcs h l i) (le-leb (get_or ms h free) banned (a.low h l i))) ∙ cond_true (inside c h)))

  -- the tail of such a record is a vertex
  pub record_tail : NamesArcs → t < s.n
  record_tail a = (arc_ends s t a.some.0 (a.arcs a.some.0 a.some.1 a.some.2)).tail_below

-- THE TESTS ONE AFTER THE OTHER: header, cells, count, records
pub header_n_high : (n r v : ℕ) → header_valid n r v ≡ true → n ≤ max_vertices
unfolding header_valid
header_n_high n r v e =
    let A = leb 1 n in
    let B = leb n max_vertices in
    leb-true n max_vertices (and_right A B (and_left (A && B) (ltb r n && leb v max_budget) e))

module _ (b : Model) where
  abbrev header : Bool
  header = header_valid b.instance.n b.instance.root b.instance.budget

  abbrev cells_all : Bool
  cells_all = all_below cells (cell_valid b.instance)

  pub header_invalid : header ≡ false → false ≡ valid b
  unfolding valid valid_instance
  header_invalid e = rw e

  pub cell_invalid : header ≡ true → cells_all ≡ false → false ≡ valid b
  unfolding valid valid_instance
  cell_invalid h e = rw (h, e)

  pub count_invalid : header ≡ true → cells_all ≡ true → max_records < length b.history → false ≡ valid b
  unfolding valid valid_instance
  count_invalid h c l = rw (h, c, lt-leb (length b.history) max_records l)

  pub only_records : header ≡ true → cells_all ≡ true → length b.history ≤ max_records → all_of (record_ok b.instance) b.history ≡ valid b
  unfolding valid valid_instance
  only_records h c l = rw (h, c, le-leb (length b.history) max_records l)
