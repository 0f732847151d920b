-- Instances whose weights are a matrix of what remains of another, or of some of it: their remaining arcs,
-- arborescences, totals and cuts. The algorithm works on such a matrix. Assumes nothing.
use mathlib.Core.Path.{◌≡◌, refl, sym, ap, ◌∙◌}
use mathlib.Core.Bool.{Bool, true, false, ◌&&◌, not, cond, and-true}
use mathlib.Core.List.{List}
use mathlib.Core.Logic.{◌↔◌}
use Prim.Native.Nat.{ℕ, ◌+◌, ◌*◌, ◌/◌, ◌%◌, ◌≤◌, ◌<◌}
use native.Mathlib.Omega.{arith}
use lib.Dec.{eqb}
use borrow.Author.Tests.{eq-eqb}
use Rattle.base.proofs.BoolLaws.{not_both, is_true, same_test, and_left, and_right, and_both}
use Rattle.base.proofs.BoundedLaws.{sum_eq}
use Rattle.base.proofs.ListLaws.{get_d_tabulate}
use Rattle.instance.specs.Limits.{no_arc, cells}
use Rattle.instance.specs.Instance.{Instance, weight_at, weight, can_be_arc, is_arc}
use Rattle.instance.specs.Arborescence.{remaining, parent, is_arborescence, total}
use Rattle.instance.specs.Cuts.{Cut, Proves, NoEntry}
use Rattle.instance.specs.Matrix.{matrix_where, matrix, unmarked}
use Rattle.theory.specs.Usable.{restricted}
use Rattle.instance.proofs.ArcLaws.{arc_ends, arc_weight, remaining_arc, remaining_ends, unmarked_remaining}
use Rattle.instance.proofs.ArborescenceLaws.{parents_size, root_parent, joined, make_arborescence}
use Rattle.theory.proofs.SameArcs.{SameArcs, same_back, same_arborescence, same_total, same_proves, same_no_entry}

module _ (s : Instance) (q : ℕ → ℕ → Bool) (small : s.n ≤ 32) where
  pub restricted_weight : (t h : ℕ) → t < 32 → h < 32 → weight (restricted s q) t h ≡ cond (remaining s t h && q t h) (weight s t h) no_arc
  unfolding weight unmarked matrix_where
  restricted_weight t h l m =
      let d : (32 * t + h) / 32 ≡ t = omega arith in
      let e : (32 * t + h) % 32 ≡ h = omega arith in
      get_d_tabulate cells (λ i. cond (remaining s (i / 32) (i % 32) && q (i / 32) (i % 32)) (weight_at s i) no_arc) (32 * t + h) no_arc (omega arith)
      ∙ rw (d, e)

  -- an arc that stays has its weight, and one that does not has none
  stays : (t h : ℕ) → remaining s t h && q t h ≡ true → weight (restricted s q) t h ≡ weight s t h
  stays t h e =
      let end = remaining_ends s t h (and_left (remaining s t h) (q t h) e) in
      let l : t < 32 = omega (arith, end.tail_below) in
      let m : h < 32 = omega (arith, end.head_below) in
      restricted_weight t h l m ∙ rw e

  goes : (t h : ℕ) → t < 32 → h < 32 → remaining s t h && q t h ≡ false → weight (restricted s q) t h ≡ no_arc
  goes t h l m e = restricted_weight t h l m ∙ rw e

  -- REMAINING ARCS
  pub restricted_remaining : (t h : ℕ) → remaining (restricted s q) t h ≡ remaining s t h && q t h
  unfolding is_arc unmarked
  restricted_remaining t h =
      unmarked_remaining s.n s.root (matrix_where s q) t h
      ∙ same_test (is_arc (restricted s q) t h) (remaining s t h && q t h) only whole
    where
      only : is_arc (restricted s q) t h ≡ true → remaining s t h && q t h ≡ true
      only x =
          let end = arc_ends (restricted s q) t h x in
          is_true (remaining s t h && q t h)
          (λ e.
          let l : t < 32 = omega (arith, end.tail_below) in
          let m : h < 32 = omega (arith, end.head_below) in
          not_both (eqb (weight (restricted s q) t h) no_arc) (eq-eqb (weight (restricted s q) t h) no_arc (goes t h l m e)) (arc_weight (restricted s q) t h x))

      whole : remaining s t h && q t h ≡ true → is_arc (restricted s q) t h ≡ true
      whole e =
          let x = remaining_arc s t h (and_left (remaining s t h) (q t h) e) in
          and_both (can_be_arc s.n s.root t h) (not (eqb (weight (restricted s q) t h) no_arc))
          (and_left (can_be_arc s.n s.root t h) (not (eqb (weight s t h) no_arc)) x)
          (rw (stays t h e) (ap not (arc_weight s t h x)))

  pub restricted_same_weight : (t h : ℕ) → remaining (restricted s q) t h ≡ true → weight (restricted s q) t h ≡ weight s t h
  restricted_same_weight t h e = stays t h (sym (restricted_remaining t h) ∙ e)

  -- ARBORESCENCES: those of s whose arcs all stay
  pub restricted_arborescence : (ps : List ℕ) → (is_arborescence (restricted s q) ps ≡ true)
      ↔ ((is_arborescence s ps ≡ true) × ((v : ℕ) → v < s.n → eqb v s.root ≡ false → q (parent ps v) v ≡ true))
  unfolding unmarked
  restricted_arborescence ps = (λ a. (whole a, λ v l e. and_right (remaining s (parent ps v) v) (q (parent ps v) v) (both a v l e)), back)
    where
      both : is_arborescence (restricted s q) ps ≡ true → (v : ℕ) → v < s.n → eqb v s.root ≡ false → remaining s (parent ps v) v && q (parent ps v) v ≡ true
      both a v l e = sym (restricted_remaining (parent ps v) v) ∙ (joined (restricted s q) ps a v l e).arc

      whole : is_arborescence (restricted s q) ps ≡ true → is_arborescence s ps ≡ true
      whole a =
          make_arborescence s ps (parents_size (restricted s q) ps a) (root_parent (restricted s q) ps a)
          (λ v l e.
          record {
            arc = and_left (remaining s (parent ps v) v) (q (parent ps v) v) (both a v l e);
            reach = (joined (restricted s q) ps a v l e).reach;
          })

      back : (is_arborescence s ps ≡ true) × ((v : ℕ) → v < s.n → eqb v s.root ≡ false → q (parent ps v) v ≡ true) → is_arborescence (restricted s q) ps ≡ true
      back x =
          make_arborescence (restricted s q) ps (parents_size s ps x.0) (root_parent s ps x.0)
          (λ v l e.
          let j = joined s ps x.0 v l e in
          record {
            arc = restricted_remaining (parent ps v) v ∙ and_both (remaining s (parent ps v) v) (q (parent ps v) v) j.arc (x.1 v l e);
            reach = j.reach;
          })

  pub restricted_total : (ps : List ℕ) → is_arborescence (restricted s q) ps ≡ true → total (restricted s q) ps ≡ total s ps
  unfolding total unmarked
  restricted_total ps a =
      sum_eq s.n (λ v. cond (eqb v s.root) 0 (weight (restricted s q) (parent ps v) v)) (λ v. cond (eqb v s.root) 0 (weight s (parent ps v) v))
      (λ v l. at v l (eqb v s.root) refl)
    where
      at : (v : ℕ) → v < s.n → (b : Bool) → eqb v s.root ≡ b
          → cond b 0 (weight (restricted s q) (parent ps v) v) ≡ cond b 0 (weight s (parent ps v) v)
      at v l true e = refl
      at v l false e = restricted_same_weight (parent ps v) v (joined (restricted s q) ps a v l e).arc

-- THE WHOLE MATRIX has the arcs of s, and so its arborescences, totals and cuts (SameArcs.antt)
pub matrix_same : (s : Instance) → s.n ≤ 32 → SameArcs (unmarked s.n s.root (matrix s)) s
unfolding unmarked matrix
matrix_same s small =
    record {
      vertices = refl;
      roots = refl;
      arcs = λ t h. restricted_remaining s (λ _ _. true) small t h ∙ and-true (remaining s t h);
      weights = restricted_same_weight s (λ _ _. true) small;
    }

module _ (s : Instance) (small : s.n ≤ 32) where
  abbrev whole : Instance
  whole = unmarked s.n s.root (matrix s)

  back : SameArcs s whole
  back = same_back whole s (matrix_same s small)

  pub matrix_arborescence : (ps : List ℕ) → (is_arborescence (unmarked s.n s.root (matrix s)) ps ≡ true) ↔ (is_arborescence s ps ≡ true)
  matrix_arborescence ps = (same_arborescence whole s (matrix_same s small) ps, same_arborescence s whole back ps)

  pub matrix_total : (ps : List ℕ) → is_arborescence s ps ≡ true → total (unmarked s.n s.root (matrix s)) ps ≡ total s ps
  matrix_total ps a = sym (same_total s whole back ps a)

  pub matrix_proves : (cs : List Cut) (v : ℕ) → Proves (unmarked s.n s.root (matrix s)) cs v ↔ Proves s cs v
  matrix_proves cs v = (same_proves whole s (matrix_same s small) cs v, same_proves s whole back cs v)

  pub matrix_no_entry : (c : Cut) → NoEntry (unmarked s.n s.root (matrix s)) c ↔ NoEntry s c
  matrix_no_entry c = (same_no_entry whole s (matrix_same s small) c, same_no_entry s whole back c)
