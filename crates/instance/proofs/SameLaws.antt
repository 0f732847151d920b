-- Instances that are the same where an arc can be have the same arcs and the same remaining arcs, and are equally
-- valid. Assumes nothing.
use mathlib.Core.Path.{◌≡◌, sym, ap, ◌∙◌, fun_ext}
use mathlib.Core.Bool.{Bool, true, ◌&&◌, not, cond}
use Prim.Native.Nat.{ℕ, ◌/◌, ◌%◌}
use native.Mathlib.Omega.{arith}
use lib.Dec.{eqb}
use Rattle.base.specs.Bounded.{all_below, any_below}
use Rattle.base.proofs.BoolLaws.{and_left, and_where, cond_where}
use Rattle.instance.specs.Limits.{no_arc, pinned, banned, cells}
use Rattle.instance.specs.Instance.{Instance, cell, weight_at, mark_at, weight, mark, can_be_arc, is_arc}
use Rattle.instance.specs.Arborescence.{is_pinned, other_pinned, remaining}
use Rattle.instance.specs.Valid.{cell_ok, cell_valid, header_valid, valid_instance}
use Rattle.instance.specs.Same.{SameInstance}

module _ (a b : Instance) (e : SameInstance a b) where
  pub same_can_be : (t h : ℕ) → can_be_arc a.n a.root t h ≡ can_be_arc b.n b.root t h
  same_can_be t h = rw (e.same_n, e.same_root)

  pub same_turned : SameInstance b a
  same_turned =
      record {
        same_n = sym e.same_n;
        same_root = sym e.same_root;
        same_budget = sym e.same_budget;
        same_weights = λ t h c. sym (e.same_weights t h (sym (same_can_be t h) ∙ c));
        same_marks = λ t h c. sym (e.same_marks t h (sym (same_can_be t h) ∙ c));
      }

  -- ARCS
  pub same_is_arc : (t h : ℕ) → is_arc a t h ≡ is_arc b t h
  unfolding is_arc
  same_is_arc t h =
      ap (λ (c : Bool). c && not (eqb (weight a t h) no_arc)) (same_can_be t h)
      ∙ and_where (can_be_arc b.n b.root t h) (not (eqb (weight a t h) no_arc)) (not (eqb (weight b t h) no_arc))
      (λ c. ap (λ (w : ℕ). not (eqb w no_arc)) (e.same_weights t h c))

  can_be : (t h : ℕ) → is_arc b t h ≡ true → can_be_arc b.n b.root t h ≡ true
  unfolding is_arc
  can_be t h x = and_left (can_be_arc b.n b.root t h) (not (eqb (weight b t h) no_arc)) x

  pub same_arc_weight : (t h : ℕ) → is_arc b t h ≡ true → weight a t h ≡ weight b t h
  same_arc_weight t h x = e.same_weights t h (can_be t h x)

  pub same_arc_mark : (t h : ℕ) → is_arc b t h ≡ true → mark a t h ≡ mark b t h
  same_arc_mark t h x = e.same_marks t h (can_be t h x)

  same_is_pinned : (t h : ℕ) → is_pinned a t h ≡ is_pinned b t h
  unfolding is_pinned
  same_is_pinned t h =
      ap (λ (c : Bool). c && eqb (mark a t h) pinned) (same_is_arc t h)
      ∙ and_where (is_arc b t h) (eqb (mark a t h) pinned) (eqb (mark b t h) pinned) (λ x. ap (λ (m : ℕ). eqb m pinned) (same_arc_mark t h x))

  same_other_pinned : (t h : ℕ) → other_pinned a t h ≡ other_pinned b t h
  unfolding other_pinned
  same_other_pinned t h =
      ap (λ (k : ℕ). any_below k (λ g. not (eqb g t) && is_pinned a g h)) e.same_n
      ∙ ap (any_below b.n) (fun_ext (λ g. ap (λ (c : Bool). not (eqb g t) && c) (same_is_pinned g h)))

  pub same_remaining : (t h : ℕ) → remaining a t h ≡ remaining b t h
  unfolding remaining
  same_remaining t h =
      ap (λ (c : Bool). c && (not (eqb (mark a t h) banned) && not (other_pinned a t h))) (same_is_arc t h)
      ∙ and_where (is_arc b t h) (not (eqb (mark a t h) banned) && not (other_pinned a t h)) (not (eqb (mark b t h) banned) && not (other_pinned b t h))
      (λ x. rw (same_arc_mark t h x, same_other_pinned t h))

  -- VALID
  same_cell_valid : (i : ℕ) → cell_valid a i ≡ cell_valid b i
  unfolding cell_valid weight mark
  same_cell_valid i =
      let at : cell (i / 32) (i % 32) ≡ i = omega arith in
      ap (λ (c : Bool). cond c (cell_ok (weight_at a i) (mark_at a i)) true) (same_can_be (i / 32) (i % 32))
      ∙ cond_where (can_be_arc b.n b.root (i / 32) (i % 32)) (cell_ok (weight_at a i) (mark_at a i)) (cell_ok (weight_at b i) (mark_at b i)) true
      (λ c.
      let w : weight_at a i ≡ weight_at b i = rw at at (e.same_weights (i / 32) (i % 32) c) in
      let m : mark_at a i ≡ mark_at b i = rw at at (e.same_marks (i / 32) (i % 32) c) in
      rw (w, m))

  pub same_valid_instance : valid_instance a ≡ valid_instance b
  unfolding valid_instance
  same_valid_instance =
      ap (λ (c : Bool). header_valid a.n a.root a.budget && c) (ap (all_below cells) (fun_ext same_cell_valid))
      ∙ rw (e.same_n, e.same_root, e.same_budget)
