-- Lowering the arcs into a group, vertex by vertex and, for each, tail by tail. Assumes nothing.
use mathlib.Core.Path.{◌≡◌, refl, sym, ap, ◌∙◌}
use mathlib.Core.Bool.{true, false, not}
use mathlib.Core.List.{List}
use mathlib.Core.Logic.{◌≢◌, ◌⊎◌, inl, inr, ⊎_elim}
use Prim.Native.Nat.{ℕ, ◌+◌, ◌-◌, ◌≤◌, ◌<◌}
use native.Mathlib.Omega.{arith}
use lib.Dec.{ltb, eqb}
use lib.ListN.{length}
use borrow.Author.Tests.{ltb-true, ltb-false, lt-ltb, le-ltb, eq-eqb, ne_eqb}
use Rattle.base.proofs.BoolLaws.{test, and_false_right}
use Rattle.instance.specs.Limits.{max_vertices, no_arc, cells}
use Rattle.contraction.specs.Cells.{nth}
use Rattle.charging.specs.Lower.{lowered_weight, LoweredInto, LoweredCells}

module _ (ls : List ℕ) (g a : ℕ) where
  pub low_in : (t h : ℕ) {x : ℕ} → nth ls h ≡ g → nth ls t ≢ g → x < no_arc → lowered_weight ls g a t h x ≡ x - a
  low_in t h {x} e ne lt = rw (eq-eqb (nth ls h) g e, ne_eqb (nth ls t) g ne, lt-ltb x no_arc lt)

  pub low_out : (t h : ℕ) {x : ℕ} → (nth ls h ≢ g) ⊎ ((nth ls t ≡ g) ⊎ (no_arc ≤ x)) → lowered_weight ls g a t h x ≡ x
  low_out t h {x} (inl ne) = rw (ne_eqb (nth ls h) g ne)
  low_out t h {x} (inr (inl e)) = rw (eq-eqb (nth ls t) g e, and_false_right (eqb (nth ls h) g) false refl)
  low_out t h {x} (inr (inr le)) =
      rw (le-ltb x no_arc le, and_false_right (not (eqb (nth ls t) g)) false refl, and_false_right (eqb (nth ls h) g) false refl)

module _ (ws ls : List ℕ) (n g a : ℕ) where
  pub all_vertices : (ws' : List ℕ) (h : ℕ) → LoweredCells ws ws' ls n g a h → h ≤ n → n ≤ h → LoweredCells ws ws' ls n g a n
  all_vertices ws' h c le end = let e : h ≡ n = omega arith in rw e at c

  pub none_lowered : length ws ≡ cells → LoweredCells ws ws ls n g a 0
  none_lowered e = record { size = e; done = λ t h l m. absurd (omega arith); rest = λ t h l why. refl }

  pub skip_vertex : (ws' : List ℕ) (h : ℕ) → h < max_vertices → LoweredCells ws ws' ls n g a h → nth ls h ≢ g → LoweredCells ws ws' ls n g a (h + 1)
  skip_vertex ws' h small c ne =
      record {
        size = c.size;
        done =
            λ t v l m.
            ⊎_elim (λ (d : ltb v h ≡ true). c.done t v l (ltb-true v h d))
            (λ (d : ltb v h ≡ false).
            let q = ltb-false v h d in
            let s : v ≡ h = omega arith in
            rw s (c.rest t h small (inr (omega arith)) ∙ sym (low_out ls g a t h (inl ne))))
            (test (ltb v h));
        rest = λ t v l why. c.rest t v l (⊎_elim (λ (d : n ≤ t). inl d) (λ (d : h + 1 ≤ v). inr (omega arith)) why);
      }

  pub next_vertex : (ws₁ ws₂ : List ℕ) (h : ℕ) → h < max_vertices → LoweredCells ws ws₁ ls n g a h → LoweredInto ws₁ ws₂ ls n g h a → LoweredCells ws ws₂ ls n g a (h + 1)
  next_vertex ws₁ ws₂ h small x y =
      record {
        size = y.size;
        done =
            λ t v l m.
            ⊎_elim
            (λ (d : ltb v h ≡ true). let b = ltb-true v h d in y.rest t v (omega arith) (inr (λ q. omega arith)) ∙ x.done t v l b)
            (λ (d : ltb v h ≡ false).
            let q = ltb-false v h d in
            let s : v ≡ h = omega arith in
            rw s (y.done t l ∙ ap (lowered_weight ls g a t h) (x.rest t h small (inr (omega arith)))))
            (test (ltb v h));
        rest =
            λ t v l why.
            ⊎_elim (λ (d : n ≤ t). y.rest t v l (inl d) ∙ x.rest t v l (inl d))
            (λ (d : h + 1 ≤ v). y.rest t v l (inr (λ q. omega arith)) ∙ x.rest t v l (inr (omega arith))) why;
      }
