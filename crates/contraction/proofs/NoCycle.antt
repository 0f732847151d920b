-- Where the chosen arcs have no cycle they are a tree of the groups already. Assumes nothing.
use mathlib.Core.Path.{◌≡◌, refl, sym, ap, ◌∙◌, subst}
use mathlib.Core.Bool.{true, false, ◌&&◌, not}
use mathlib.Core.List.{[]}
use mathlib.Core.Logic.{⊎_elim, ◌≢◌}
use Prim.Native.Nat.{ℕ, ◌≤◌, ◌<◌}
use native.Mathlib.Omega.{arith}
use lib.Dec.{eqb}
use borrow.Author.Tests.{eqb-true, eqb-false, eq-eqb, ne_eqb, not-true}
use Rattle.base.proofs.BoolLaws.{test, and_left, and_right}
use Rattle.instance.specs.Limits.{no_parent}
use Rattle.contraction.specs.Groups.{Labels, Group, Chosen, Along, stop, go, own_arcs}
use Rattle.contraction.specs.Trees.{none_left, Reached, here, step, Tree}

module _ (n root : ℕ) (w : ℕ → ℕ → ℕ) (label tail head : ℕ → ℕ) (ls : Labels n root label) (ch : Chosen n root w label tail head) (small : n ≤ no_parent) where
  abbrev parent : ℕ → ℕ
  parent = own_arcs root label tail head

  group : (v : ℕ) → v < n → label v ≢ label root → Group n root label (label v)
  group v l ne = (ls.below v l, ls.self v l, ne)

  record Has (v : ℕ) : Type 0 where
    pub no_root : label v ≢ label root
    pub at_head : head (label v) ≡ v
    pub is : parent v ≡ tail (label v)

  has : (v : ℕ) → parent v < n → Has v
  has v h =
      ⊎_elim
      (λ (e : not (eqb (label v) (label root)) && eqb (head (label v)) v ≡ true).
      record {
        no_root = eqb-false (label v) (label root) (not-true (eqb (label v) (label root)) (and_left (not (eqb (label v) (label root))) (eqb (head (label v)) v) e));
        at_head = eqb-true (head (label v)) v (and_right (not (eqb (label v) (label root))) (eqb (head (label v)) v) e);
        is = rw e;
      })
      (λ (e : not (eqb (label v) (label root)) && eqb (head (label v)) v ≡ false). let h' : no_parent < n = rw e at h in absurd (omega arith))
      (test (not (eqb (label v) (label root)) && eqb (head (label v)) v))

  takes : (g : ℕ) → Group n root label g → parent (head g) ≡ tail g
  takes g gr = rw (ch.head_in g gr, ne_eqb g (label root) gr.2, eq-eqb (head g) (head g) refl)

  arrive : (g : ℕ) → g < n → label g ≡ g → Along (λ x. label (tail x)) (label root) g → Reached n root label parent g
  arrive g l e (stop r) = here r
  arrive g l e (go a) =
      ⊎_elim (λ (r : eqb g (label root) ≡ true). here (eqb-true g (label root) r))
      (λ (r : eqb g (label root) ≡ false).
      let gr : Group n root label g = (l, e, eqb-false g (label root) r) in
      let is = takes g gr in
      let f = ch.tail_below g gr in
      step (head g) (ch.head_below g gr) (ch.head_in g gr) (rw is f) (rw is (arrive (label (tail g)) (ls.below (tail g) f) (ls.self (tail g) f) a)))
      (test (eqb g (label root)))

  pub own_tree : ((v : ℕ) → v < n → Along (λ x. label (tail x)) (label root) (label v)) → Tree n root w label [] parent
  own_tree all =
      record {
        tight =
            λ v l h.
            let x = has v h in
            rw x.is (subst (λ (y : ℕ). w (tail (label v)) y ≡ 0) x.at_head (ch.tight (label v) (group v l x.no_root)));
        between = λ v l h. let x = has v h in rw x.is (ch.tail_out (label v) (group v l x.no_root));
        no_root = λ v l h. (has v h).no_root;
        only = λ u v l m i j e. sym (has u i).at_head ∙ ap head e ∙ (has v j).at_head;
        reached = λ v l. arrive (label v) (ls.below v l) (ls.self v l) (all v l);
        once = none_left;
        unions = none_left;
      }
