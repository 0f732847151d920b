-- From a tree at single vertices to an arborescence of the instance, and cuts that prove its total: each arc's weight
-- is what the cuts charge it, and each cut is entered once, so that weights and values add up to the same. Assumes
-- nothing.
use mathlib.Core.Path.{◌≡◌, refl, sym, ◌∙◌, ap}
use mathlib.Core.Bool.{Bool, true, false, ◌&&◌, not, cond}
use mathlib.Core.List.{List, [], ◌∷◌}
use mathlib.Core.Logic.{inl, inr, ⊎_elim}
use Prim.Native.Nat.{ℕ, suc, ◌+◌, ◌^◌, ◌≤◌, ◌<◌}
use native.Mathlib.Omega.{arith}
use lib.Dec.{ltb, leb, eqb}
use lib.ListN.{length}
use borrow.Author.Tests.{eqb-true, eqb-false, eq-eqb, ne_eqb, lt-ltb, le-leb, ltb-true, ltb-false}
use Rattle.base.specs.Bounded.{sum_below}
use Rattle.base.proofs.BoolLaws.{test, and_both, and_false_right}
use Rattle.base.proofs.BoundedLaws.{sum_add, sum_zero, sum_eq}
use Rattle.base.proofs.CountingLaws.{sum_one}
use Rattle.base.proofs.CondLaws.{cond_zero, cond_add}
use Rattle.instance.specs.Limits.{max_vertices, no_arc, no_parent, cut_limit}
use Rattle.instance.specs.Instance.{Instance, weight}
use Rattle.instance.specs.Arborescence.{remaining, parent, reaches, is_arborescence, total}
use Rattle.instance.specs.Cuts.{Cut, inside, enters, charged, values, set_ok, sets_ok, all_positive, Proves}
use Rattle.instance.proofs.ArborescenceLaws.{make_arborescence}
use Rattle.instance.proofs.ReachLaws.{enough}
use Rattle.contraction.specs.Groups.{Lowered}
use Rattle.contraction.specs.Trees.{Each, none_left, more, Reached, here, step, Once, Tree, Proper, ProperCut}
use Rattle.contraction.proofs.ArcWeights.{ArcWeights}

-- SETS
pub set_proper : (s : Instance) (c : ℕ) → Proper s.n s.root c → set_ok s c ≡ true
unfolding set_ok
set_proper s c p =
    and_both (ltb 0 c && ltb c (2 ^ s.n)) (not (inside c s.root)) (and_both (ltb 0 c) (ltb c (2 ^ s.n)) (lt-ltb 0 c p.some) (lt-ltb c (2 ^ s.n) p.below)) (rw p.no_root)

sets_proper : (s : Instance) (cs : List Cut) → Each (ProperCut s.n s.root) cs → sets_ok s cs ≡ true
unfolding sets_ok
sets_proper s [] none_left = refl
sets_proper s (c ∷ cs) (more f fs) = and_both (set_ok s c.set) (sets_ok s cs) (set_proper s c.set f.proper) (sets_proper s cs fs)

cuts_positive : {n root : ℕ} (cs : List Cut) → Each (ProperCut n root) cs → all_positive cs ≡ true
unfolding all_positive
cuts_positive [] none_left = refl
cuts_positive (c ∷ cs) (more f fs) = and_both (leb 1 c.value) (all_positive cs) (le-leb 1 c.value f.value) (cuts_positive cs fs)

-- WHAT IS CHARGED NOTHING: an arc from a vertex to itself, and one into the root
pub charged_self : (cs : List Cut) (t : ℕ) → charged cs t t ≡ 0
unfolding charged enters
charged_self [] t = refl
charged_self (c ∷ cs) t = let r = charged_self cs t in rw r (go (inside c.set t))
  where
    go : (b : Bool) → cond (not b && b) c.value 0 + 0 ≡ 0
    go true = omega arith
    go false = omega arith

pub charged_root : {n root : ℕ} (cs : List Cut) (t : ℕ) → Each (ProperCut n root) cs → charged cs t root ≡ 0
unfolding charged enters
charged_root [] t none_left = refl
charged_root (c ∷ cs) t (more f fs) = rw (f.proper.no_root, and_false_right (not (inside c.set t)) false refl, charged_root cs t fs)

module _ (s : Instance) (w w' : ℕ → ℕ → ℕ) (ps : List ℕ) (cs : List Cut) (sh : ArcWeights s w) (lo : Lowered s.n w w' cs) (small : s.n ≤ max_vertices)
    (root_below : s.root < s.n) (sized : length ps ≡ s.n) (at_root : parent ps s.root ≡ no_parent) (t : Tree s.n s.root w' (λ v. v) cs (parent ps)) where
  has : (v : ℕ) → eqb v s.root ≡ false → Reached s.n s.root (λ u. u) (parent ps) v → parent ps v < s.n
  has v ne (here e) = absurd (eqb-false v s.root ne e)
  has v ne (step u l e h r) = rw (← e) h

  has_all : (v : ℕ) → v < s.n → eqb v s.root ≡ false → parent ps v < s.n
  has_all v l ne = has v ne (t.reached v l)

  -- THE ARBORESCENCE
  once_more : (g k : ℕ) → reaches k s.root ps (parent ps g) ≡ true → reaches (suc k) s.root ps g ≡ true
  unfolding reaches
  once_more g k e = ⊎_elim (λ (d : eqb g s.root ≡ true). rw d) (λ (d : eqb g s.root ≡ false). rw d e) (test (eqb g s.root))

  some : (g : ℕ) → Reached s.n s.root (λ u. u) (parent ps) g → (k : ℕ) × (reaches k s.root ps g ≡ true)
  some g (here e) = (0, unfold reaches in eq-eqb g s.root e)
  some g (step u l e h r) = let ih = some (parent ps u) r in (suc ih.0, once_more g ih.0 (rw (← e) ih.1))

  arrived : (v : ℕ) → v < s.n → reaches s.n s.root ps v ≡ true
  arrived v l = let k = some v (t.reached v l) in enough s.n s.root ps root_below (λ u m e. inl (has_all u m e)) k.0 v l k.1

  -- an arc that is tight now was there at first
  was_there : (v : ℕ) → v < s.n → parent ps v < s.n → w (parent ps v) v < no_arc
  was_there v l h =
      ⊎_elim (λ (d : ltb (w (parent ps v) v) no_arc ≡ true). ltb-true (w (parent ps v) v) no_arc d)
      (λ (d : ltb (w (parent ps v) v) no_arc ≡ false).
      let a = ltb-false (w (parent ps v) v) no_arc d in
      let e = lo.same (parent ps v) v (omega arith) (inr (inr a)) in
      let z = t.tight v l h in
      absurd (omega arith))
      (test (ltb (w (parent ps v) v) no_arc))

  pub arc : (v : ℕ) → v < s.n → eqb v s.root ≡ false → remaining s (parent ps v) v ≡ true
  arc v l ne =
      let h = has_all v l ne in
      sh.only (parent ps v) v h l (t.between v l h) (eqb-false v s.root ne) (was_there v l h)

  pub arborescence : is_arborescence s ps ≡ true
  arborescence =
      make_arborescence s ps sized (λ v l e. ap (parent ps) (eqb-true v s.root e) ∙ at_root) (λ v l e. record { arc = arc v l e; reach = arrived v l })

  -- THE TOTAL
  tight : (v : ℕ) → v < s.n → eqb v s.root ≡ false → weight s (parent ps v) v ≡ charged cs (parent ps v) v
  tight v l ne =
      let h = has_all v l ne in
      let x = lo.paid (parent ps v) v h l (was_there v l h) in
      let z = t.tight v l h in
      let e = sh.is (parent ps v) v (arc v l ne) in
      omega arith

  abbrev paid : List Cut → ℕ → ℕ
  paid ds v = cond (eqb v s.root) 0 (charged ds (parent ps v) v)

  abbrev part : Cut → ℕ → ℕ
  part c v = cond (eqb v s.root) 0 (cond (enters c.set (parent ps v) v) c.value 0)

  -- the arc that enters a cut pays its value, and no other pays
  part_once : (c : Cut) → Once s.n (parent ps) c → sum_below s.n (part c) ≡ c.value
  part_once c o =
      let ne : eqb o.at s.root ≡ false = ne_eqb o.at s.root (λ e. t.no_root o.at o.below o.has e) in
      sum_one s.n (part c) o.at o.below
      (λ v l d.
      ⊎_elim (λ (r : eqb v s.root ≡ true). rw r)
      (λ (r : eqb v s.root ≡ false).
      ⊎_elim (λ (i : enters c.set (parent ps v) v ≡ true). absurd (d (o.only v l (has_all v l r) i)))
      (λ (i : enters c.set (parent ps v) v ≡ false). rw (r, i)) (test (enters c.set (parent ps v) v)))
      (test (eqb v s.root)))
      ∙ rw (ne, o.into)

  paid_values : (ds : List Cut) → Each (Once s.n (parent ps)) ds → sum_below s.n (paid ds) ≡ values ds
  unfolding charged values
  paid_values [] none_left = sum_eq s.n (paid []) (λ v. 0) (λ v l. cond_zero (eqb v s.root)) ∙ sum_zero s.n
  paid_values (c ∷ ds) (more o os) =
      let rest = paid_values ds os in
      let here = part_once c o in
      let eq =
      sum_eq s.n (paid (c ∷ ds)) (λ v. part c v + paid ds v)
      (λ v l. cond_add (eqb v s.root) (cond (enters c.set (parent ps v) v) c.value 0) (charged ds (parent ps v) v)) in
      let add = sum_add s.n (part c) (paid ds) in
      omega arith

  total_values : values cs ≡ total s ps
  unfolding total
  total_values =
      sym (paid_values cs t.once)
      ∙ sum_eq s.n (paid cs) (λ v. cond (eqb v s.root) 0 (weight s (parent ps v) v))
      (λ v l. ⊎_elim (λ (r : eqb v s.root ≡ true). rw r) (λ (r : eqb v s.root ≡ false). rw (r, tight v l r)) (test (eqb v s.root)))

  pub proves : Each (ProperCut s.n s.root) cs → length cs ≤ cut_limit s.n → Proves s cs (total s ps)
  proves proper_cuts few =
      record {
        feasible =
            record {
              sets = sets_proper s cs proper_cuts;
              covered =
                  λ u v r.
                  let x = lo.paid u v (sh.tail_below u v r) (sh.head_below u v r) (sh.there u v r) in
                  let e = sh.is u v r in
                  omega arith;
            };
        positive = cuts_positive cs proper_cuts;
        few = few;
        adds = total_values;
      }
