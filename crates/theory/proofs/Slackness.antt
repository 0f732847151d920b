-- Complementary slackness: where the values of feasible cuts add to the total of an arborescence, each of its arcs has
-- reduced cost 0, and no two of its arcs enter one cut. Assumes nothing.
--
-- The idea: weak duality says that each cut is paid at least once, and that no arc pays more than its weight. Where
-- both sums are equal there is no room: an arc that costs more than it pays, or a cut that is paid twice, would make
-- the total larger.
use mathlib.Core.Path.{◌≡◌, refl, sym}
use mathlib.Core.Bool.{Bool, true, false, ◌&&◌, not, cond}
use mathlib.Core.List.{List, [], ◌∷◌}
use mathlib.Core.Logic.{⊎_elim, ◌≢◌}
use Prim.Native.Nat.{ℕ, ◌+◌, ◌^◌, ◌≤◌, ◌<◌}
use native.Mathlib.Omega.{arith}
use lib.Dec.{ltb, leb, eqb}
use borrow.Author.Tests.{leb-true, eqb-true, eq-eqb, ne_eqb, not-true}
use Rattle.base.specs.Bounded.{sum_below}
use Rattle.base.specs.Lists.{any_of}
use Rattle.base.proofs.BoolLaws.{not_both, is_false, and_left, and_right, or_cases}
use Rattle.base.proofs.BoundedLaws.{sum_mono, sum_room}
use Rattle.base.proofs.CountingLaws.{sum_one}
use Rattle.instance.specs.Instance.{Instance}
use Rattle.instance.specs.Arborescence.{parent, is_arborescence, total}
use Rattle.instance.specs.Cuts.{Cut, inside, enters, values, set_ok, sets_ok, all_positive, Feasible, reduced_cost}
use Rattle.theory.proofs.Duality.{cost, paid, share, share_once, paid_more, values_paid, paid_cost, weak_duality_with}

-- two places of a sum
sum_two : (k : ℕ) (g : ℕ → ℕ) (u v : ℕ) → u < k → v < k → u ≢ v → g u + g v ≤ sum_below k g
sum_two k g u v l m d =
    let f : ℕ → ℕ = λ w. cond (eqb w u) (g w) 0 in
    let room = sum_room k f g (λ w x. at (eqb w u) (g w)) v m in
    let one : sum_below k f ≡ f u = sum_one k f u l (λ w x n. zero_at w n) in
    let fu : f u ≡ g u = rw (eq-eqb u u refl) in
    let fv : f v ≡ 0 = zero_at v (λ e. d (sym e)) in
    omega arith
  where
    at : (b : Bool) (x : ℕ) → cond b x 0 ≤ x
    at true x = omega arith
    at false x = omega arith

    zero_at : (w : ℕ) → w ≢ u → cond (eqb w u) (g w) 0 ≡ 0
    zero_at w n = rw (ne_eqb w u n)

module _ (s : Instance) (ps : List ℕ) (a : is_arborescence s ps ≡ true) where
  -- the arc into u enters the cut
  abbrev entered_at : (u : ℕ) → Cut → Bool
  entered_at u c = enters c.set (parent ps u) u

  -- the head of an arc that enters a cut is not the root
  head_not : (c : Cut) → set_ok s c.set ≡ true → (u : ℕ) → entered_at u c ≡ true → eqb u s.root ≡ false
  unfolding set_ok enters
  head_not c ok u e =
      let o = not-true (inside c.set s.root) (and_right (ltb 0 c.set && ltb c.set (2 ^ s.n)) (not (inside c.set s.root)) ok) in
      let i = and_right (not (inside c.set (parent ps u))) (inside c.set u) e in
      is_false (eqb u s.root) (λ q. not_both (inside c.set u) i (rw (eqb-true u s.root q) o))

  share_at : (c : Cut) → set_ok s c.set ≡ true → (u : ℕ) → entered_at u c ≡ true → share s ps a c u ≡ c.value
  share_at c ok u e = rw (head_not c ok u e, e)

  -- A CUT THAT TWO ARCS ENTER IS PAID TWICE
  module _ (u v : ℕ) (lu : u < s.n) (lv : v < s.n) (apart : u ≢ v) where
    abbrev by_both : Cut → Bool
    by_both c = entered_at u c && entered_at v c

    paid_twice : (c : Cut) → set_ok s c.set ≡ true → by_both c ≡ true → c.value + c.value ≤ sum_below s.n (share s ps a c)
    paid_twice c ok e =
        let two = sum_two s.n (share s ps a c) u v lu lv apart in
        let x = share_at c ok u (and_left (entered_at u c) (entered_at v c) e) in
        let y = share_at c ok v (and_right (entered_at u c) (entered_at v c) e) in
        omega arith

    too_much : (cs : List Cut) → sets_ok s cs ≡ true → all_positive cs ≡ true → any_of by_both cs ≡ true → values cs < sum_below s.n (paid s ps a cs)
    unfolding values sets_ok all_positive any_of
    too_much [] ok pos e = absurd (not_both false e refl)
    too_much (c ∷ cs) ok pos e =
        let good = and_left (set_ok s c.set) (sets_ok s cs) ok in
        let rest = and_right (set_ok s c.set) (sets_ok s cs) ok in
        let one = leb-true 1 c.value (and_left (leb 1 c.value) (all_positive cs) pos) in
        let more = paid_more s ps a c cs in
        ⊎_elim
        (λ (b : by_both c ≡ true). let two = paid_twice c good b in let others = values_paid s ps a cs rest in omega arith)
        (λ (b : any_of by_both cs ≡ true).
        let once = share_once s ps a c good in
        let others = too_much cs rest (and_right (leb 1 c.value) (all_positive cs) pos) b in
        omega arith)
        (or_cases (by_both c) (any_of by_both cs) e)

  module _ (cs : List Cut) (f : Feasible s cs) (adds : values cs ≡ total s ps) where
    -- EVERY ARC HAS REDUCED COST 0
    pub tight_arc : (h : ℕ) → h < s.n → eqb h s.root ≡ false → reduced_cost s cs (parent ps h) h ≡ 0
    tight_arc h l e = let w = weak_duality_with s ps a cs f h l e in omega arith

    -- NO TWO ARCS ENTER ONE CUT
    pub entered_once : all_positive cs ≡ true → (u v : ℕ) → u < s.n → v < s.n → u ≢ v
        → any_of (λ c. enters c.set (parent ps u) u && enters c.set (parent ps v) v) cs ≡ false
    unfolding total
    entered_once pos u v lu lv apart =
        is_false (any_of (by_both u v lu lv apart) cs)
        (λ e.
        let over = too_much u v lu lv apart cs f.sets pos e in
        let most = sum_mono s.n (paid s ps a cs) (cost s ps a) (paid_cost s ps a cs f) in
        omega arith)
