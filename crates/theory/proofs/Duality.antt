-- Weak duality (document 000, section 3): feasible cuts bound the total of every arborescence from below, also with the
-- reduced cost of an arc that it uses; a set that no remaining arc enters rules every arborescence out. Assumes
-- nothing.
--
-- The idea: an arborescence has an arc into every set without the root. Go from a member of the set from parent to
-- parent; the root is met, which is outside, so some arc on the way has its head inside and its tail outside. So each
-- cut charges some arc of the arborescence with its value, and by feasibility no arc is charged with more than its
-- weight.
use mathlib.Core.Path.{◌≡◌, ◌∙◌, subst}
use mathlib.Core.Bool.{true, false, ◌&&◌, not, cond}
use mathlib.Core.List.{List, [], ◌∷◌}
use mathlib.Core.Logic.{⊎_elim, ◌≢◌}
use Prim.Native.Nat.{ℕ, zero, suc, ◌+◌, ◌/◌, ◌%◌, ◌^◌, ◌≤◌, ◌<◌}
use native.Mathlib.Omega.{arith}
use native.Mathlib.Nat.{pow-zero, div-lt_iff_lt-mul, pow-suc}
use lib.Dec.{ltb, eqb}
use lib.Pow.{pow_pos}
use borrow.Author.Tests.{eqb-true, eqb-false, ne_eqb, not-true, ltb-true}
use Rattle.base.specs.Bounded.{sum_below}
use Rattle.base.proofs.BoolLaws.{test, not_both, and_left, and_right}
use Rattle.base.proofs.BoundedLaws.{sum_mono, sum_room, sum_add, sum_zero, sum_eq}
use Rattle.base.proofs.CondLaws.{cond_add, cond_le}
use Rattle.instance.specs.Instance.{Instance, weight}
use Rattle.instance.specs.Arborescence.{remaining, parent, reaches, is_arborescence, total, uses}
use Rattle.instance.specs.Cuts.{Cut, inside, enters, charged, values, set_ok, sets_ok, Feasible, reduced_cost, NoEntry}
use Rattle.instance.specs.States.{fits}
use Rattle.instance.proofs.ArcLaws.{remaining_ends}
use Rattle.instance.proofs.ArborescenceLaws.{joined}
use Rattle.theory.proofs.FitLaws.{fits_arborescence, fits_total}

-- a set below 2 ^ n that is not empty has a member below n
pub member : (n c : ℕ) → 0 < c → c < 2 ^ n → (v : ℕ) × (v < n) × (inside c v ≡ true)
unfolding inside
member zero c l m = absurd (omega (arith, rw (pow-zero 2) at m))
member (suc n) c l m =
    ⊎_elim (λ (e : inside c n ≡ true). (n, omega arith, e))
    (λ (e : inside c n ≡ false).
    let even = eqb-false (c / 2 ^ n % 2) 1 e in
    let small : c / 2 ^ n < 2 = (div-lt_iff_lt-mul (pow_pos n)).1 (omega (arith, m, pow-suc 2 n)) in
    let not_one : c / 2 ^ n ≢ 1 = λ h. even (rw h) in
    let below : c < 2 ^ n = omega (arith, (div-lt_iff_lt-mul {k = 2 ^ n} {x = c} {y = 1} (pow_pos n)).0 (omega arith)) in
    let r = member n c l below in
    (r.0, omega (arith, r.1), r.2))
    (test (inside c n))

module _ (s : Instance) (ps : List ℕ) (a : is_arborescence s ps ≡ true) where
  -- the arc from the parent of v enters the set
  pub record EnteringArc (c : ℕ) : Type 0 where
    pub v : ℕ
    pub below : v < s.n
    pub not_root : eqb v s.root ≡ false
    pub out : inside c (parent ps v) ≡ false
    pub into : inside c v ≡ true

  entering_from : (c : ℕ) → inside c s.root ≡ false → (k v : ℕ) → v < s.n → inside c v ≡ true → reaches k s.root ps v ≡ true → EnteringArc c
  unfolding reaches
  entering_from c o zero v l i r = absurd (not_both (inside c v) i (rw (eqb-true v s.root r) o))
  entering_from c o (suc k) v l i r =
      ⊎_elim (λ (e : eqb v s.root ≡ true). absurd (not_both (inside c v) i (rw (eqb-true v s.root e) o)))
      (λ (e : eqb v s.root ≡ false).
      ⊎_elim
      (λ (j : inside c (parent ps v) ≡ true).
      entering_from c o k (parent ps v) (remaining_ends s (parent ps v) v (joined s ps a v l e).arc).tail_below j (rw e at r))
      (λ (j : inside c (parent ps v) ≡ false). record { v = v; below = l; not_root = e; out = j; into = i }) (test (inside c (parent ps v))))
      (test (eqb v s.root))

  -- AN ARBORESCENCE ENTERS EVERY SET
  pub entering_arc : (c : ℕ) → set_ok s c ≡ true → EnteringArc c
  unfolding set_ok
  entering_arc c ok =
      let sizes = and_left (ltb 0 c && ltb c (2 ^ s.n)) (not (inside c s.root)) ok in
      let o = not-true (inside c s.root) (and_right (ltb 0 c && ltb c (2 ^ s.n)) (not (inside c s.root)) ok) in
      let m =
      member s.n c (ltb-true 0 c (and_left (ltb 0 c) (ltb c (2 ^ s.n)) sizes))
      (ltb-true c (2 ^ s.n) (and_right (ltb 0 c) (ltb c (2 ^ s.n)) sizes)) in
      let e : eqb m.0 s.root ≡ false = ne_eqb m.0 s.root (λ e. not_both (inside c m.0) m.2 (rw e o)) in
      entering_from c o s.n m.0 m.1 m.2 (joined s ps a m.0 m.1 e).reach

  pub no_entry : (c : Cut) → NoEntry s c → ⊥
  unfolding enters
  no_entry c e =
      let x = entering_arc c.set e.set_good in
      let at = parent ps x.v in
      not_both (enters c.set at x.v) (simp (x.out, x.into)) (e.shut at x.v (joined s ps a x.v x.below x.not_root).arc)

  -- what each arc of the arborescence costs, and what it is charged, by all cuts and by one
  abbrev pub cost : ℕ → ℕ
  cost v = cond (eqb v s.root) 0 (weight s (parent ps v) v)

  abbrev pub paid : List Cut → ℕ → ℕ
  paid cs v = cond (eqb v s.root) 0 (charged cs (parent ps v) v)

  abbrev pub share : Cut → ℕ → ℕ
  share c v = cond (eqb v s.root) 0 (cond (enters c.set (parent ps v) v) c.value 0)

  -- each cut is paid at least once
  pub share_once : (c : Cut) → set_ok s c.set ≡ true → c.value ≤ sum_below s.n (share c)
  unfolding enters
  share_once c ok =
      let x = entering_arc c.set ok in
      let here : share c x.v ≡ c.value = simp (x.not_root, x.out, x.into) in
      let room = sum_room s.n (λ v. 0) (share c) (λ v l. omega arith) x.v x.below in
      let none = sum_zero s.n in
      omega arith

  pub paid_more : (c : Cut) (cs : List Cut) → sum_below s.n (paid (c ∷ cs)) ≡ sum_below s.n (share c) + sum_below s.n (paid cs)
  unfolding charged
  paid_more c cs =
      sum_eq s.n (paid (c ∷ cs)) (λ v. share c v + paid cs v)
      (λ v l. cond_add (eqb v s.root) (cond (enters c.set (parent ps v) v) c.value 0) (charged cs (parent ps v) v))
      ∙ sum_add s.n (share c) (paid cs)

  pub values_paid : (cs : List Cut) → sets_ok s cs ≡ true → values cs ≤ sum_below s.n (paid cs)
  unfolding values sets_ok
  values_paid [] ok = omega arith
  values_paid (c ∷ cs) ok =
      let rest = values_paid cs (and_right (set_ok s c.set) (sets_ok s cs) ok) in
      let once = share_once c (and_left (set_ok s c.set) (sets_ok s cs) ok) in
      let more = paid_more c cs in
      omega arith

  module _ (cs : List Cut) (f : Feasible s cs) where
    pub paid_cost : (v : ℕ) → v < s.n → paid cs v ≤ cost v
    paid_cost v l =
        cond_le (eqb v s.root) (charged cs (parent ps v) v) (weight s (parent ps v) v) (λ e. f.covered (parent ps v) v (joined s ps a v l e).arc)

    -- WEAK DUALITY
    pub weak_duality : values cs ≤ total s ps
    unfolding total
    weak_duality =
        let x = values_paid cs f.sets in
        let y = sum_mono s.n (paid cs) cost paid_cost in
        omega arith

    -- with the reduced cost of the arc into h
    pub weak_duality_with : (h : ℕ) → h < s.n → eqb h s.root ≡ false → values cs + reduced_cost s cs (parent ps h) h ≤ total s ps
    unfolding total reduced_cost
    weak_duality_with h l e =
        let x = values_paid cs f.sets in
        let y = sum_room s.n (paid cs) cost paid_cost h l in
        let c : cost h ≡ weight s (parent ps h) h = rw e in
        let p : paid cs h ≡ charged cs (parent ps h) h = rw e in
        omega arith

-- A REDUCED COST PAST THE BUDGET: no fitting arborescence uses the arc
pub reduced_unused : (s : Instance) (cs : List Cut) (t h : ℕ) → Feasible s cs → remaining s t h ≡ true
    → s.budget < values cs + reduced_cost s cs t h → (ps : List ℕ) → fits s ps ≡ true → uses ps t h ≡ false
unfolding uses
reduced_unused s cs t h f r past ps fit =
    let end = remaining_ends s t h r in
    ne_eqb (parent ps h) t
    (λ e.
    let w = weak_duality_with s ps (fits_arborescence s ps fit) cs f h end.head_below end.not_root in
    let least : values cs + reduced_cost s cs t h ≤ total s ps = subst (λ (x : ℕ). values cs + reduced_cost s cs x h ≤ total s ps) e w in
    let most = fits_total s ps fit in
    omega arith)
