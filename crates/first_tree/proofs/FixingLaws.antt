-- An arc fixed in the sets of tails, cut by cut from the last one on. Assumes nothing.
use mathlib.Core.Path.{◌≡◌, refl, sym, ap, ◌∙◌, subst}
use mathlib.Core.Bool.{Bool, true, false, ◌&&◌, ◌||◌, not, cond}
use mathlib.Core.List.{List}
use mathlib.Core.Logic.{⊎_elim, ◌≢◌}
use Prim.Native.Nat.{ℕ, zero, suc, ◌+◌, ◌*◌, ◌-◌, ◌^◌, ◌≤◌, ◌<◌}
use native.Mathlib.Omega.{arith}
use native.Mathlib.Decide.{ℕ_discrete}
use lib.Dec.{ltb, eqb}
use lib.ListN.{length, get_or, set, length-set}
use lib.Seq.{get_or-set_same, get_or-set_other}
use borrow.Author.Tests.{ltb-true, ltb-false, eqb-true, eq-eqb, ne_eqb, not-true}
use Rattle.base.specs.Lists.{any_of}
use Rattle.base.proofs.BoolLaws.{test, not_both, is_true, is_false, and_left, and_both, or_false_left, or_false_right}
use Rattle.instance.specs.Limits.{max_vertices}
use Rattle.instance.specs.Cuts.{Cut, cuts_from, cuts_in, inside, enters}
use Rattle.narrowing.specs.Narrowed.{share_cut, stays_beside}
use Rattle.first_tree.specs.Tails.{admissible_by}
use Rattle.first_tree.specs.Fixing.{Within, FixedTails}
use Rattle.first_tree.proofs.SetLaws.{inside_and, inside_one}

-- INTO A SET from within alone
module _ (n set : ℕ) (old new : List ℕ) (w : Within n set old new) where
  within_at : (g h : ℕ) → (b : Bool) → inside set h ≡ b → h < n → admissible_by new g h ≡ cond b (admissible_by old g h && inside set g) (admissible_by old g h)
  within_at g h true e l =
      ap (λ (c : ℕ). inside c g) (w.done h l ∙ rw e) ∙ inside_and (get_or old h 0) set g
  within_at g h false e l = ap (λ (c : ℕ). inside c g) (w.done h l ∙ rw e)

  within_less : (g h : ℕ) → admissible_by new g h ≡ true → admissible_by old g h ≡ true
  within_less g h e =
      ⊎_elim (λ (b : ltb h n ≡ true). below (ltb-true h n b) (inside set h) refl)
      (λ (b : ltb h n ≡ false). sym (ap (λ (c : ℕ). inside c g) (w.rest h (ltb-false h n b))) ∙ e) (test (ltb h n))
    where
      below : h < n → (b : Bool) → inside set h ≡ b → admissible_by old g h ≡ true
      below l true i = and_left (admissible_by old g h) (inside set g) (sym (within_at g h true i l) ∙ e)
      below l false i = sym (within_at g h false i l) ∙ e

  -- what does not enter the set stays
  within_stays : (g h : ℕ) → h < n → admissible_by old g h ≡ true → enters set g h ≡ false → admissible_by new g h ≡ true
  unfolding enters
  within_stays g h l k out = at (inside set h) refl
    where
      at : (b : Bool) → inside set h ≡ b → admissible_by new g h ≡ true
      at true i =
          within_at g h true i l
          ∙ and_both (admissible_by old g h) (inside set g) k
          (is_true (inside set g) (λ j. not_both (not (inside set g) && inside set h) (and_both (not (inside set g)) (inside set h) (rw j) i) out))
      at false i = within_at g h false i l ∙ k

-- CUT BY CUT: those from place k on have been looked at
pub record Fixing (cuts : List ℕ) (n count t v : ℕ) (old now : List ℕ) (k : ℕ) : Type 0 where
  pub size : length now ≡ max_vertices
  pub less : (g h : ℕ) → admissible_by now g h ≡ true → admissible_by old g h ≡ true
  pub stays : (g h : ℕ) → h < n → admissible_by old g h ≡ true → share_cut (cuts_from (count - k) k cuts) t v g h ≡ false → admissible_by now g h ≡ true
  pub unmoved : k ≡ count → now ≡ old

module _ (cuts : List ℕ) (n count t v : ℕ) (old : List ℕ) where
  pub fixing_none : length old ≡ max_vertices → Fixing cuts n count t v old old count
  fixing_none size = record { size = size; less = λ g h e. e; stays = λ g h l e _. e; unmoved = λ _. refl }

  -- the cuts from one place more
  next : (k : ℕ) → 0 < k → k ≤ count → (g h : ℕ)
      → share_cut (cuts_from (count - (k - 1)) (k - 1) cuts) t v g h
      ≡ (enters (get_or cuts (2 * (k - 1)) 0) t v && enters (get_or cuts (2 * (k - 1)) 0) g h) || share_cut (cuts_from (count - k) k cuts) t v g h
  unfolding share_cut any_of cuts_from
  next k some most g h =
      let P : Cut → Bool = λ c. enters c.set t v && enters c.set g h in
      let e : count - (k - 1) ≡ suc (count - k) = omega arith in
      let f : suc (k - 1) ≡ k = omega arith in
      ap (λ (j : ℕ). any_of P (cuts_from j (k - 1) cuts)) e
      ∙ ap (λ (j : ℕ). P (record { set = get_or cuts (2 * (k - 1)) 0; value = get_or cuts (2 * (k - 1) + 1) 0 }) || any_of P (cuts_from (count - k) j cuts)) f

  module _ (now : List ℕ) (k : ℕ) (some : 0 < k) (most : k ≤ count) (i : Fixing cuts n count t v old now k) where
    abbrev set_at : ℕ
    set_at = get_or cuts (2 * (k - 1)) 0

    pub fixing_skip : enters (get_or cuts (2 * (k - 1)) 0) t v ≡ false → Fixing cuts n count t v old now (k - 1)
    fixing_skip e =
        record {
          size = i.size;
          less = i.less;
          stays =
              λ g h l x y.
              i.stays g h l x (or_false_right (enters set_at t v && enters set_at g h) (share_cut (cuts_from (count - k) k cuts) t v g h) (sym (next k some most g h) ∙ y));
          unmoved = λ z. absurd (omega arith);
        }

    pub fixing_within : enters (get_or cuts (2 * (k - 1)) 0) t v ≡ true → (new : List ℕ) → Within n (get_or cuts (2 * (k - 1)) 0) now new → Fixing cuts n count t v old new (k - 1)
    fixing_within e new w =
        record {
          size = w.size;
          less = λ g h x. i.less g h (within_less n set_at now new w g h x);
          stays =
              λ g h l x y.
              let z = sym (next k some most g h) ∙ y in
              within_stays n set_at now new w g h l
              (i.stays g h l x (or_false_right (enters set_at t v && enters set_at g h) (share_cut (cuts_from (count - k) k cuts) t v g h) z))
              (is_false (enters set_at g h)
              (λ q. not_both (enters set_at t v && enters set_at g h) (and_both (enters set_at t v) (enters set_at g h) e q) (or_false_left (enters set_at t v && enters set_at g h) (share_cut (cuts_from (count - k) k cuts) t v g h) z)));
          unmoved = λ z. absurd (omega arith);
        }

  -- what shares no cut with the arc shares none of the last ones
  last_ones : (g h : ℕ) → share_cut (cuts_in count cuts) t v g h ≡ false → (k : ℕ) → k ≤ count → share_cut (cuts_from (count - k) k cuts) t v g h ≡ false
  unfolding cuts_in
  last_ones g h e zero l = let z : count - 0 ≡ count = omega arith in rw z e
  last_ones g h e (suc k) l =
      let z : suc k - 1 ≡ k = omega arith in
      or_false_right (enters (get_or cuts (2 * k) 0) t v && enters (get_or cuts (2 * k) 0) g h) (share_cut (cuts_from (count - suc k) (suc k) cuts) t v g h)
      (sym (rw z at (next (suc k) (omega arith) l g h)) ∙ last_ones g h e k (omega arith))

  -- LAST, the set of the head
  module _ (now : List ℕ) (from : ℕ) (small : n ≤ max_vertices) (some : from ≤ count) (below : v < n) (admissible : admissible_by old t v ≡ true)
      (i : Fixing cuts n count t v old now from) where
    abbrev new : List ℕ
    new = set now v (2 ^ t)

    here : (g : ℕ) → admissible_by new g v ≡ eqb g t
    here g = ap (λ (c : ℕ). inside c g) (get_or-set_same now v (2 ^ t) 0 (let z = i.size in omega arith)) ∙ inside_one t g

    elsewhere : (h : ℕ) → h ≢ v → get_or new h 0 ≡ get_or now h 0
    elsewhere h d = get_or-set_other now v h (2 ^ t) 0 d

    new_less : (g h : ℕ) → admissible_by new g h ≡ true → admissible_by old g h ≡ true
    new_less g h e = at (ℕ_discrete h v)
      where
        at : Dec (h ≡ v) → admissible_by old g h ≡ true
        at (yes z) =
            let same : g ≡ t = eqb-true g t (sym (here g) ∙ subst (λ (x : ℕ). admissible_by new g x ≡ true) z e) in
            subst (λ (x : ℕ). admissible_by old g x ≡ true) (sym z) (subst (λ (x : ℕ). admissible_by old x v ≡ true) (sym same) admissible)
        at (no z) = i.less g h (sym (ap (λ (c : ℕ). inside c g) (elsewhere h z)) ∙ e)

    new_stays : (g h : ℕ) → h < n → admissible_by old g h ≡ true → stays_beside (cuts_in count cuts) t v g h ≡ true → admissible_by new g h ≡ true
    unfolding stays_beside
    new_stays g h l k s = at (ℕ_discrete h v)
      where
        at : Dec (h ≡ v) → admissible_by new g h ≡ true
        at (yes z) = subst (λ (x : ℕ). admissible_by new g x ≡ true) (sym z) (here g ∙ (rw (eq-eqb h v z) at s))
        at (no z) =
            ap (λ (c : ℕ). inside c g) (elsewhere h z)
            ∙ i.stays g h l k (last_ones g h (not-true (share_cut (cuts_in count cuts) t v g h) (rw (ne_eqb h v z) at s)) from some)

    pub fixed_tails : FixedTails cuts n from count t v old (set now v (2 ^ t))
    fixed_tails =
        record {
          size = length-set now v (2 ^ t) ∙ i.size;
          less = new_less;
          fixed = record { less = λ g h _. new_less g h; only = λ g e. eqb-true g t (sym (here g) ∙ e); stays = new_stays };
          others = λ z h d. elsewhere h d ∙ ap (λ (l : List ℕ). get_or l h 0) (i.unmoved z);
        }
