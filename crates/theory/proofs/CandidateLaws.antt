-- The candidates leave out no arborescence, so that a test over those that are selected from them is a statement about
-- all lists of parents. Assumes nothing.
use mathlib.Core.Path.{◌≡◌, refl, sym, ap, ◌∙◌, subst}
use mathlib.Core.Bool.{Bool, true, false, ◌&&◌, not, cond}
use mathlib.Core.List.{List, [], ◌∷◌, map}
use mathlib.Core.Logic.{◌↔◌, ⊎_elim}
use Prim.Native.Nat.{ℕ, zero, suc, ◌+◌, ◌<◌}
use native.Mathlib.Omega.{arith}
use native.Mathlib.Nat.{zero-add}
use lib.Dec.{eqb}
use lib.ListN.{drop, drop_of_length-le}
use lib.Seq.{drop-cons}
use borrow.Author.Tests.{eqb-true, eq-eqb, not-true, not-false}
use Rattle.base.specs.Lists.{tabulate, select, any_of, all_of}
use Rattle.base.proofs.BoolLaws.{not_both, is_true, is_false, and_left, and_right, and_both, or_cases, or_left}
use Rattle.base.proofs.ListLaws.{any_select, all_of_any, any_witness, any_map, any_append_left, any_append_right, any_tabulate}
use Rattle.instance.specs.Limits.{no_parent}
use Rattle.instance.specs.Instance.{Instance}
use Rattle.instance.specs.Arborescence.{parent, is_arborescence}
use Rattle.instance.specs.Candidates.{prefixed, choices, candidates_from, candidates}
use Rattle.instance.proofs.ArcLaws.{remaining_ends}
use Rattle.instance.proofs.ArborescenceLaws.{parents_size, root_parent, joined}

-- a list with one of the numbers in front
any_prefixed : (q : List ℕ → Bool) (xs : List ℕ) (ls : List (List ℕ)) (x : ℕ)
    → any_of (λ y. eqb y x) xs ≡ true → any_of (λ l. q (x ∷ l)) ls ≡ true → any_of q (prefixed xs ls) ≡ true
unfolding prefixed any_of
any_prefixed q [] ls x e f = e
any_prefixed q (y ∷ xs) ls x e f =
    ⊎_elim
    (λ (p : eqb y x ≡ true).
    any_append_left q (map (λ l. y ∷ l) ls) (prefixed xs ls)
    (any_map q (λ l. y ∷ l) ls ∙ subst (λ (z : ℕ). any_of (λ l. q (z ∷ l)) ls ≡ true) (sym (eqb-true y x p)) f))
    (λ (p : any_of (λ z. eqb z x) xs ≡ true). any_append_right q (map (λ l. y ∷ l) ls) (prefixed xs ls) (any_prefixed q xs ls x p f))
    (or_cases (eqb y x) (any_of (λ z. eqb z x) xs) e)

module _ (s : Instance) (ps : List ℕ) (a : is_arborescence s ps ≡ true) where
  -- the parent of v is among the choices there
  chosen : (v : ℕ) → v < s.n → any_of (λ y. eqb y (parent ps v)) (choices s v) ≡ true
  unfolding choices any_of
  chosen v l = at (eqb v s.root) refl
    where
      at : (b : Bool) → eqb v s.root ≡ b → any_of (λ y. eqb y (parent ps v)) (cond b (no_parent ∷ []) (tabulate s.n (λ t. t))) ≡ true
      at true e = or_left (eqb no_parent (parent ps v)) false (eq-eqb no_parent (parent ps v) (sym (root_parent s ps a v l e)))
      at false e =
          any_tabulate (λ y. eqb y (parent ps v)) s.n (λ t. t) (parent ps v)
          (remaining_ends s (parent ps v) v (joined s ps a v l e).arc).tail_below (eq-eqb (parent ps v) (parent ps v) refl)

  listed_from : (k v : ℕ) (q : List ℕ → Bool) → v + k ≡ s.n → q (drop v ps) ≡ true → any_of q (candidates_from k v s) ≡ true
  unfolding candidates_from any_of
  listed_from zero v q e p =
      let short = parents_size s ps a in
      or_left (q []) false (rw (drop_of_length-le ps {i = v} (omega arith)) at p)
  listed_from (suc k) v q e p =
      let size = parents_size s ps a in
      any_prefixed q (choices s v) (candidates_from k (suc v) s) (parent ps v) (chosen v (omega arith))
      (listed_from k (suc v) (λ l. q (parent ps v ∷ l)) (omega arith) (rw (drop-cons ps v no_parent (omega arith)) at p))

  -- THE CANDIDATES ARE COMPLETE
  pub listed : (q : List ℕ → Bool) → q ps ≡ true → any_of q (candidates s) ≡ true
  unfolding candidates
  listed q p = listed_from s.n 0 q (zero-add s.n) p

-- tests over the candidates that pass a test which implies that they are arborescences
module _ (s : Instance) (p : List ℕ → Bool) (sound : (ps : List ℕ) → p ps ≡ true → is_arborescence s ps ≡ true) where
  pub any_selected : (q : List ℕ → Bool) → (any_of q (select p (candidates s)) ≡ true) ↔ ((ps : List ℕ) × (p ps ≡ true) × (q ps ≡ true))
  any_selected q = (found, here)
    where
      found : any_of q (select p (candidates s)) ≡ true → (ps : List ℕ) × (p ps ≡ true) × (q ps ≡ true)
      found e =
          let w = any_witness (λ x. p x && q x) (candidates s) (sym (any_select p q (candidates s)) ∙ e) in
          (w.0, and_left (p w.0) (q w.0) w.1, and_right (p w.0) (q w.0) w.1)

      here : ((ps : List ℕ) × (p ps ≡ true) × (q ps ≡ true)) → any_of q (select p (candidates s)) ≡ true
      here w =
          any_select p q (candidates s)
          ∙ listed s w.0 (sound w.0 w.1) (λ x. p x && q x) (and_both (p w.0) (q w.0) w.1 w.2)

  pub all_selected : (q : List ℕ → Bool) → (all_of q (select p (candidates s)) ≡ true) ↔ ((ps : List ℕ) → p ps ≡ true → q ps ≡ true)
  all_selected q = (each, whole)
    where
      fails : Bool
      fails = any_of (λ x. not (q x)) (select p (candidates s))

      each : all_of q (select p (candidates s)) ≡ true → (ps : List ℕ) → p ps ≡ true → q ps ≡ true
      each e ps h =
          is_true (q ps)
          (λ n. not_both fails ((any_selected (λ x. not (q x))).1 (ps, h, ap not n)) (not-true fails (sym (all_of_any q (select p (candidates s))) ∙ e)))

      whole : ((ps : List ℕ) → p ps ≡ true → q ps ≡ true) → all_of q (select p (candidates s)) ≡ true
      whole h =
          let none = is_false fails (λ y. let w = (any_selected (λ x. not (q x))).0 y in not_both (q w.0) (h w.0 w.1) (not-true (q w.0) w.2)) in
          all_of_any q (select p (candidates s)) ∙ ap not none

  -- a test that not all pass has one that fails it
  pub one_fails : (q : List ℕ → Bool) → all_of q (select p (candidates s)) ≡ false → (ps : List ℕ) × (p ps ≡ true) × (q ps ≡ false)
  one_fails q e =
      let w = (any_selected (λ x. not (q x))).0 (not-false (any_of (λ x. not (q x)) (select p (candidates s))) (sym (all_of_any q (select p (candidates s))) ∙ e)) in
      (w.0, w.1, not-true (q w.0) w.2)

  pub none_passes : (q : List ℕ → Bool) → any_of q (select p (candidates s)) ≡ false → (ps : List ℕ) → p ps ≡ true → q ps ≡ false
  none_passes q e ps h = is_false (q ps) (λ y. not_both (any_of q (select p (candidates s))) ((any_selected q).1 (ps, h, y)) e)
