-- A sum held against a number by counting the number down: what is left decides, and a summand past what is left
-- decides at once. So no sum has to be formed, and none can pass 32 bits. Assumes nothing.
use mathlib.Core.Path.{◌≡◌, sym, ap, ◌∙◌}
use mathlib.Core.Bool.{Bool, false}
use mathlib.Core.List.{List, [], ◌∷◌}
use Prim.Native.Nat.{ℕ, ◌+◌, ◌-◌, ◌≤◌, ◌<◌}
use native.Mathlib.Omega.{arith}
use native.Mathlib.Numerals.{add-one}
use lib.Dec.{leb, eqb}
use lib.ListN.{length, get_or, drop}
use lib.Seq.{drop-cons}
use Rattle.std.proofs.lemmas.List.{drop_all}
use borrow.Author.Tests.{leb-true, le-leb, lt-leb, eqb-true, eq-eqb, ne_eqb}
use Rattle.base.proofs.BoolLaws.{same_test}
use Rattle.instance.specs.Cuts.{Cut}
use Rattle.verifier.specs.Pairs.{cut_of, cuts_of}

pub eqb_turned : (x y : ℕ) → eqb x y ≡ eqb y x
eqb_turned x y =
    same_test (eqb x y) (eqb y x) (λ e. eq-eqb y x (sym (eqb-true x y e))) (λ e. eq-eqb x y (sym (eqb-true y x e)))

-- ONE STEP: y is the next summand, a the sum of the later ones, x what is left
module _ (y a x : ℕ) where
  pub within_rest : y ≤ x → leb (y + a) x ≡ leb a (x - y)
  within_rest l =
      same_test (leb (y + a) x) (leb a (x - y)) (λ e. le-leb a (x - y) (omega (arith, leb-true (y + a) x e)))
      (λ e. le-leb (y + a) x (omega (arith, leb-true a (x - y) e)))

  pub past_rest : x < y → leb (y + a) x ≡ false
  past_rest l = lt-leb (y + a) x (omega arith)

  pub equal_rest : y ≤ x → eqb (y + a) x ≡ eqb a (x - y)
  equal_rest l =
      same_test (eqb (y + a) x) (eqb a (x - y)) (λ e. eq-eqb a (x - y) (omega (arith, eqb-true (y + a) x e)))
      (λ e. eq-eqb (y + a) x (omega (arith, eqb-true a (x - y) e)))

  pub unequal_rest : x < y → eqb (y + a) x ≡ false
  unequal_rest l = ne_eqb (y + a) x (λ e. omega arith)

-- OVER CUTS
-- the cuts from place k on begin with the one there
pub cuts_next : (ps : List (List ℕ)) (k : ℕ) → k < length ps → cuts_of (drop k ps) ≡ cut_of (get_or ps k []) ∷ cuts_of (drop (k + 1) ps)
unfolding cuts_of
cuts_next ps k l = ap cuts_of (drop-cons ps k [] l) ∙ ap (λ (j : ℕ). cut_of (get_or ps k []) ∷ cuts_of (drop j ps)) (sym (add-one k))

pub cuts_last : (ps : List (List ℕ)) (k : ℕ) → length ps ≤ k → cuts_of (drop k ps) ≡ []
unfolding cuts_of
cuts_last ps k l = ap cuts_of (drop_all k ps l)

-- F sums the shares of cuts, and T holds the sum against a number, as `leb` and `eqb` do
module _ (F : List Cut → ℕ) (share : Cut → ℕ) (T : (sum number : ℕ) → Bool) (more : (c : Cut) (cs : List Cut) → F (c ∷ cs) ≡ share c + F cs)
    (fits : (y a x : ℕ) → y ≤ x → T (y + a) x ≡ T a (x - y)) (fails : (y a x : ℕ) → x < y → T (y + a) x ≡ false) (ps : List (List ℕ)) (w : ℕ) where
  -- the cuts from place k on are still to be counted
  abbrev pub Counting : (k rest : ℕ) → Type 0
  Counting k rest = T (F (cuts_of ps)) w ≡ T (F (cuts_of (drop k ps))) rest

  module _ (k rest : ℕ) (l : k < length ps) (p : Counting k rest) where
    step : T (F (cuts_of ps)) w ≡ T (share (cut_of (get_or ps k [])) + F (cuts_of (drop (k + 1) ps))) rest
    step =
        p ∙ ap (λ (cs : List Cut). T (F cs) rest) (cuts_next ps k l)
        ∙ ap (λ (x : ℕ). T x rest) (more (cut_of (get_or ps k [])) (cuts_of (drop (k + 1) ps)))

    pub counting_less : share (cut_of (get_or ps k [])) ≤ rest → Counting (k + 1) (rest - share (cut_of (get_or ps k [])))
    counting_less b = step ∙ fits (share (cut_of (get_or ps k []))) (F (cuts_of (drop (k + 1) ps))) rest b

    pub counting_past : rest < share (cut_of (get_or ps k [])) → T (F (cuts_of ps)) w ≡ false
    counting_past b = step ∙ fails (share (cut_of (get_or ps k []))) (F (cuts_of (drop (k + 1) ps))) rest b

  pub counting_none : (k rest : ℕ) → length ps ≤ k → Counting k rest → T (F (cuts_of ps)) w ≡ T (F []) rest
  counting_none k rest g p = p ∙ ap (λ (cs : List Cut). T (F cs) rest) (cuts_last ps k g)
