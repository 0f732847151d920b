-- The cuts that have one vertex are selected: what they charge an arc into it, and what the cuts still to come charge
-- it, add to what all charge it. A cut without the vertex charges such an arc nothing. Assumes nothing.
use mathlib.Core.Path.{◌≡◌, refl, ap, ◌∙◌}
use mathlib.Core.Bool.{true, false, not, cond}
use mathlib.Core.List.{List, [], ◌∷◌, ◌++◌}
use Prim.Native.Nat.{ℕ, ◌+◌, ◌≤◌, ◌<◌}
use native.Mathlib.Omega.{arith}
use lib.Dec.{leb}
use lib.ListN.{length, get_or, set, take, drop, length-set}
use Rattle.std.proofs.lemmas.List.{take_more_set}
use Rattle.base.proofs.BoolLaws.{and_false_right}
use Rattle.base.proofs.BoundedLaws.{all_same}
use Rattle.instance.specs.Limits.{max_cuts}
use Rattle.instance.specs.Instance.{Instance, weight}
use Rattle.instance.specs.Arborescence.{remaining, if_remaining}
use Rattle.instance.specs.Cuts.{Cut, inside, enters, charged}
use Rattle.instance.proofs.CutLaws.{charged_append}
use Rattle.certificate.specs.Certificate.{covered}
use Rattle.verifier.specs.Pairs.{cut_of, cuts_of}
use Rattle.verifier.specs.Selected.{Selects, covered_into}
use Rattle.verifier.proofs.RestLaws.{cuts_next, cuts_last}
use Rattle.verifier.proofs.CutsLaws.{share}

of_append : (ps qs : List (List ℕ)) → cuts_of (ps ++ qs) ≡ cuts_of ps ++ cuts_of qs
unfolding cuts_of
of_append [] qs = refl
of_append (p ∷ ps) qs = ap (λ (cs : List Cut). cut_of p ∷ cs) (of_append ps qs)

-- the cuts from place k on are still to come
pub record Selecting (ps : List (List ℕ)) (h : ℕ) (out : List (List ℕ)) (count k : ℕ) : Type 0 where
  pub fewer : count ≤ k
  pub long : length out ≡ max_cuts
  pub same : (t : ℕ) → charged (cuts_of (take count out)) t h + charged (cuts_of (drop k ps)) t h ≡ charged (cuts_of ps) t h

module _ (ps : List (List ℕ)) (h : ℕ) where
  pub selecting_none : (out : List (List ℕ)) → length out ≡ max_cuts → Selecting ps h out 0 0
  unfolding cuts_of charged
  selecting_none out long = record { fewer = omega arith; long = long; same = λ t. omega arith }

  module _ (out : List (List ℕ)) (count k : ℕ) (l : k < length ps) (small : length ps ≤ max_cuts) (p : Selecting ps h out count k) where
    abbrev c : Cut
    c = cut_of (get_or ps k [])

    -- what the next cut and those after it charge
    next : (t : ℕ) → charged (cuts_of (drop k ps)) t h ≡ share t h c + charged (cuts_of (drop (k + 1) ps)) t h
    unfolding charged
    next t = ap (λ (cs : List Cut). charged cs t h) (cuts_next ps k l)

    -- without the vertex it charges nothing
    pub selecting_skip : inside c.set h ≡ false → Selecting ps h out count (k + 1)
    unfolding enters
    selecting_skip e =
        record {
          fewer = let f = p.fewer in omega arith;
          long = p.long;
          same =
              λ t.
              let n = next t in
              let s = p.same t in
              let z : share t h c ≡ 0 = rw (e, and_false_right (not (inside c.set t)) false refl) in
              omega (arith, n, s, z);
        }

    -- with it, it is stored behind those selected
    abbrev stored : List (List ℕ)
    stored = set out count (c.set ∷ c.value ∷ [])

    more : (t : ℕ) → charged (cuts_of (take (count + 1) stored)) t h ≡ charged (cuts_of (take count out)) t h + share t h c
    unfolding cuts_of charged
    more t =
        let f = p.fewer in
        let s = p.long in
        ap (λ (qs : List (List ℕ)). charged (cuts_of qs) t h) (take_more_set out count (c.set ∷ c.value ∷ []) (omega arith))
        ∙ ap (λ (cs : List Cut). charged cs t h) (of_append (take count out) ((c.set ∷ c.value ∷ []) ∷ []))
        ∙ charged_append (cuts_of (take count out)) (cuts_of ((c.set ∷ c.value ∷ []) ∷ [])) t h ∙ omega arith

    pub selecting_more : Selecting ps h stored (count + 1) (k + 1)
    selecting_more =
        record {
          fewer = let f = p.fewer in omega arith;
          long = simp length-set p.long;
          same = λ t. let n = next t in let s = p.same t in let m = more t in omega (arith, n, s, m);
        }

  pub selecting_all : (out : List (List ℕ)) (count k : ℕ) → length ps ≤ k → k ≤ length ps → Selecting ps h out count k → Selects ps h out count
  unfolding charged
  selecting_all out count k g m p =
      record {
        fewer = let f = p.fewer in omega arith;
        long = p.long;
        same =
            λ t.
            let e = ap (λ (cs : List Cut). charged cs t h) (cuts_last ps k g) in
            let s = p.same t in
            omega (arith, e, s);
      }

-- THE ARCS INTO THE VERTEX are judged alike by cuts that charge them alike
pub same_into : (s : Instance) (cs ds : List Cut) (h : ℕ) → ((t : ℕ) → charged cs t h ≡ charged ds t h) → covered_into s cs h ≡ covered_into s ds h
unfolding if_remaining
same_into s cs ds h e =
    all_same s.n (λ t. if_remaining s (covered s cs) t h) (λ t. if_remaining s (covered s ds) t h)
    (λ t _. ap (λ (x : ℕ). cond (remaining s t h) (leb x (weight s t h)) true) (e t))
