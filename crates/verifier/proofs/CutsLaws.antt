-- The cuts that were sent, as a program reads them: as pairs; their sets judged one after another, and what they charge
-- and add to. Assumes nothing.
use mathlib.Core.Path.{◌≡◌, refl, sym, ap, ◌∙◌}
use mathlib.Core.Bool.{Bool, true, false, ◌&&◌, not, cond}
use mathlib.Core.List.{List, [], ◌∷◌}
use mathlib.Core.Logic.{◌≢◌}
use Prim.Native.Nat.{ℕ, zero, suc, ◌+◌, ◌*◌, ◌-◌, ◌/◌, ◌^◌, ◌≤◌, ◌<◌}
use native.Mathlib.Omega.{arith}
use lib.Dec.{ltb, leb, eqb}
use lib.ListN.{length, get_or, take, drop}
use lib.Seq.{get_or-take, get_or-drop, drop-drop}
use borrow.Author.Tests.{lt-ltb, le-leb}
use Rattle.base.proofs.BoolLaws.{and_false_right}
use Rattle.std.specs.Simd.{first_chunks}
use Rattle.instance.specs.Limits.{cells, max_cuts}
use Rattle.instance.specs.Instance.{Instance, cell, weight, is_arc}
use Rattle.instance.specs.Arborescence.{if_remaining}
use Rattle.instance.specs.Cuts.{Cut, cuts_from, cuts_in, inside, enters, charged, values, set_ok, sets_ok}
use Rattle.instance.specs.Matrix.{unmarked}
use Rattle.instance.proofs.ArcLaws.{unmarked_remaining}
use Rattle.instance.proofs.MatrixLaws.{weight_read}
use Rattle.verifier.specs.Pairs.{cut_of, cuts_of}
use Rattle.verifier.proofs.RestLaws.{eqb_turned, within_rest, past_rest, equal_rest, unequal_rest, cuts_next, cuts_last, counting_less, counting_past, counting_none}

-- AS THEY ARE SENT: pairs, one after the other
from_pairs : (count i m : ℕ) (ws : List ℕ) → 2 * (i + count) ≤ length ws → count ≤ m → cuts_of (take count (first_chunks 2 m (drop (2 * i) ws))) ≡ cuts_from count i ws
unfolding cuts_of cuts_from
from_pairs zero i m ws l b = refl
from_pairs (suc c) i zero ws l b = absurd (omega arith)
from_pairs (suc c) i (suc m) ws l b =
    let e : drop 2 (drop (2 * i) ws) ≡ drop (2 * suc i) ws = drop-drop 2 (2 * i) ws ∙ ap (λ (j : ℕ). drop j ws) (omega arith) in
    let x : get_or (take 2 (drop (2 * i) ws)) 0 0 ≡ get_or ws (2 * i) 0 =
    get_or-take 2 (drop (2 * i) ws) 0 0 (omega arith) ∙ get_or-drop (2 * i) ws 0 0 ∙ ap (λ (j : ℕ). get_or ws j 0) (omega arith) in
    let y : get_or (take 2 (drop (2 * i) ws)) 1 0 ≡ get_or ws (2 * i + 1) 0 =
    get_or-take 2 (drop (2 * i) ws) 1 0 (omega arith) ∙ get_or-drop (2 * i) ws 1 0 in
    rw (x, y, e) (ap (λ (cs : List Cut). record { set = get_or ws (2 * i) 0; value = get_or ws (2 * i + 1) 0 } ∷ cs) (from_pairs c (suc i) m ws (omega arith) (omega arith)))

pub pairs_sent : (count : ℕ) (ws : List ℕ) → count ≤ length ws / 2 → cuts_of (take count (first_chunks 2 (length ws / 2) ws)) ≡ cuts_in count ws
unfolding cuts_in
pairs_sent count ws b = from_pairs count 0 (length ws / 2) ws (omega arith) b

of_length : (ps : List (List ℕ)) → length (cuts_of ps) ≡ length ps
unfolding cuts_of
of_length [] = refl
of_length (p ∷ ps) = ap suc (of_length ps)

-- THE SETS
-- one set: empty, or with a bit from n on, or else judged by the root
module _ (s : Instance) (c : ℕ) where
  pub empty_set : c ≡ 0 → false ≡ set_ok s c
  unfolding set_ok
  empty_set e = rw e

  pub large_set : ltb c (2 ^ s.n) ≡ false → false ≡ set_ok s c
  unfolding set_ok
  large_set e = sym (rw (e, and_false_right (ltb 0 c) false refl))

  pub judged_set : c ≢ 0 → ltb c (2 ^ s.n) ≡ true → not (inside c s.root) ≡ set_ok s c
  unfolding set_ok
  judged_set z e = sym (rw (lt-ltb 0 c (omega arith), e))

-- those from place k on decide
abbrev pub Judging : Instance → (pairs : List (List ℕ)) → (k : ℕ) → Type 0
Judging s ps k = sets_ok s (cuts_of ps) ≡ sets_ok s (cuts_of (drop k ps))

module _ (s : Instance) (ps : List (List ℕ)) where
  module _ (k : ℕ) (l : k < length ps) (p : Judging s ps k) where
    step : sets_ok s (cuts_of ps) ≡ set_ok s (get_or (get_or ps k []) 0 0) && sets_ok s (cuts_of (drop (k + 1) ps))
    unfolding sets_ok
    step = p ∙ ap (sets_ok s) (cuts_next ps k l)

    pub judging_more : set_ok s (get_or (get_or ps k []) 0 0) ≡ true → Judging s ps (k + 1)
    judging_more e = step ∙ rw e

    pub judging_fails : set_ok s (get_or (get_or ps k []) 0 0) ≡ false → sets_ok s (cuts_of ps) ≡ false
    judging_fails e = step ∙ rw e

  pub judging_done : (k : ℕ) → length ps ≤ k → Judging s ps k → sets_ok s (cuts_of ps) ≡ true
  unfolding sets_ok
  judging_done k g p = p ∙ ap (sets_ok s) (cuts_last ps k g)

pub cuts_judged : (s : Instance) (ps : List (List ℕ)) → leb (length ps) max_cuts && sets_ok s (cuts_of ps) ≡ leb (length (cuts_of ps)) max_cuts && sets_ok s (cuts_of ps)
cuts_judged s ps = sym (rw (of_length ps))

-- WHAT THEY CHARGE AN ARC, held against its weight: what the cuts from place k on charge it is still to come
module _ (t h : ℕ) where
  abbrev pub share : Cut → ℕ
  share c = cond (enters c.set t h) c.value 0

  abbrev sum : List Cut → ℕ
  sum cs = charged cs t h

  more : (c : Cut) (cs : List Cut) → charged (c ∷ cs) t h ≡ share c + charged cs t h
  unfolding charged
  more c cs = refl

  module _ (ps : List (List ℕ)) (w : ℕ) where
    abbrev pub Covering : (k rest : ℕ) → Type 0
    Covering k rest = leb (charged (cuts_of ps) t h) w ≡ leb (charged (cuts_of (drop k ps)) t h) rest

    module _ (k rest : ℕ) (l : k < length ps) (p : Covering k rest) where
      -- one that the arc does not enter
      pub covering_skip : enters (get_or (get_or ps k []) 0 0) t h ≡ false → Covering (k + 1) rest
      covering_skip e =
          let z : share (cut_of (get_or ps k [])) ≡ 0 = rw e in
          let d : rest - share (cut_of (get_or ps k [])) ≡ rest = omega arith in
          rw d at (counting_less sum share leb more within_rest past_rest ps w k rest l p (omega arith))

      module _ (e : enters (get_or (get_or ps k []) 0 0) t h ≡ true) where
        whole : share (cut_of (get_or ps k [])) ≡ get_or (get_or ps k []) 1 0
        whole = rw e

        pub covering_less : get_or (get_or ps k []) 1 0 ≤ rest → Covering (k + 1) (rest - get_or (get_or ps k []) 1 0)
        covering_less b = rw whole at (counting_less sum share leb more within_rest past_rest ps w k rest l p (rw whole b))

        pub covering_past : rest < get_or (get_or ps k []) 1 0 → leb (charged (cuts_of ps) t h) w ≡ false
        covering_past b = counting_past sum share leb more within_rest past_rest ps w k rest l p (rw whole b)

    pub covering_none : (k rest : ℕ) → length ps ≤ k → Covering k rest → leb (charged (cuts_of ps) t h) w ≡ true
    unfolding charged
    covering_none k rest g p = counting_none sum share leb more within_rest past_rest ps w k rest g p ∙ le-leb 0 rest (omega arith)

-- WHAT THEY ADD TO, held against the total
values_more : (c : Cut) (cs : List Cut) → values (c ∷ cs) ≡ c.value + values cs
unfolding values
values_more c cs = refl

module _ (ps : List (List ℕ)) (w : ℕ) where
  abbrev pub Adding : (k rest : ℕ) → Type 0
  Adding k rest = eqb (values (cuts_of ps)) w ≡ eqb (values (cuts_of (drop k ps))) rest

  module _ (k rest : ℕ) (l : k < length ps) (p : Adding k rest) where
    pub adding_less : get_or (get_or ps k []) 1 0 ≤ rest → Adding (k + 1) (rest - get_or (get_or ps k []) 1 0)
    adding_less = counting_less values (λ c. c.value) eqb values_more equal_rest unequal_rest ps w k rest l p

    pub adding_past : rest < get_or (get_or ps k []) 1 0 → eqb (values (cuts_of ps)) w ≡ false
    adding_past = counting_past values (λ c. c.value) eqb values_more equal_rest unequal_rest ps w k rest l p

  pub adding_none : (k rest : ℕ) → length ps ≤ k → Adding k rest → eqb (values (cuts_of ps)) w ≡ eqb rest 0
  unfolding values
  adding_none k rest g p = counting_none values (λ c. c.value) eqb values_more equal_rest unequal_rest ps w k rest g p ∙ eqb_turned 0 rest

-- A CELL OF THE MATRIX: a test of its arc, if it has one
module _ (n r : ℕ) (m : List ℕ) (P : ℕ → ℕ → Bool) (t h : ℕ) where
  pub no_arc_passes : is_arc (unmarked n r m) t h ≡ false → true ≡ if_remaining (unmarked n r m) P t h
  unfolding if_remaining
  no_arc_passes e = sym (rw (unmarked_remaining n r m t h ∙ e))

  pub arc_tested : is_arc (unmarked n r m) t h ≡ true → P t h ≡ if_remaining (unmarked n r m) P t h
  unfolding if_remaining
  arc_tested e = sym (rw (unmarked_remaining n r m t h ∙ e))

pub matrix_weight : (n r : ℕ) (m : List ℕ) (t h : ℕ) → length m ≡ cells → cell t h < cells → get_or m (cell t h) 0 ≡ weight (unmarked n r m) t h
unfolding unmarked
matrix_weight n r m t h e l = weight_read (unmarked n r m) t h e l
