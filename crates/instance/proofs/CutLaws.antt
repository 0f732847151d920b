-- Cuts in a buffer of words: how many, one part after another, what a store elsewhere leaves, and one pair stored; what
-- cuts charge and add to, part by part. Assumes nothing.
use mathlib.Core.Path.{◌≡◌, refl, sym, ap, ◌∙◌}
use mathlib.Core.List.{List, [], ◌∷◌, ◌++◌}
use mathlib.Core.Logic.{◌⊎◌, inl}
use Prim.Native.Nat.{ℕ, zero, suc, ◌+◌, ◌*◌, ◌-◌, ◌≤◌, ◌<◌}
use native.Mathlib.Omega.{arith}
use native.Mathlib.Nat.{zero-add, suc-add, sub-zero}
use lib.ListN.{length, set, length-set, get_or}
use lib.Seq.{get_or-set_same, get_or-set_other}
use Rattle.instance.specs.Cuts.{Cut, cuts_from, charged, values}

pub cuts_length : (a i : ℕ) (l : List ℕ) → length (cuts_from a i l) ≡ a
unfolding cuts_from
cuts_length zero i l = refl
cuts_length (suc a) i l = ap suc (cuts_length a (suc i) l)

cuts_append : (a b i j : ℕ) (l : List ℕ) → j ≡ i + a → cuts_from a i l ++ cuts_from b j l ≡ cuts_from (a + b) i l
unfolding cuts_from
cuts_append zero b i j l e = let e' : j ≡ i = omega arith in rw (e', zero-add b)
cuts_append (suc a) b i j l e =
    rw (suc-add a b) (ap (λ (t : List Cut). record { set = get_or l (2 * i) 0; value = get_or l (2 * i + 1) 0 } ∷ t) (cuts_append a b (suc i) j l (omega arith)))

cuts_same : (a i : ℕ) (l m : List ℕ) → ((j : ℕ) → 2 * i ≤ j → j < 2 * (i + a) → get_or l j 0 ≡ get_or m j 0) → cuts_from a i l ≡ cuts_from a i m
unfolding cuts_from
cuts_same zero i l m h = refl
cuts_same (suc a) i l m h =
    let x = h (2 * i) (omega arith) (omega arith) in
    let y = h (2 * i + 1) (omega arith) (omega arith) in
    let z = cuts_same a (suc i) l m (λ j lo lt. h j (omega arith) (omega arith)) in
    rw (x, y, z)

pub no_cuts : (k : ℕ) (l : List ℕ) → cuts_from (k - k) k l ≡ []
unfolding cuts_from
no_cuts k l = let e : k - k ≡ 0 = omega arith in rw e

pub one_cut : (cuts : List ℕ) (k s a : ℕ) → 2 * k + 1 < length cuts
    → cuts_from ((k + 1) - k) k (set (set cuts (2 * k) s) (2 * k + 1) a) ≡ record { set = s; value = a } ∷ []
unfolding cuts_from
one_cut cuts k s a l =
    let e : (k + 1) - k ≡ 1 = omega arith in
    let x : get_or (set (set cuts (2 * k) s) (2 * k + 1) a) (2 * k) 0 ≡ s =
    get_or-set_other (set cuts (2 * k) s) (2 * k + 1) (2 * k) a 0 (omega arith) ∙ get_or-set_same cuts (2 * k) s 0 (omega arith) in
    let y : get_or (set (set cuts (2 * k) s) (2 * k + 1) a) (2 * k + 1) 0 ≡ a = get_or-set_same (set cuts (2 * k) s) (2 * k + 1) a 0 (simp length-set (omega arith)) in
    rw e (rw (x, y))

-- two parts of the cuts, the second written after the first, are one
pub cuts_joined : (k m j : ℕ) (l l' : List ℕ) → k ≤ m → m ≤ j → ((i : ℕ) → (i < 2 * m) ⊎ (2 * j ≤ i) → get_or l' i 0 ≡ get_or l i 0)
    → cuts_from (m - k) k l ++ cuts_from (j - m) m l' ≡ cuts_from (j - k) k l'
cuts_joined k m j l l' a b frame =
    ap (λ (x : List Cut). x ++ cuts_from (j - m) m l') (cuts_same (m - k) k l l' (λ i lo lt. sym (frame i (inl (omega arith)))))
    ∙ cuts_append (m - k) (j - m) k m l' (omega arith)
    ∙ ap (λ (x : ℕ). cuts_from x k l') (omega arith)

-- the same from the first place on
pub cuts_begun : (m j : ℕ) (l l' : List ℕ) → m ≤ j → ((i : ℕ) → (i < 2 * m) ⊎ (2 * j ≤ i) → get_or l' i 0 ≡ get_or l i 0)
    → cuts_from m 0 l ++ cuts_from (j - m) m l' ≡ cuts_from j 0 l'
cuts_begun m j l l' b frame =
    ap (λ (x : ℕ). cuts_from x 0 l ++ cuts_from (j - m) m l') (sym (sub-zero m)) ∙ cuts_joined 0 m j l l' (omega arith) b frame ∙ ap (λ (x : ℕ). cuts_from x 0 l') (sub-zero j)

-- WHAT THEY CHARGE: one part of the cuts and another
pub charged_append : (cs ds : List Cut) (t h : ℕ) → charged (cs ++ ds) t h ≡ charged cs t h + charged ds t h
unfolding charged
charged_append [] ds t h = omega arith
charged_append (c ∷ cs) ds t h = let e = charged_append cs ds t h in omega arith

-- VALUES
pub values_step : (a i : ℕ) (l : List ℕ) → values (cuts_from (suc a) i l) ≡ get_or l (2 * i + 1) 0 + values (cuts_from a (suc i) l)
unfolding cuts_from values
values_step a i l = refl

-- the later cuts have no more than all
pub values_later : (a i : ℕ) (l : List ℕ) → values (cuts_from a i l) ≤ values (cuts_from (a + i) 0 l)
values_later a zero l = let e : a + 0 ≡ a = omega arith in rw e (omega arith)
values_later a (suc i) l =
    let r = values_later (suc a) i l in
    let s = values_step a i l in
    let e : suc a + i ≡ a + suc i = omega arith in
    let q : values (cuts_from (suc a + i) 0 l) ≡ values (cuts_from (a + suc i) 0 l) = ap (λ (k : ℕ). values (cuts_from k 0 l)) e in
    omega arith
