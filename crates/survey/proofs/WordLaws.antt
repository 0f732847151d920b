-- Cuts as words: what a buffer holds is told by the cuts that it holds and the zeros behind them. Assumes nothing.
use mathlib.Core.Path.{◌≡◌, refl, sym, ap, ◌∙◌}
use mathlib.Core.List.{List, [], ◌∷◌, ◌++◌}
use Prim.Native.Nat.{ℕ, zero, suc, ◌+◌, ◌*◌, ◌-◌, ◌≤◌}
use native.Mathlib.Omega.{arith}
use native.Mathlib.Numerals.{add-one}
use lib.ListN.{length, get_or, take, drop, replicate, take-append-drop}
use lib.Seq.{drop-cons}
use Rattle.instance.specs.Limits.{cut_words}
use Rattle.instance.specs.Cuts.{Cut, cuts_from, cuts_in, pair_words, words_of}
use Rattle.instance.proofs.CutLaws.{cuts_length}

-- the pairs from place i on are the words from 2 i on
pairs_at : (k i : ℕ) (ws : List ℕ) → 2 * (i + k) ≤ length ws → pair_words (cuts_from k i ws) ≡ take (2 * k) (drop (2 * i) ws)
unfolding cuts_from pair_words
pairs_at zero i ws h = refl
pairs_at (suc k) i ws h =
    let e : 2 * suc k ≡ suc (suc (2 * k)) = omega arith in
    let n : 2 * suc i ≡ suc (suc (2 * i)) = omega arith in
    let one : 2 * i + 1 ≡ suc (2 * i) = add-one (2 * i) in
    let first = drop-cons ws (2 * i) 0 (omega arith) in
    let second = drop-cons ws (suc (2 * i)) 0 (omega arith) in
    ap (λ (l : List ℕ). get_or ws (2 * i) 0 ∷ get_or ws (2 * i + 1) 0 ∷ l) (pairs_at k (suc i) ws (omega arith))
    ∙ rw (e, n, one, first, second)

-- words that end in zeros are those of their cuts
pub words_again :
    (k : ℕ) (ws : List ℕ) → 2 * k ≤ length ws → drop (2 * k) ws ≡ replicate (cut_words - 2 * k) 0 → ws ≡ words_of (cuts_in k ws)
unfolding cuts_in words_of
words_again k ws h z =
    sym (take-append-drop (2 * k) ws)
    ∙ ap (λ (l : List ℕ). l ++ drop (2 * k) ws) (sym (pairs_at k 0 ws (omega arith)))
    ∙ ap (λ (l : List ℕ). pair_words (cuts_from k 0 ws) ++ l) z
    ∙ ap (λ (j : ℕ). pair_words (cuts_from k 0 ws) ++ replicate (cut_words - 2 * j) 0) (sym (cuts_length k 0 ws))

-- two words in front of the others are the cut before the others
cuts_after : (k i a b : ℕ) (ws : List ℕ) → cuts_from k (suc i) (a ∷ b ∷ ws) ≡ cuts_from k i ws
unfolding cuts_from
cuts_after zero i a b ws = refl
cuts_after (suc k) i a b ws =
    let n : 2 * suc i ≡ suc (suc (2 * i)) = omega arith in
    let m : 2 * suc i + 1 ≡ suc (suc (2 * i + 1)) = omega arith in
    let set_same : get_or (a ∷ b ∷ ws) (2 * suc i) 0 ≡ get_or ws (2 * i) 0 = ap (λ (j : ℕ). get_or (a ∷ b ∷ ws) j 0) n in
    let value_same : get_or (a ∷ b ∷ ws) (2 * suc i + 1) 0 ≡ get_or ws (2 * i + 1) 0 = ap (λ (j : ℕ). get_or (a ∷ b ∷ ws) j 0) m in
    let rest = cuts_after k (suc i) a b ws in
    λ j. record { set = set_same j; value = value_same j } ∷ rest j

-- and cuts put as words are read again, whatever stands after them
pub cuts_again : (cs : List Cut) (ws : List ℕ) → cuts_in (length cs) (pair_words cs ++ ws) ≡ cs
unfolding cuts_in cuts_from pair_words
cuts_again [] ws = refl
cuts_again (c ∷ cs) ws = ap (λ (l : List Cut). c ∷ l) (cuts_after (length cs) 0 c.set c.value (pair_words cs ++ ws) ∙ cuts_again cs ws)
