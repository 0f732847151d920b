-- The front of a list replaced and the rest kept: lengths and parts, and the loops that fill a caller's buffer from the
-- front, by index or by copying. Assumes nothing.
use mathlib.Core.Path.{◌≡◌, refl, sym, ap, ◌∙◌}
use mathlib.Core.List.{List, [], ◌∷◌, ◌++◌, append_assoc}
use Prim.Native.Nat.{ℕ, suc, ◌+◌, ◌≤◌, ◌<◌}
use native.Mathlib.Omega.{arith}
use native.Mathlib.Numerals.{add-one}
use lib.ListN.{length, get_or, set, take, drop}
use lib.Seq.{length_front, length-take-le, take_at, take-suc, drop_at, set_at, drop-cons}
use Rattle.base.specs.Lists.{tabulate, tabulate_from, in_front}
use Rattle.base.proofs.ListLaws.{length_tabulate, tabulate_more}

module _ (new old : List ℕ) where
  pub front_is : (k : ℕ) → length new ≡ k → new ++ drop k old ≡ in_front new old
  front_is k e = ap (λ (j : ℕ). new ++ drop j old) (sym e)

  pub front_length : length new ≤ length old → length (in_front new old) ≡ length old
  front_length h = length_front old new (length new) (sym (length-take-le (length new) old h))

  pub front_take : (k : ℕ) → length new ≡ k → take k (in_front new old) ≡ new
  front_take k e = take_at new (drop (length new) old) k e

  pub front_drop : (k : ℕ) → length new ≡ k → drop k (in_front new old) ≡ drop k old
  front_drop k e = drop_at new (drop (length new) old) k e ∙ ap (λ (j : ℕ). drop j old) e

-- a caller's buffer that is filled from the front by index
pub front_none : (g : ℕ → ℕ) (old : List ℕ) → old ≡ tabulate 0 g ++ drop 0 old
unfolding tabulate tabulate_from
front_none g old = refl

pub front_more : (out old : List ℕ) (k v : ℕ) (g : ℕ → ℕ) → k < length old → out ≡ tabulate k g ++ drop k old → v ≡ g k
    → set out k v ≡ tabulate (k + 1) g ++ drop (k + 1) old
front_more out old k v g h e q =
    rw (e, q, tabulate_more k g, add-one, drop-cons old k 0 h)
    (set_at (tabulate k g) (get_or old k 0) (drop (suc k) old) (g k) k (length_tabulate k g) ∙ sym (append_assoc (tabulate k g) (g k ∷ []) (drop (suc k) old)))

-- a loop that copies into the front of a list: one element more
pub copy_step : (from out now : List ℕ) (i d : ℕ) → i < length from → i < length out → now ≡ take i from ++ drop i out → set now i (get_or from i d) ≡ take (i + 1) from ++ drop (i + 1) out
copy_step from out now i d f o e =
    rw (e, drop-cons out i d o, add-one, set_at (take i from) (get_or out i d) (drop (suc i) out) (get_or from i d) i (length-take-le i from (omega arith)), take-suc from i d f)
    (sym (append_assoc (take i from) (get_or from i d ∷ []) (drop (suc i) out)))

-- and its end
pub copy_end : (from out now : List ℕ) (i k : ℕ) → i ≡ k → k ≤ length from → now ≡ take i from ++ drop i out → now ≡ in_front (take k from) out
copy_end from out now i k e l h =
    h ∙ ap (λ (j : ℕ). take j from ++ drop j out) e ∙ front_is (take k from) out k (length-take-le k from l)
