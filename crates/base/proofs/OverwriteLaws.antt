-- A loop that goes over an array from the front and settles each place, by a store or by leaving it. Assumes nothing.
use mathlib.Core.Path.{◌≡◌, refl, ◌∙◌}
use mathlib.Core.List.{List}
use mathlib.Core.Logic.{⊎_elim}
use Prim.Native.Nat.{ℕ, ◌+◌, ◌≤◌, ◌<◌}
use native.Mathlib.Omega.{arith}
use native.Mathlib.Nat.{eq-or-lt_of_le}
use lib.ListN.{length, get_or, set, length-set}
use lib.Seq.{get_or-set_same, get_or-set_other}

-- of a list of so many elements those below i are what F says, and the others what they were
pub record Overwritten (count : ℕ) (old new : List ℕ) (F : ℕ → ℕ) (i : ℕ) : Type 0 where
  pub size : length new ≡ count
  pub done : (j : ℕ) → j < i → get_or new j 0 ≡ F j
  pub rest : (j : ℕ) → i ≤ j → get_or new j 0 ≡ get_or old j 0

module _ {count : ℕ} (old : List ℕ) (F : ℕ → ℕ) where
  pub overwrite_none : length old ≡ count → Overwritten count old old F 0
  overwrite_none e = record { size = e; done = λ j l. absurd (omega arith); rest = λ j l. refl }

  pub overwrite_store : (new : List ℕ) (i x : ℕ) → Overwritten count old new F i → i < count → x ≡ F i → Overwritten count old (set new i x) F (i + 1)
  overwrite_store new i x m l e =
      let size = m.size in
      record {
        size = simp length-set size;
        done =
            λ j l'.
            ⊎_elim (λ (s : j ≡ i). rw s (get_or-set_same new i x 0 (omega arith) ∙ e))
            (λ (s : j < i). get_or-set_other new i j x 0 (omega arith) ∙ m.done j s) (eq-or-lt_of_le {n = j} {m = i} (omega arith));
        rest = λ j l'. get_or-set_other new i j x 0 (omega arith) ∙ m.rest j (omega arith);
      }

  pub overwrite_pass : (new : List ℕ) (i : ℕ) → Overwritten count old new F i → get_or old i 0 ≡ F i → Overwritten count old new F (i + 1)
  overwrite_pass new i m e =
      record {
        size = m.size;
        done =
            λ j l'.
            ⊎_elim (λ (s : j ≡ i). rw s (m.rest i (omega arith) ∙ e))
            (λ (s : j < i). m.done j s) (eq-or-lt_of_le {n = j} {m = i} (omega arith));
        rest = λ j l'. m.rest j (omega arith);
      }
