-- Lowered weights: nothing charged, one charge after another, and what stays 0. Assumes nothing.
use mathlib.Core.Path.{refl, ◌∙◌}
use mathlib.Core.List.{List, [], ◌++◌}
use mathlib.Core.Logic.{◌⊎◌, inl, inr, ⊎_elim}
use Prim.Native.Nat.{ℕ, ◌+◌, ◌≤◌, ◌<◌}
use native.Mathlib.Omega.{arith}
use Rattle.instance.specs.Limits.{no_arc}
use Rattle.instance.specs.Cuts.{Cut, charged}
use Rattle.instance.proofs.CutLaws.{charged_append}
use Rattle.contraction.specs.Groups.{Lowered, Chosen}

pub lowered_none : (n : ℕ) (w : ℕ → ℕ → ℕ) → Lowered n w w []
unfolding charged
lowered_none n w = record { paid = λ t h l m p. omega arith; same = λ t h l why. refl }

pub lowered_twice : {n : ℕ} {w w₁ w₂ : ℕ → ℕ → ℕ} {cs ds : List Cut} → Lowered n w w₁ cs → Lowered n w₁ w₂ ds → Lowered n w w₂ (cs ++ ds)
lowered_twice {n} {w} {w₁} {w₂} {cs} {ds} a b =
    record {
      paid =
          λ t h l m p.
          let x = a.paid t h l m p in
          let y = b.paid t h l m (omega arith) in
          omega (arith, charged_append cs ds t h);
      same =
          λ t h l why.
          let x = a.same t h l why in
          ⊎_elim (λ (d : n ≤ t). b.same t h l (inl d) ∙ x)
          (λ (d : (n ≤ h) ⊎ (no_arc ≤ w t h)).
          ⊎_elim (λ (e : n ≤ h). b.same t h l (inr (inl e)) ∙ x) (λ (e : no_arc ≤ w t h). b.same t h l (inr (inr (omega arith))) ∙ x) d)
          why;
    }

-- an arc that is there stays there
pub lowered_there : {n : ℕ} {w w' : ℕ → ℕ → ℕ} {cs : List Cut} → Lowered n w w' cs → (t h : ℕ) → t < n → h < n → w t h < no_arc → w' t h < no_arc
lowered_there lo t h l m p = let x = lo.paid t h l m p in omega arith

-- chosen arcs stay tight
pub chosen_lowered : {n root : ℕ} {w w' : ℕ → ℕ → ℕ} {label tail head : ℕ → ℕ} {cs : List Cut} → Lowered n w w' cs
    → Chosen n root w label tail head → Chosen n root w' label tail head
chosen_lowered {tail = tail} {head = head} lo ch =
    record {
      head_below = ch.head_below;
      head_in = ch.head_in;
      tail_below = ch.tail_below;
      tail_out = ch.tail_out;
      tight =
          λ g gr.
          let z = ch.tight g gr in
          let x = lo.paid (tail g) (head g) (ch.tail_below g gr) (ch.head_below g gr) (omega arith) in
          omega arith;
    }
