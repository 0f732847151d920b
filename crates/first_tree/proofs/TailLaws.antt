-- The sets of tails that the search starts with: they have the arcs of reduced cost 0 and no others. Assumes nothing.
use mathlib.Core.Path.{◌≡◌, sym, ap, ◌∙◌}
use mathlib.Core.Bool.{true, false, cond}
use mathlib.Core.List.{List}
use mathlib.Core.Logic.{⊎_elim}
use Prim.Native.Nat.{ℕ, ◌^◌, ◌<◌}
use native.Mathlib.Nat.{zero-lt-suc}
use lib.Dec.{ltb, eqb}
use lib.ListN.{get_or, replicate, length-replicate}
use lib.Pow.{pow_pos}
use borrow.Author.Tests.{ltb-true, ltb-false, eq-eqb}
use Rattle.base.proofs.BoolLaws.{test, not_both, and_right, and_both}
use Rattle.base.proofs.ListLaws.{replicate_at}
use Rattle.base.proofs.DigitLaws.{digits_below}
use Rattle.base.proofs.OverwriteLaws.{Overwritten, overwrite_none}
use Rattle.instance.specs.Limits.{max_vertices}
use Rattle.instance.specs.Instance.{cell, is_arc}
use Rattle.instance.specs.Arborescence.{remaining}
use Rattle.instance.specs.Cuts.{inside}
use Rattle.instance.specs.Matrix.{unmarked}
use Rattle.instance.proofs.ArcLaws.{remaining_ends, unmarked_remaining}
use Rattle.instance.proofs.SetBits.{bit_small, inside_none, inside_below, inside_digits}
use Rattle.first_tree.specs.Tails.{admissible_by, TailsOk, tight, tight_set, TightTails}

module _ (m reduced : List ℕ) (n root : ℕ) where
  -- FILLED from the front
  pub tails_none : Overwritten max_vertices (replicate max_vertices 0) (replicate max_vertices 0) (tight_set m reduced n root n) 0
  tails_none = overwrite_none (replicate max_vertices 0) (tight_set m reduced n root n) (length-replicate {A = ℕ} max_vertices 0)

  pub tails_all : (zs : List ℕ) → Overwritten max_vertices (replicate max_vertices 0) zs (tight_set m reduced n root n) n → TightTails m reduced n root zs
  tails_all zs o = record { size = o.size; into = o.done; rest = λ h l. o.rest h l ∙ replicate_at max_vertices h 0 }

  -- WHAT IS IN THEM
  set_below : (h : ℕ) → tight_set m reduced n root n h < 2 ^ n
  unfolding tight_set
  set_below h = digits_below 2 n (λ t. cond (tight m reduced n root t h) 1 0) (zero-lt-suc 1) (λ t _. bit_small (tight m reduced n root t h))

  set_has : (t h : ℕ) → t < n → inside (tight_set m reduced n root n h) t ≡ tight m reduced n root t h
  unfolding tight_set
  set_has t h l = inside_digits n (λ u. tight m reduced n root u h) t l

  module _ (zs : List ℕ) (k : TightTails m reduced n root zs) where
    admissible_has : (t h : ℕ) → t < n → h < n → admissible_by zs t h ≡ tight m reduced n root t h
    admissible_has t h l b = ap (λ (c : ℕ). inside c t) (k.into h b) ∙ set_has t h l

    admissible_tail : (t h : ℕ) → h < n → admissible_by zs t h ≡ true → t < n
    admissible_tail t h b e = inside_below n (tight_set m reduced n root n h) t (set_below h) (sym (ap (λ (c : ℕ). inside c t) (k.into h b)) ∙ e)

    admissible_head : (t h : ℕ) → admissible_by zs t h ≡ true → h < n
    admissible_head t h e =
        ⊎_elim (λ (b : ltb h n ≡ true). ltb-true h n b)
        (λ (b : ltb h n ≡ false).
        absurd (not_both (admissible_by zs t h) e (ap (λ (c : ℕ). inside c t) (k.rest h (ltb-false h n b)) ∙ inside_none 0 t (pow_pos t)))) (test (ltb h n))

    pub tight_ok : TailsOk (unmarked n root m) zs
    unfolding tight
    tight_ok =
        record {
          size = k.size;
          arcs =
              λ t h e.
              let b = admissible_head t h e in
              let l = admissible_tail t h b e in
              unmarked_remaining n root m t h
              ∙ and_right (eqb (get_or reduced (cell t h) 0) 0) (is_arc (unmarked n root m) t h) (sym (admissible_has t h l b) ∙ e);
        }

    pub tight_admissible : (t h : ℕ) → remaining (unmarked n root m) t h ≡ true → get_or reduced (cell t h) 0 ≡ 0 → admissible_by zs t h ≡ true
    unfolding tight unmarked
    tight_admissible t h r z =
        let end = remaining_ends (unmarked n root m) t h r in
        admissible_has t h end.tail_below end.head_below
        ∙ and_both (eqb (get_or reduced (cell t h) 0) 0) (is_arc (unmarked n root m) t h) (eq-eqb (get_or reduced (cell t h) 0) 0 z) (sym (unmarked_remaining n root m t h) ∙ r)
