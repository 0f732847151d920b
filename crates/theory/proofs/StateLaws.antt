-- The computed state of each cell is the one that the words of documents 01 and 02 allow, and the only one; so is the
-- list of all states. Assumes nothing.
use mathlib.Core.Path.{◌≡◌, refl, sym, ap, ◌∙◌, subst}
use mathlib.Core.Bool.{Bool, true, false, cond}
use mathlib.Core.List.{List}
use mathlib.Core.Logic.{◌⊎◌, inl, inr, ⊎_elim}
use Prim.Native.Nat.{ℕ, zero, suc, ◌+◌, ◌*◌, ◌/◌, ◌%◌, ◌≤◌}
use native.Mathlib.Omega.{arith}
use native.Mathlib.Nat.{div-add-mod'}
use lib.Arith.{digits_div, digits_mod, digits_lt}
use lib.ListN.{length, get_or}
use Rattle.base.specs.Lists.{tabulate, any_of, all_of}
use Rattle.base.proofs.BoolLaws.{test, not_both}
use Rattle.base.proofs.ListLaws.{length_tabulate, get_d_tabulate, tabulate_is}
use Rattle.base.proofs.GridLaws.{grid_row, grid_column}
use Rattle.instance.specs.Instance.{Instance, is_arc}
use Rattle.instance.specs.Arborescence.{is_arborescence, uses}
use Rattle.instance.specs.States.{fits, fitting, with_limit, state_over, state, states}
use Rattle.theory.specs.Readings.{WithinLimit, SomeUses, SomeAvoids, NoneUses, AllUse, StateReads, StatesRead}
use Rattle.theory.proofs.CandidateLaws.{any_selected, all_selected, one_fails, none_passes}
use Rattle.theory.proofs.FitLaws.{fits_arborescence}
use Rattle.theory.proofs.TotalLimit.{within_limit}

-- ONE CELL
module _ (s : Instance) (t h : ℕ) where
  -- the state from the two tests over all lists within the limit
  reads_cases : (a u w : Bool) → is_arc s t h ≡ a → (u ≡ true → SomeUses (WithinLimit s) t h) → (u ≡ false → NoneUses (WithinLimit s) t h)
      → (w ≡ true → AllUse (WithinLimit s) t h) → (w ≡ false → SomeAvoids (WithinLimit s) t h) → StateReads s t h (cond a (cond u (cond w 3 2) 1) 0)
  reads_cases false u w e some none all one =
      record {
        absent = λ _. refl;
        present = λ x. absurd (not_both (is_arc s t h) x e);
        excluded = λ x. absurd (not_both (is_arc s t h) x e);
        optional = λ x. absurd (not_both (is_arc s t h) x e);
        mandatory = λ x. absurd (not_both (is_arc s t h) x e);
      }
  reads_cases true false w e some none all one =
      let shut = none refl in
      record {
        absent = λ x. absurd (not_both (is_arc s t h) e x);
        present = λ _. (omega arith, omega arith);
        excluded = λ _. ((λ _. shut), (λ _. refl));
        optional = λ _. ((λ (x : ◌≡◌ {A = ℕ} 1 2). absurd (omega arith)), (λ x. absurd (not_both (uses x.0.0 t h) x.0.2 (shut x.0.0 x.0.1))));
        mandatory =
            λ _. (
              (λ (x : ◌≡◌ {A = ℕ} 1 3). absurd (omega arith)),
              (λ x. absurd (not_both (uses x.0.0 t h) (x.1 x.0.0 x.0.1) (shut x.0.0 x.0.1))),
            );
      }
  reads_cases true true true e some none all one =
      let w = some refl in
      let every = all refl in
      record {
        absent = λ x. absurd (not_both (is_arc s t h) e x);
        present = λ _. (omega arith, omega arith);
        excluded = λ _. ((λ (x : ◌≡◌ {A = ℕ} 3 1). absurd (omega arith)), (λ x. absurd (not_both (uses w.0 t h) w.2 (x w.0 w.1))));
        optional = λ _. ((λ (x : ◌≡◌ {A = ℕ} 3 2). absurd (omega arith)), (λ x. absurd (not_both (uses x.1.0 t h) (every x.1.0 x.1.1) x.1.2)));
        mandatory = λ _. ((λ _. ((w.0, w.1), every)), (λ _. refl));
      }
  reads_cases true true false e some none all one =
      let w = some refl in
      let x = one refl in
      record {
        absent = λ y. absurd (not_both (is_arc s t h) e y);
        present = λ _. (omega arith, omega arith);
        excluded = λ _. ((λ (y : ◌≡◌ {A = ℕ} 2 1). absurd (omega arith)), (λ y. absurd (not_both (uses w.0 t h) w.2 (y w.0 w.1))));
        optional = λ _. ((λ _. (w, x)), (λ _. refl));
        mandatory = λ _. ((λ (y : ◌≡◌ {A = ℕ} 2 3). absurd (omega arith)), (λ y. absurd (not_both (uses x.0 t h) (y.1 x.0 x.1) x.2)));
      }

  pub state_reads : StateReads s t h (state s t h)
  unfolding state state_over fitting
  state_reads =
      reads_cases (is_arc s t h) (any_of used (fitting r)) (all_of used (fitting r)) refl
      (λ e. let x = (any_selected r (fits r) sound used).0 e in (x.0, (within_limit s x.0).0 x.1, x.2))
      (λ e ps c. none_passes r (fits r) sound used e ps ((within_limit s ps).1 c))
      (λ e ps c. (all_selected r (fits r) sound used).0 e ps ((within_limit s ps).1 c))
      (λ e. let x = one_fails r (fits r) sound used e in (x.0, (within_limit s x.0).0 x.1, x.2))
    where
      r : Instance
      r = with_limit s

      used : List ℕ → Bool
      used ps = uses ps t h

      sound : (ps : List ℕ) → fits r ps ≡ true → is_arborescence r ps ≡ true
      sound ps = fits_arborescence r ps

  -- whatever reads so is one number
  pub reads_once : (v w : ℕ) → StateReads s t h v → StateReads s t h w → v ≡ w
  reads_once v w a b =
      ⊎_elim
      (λ (e : is_arc s t h ≡ true).
      ⊎_elim (λ (x : v ≡ 1). x ∙ sym ((b.excluded e).1 ((a.excluded e).0 x)))
      (⊎_elim (λ (x : v ≡ 2). x ∙ sym ((b.optional e).1 ((a.optional e).0 x))) (λ (x : v ≡ 3). x ∙ sym ((b.mandatory e).1 ((a.mandatory e).0 x))))
      (one_of v (a.present e).0 (a.present e).1))
      (λ (e : is_arc s t h ≡ false). a.absent e ∙ sym (b.absent e))
      (test (is_arc s t h))
    where
      one_of : (k : ℕ) → 1 ≤ k → k ≤ 3 → (k ≡ 1) ⊎ ((k ≡ 2) ⊎ (k ≡ 3))
      one_of zero l m = absurd (omega arith)
      one_of (suc zero) l m = inl refl
      one_of (suc (suc zero)) l m = inr (inl refl)
      one_of (suc (suc (suc zero))) l m = inr (inr refl)
      one_of (suc (suc (suc (suc k)))) l m = absurd (omega arith)

  pub state_only : (v : ℕ) → StateReads s t h v → v ≡ state s t h
  state_only v r = reads_once v (state s t h) r state_reads

-- ALL CELLS
module _ (s : Instance) where
  abbrev cell_state : ℕ → ℕ
  cell_state i = state s (i / s.n) (i % s.n)

  pub states_tabulate : states s ≡ tabulate (s.n * s.n) (λ i. state s (i / s.n) (i % s.n))
  unfolding states state
  states_tabulate = refl

  pub states_read : StatesRead s (states s)
  states_read =
      record {
        size = ap length states_tabulate ∙ length_tabulate (s.n * s.n) cell_state;
        reads =
            λ t h l m.
            subst (λ (v : ℕ). StateReads s t h v)
            (sym
            (ap (λ (vs : List ℕ). get_or vs (t * s.n + h) 0) states_tabulate ∙ get_d_tabulate (s.n * s.n) cell_state (t * s.n + h) 0 (digits_lt l m)
            ∙ ap (λ (x : ℕ). state s x ((t * s.n + h) % s.n)) (digits_div t m) ∙ ap (λ (x : ℕ). state s t x) (digits_mod t m)))
            (state_reads s t h);
      }

  pub states_only : (vs : List ℕ) → StatesRead s vs → vs ≡ states s
  states_only vs r =
      tabulate_is (s.n * s.n) vs cell_state 0 r.size
      (λ i l.
      sym (ap (λ (j : ℕ). get_or vs j 0) (div-add-mod' i s.n))
      ∙ state_only s (i / s.n) (i % s.n) (get_or vs (i / s.n * s.n + i % s.n) 0) (r.reads (i / s.n) (i % s.n) (grid_row s.n i l) (grid_column s.n i l)))
      ∙ sym states_tabulate
