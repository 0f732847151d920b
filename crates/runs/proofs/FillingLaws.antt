-- The tables so far: both are right between the vertices that are done, and stay so when one more is done after its
-- parent; when none is ready any more, all are done. Assumes nothing.
use mathlib.Core.Path.{◌≡◌, refl, sym, ap, ◌∙◌, subst}
use mathlib.Core.Bool.{Bool, true, false, not}
use mathlib.Core.List.{List}
use Rattle.std.specs.Prelude.{None}
use mathlib.Core.Logic.{◌≢◌}
use Prim.Native.Nat.{ℕ, zero, suc, max, ◌+◌, ◌*◌, ◌≤◌, ◌<◌}
use native.Mathlib.Omega.{arith}
use native.Mathlib.Decide.{ℕ_discrete}
use lib.ListN.{length, get_or, set, take, replicate, length-set}
use lib.Seq.{get_or-set_same, get_or-set_other}
use borrow.Author.Tests.{eqb-true, ne_eqb, not-true, not-false}
use Rattle.base.specs.Bounded.{count_below}
use Rattle.base.proofs.BoolLaws.{not_both, is_true, is_false}
use Rattle.base.proofs.CountingLaws.{count_more}
use Rattle.base.proofs.ListLaws.{replicate_at}
use Rattle.instance.specs.Limits.{max_vertices, cells}
use Rattle.instance.specs.Instance.{cell}
use Rattle.instance.specs.Arborescence.{parent, reaches}
use Rattle.paths.specs.Paths.{Descends}
use Rattle.paths.proofs.PathLaws.{descends_not, root_avoids}
use Rattle.spanning.specs.KeyTables.{key_at, greatest_between}
use Rattle.spanning.proofs.CrossingLaws.{leaves}
use Rattle.runs.specs.Tables.{Tree, is_done, is_ready, Readied, ExtendsBelow, ExtendsBetween, TablesOf}
use Rattle.runs.proofs.TablesLaws.{parent_at, tail_at, tail_apart, reach_own, reach_step, between_step, between_turned, between_same, ready_by, ready_parts}

pub record Filling (keys : List ℕ) (n : ℕ) (parents : List ℕ) (below : List Bool) (between : List ℕ) (done : List Bool) : Type 0 where
  pub below_size : length below ≡ cells
  pub between_size : length between ≡ cells
  pub done_size : length done ≡ max_vertices
  pub root_done : is_done done 0 ≡ true
  pub closed : (v : ℕ) → v < n → v ≢ 0 → is_done done v ≡ true → is_done done (get_or parents v 0) ≡ true
  pub below_ok : (y x : ℕ) → y < n → y ≢ 0 → x < n → is_done done x ≡ true → get_or below (32 * y + x) false ≡ reaches n y (take n parents) x
  pub diagonal : (x : ℕ) → x < n → get_or between (cell x x) 0 ≡ 0
  pub between_ok : (x y : ℕ) → x < n → y < n → x ≢ y → is_done done x ≡ true → is_done done y ≡ true
      → get_or between (cell x y) 0 ≡ greatest_between keys n (take n parents) x y

module _ (ks : List ℕ) (n : ℕ) (ps : List ℕ) (t : Tree n ps) where
  first_done : (v : ℕ) → is_done (set (replicate max_vertices false) 0 true) v ≡ true → v ≡ 0
  first_done v e = at (ℕ_discrete v 0)
    where
      at : Dec (v ≡ 0) → v ≡ 0
      at (yes z) = z
      at (no z) = absurd (not_both _ e (get_or-set_other (replicate max_vertices false) 0 v true false z ∙ replicate_at max_vertices v false))

  pub filling_first : Filling ks n ps (replicate cells false) (replicate cells 0) (set (replicate max_vertices false) 0 true)
  filling_first =
      record {
        below_size = refl;
        between_size = refl;
        done_size = refl;
        root_done = refl;
        closed = λ v vb d e. absurd (d (first_done v e));
        below_ok =
            λ y x yb d xb e.
            replicate_at cells (32 * y + x) false ∙ rw (first_done x e) (sym (root_avoids n 0 (take n ps) t.rooted t.places.small y yb d n));
        diagonal = λ x _. replicate_at cells (cell x x) 0;
        between_ok = λ x y xb yb d e f. absurd (d (first_done x e ∙ sym (first_done y f)));
      }

  module _ (bs : List Bool) (gs : List ℕ) (ds : List Bool) (f : Filling ks n ps bs gs ds) where
    -- what is above a vertex that is done is done
    above_done : (k v x : ℕ) → v < n → x < n → is_done ds x ≡ true → reaches k v (take n ps) x ≡ true → is_done ds v ≡ true
    unfolding reaches
    above_done zero v x vb xb e r = subst (λ (y : ℕ). is_done ds y ≡ true) (eqb-true x v r) e
    above_done (suc k) v x vb xb e r = at (ℕ_discrete x v) (ℕ_discrete x 0) (λ y yb q s. above_done k v y vb yb q s)
      where
        at : Dec (x ≡ v) → Dec (x ≡ 0) → ((y : ℕ) → y < n → is_done ds y ≡ true → reaches k v (take n ps) y ≡ true → is_done ds v ≡ true) → is_done ds v ≡ true
        at (yes z) _ rec = subst (λ (y : ℕ). is_done ds y ≡ true) z e
        at (no z) (yes o) rec =
            absurd (descends_not (take n ps) v 0 (subst (λ (y : ℕ). Descends (take n ps) v y) o (suc k, r)) (root_avoids n 0 (take n ps) t.rooted t.places.small v vb (λ q. z (o ∙ sym q))))
        at (no z) (no o) rec =
            let up : reaches k v (take n ps) (parent (take n ps) x) ≡ true = rw (ne_eqb x v z) at r in
            rec (get_or ps x 0) (tail_at n ps t x xb o) (f.closed x xb o e) (rw (parent_at n ps t x xb) up)

    -- no vertex is left that is ready, so all are done
    pub all_done : Readied ps ds n None → (v : ℕ) → v < n → is_done ds v ≡ true
    all_done r v vb = is_true (is_done ds v) (λ o. none o)
      where
        none : is_done ds v ≡ false → ⊥
        none o =
            let l = leaves n 0 (take n ps) t.rooted t.places.small (λ x. not (is_done ds x)) 0 t.rooted.root_below (ap not f.root_done) n v vb (t.rooted.reach v vb) (ap not o) in
            let h = l.h in
            not_both (is_ready ps ds h)
            (sym (ready_by ps ds h (not-true (is_done ds h) l.inside)) ∙ rw (parent_at n ps t h l.below) (not-false (is_done ds (parent (take n ps) h)) l.outside))
            (r h l.below l.apart)

    pub filled : Readied ps ds n None → TablesOf ks n ps bs gs
    filled r =
        record {
          below_is = λ v x vb d xb. f.below_ok v x vb d xb (all_done r x xb);
          between_is = λ x y xb yb d. f.between_ok x y xb yb d (all_done r x xb) (all_done r y yb);
        }

    -- ONE VERTEX MORE
    module _ (v : ℕ) (vb : v < n) (va : v ≢ 0) (ready : is_ready ps ds v ≡ true) where
      pub v_undone : is_done ds v ≡ false
      v_undone = (ready_parts ps ds v ready).0

      tail_done : is_done ds (parent (take n ps) v) ≡ true
      tail_done = rw (← parent_at n ps t v vb) (ready_parts ps ds v ready).1

      pub tail_other : get_or ps v 0 ≢ v
      tail_other = rw (parent_at n ps t v vb) (tail_apart n ps t v vb va)

      not_below : (x : ℕ) → x < n → is_done ds x ≡ true → reaches n v (take n ps) x ≡ false
      not_below x xb e = is_false (reaches n v (take n ps) x) (λ r. not_both (is_done ds v) (above_done n v x vb xb e r) v_undone)

      abbrev after : List Bool
      after = set ds v true

      now_done : is_done after v ≡ true
      now_done = let s = f.done_size in let m = t.places.small in get_or-set_same ds v true false (omega arith)

      same_done : (x : ℕ) → x ≢ v → is_done after x ≡ is_done ds x
      same_done x d = get_or-set_other ds v x true false d

      was_done : (x : ℕ) → is_done ds x ≡ true → x ≢ v
      was_done x e z = not_both (is_done ds v) (subst (λ (y : ℕ). is_done ds y ≡ true) z e) v_undone

      pub done_more : count_below n (is_done ds) + 1 ≤ count_below n (is_done after)
      done_more = count_more n (is_done ds) (is_done after) (λ x _ e. same_done x (was_done x e) ∙ e) v vb v_undone now_done

      module _ (bs' : List Bool) (gs' : List ℕ) (eb : ExtendsBelow n v (get_or ps v 0) bs bs') (eg : ExtendsBetween ds v (get_or ps v 0) (key_at ks (get_or ps v 0) v) n gs gs') where
        step : (x : ℕ) → x < n → is_done ds x ≡ true → max (key_at ks (get_or ps v 0) v) (get_or gs (cell (get_or ps v 0) x) 0) ≡ greatest_between ks n (take n ps) v x
        step x xb e =
            rw (parent_at n ps t v vb)
            (tail_case (ℕ_discrete x (parent (take n ps) v)) ∙ sym (between_step n ps t v vb va ks x (not_below x xb e)))
          where
            tail_case : Dec (x ≡ parent (take n ps) v)
                → max (key_at ks (parent (take n ps) v) v) (get_or gs (cell (parent (take n ps) v) x) 0)
                ≡ max (key_at ks (parent (take n ps) v) v) (greatest_between ks n (take n ps) (parent (take n ps) v) x)
            tail_case (yes z) =
                subst (λ (y : ℕ). max (key_at ks (parent (take n ps) v) v) (get_or gs (cell (parent (take n ps) v) y) 0)
                ≡ max (key_at ks (parent (take n ps) v) v) (greatest_between ks n (take n ps) (parent (take n ps) v) y)) (sym z)
                (ap (λ (k : ℕ). max (key_at ks (parent (take n ps) v) v) k)
                (f.diagonal (parent (take n ps) v) (subst (λ (k : ℕ). k < n) z xb) ∙ sym (between_same ks n (take n ps) (parent (take n ps) v))))
            tail_case (no z) =
                ap (λ (k : ℕ). max (key_at ks (parent (take n ps) v) v) k)
                (f.between_ok (parent (take n ps) v) x (rw (← parent_at n ps t v vb) (tail_at n ps t v vb va)) xb (λ q. z (sym q)) tail_done e)

        pub filling_more : Filling ks n ps bs' gs' after
        filling_more =
            record {
              below_size = eb.size;
              between_size = eg.size;
              done_size = simp length-set f.done_size;
              root_done = same_done 0 (λ z. va (sym z)) ∙ f.root_done;
              closed = λ x xb d e. closed_at x xb d e (ℕ_discrete x v);
              below_ok = λ y x yb d xb e. below_at y x yb d xb e (ℕ_discrete x v);
              diagonal = λ x xb. diagonal_at x xb (ℕ_discrete x v);
              between_ok = λ x y xb yb d e g. between_at x y xb yb d e g (ℕ_discrete x v) (ℕ_discrete y v);
            }
          where
            m : n ≤ max_vertices
            m = t.places.small

            keeps : (x : ℕ) → is_done ds x ≡ true → is_done after x ≡ true
            keeps x e = same_done x (was_done x e) ∙ e

            closed_at : (x : ℕ) → x < n → x ≢ 0 → is_done after x ≡ true → Dec (x ≡ v) → is_done after (get_or ps x 0) ≡ true
            closed_at x xb d e (yes z) = rw z (keeps (get_or ps v 0) (ready_parts ps ds v ready).1)
            closed_at x xb d e (no z) = keeps (get_or ps x 0) (f.closed x xb d (sym (same_done x z) ∙ e))

            own_column : (y : ℕ) → y < n → y ≢ 0 → Dec (y ≡ v) → get_or bs' (32 * y + v) false ≡ reaches n y (take n ps) v
            own_column y yb d (yes z) = rw z (eb.own ∙ sym (reach_own n ps t v vb va))
            own_column y yb d (no z) =
                eb.column y yb z
                ∙ f.below_ok y (get_or ps v 0) yb d (tail_at n ps t v vb va) (ready_parts ps ds v ready).1
                ∙ rw (reach_step n ps t v vb va y yb z, parent_at n ps t v vb)

            below_at : (y x : ℕ) → y < n → y ≢ 0 → x < n → is_done after x ≡ true → Dec (x ≡ v) → get_or bs' (32 * y + x) false ≡ reaches n y (take n ps) x
            below_at y x yb d xb e (yes z) = rw z (own_column y yb d (ℕ_discrete y v))
            below_at y x yb d xb e (no z) = let q = m in eb.others y x (omega arith) z ∙ f.below_ok y x yb d xb (sym (same_done x z) ∙ e)

            diagonal_at : (x : ℕ) → x < n → Dec (x ≡ v) → get_or gs' (cell x x) 0 ≡ 0
            diagonal_at x xb (yes z) = rw z (eg.own ∙ f.diagonal v vb)
            diagonal_at x xb (no z) = let q = m in eg.others x x (omega arith) (omega arith) z z ∙ f.diagonal x xb

            between_at : (x y : ℕ) → x < n → y < n → x ≢ y → is_done after x ≡ true → is_done after y ≡ true → Dec (x ≡ v) → Dec (y ≡ v)
                → get_or gs' (cell x y) 0 ≡ greatest_between ks n (take n ps) x y
            between_at x y xb yb d e g (yes z) (yes w) = absurd (d (z ∙ sym w))
            between_at x y xb yb d e g (yes z) (no w) =
                let o = sym (same_done y w) ∙ g in
                rw z (eg.row y yb o ∙ step y yb o)
            between_at x y xb yb d e g (no z) (yes w) =
                let o = sym (same_done x z) ∙ e in
                rw w (eg.column x xb o ∙ step x xb o ∙ between_turned ks n (take n ps) v x)
            between_at x y xb yb d e g (no z) (no w) =
                let q = m in
                eg.others x y (omega arith) (omega arith) z w ∙ f.between_ok x y xb yb d (sym (same_done x z) ∙ e) (sym (same_done y w) ∙ g)
