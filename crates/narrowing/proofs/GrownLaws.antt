-- How a tree grows from the root: the root alone; one vertex more; all reached; nothing more to reach. Assumes nothing.
use mathlib.Core.Path.{◌≡◌, refl, sym, ◌∙◌, subst}
use mathlib.Core.Bool.{Bool, true, false, ◌||◌}
use mathlib.Core.List.{List}
use mathlib.Core.Logic.{◌⊎◌, inl, inr, ⊎_elim}
use Prim.Native.Nat.{ℕ, zero, suc, ◌<◌}
use native.Mathlib.Omega.{arith}
use lib.Dec.{eqb}
use lib.ListN.{set, replicate, length-set, length-replicate}
use borrow.Author.Tests.{eqb-true, eq-eqb}
use Rattle.base.proofs.BoolLaws.{test, not_both, is_false, or_cases, or_left, or_right}
use Rattle.base.proofs.ListLaws.{replicate_at}
use Rattle.instance.specs.Limits.{no_parent}
use Rattle.instance.specs.Instance.{Instance}
use Rattle.instance.specs.Arborescence.{remaining, parent, reaches, is_arborescence}
use Rattle.instance.proofs.ArcLaws.{remaining_ends}
use Rattle.instance.proofs.ReachLaws.{enough}
use Rattle.instance.proofs.ArborescenceLaws.{joined, make_arborescence}
use Rattle.paths.specs.Paths.{Descends}
use Rattle.paths.proofs.PathLaws.{descends_here, descends_up, parent_other, parent_same}
use Rattle.narrowing.specs.Narrowed.{Admissible}
use Rattle.narrowing.specs.Grown.{Grown, Exhausted}

module _ (n root : ℕ) (keep : ℕ → ℕ → Bool) where
  -- THE ROOT ALONE
  pub grown_root : (reached : ℕ → Bool) → ((v : ℕ) → reached v ≡ eqb v root) → Grown n root keep reached (replicate n no_parent)
  grown_root reached only =
      record {
        size = length-replicate n no_parent;
        root_reached = only root ∙ eq-eqb root root refl;
        at_root = replicate_at n root no_parent;
        admissible = λ v x e. absurd (not_both (eqb v root) (sym (only v) ∙ x) e);
        parent_reached = λ v x e. absurd (not_both (eqb v root) (sym (only v) ∙ x) e);
        path = λ v x. descends_here (replicate n no_parent) root v (eqb-true v root (sym (only v) ∙ x));
      }

  -- ONE VERTEX MORE: h is new, and an arc that passes the test leads to it from a vertex that is reached
  module _ (reached now : ℕ → Bool) (ps : List ℕ) (g : Grown n root keep reached ps) (p h : ℕ) (below : h < n) (new : reached h ≡ false)
      (old : reached p ≡ true) (passes : keep p h ≡ true) (joined_is : (v : ℕ) → now v ≡ reached v || eqb v h) where
    abbrev qs : List ℕ
    qs = set ps h p

    other : (v : ℕ) → reached v ≡ true → parent qs v ≡ parent ps v
    other v x = parent_other ps h p v (λ e. not_both (reached v) x (rw e new))

    there : parent qs h ≡ p
    there = parent_same ps h p (let z = g.size in omega arith)

    -- the paths that there were are still there
    still : (j v : ℕ) → reached v ≡ true → reaches j root ps v ≡ true → reaches j root qs v ≡ true
    unfolding reaches
    still zero v x e = e
    still (suc j) v x e =
        ⊎_elim (λ (q : eqb v root ≡ true). or_left (eqb v root) (reaches j root qs (parent qs v)) q)
        (λ (q : eqb v root ≡ false).
        let up : reaches j root ps (parent ps v) ≡ true = rw q at e in
        or_right (eqb v root) (reaches j root qs (parent qs v))
        (subst (λ (u : ℕ). reaches j root qs u ≡ true) (sym (other v x)) (still j (parent ps v) (g.parent_reached v x q) up)))
        (test (eqb v root))

    old_path : (v : ℕ) → reached v ≡ true → Descends qs root v
    old_path v x = let d = g.path v x in (d.0, still d.0 v x d.1)

    cases : (v : ℕ) → now v ≡ true → (reached v ≡ true) ⊎ (eqb v h ≡ true)
    cases v x = or_cases (reached v) (eqb v h) (sym (joined_is v) ∙ x)

    stays : (v : ℕ) → reached v ≡ true → now v ≡ true
    stays v x = joined_is v ∙ or_left (reached v) (eqb v h) x

    pub grown_more : Grown n root keep now (set ps h p)
    grown_more =
        record {
          size = length-set ps h p ∙ g.size;
          root_reached = stays root g.root_reached;
          at_root = other root g.root_reached ∙ g.at_root;
          admissible = λ v x e. at_admissible v e (cases v x);
          parent_reached = λ v x e. stays (parent qs v) (at_parent v e (cases v x));
          path = λ v x. at_path v (cases v x);
        }
      where
        at_admissible : (v : ℕ) → eqb v root ≡ false → (reached v ≡ true) ⊎ (eqb v h ≡ true) → keep (parent qs v) v ≡ true
        at_admissible v e (inl x) = rw (other v x) (g.admissible v x e)
        at_admissible v e (inr q) = subst (λ (u : ℕ). keep (parent qs u) u ≡ true) (sym (eqb-true v h q)) (rw there passes)

        at_parent : (v : ℕ) → eqb v root ≡ false → (reached v ≡ true) ⊎ (eqb v h ≡ true) → reached (parent qs v) ≡ true
        at_parent v e (inl x) = rw (other v x) (g.parent_reached v x e)
        at_parent v e (inr q) = subst (λ (u : ℕ). reached (parent qs u) ≡ true) (sym (eqb-true v h q)) (rw there old)

        at_path : (v : ℕ) → (reached v ≡ true) ⊎ (eqb v h ≡ true) → Descends qs root v
        at_path v (inl x) = old_path v x
        at_path v (inr q) = descends_up qs root v (subst (λ (u : ℕ). Descends qs root (parent qs u)) (sym (eqb-true v h q)) (rw there (old_path p old)))

-- ALL REACHED, by arcs that remain
module _ (s : Instance) (keep : ℕ → ℕ → Bool) (arcs : (t h : ℕ) → keep t h ≡ true → remaining s t h ≡ true) (reached : ℕ → Bool) (ps : List ℕ)
    (g : Grown s.n s.root keep reached ps) (root_below : s.root < s.n) (all : (v : ℕ) → v < s.n → reached v ≡ true) where
  pub grown_admissible : Admissible s keep ps
  grown_admissible v l e = g.admissible v (all v l) e

  arc : (v : ℕ) → v < s.n → eqb v s.root ≡ false → remaining s (parent ps v) v ≡ true
  arc v l e = arcs (parent ps v) v (grown_admissible v l e)

  pub grown_whole : is_arborescence s ps ≡ true
  grown_whole =
      make_arborescence s ps g.size (λ v l e. subst (λ (u : ℕ). parent ps u ≡ no_parent) (sym (eqb-true v s.root e)) g.at_root)
      (λ v l e.
      let d = g.path v (all v l) in
      record {
        arc = arc v l e;
        reach = enough s.n s.root ps root_below (λ u m q. inl (remaining_ends s (parent ps u) u (arc u m q)).tail_below) d.0 v l d.1;
      })

-- NOTHING MORE TO REACH, and a vertex is missed: no arborescence passes the test. Go up from that vertex: each parent
-- is missed too, and the root is not.
module _ (s : Instance) (keep : ℕ → ℕ → Bool) (reached : ℕ → Bool) (out : ℕ) (c : Exhausted s keep reached out) (ps : List ℕ)
    (a : is_arborescence s ps ≡ true) (k : Admissible s keep ps) where
  root_not : (v : ℕ) → reached v ≡ false → eqb v s.root ≡ true → ⊥
  root_not v m e = not_both (reached v) (rw (eqb-true v s.root e) c.root_reached) m

  missed_up : (v : ℕ) → v < s.n → reached v ≡ false → eqb v s.root ≡ false → reached (parent ps v) ≡ false
  missed_up v l m e = is_false (reached (parent ps v)) (λ h. not_both (reached v) (c.stays_within (parent ps v) v l (k v l e) h) m)

  missed_from : (j v : ℕ) → v < s.n → reached v ≡ false → reaches j s.root ps v ≡ true → ⊥
  unfolding reaches
  missed_from zero v l m r = root_not v m r
  missed_from (suc j) v l m r =
      ⊎_elim (root_not v m)
      (λ (e : eqb v s.root ≡ false).
      missed_from j (parent ps v) (remaining_ends s (parent ps v) v (joined s ps a v l e).arc).tail_below (missed_up v l m e) (rw e at r))
      (test (eqb v s.root))

  pub exhausted_none : ⊥
  exhausted_none =
      let e = is_false (eqb out s.root) (root_not out c.missed) in
      missed_from s.n out c.out_below c.missed (joined s ps a out c.out_below e).reach
