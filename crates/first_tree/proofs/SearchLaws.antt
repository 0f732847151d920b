-- The search on a matrix: what each test tells, and one vertex settled after the other. Assumes nothing.
use mathlib.Core.Path.{◌≡◌, refl, sym, ◌∙◌, subst}
use mathlib.Core.Bool.{Bool, true, false}
use mathlib.Core.List.{List}
use mathlib.Core.Logic.{⊎_elim, ◌≢◌}
use Prim.Native.Nat.{ℕ, zero, suc, ◌+◌, ◌≤◌, ◌<◌}
use native.Mathlib.Omega.{arith}
use native.Mathlib.Decide.{ℕ_discrete}
use native.Mathlib.Numerals.{add-one}
use lib.ListN.{set, take, length-set}
use lib.Seq.{take-set-lt}
use borrow.Author.Tests.{eqb-false, eq-eqb, ne_eqb}
use Rattle.base.specs.Bounded.{all_below}
use Rattle.base.proofs.BoolLaws.{test, not_both}
use Rattle.base.proofs.BoundedLaws.{all_at}
use Rattle.instance.specs.Limits.{max_vertices}
use Rattle.instance.specs.Instance.{Instance}
use Rattle.instance.specs.Arborescence.{remaining, parent}
use Rattle.instance.specs.Candidates.{first_tree}
use Rattle.instance.specs.Cuts.{Cut, cuts_in, inside}
use Rattle.instance.specs.Matrix.{unmarked}
use Rattle.instance.proofs.ArcLaws.{Ends, remaining_ends}
use Rattle.theory.proofs.Duality.{weak_duality}
use Rattle.paths.specs.Tree.{MatrixTree}
use Rattle.paths.proofs.PathLaws.{parent_other}
use Rattle.paths.proofs.ExchangeLaws.{exchange_uses, exchange, exchange_total}
use Rattle.narrowing.specs.Narrowed.{OfTotal, Admissible, NoneBelow, Refuted}
use Rattle.narrowing.proofs.FixedLaws.{fixed_less}
use Rattle.narrowing.proofs.NarrowedLaws.{narrowed_start, narrowed_take, none_below_take, refute_absent, refute_cycle, refute_fixed, fixed_tail, narrowed_settle, narrowed_root, narrowed_first}
use Rattle.narrowing.proofs.GrownLaws.{grown_admissible, grown_whole, exhausted_none}
use Rattle.first_tree.specs.Tails.{admissible_by, TailsOk, TightTails}
use Rattle.first_tree.specs.Fixing.{FixedTails}
use Rattle.first_tree.specs.Growth.{GrownTree}
use Rattle.first_tree.specs.Attempt.{LeadsBack, Exchangeable, NoCheaper, AdmissibleTree, NoneAdmissible, TreeWith}
use Rattle.first_tree.specs.Search.{Search, PlannedTree, Settled, LeastParent}
use Rattle.first_tree.proofs.TailLaws.{tight_ok, tight_admissible}

not_all : (k : ℕ) (P : ℕ → Bool) → all_below k P ≡ false → (v : ℕ) × (v < k) × (P v ≡ false)
unfolding all_below
not_all zero P e = absurd (not_both true refl e)
not_all (suc k) P e =
    ⊎_elim (λ (b : P k ≡ true). let r = not_all k P (rw b at e) in (r.0, omega (arith, r.1), r.2))
    (λ (b : P k ≡ false). (k, omega arith, b)) (test (P k))

module _ (m cuts : List ℕ) (n root w from count : ℕ) (k : Search m cuts n root w from count) where
  abbrev s : Instance
  s = unmarked n root m

  abbrev cs : List Cut
  cs = cuts_in count cuts

  small : s.n ≤ max_vertices
  unfolding unmarked
  small = k.matrix_ok.small

  root_below : s.root < s.n
  unfolding unmarked
  root_below = k.matrix_ok.root_below

  -- none is cheaper
  pub none_cheaper : NoCheaper (unmarked n root m) w
  none_cheaper qs a = let l = weak_duality s qs a cs k.proves.feasible in let e = k.proves.adds in omega arith

  -- A TREE GROWN
  module _ (zs : List ℕ) (ok : TailsOk (unmarked n root m) zs) (at reached : ℕ) (ps : List ℕ) (g : GrownTree n root at count zs reached ps) where
    -- not whole, where no cut is looked at
    pub grown_short : at ≡ count → all_below n (inside reached) ≡ false → (qs : List ℕ) → OfTotal (unmarked n root m) w qs → Admissible (unmarked n root m) (admissible_by zs) qs → ⊥
    unfolding unmarked
    grown_short e short qs o x =
        let miss = not_all n (inside reached) short in
        exhausted_none s (admissible_by zs) (inside reached) miss.0
        (record { root_reached = g.grown.root_reached; stays_within = g.stays_within e; out_below = miss.1; missed = miss.2 }) qs o.arborescence x

    module _ (all : all_below n (inside reached) ≡ true) where
      each : (v : ℕ) → v < n → inside reached v ≡ true
      each v l = all_at n (inside reached) v l all

      pub grown_matrix : MatrixTree n root m ps
      unfolding unmarked
      grown_matrix =
          record {
            matrix_ok = k.matrix_ok;
            places = g.places;
            arborescence = grown_whole s (admissible_by zs) ok.arcs (inside reached) (take n ps) g.grown root_below each;
          }

      pub grown_passes : Admissible (unmarked n root m) (admissible_by zs) (take n ps)
      unfolding unmarked
      grown_passes = grown_admissible s (admissible_by zs) ok.arcs (inside reached) (take n ps) g.grown root_below each

  -- A TAIL TRIED
  module _ (v : ℕ) (zs ps : List ℕ) (d : Settled m n root w v zs ps) where
    pub tree_at_hand : MatrixTree n root m ps
    tree_at_hand = record { matrix_ok = k.matrix_ok; places = d.places; arborescence = d.narrowed.tree.arborescence }

    module _ (t : ℕ) (below : v < n) (admissible : admissible_by zs t v ≡ true) where
      arc : remaining s t v ≡ true
      arc = d.tails_ok.arcs t v admissible

      pub admissible_ends : Ends n root t v
      unfolding unmarked
      admissible_ends = remaining_ends s t v arc

      pub not_root : v ≢ root
      not_root = eqb-false v root admissible_ends.not_root

      -- settled parents lead back
      pub tried_cycle : LeadsBack (take n ps) t v → Refuted (unmarked n root m) w v (take n ps) t
      unfolding unmarked
      tried_cycle b = refute_cycle s cs w k.proves v (admissible_by zs) (take n ps) d.narrowed below admissible_ends.not_root root_below small t b

      -- an exchange
      module _ (x : Exchangeable m n root (take n ps) t v) where
        abbrev qs : List ℕ
        qs = set (take n ps) v t

        others_admissible : Admissible s (admissible_by zs) qs
        unfolding unmarked
        others_admissible u l e = at (ℕ_discrete u v)
          where
            at : Dec (u ≡ v) → admissible_by zs (parent qs u) u ≡ true
            at (yes z) = subst (λ (y : ℕ). admissible_by zs (parent qs y) y ≡ true) (sym z) (rw (exchange_uses s (take n ps) root_below d.narrowed.tree.arborescence t v arc x.apart) admissible)
            at (no z) = rw (parent_other (take n ps) v t u z) (d.narrowed.tree_admissible u l e)

        others_total : OfTotal s w qs
        others_total =
            let a = d.narrowed.tree.arborescence in
            let e = exchange_total s (take n ps) root_below a t v arc x.apart in
            let f = x.same in
            let h = d.narrowed.tree.attained in
            record { arborescence = exchange s (take n ps) root_below a t v arc x.apart; attained = omega arith }

        pub tried_exchange : TreeWith m n root w v zs t (set ps v t)
        tried_exchange =
            let e = take-set-lt n ps v t below in
            record {
              places = length-set ps v t ∙ d.places;
              tree = rw e others_total;
              admissible = rw e others_admissible;
              has_tail = rw e (exchange_uses s (take n ps) root_below d.narrowed.tree.arborescence t v arc x.apart);
            }

      -- the arc fixed
      module _ (zs' : List ℕ) (f : FixedTails cuts n from count t v zs zs') where
        pub fixed_ok : TailsOk (unmarked n root m) zs'
        fixed_ok = record { size = f.size; arcs = λ g h e. d.tails_ok.arcs g h (f.less g h e) }

        pub tried_fixed : (others : List ℕ) → AdmissibleTree (unmarked n root m) w (admissible_by zs') others → TreeWith m n root w v zs t others
        unfolding unmarked
        tried_fixed others a =
            record {
              places = a.places;
              tree = a.tree;
              admissible = fixed_less s cs (admissible_by zs) (admissible_by zs') t v f.fixed (take n others) a.admissible;
              has_tail = fixed_tail s cs w k.proves v (admissible_by zs) (take n ps) d.narrowed below admissible_ends.not_root (admissible_by zs') t f.fixed (take n others) a.admissible;
            }

        pub fixed_refuted : NoneAdmissible (unmarked n root m) w (admissible_by zs') → Refuted (unmarked n root m) w v (take n ps) t
        unfolding unmarked
        fixed_refuted none = refute_fixed s cs w k.proves v (admissible_by zs) (take n ps) d.narrowed below admissible_ends.not_root (admissible_by zs') t f.fixed none

  -- A TAIL TAKEN, when those below it cannot be had
  pub settled_take : (v : ℕ) (zs ps : List ℕ) → Settled m n root w v zs ps → (t : ℕ) (others : List ℕ) → TreeWith m n root w v zs t others
      → NoneBelow (unmarked n root m) w v (take n ps) t → Settled m n root w v zs others × LeastParent m n root w v others
  settled_take v zs ps d t others a b =
      let o = a.tree in
      let x = a.admissible in (
        record { places = a.places; tails_ok = d.tails_ok; narrowed = narrowed_take s cs w k.proves v (admissible_by zs) (take n ps) d.narrowed (take n others) o x },
        rw a.has_tail (none_below_take s cs w k.proves v (admissible_by zs) (take n ps) d.narrowed (take n others) o x t b),
      )

  -- START AND FINISH
  pub settled_start : (reduced zs ps : List ℕ) → PlannedTree m reduced cuts n root w count ps → TightTails m reduced n root zs → Settled m n root w 0 zs ps
  settled_start reduced zs ps p z =
      record {
        places = p.places;
        tails_ok = tight_ok m reduced n root zs z;
        narrowed =
            narrowed_start s cs w k.proves (admissible_by zs) (take n ps) p.tree
            (λ t h r e. tight_admissible m reduced n root zs z t h r (p.costs t h r ∙ e));
      }

  pub settled_all : (zs ps : List ℕ) → Settled m n root w n zs ps → take n ps ≡ first_tree (unmarked n root m)
  unfolding unmarked
  settled_all zs ps d = narrowed_first s cs w k.proves (admissible_by zs) (take n ps) d.narrowed

  -- ONE VERTEX MORE
  pub settled_root : (v : ℕ) (zs ps : List ℕ) → v < n → v ≡ root → Settled m n root w v zs ps → Settled m n root w (v + 1) zs ps
  unfolding unmarked
  settled_root v zs ps l e d =
      record {
        places = d.places;
        tails_ok = d.tails_ok;
        narrowed = rw (add-one v) (narrowed_root s cs w k.proves v (admissible_by zs) (take n ps) d.narrowed l (eq-eqb v root e));
      }

  module _ (v : ℕ) (zs ps : List ℕ) (l : v < n) (e : v ≢ root) (d : Settled m n root w v zs ps) where
    -- the arc of the tree at hand is admissible
    pub own_admissible : admissible_by zs (parent (take n ps) v) v ≡ true
    unfolding unmarked
    own_admissible = d.narrowed.tree_admissible v l (ne_eqb v root e)

    pub settled_more : LeastParent m n root w v ps → (zs' : List ℕ) → FixedTails cuts n from count (parent (take n ps) v) v zs zs' → Settled m n root w (v + 1) zs' ps
    unfolding unmarked
    settled_more b zs' f =
        record {
          places = d.places;
          tails_ok = record { size = f.size; arcs = λ g h x. d.tails_ok.arcs g h (f.less g h x) };
          narrowed =
              rw (add-one v)
              (narrowed_settle s cs w k.proves v (admissible_by zs) (take n ps) d.narrowed l (ne_eqb v root e) (admissible_by zs') b f.fixed);
        }

  -- the tail of an arc that is not admissible cannot be had
  pub none_absent : (v : ℕ) (zs ps : List ℕ) → v < n → v ≢ root → Settled m n root w v zs ps → (t : ℕ) → admissible_by zs t v ≡ false → Refuted (unmarked n root m) w v (take n ps) t
  unfolding unmarked
  none_absent v zs ps l e d t r = refute_absent s cs w k.proves v (admissible_by zs) (take n ps) d.narrowed l (ne_eqb v root e) t r
