-- The steps of the search: start with the arcs of reduced cost 0; refute a tail; take another arborescence; settle a
-- vertex; finish. Assumes nothing.
use mathlib.Core.Path.{◌≡◌, refl, sym, ◌∙◌, subst}
use mathlib.Core.Bool.{Bool, true, false}
use mathlib.Core.List.{List}
use Prim.Native.Nat.{ℕ, suc, ◌+◌, ◌≤◌, ◌<◌}
use native.Mathlib.Omega.{arith}
use native.Mathlib.Decide.{ℕ_discrete}
use lib.Dec.{eqb}
use borrow.Author.Tests.{eqb-false}
use Rattle.base.proofs.BoolLaws.{not_both}
use Rattle.instance.specs.Limits.{max_vertices, no_parent}
use Rattle.instance.specs.Instance.{Instance}
use Rattle.instance.specs.Arborescence.{remaining, parent, is_arborescence, total}
use Rattle.instance.specs.Candidates.{first_tree}
use Rattle.instance.specs.Cuts.{Cut, Proves, reduced_cost}
use Rattle.instance.proofs.ArborescenceLaws.{parents_size, root_parent, joined}
use Rattle.theory.specs.Readings.{FirstReads}
use Rattle.theory.proofs.OrderLaws.{first_differ}
use Rattle.theory.proofs.Duality.{weak_duality}
use Rattle.theory.proofs.Slackness.{tight_arc}
use Rattle.theory.proofs.FirstLaws.{first_only}
use Rattle.paths.specs.Paths.{Descends}
use Rattle.paths.proofs.PathLaws.{no_return}
use Rattle.paths.proofs.ExchangeLaws.{rooted}
use Rattle.narrowing.specs.Narrowed.{OfTotal, Agree, Admissible, Narrowed, NoneBelow, Refuted, Fixed}
use Rattle.narrowing.proofs.FixedLaws.{fixed_keeps, fixed_less}

-- AGREEING BELOW A VERTEX
agree_more : (v : ℕ) (ps qs : List ℕ) → Agree v ps qs → parent ps v ≡ parent qs v → Agree (suc v) ps qs
agree_more v ps qs a e u l = at (ℕ_discrete u v)
  where
    at : Dec (u ≡ v) → parent ps u ≡ parent qs u
    at (yes q) = subst (λ (x : ℕ). parent ps x ≡ parent qs x) (sym q) e
    at (no q) = a u (omega arith)

module _ (s : Instance) (cs : List Cut) (w : ℕ) (p : Proves s cs w) where
  -- START: the test lets every arc of reduced cost 0 pass
  pub narrowed_start : (keep : ℕ → ℕ → Bool) (ps : List ℕ) → OfTotal s w ps
      → ((t h : ℕ) → remaining s t h ≡ true → reduced_cost s cs t h ≡ 0 → keep t h ≡ true) → Narrowed s w 0 keep ps
  narrowed_start keep ps o tight =
      record {
        tree = o;
        tree_admissible = stay ps o;
        keeps = λ qs q a. stay qs q;
        agrees = λ qs a k u l. absurd (omega arith);
        least = λ u l qs q a. absurd (omega arith);
      }
    where
      stay : (qs : List ℕ) → OfTotal s w qs → Admissible s keep qs
      stay qs q v l e =
          tight (parent qs v) v (joined s qs q.arborescence v l e).arc (tight_arc s qs q.arborescence cs p.feasible (p.adds ∙ sym q.attained) v l e)

  module _ (v : ℕ) (keep : ℕ → ℕ → Bool) (ps : List ℕ) (k : Narrowed s w v keep ps) where
    -- TAKE another arborescence of the cheapest total that passes the test
    pub narrowed_take : (qs : List ℕ) → OfTotal s w qs → Admissible s keep qs → Narrowed s w v keep qs
    narrowed_take qs o x =
        let same : Agree v ps qs = k.agrees qs o.arborescence x in
        record {
          tree = o;
          tree_admissible = x;
          keeps = λ rs q g. k.keeps rs q (λ u l. same u l ∙ g u l);
          agrees = λ rs a y u l. sym (same u l) ∙ k.agrees rs a y u l;
          least = λ u l rs q g. subst (λ (z : ℕ). z ≤ parent rs u) (same u l) (k.least u l rs q (λ z m. same z (omega arith) ∙ g z m));
        }

    pub none_below_take : (qs : List ℕ) → OfTotal s w qs → Admissible s keep qs → (t : ℕ) → NoneBelow s w v ps t → NoneBelow s w v qs t
    none_below_take qs o x t b rs q g = b rs q (λ u l. k.agrees qs o.arborescence x u l ∙ g u l)

    -- REFUTE a tail
    pub none_below_start : NoneBelow s w v ps 0
    none_below_start qs o g = omega arith

    pub none_below_more : (t : ℕ) → NoneBelow s w v ps t → Refuted s w v ps t → NoneBelow s w v ps (t + 1)
    none_below_more t b r qs o g = at (ℕ_discrete (parent qs v) t)
      where
        at : Dec (parent qs v ≡ t) → t + 1 ≤ parent qs v
        at (yes e) = absurd (r qs o g e)
        at (no d) = let l = b qs o g in omega arith

    module _ (below : v < s.n) (apart : eqb v s.root ≡ false) where
      -- where the arc does not pass the test
      pub refute_absent : (t : ℕ) → keep t v ≡ false → Refuted s w v ps t
      refute_absent t r qs o g e = not_both (keep t v) (subst (λ (x : ℕ). keep x v ≡ true) e (k.keeps qs o g v below apart)) r

      -- where settled parents lead from the tail back to v
      pub refute_cycle : s.root < s.n → s.n ≤ max_vertices → (t : ℕ) → ((qs : List ℕ) → Agree v ps qs → Descends qs v t) → Refuted s w v ps t
      refute_cycle root_below small t d qs o g e =
          no_return s.n s.root qs (rooted s qs root_below o.arborescence) small v below (eqb-false v s.root apart)
          (subst (λ (x : ℕ). Descends qs v x) (sym e) (d qs g))

      module _ (keep' : ℕ → ℕ → Bool) (t : ℕ) (f : Fixed s.n cs keep keep' t v) where
        -- where no arborescence of the cheapest total passes the test with the arc fixed
        pub refute_fixed : ((qs : List ℕ) → OfTotal s w qs → Admissible s keep' qs → ⊥) → Refuted s w v ps t
        refute_fixed n qs o g e = n qs o (fixed_keeps s cs w p keep keep' t v below f qs o (k.keeps qs o g) e)

        -- one that does has the arc
        pub fixed_tail : (qs : List ℕ) → Admissible s keep' qs → parent qs v ≡ t
        fixed_tail qs x = f.only (parent qs v) (x v below apart)

      -- SETTLE v: no tail below the present one can be had
      pub narrowed_settle : (keep' : ℕ → ℕ → Bool) → NoneBelow s w v ps (parent ps v) → Fixed s.n cs keep keep' (parent ps v) v → Narrowed s w (suc v) keep' ps
      narrowed_settle keep' b f =
          record {
            tree = k.tree;
            tree_admissible = fixed_keeps s cs w p keep keep' (parent ps v) v below f ps k.tree k.tree_admissible refl;
            keeps =
                λ qs o g.
                fixed_keeps s cs w p keep keep' (parent ps v) v below f qs o (k.keeps qs o (λ u l. g u (omega arith))) (sym (g v (omega arith)));
            agrees =
                λ qs a x.
                agree_more v ps qs (k.agrees qs a (fixed_less s cs keep keep' (parent ps v) v f qs x)) (sym (fixed_tail keep' (parent ps v) f qs x));
            least = λ u l qs o g. at u l qs o g (ℕ_discrete u v);
          }
        where
          at : (u : ℕ) → u < suc v → (qs : List ℕ) → OfTotal s w qs → Agree u ps qs → Dec (u ≡ v) → parent ps u ≤ parent qs u
          at u l qs o g (yes z) = subst (λ (y : ℕ). parent ps y ≤ parent qs y) (sym z) (b qs o (subst (λ (y : ℕ). Agree y ps qs) z g))
          at u l qs o g (no z) = k.least u (omega arith) qs o g

    -- the root has no tail to settle
    pub narrowed_root : v < s.n → eqb v s.root ≡ true → Narrowed s w (suc v) keep ps
    narrowed_root below here =
        record {
          tree = k.tree;
          tree_admissible = k.tree_admissible;
          keeps = λ qs o g. k.keeps qs o (λ u l. g u (omega arith));
          agrees = λ qs a x. agree_more v ps qs (k.agrees qs a x) (same qs a);
          least = λ u l qs o g. at u l qs o g (ℕ_discrete u v);
        }
      where
        same : (qs : List ℕ) → is_arborescence s qs ≡ true → parent ps v ≡ parent qs v
        same qs a = root_parent s ps k.tree.arborescence v below here ∙ sym (root_parent s qs a v below here)

        at : (u : ℕ) → u < suc v → (qs : List ℕ) → OfTotal s w qs → Agree u ps qs → Dec (u ≡ v) → parent ps u ≤ parent qs u
        at u l qs o g (yes z) = let e : parent ps v ≡ parent qs v = same qs o.arborescence in subst (λ (y : ℕ). parent ps y ≤ parent qs y) (sym z) (omega arith)
        at u l qs o g (no z) = k.least u (omega arith) qs o g

  -- FINISH: every vertex is settled
  pub narrowed_reads : (keep : ℕ → ℕ → Bool) (ps : List ℕ) → Narrowed s w s.n keep ps → FirstReads s ps
  narrowed_reads keep ps k =
      let a = k.tree.arborescence in
      let e = k.tree.attained in
      record {
        arborescence = a;
        least = λ qs b. let l = weak_duality s qs b cs p.feasible in let d = p.adds in omega arith;
        first =
            λ qs b q.
            first_differ no_parent ps qs (parents_size s ps a ∙ sym (parents_size s qs b))
            (λ u l g. let z = parents_size s ps a in k.least u (omega arith) qs (record { arborescence = b; attained = q ∙ e }) g);
      }

  pub narrowed_first : (keep : ℕ → ℕ → Bool) (ps : List ℕ) → Narrowed s w s.n keep ps → ps ≡ first_tree s
  narrowed_first keep ps k = first_only s ps (narrowed_reads keep ps k)
