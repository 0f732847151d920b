-- Prefixes of arborescences. The vertices below v have their parents, and the parents lead from every vertex to the
-- root or to one that has none yet. So it is with no parents at all; an arc into v keeps it so as long as the path from
-- its tail does not come to v, and then whatever came to v goes on with that path. With all vertices settled every path
-- comes to the root, and the prefix is an arborescence. Assumes nothing.
use mathlib.Core.Path.{◌≡◌, refl, sym, ◌∙◌, subst}
use mathlib.Core.Bool.{true, false}
use mathlib.Core.List.{List, [], ◌∷◌, ◌++◌}
use mathlib.Core.Logic.{◌⊎◌, inl, inr, ⊎_elim, ◌≢◌}
use Prim.Native.Nat.{ℕ, suc, ◌≤◌, ◌<◌}
use native.Mathlib.Omega.{arith}
use native.Mathlib.Decide.{ℕ_discrete}
use lib.Dec.{eqb}
use lib.ListN.{length, length-append}
use borrow.Author.Tests.{eqb-true, eqb-false}
use Rattle.base.proofs.BoolLaws.{test, not_both}
use Rattle.instance.specs.Limits.{max_vertices, no_parent}
use Rattle.instance.specs.Instance.{Instance}
use Rattle.instance.specs.Arborescence.{remaining, parent, reaches, is_arborescence}
use Rattle.instance.proofs.ArcLaws.{remaining_ends}
use Rattle.instance.proofs.ArborescenceLaws.{make_arborescence}
use Rattle.instance.proofs.ReachLaws.{enough}
use Rattle.paths.specs.Paths.{Descends}
use Rattle.paths.proofs.PathLaws.{descends_here, descends_up, descends_trans, none_avoids}
use Rattle.enumeration.proofs.CycleLaws.{below_or_from, from_bare, parent_kept, parent_next, path_kept}

-- the parents lead from u to the root, or to a vertex that has no parent yet
pub record Leads (s : Instance) (v : ℕ) (ps : List ℕ) (u : ℕ) : Type 0 where
  pub end : ℕ
  pub path : Descends ps end u
  pub end_below : end < s.n
  pub end_open : (end ≡ s.root) ⊎ (v ≤ end)

pub record Prefix (s : Instance) (v : ℕ) (ps : List ℕ) : Type 0 where
  pub size : length ps ≡ v
  pub at_root : s.root < v → parent ps s.root ≡ no_parent
  pub arcs : (u : ℕ) → u < v → eqb u s.root ≡ false → remaining s (parent ps u) u ≡ true
  pub leads : (u : ℕ) → u < s.n → Leads s v ps u

pub one_more : (ps : List ℕ) (v p : ℕ) → length ps ≡ v → length (ps ++ (p ∷ [])) ≡ suc v
one_more ps v p e = let z = length-append ps (p ∷ []) in omega arith

module _ (s : Instance) (root_below : s.root < s.n) (small : s.n ≤ max_vertices) where
  -- NONE SETTLED
  pub prefix_none : Prefix s 0 []
  prefix_none =
      record {
        size = refl;
        at_root = λ l. absurd (omega arith);
        arcs = λ u l e. absurd (omega arith);
        leads = λ u l. record { end = u; path = descends_here [] u u refl; end_below = l; end_open = inr (omega arith) };
      }

  module _ (v : ℕ) (ps : List ℕ) (b : Prefix s v ps) (below : v < s.n) where
    kept : (p u w : ℕ) → w < s.n → Descends ps w u → Descends (ps ++ (p ∷ [])) w u
    kept p u w l d = (d.0, path_kept ps v b.size (omega arith) (p ∷ []) w (omega arith) d.0 u d.1)

    -- ONE MORE: the root
    pub prefix_root : eqb v s.root ≡ true → Prefix s (suc v) (ps ++ (no_parent ∷ []))
    prefix_root e =
        let r = eqb-true v s.root e in
        record {
          size = one_more ps v no_parent b.size;
          at_root = λ l. subst (λ (x : ℕ). parent (ps ++ (no_parent ∷ [])) x ≡ no_parent) r (parent_next ps v b.size no_parent []);
          arcs = λ u l x. let d = eqb-false u s.root x in let i : u < v = omega arith in rw (parent_kept ps v b.size (no_parent ∷ []) u i) (b.arcs u i x);
          leads =
              λ u l.
              let w = b.leads u l in
              record { end = w.end; path = kept no_parent u w.end w.end_below w.path; end_below = w.end_below; end_open = at r w.end w.end_open (ℕ_discrete w.end v) };
        }
      where
        at : v ≡ s.root → (x : ℕ) → (x ≡ s.root) ⊎ (v ≤ x) → Dec (x ≡ v) → (x ≡ s.root) ⊎ (suc v ≤ x)
        at r x o (yes q) = inl (q ∙ r)
        at r x (inl q) (no d) = inl q
        at r x (inr l) (no d) = inr (omega arith)

    -- a path that ever comes to v comes there within n steps
    cycle_soon : (t : ℕ) → t < s.n → Descends ps v t → reaches s.n v ps t ≡ true
    cycle_soon t l d = enough s.n v ps below (λ u m e. at u (test (eqb u s.root)) (below_or_from u v)) d.0 t l d.1
      where
        over : (u : ℕ) → parent ps u ≡ no_parent → (parent ps u < s.n) ⊎ ((j : ℕ) → reaches j v ps (parent ps u) ≡ false)
        over u p = let z = b.size in inr (rw p (none_avoids ps v (omega arith) (omega arith)))

        at : (u : ℕ) → (eqb u s.root ≡ true) ⊎ (eqb u s.root ≡ false) → (u < v) ⊎ (v ≤ u) → (parent ps u < s.n) ⊎ ((j : ℕ) → reaches j v ps (parent ps u) ≡ false)
        at u r (inr i) = over u (from_bare ps v b.size u i)
        at u (inr r) (inl i) = inl (remaining_ends s (parent ps u) u (b.arcs u i r)).tail_below
        at u (inl r) (inl i) =
            let q = eqb-true u s.root r in
            over u (subst (λ (x : ℕ). parent ps x ≡ no_parent) (sym q) (b.at_root (omega arith)))

    -- ONE MORE: an arc that closes no cycle
    module _ (t : ℕ) (e : eqb v s.root ≡ false) (r : remaining s t v ≡ true) (no_cycle : reaches s.n v ps t ≡ false) where
      abbrev qs : List ℕ
      qs = ps ++ (t ∷ [])

      tail_below : t < s.n
      tail_below = (remaining_ends s t v r).tail_below

      still_open : (x : ℕ) → (x ≡ s.root) ⊎ (v ≤ x) → x ≢ v → (x ≡ s.root) ⊎ (suc v ≤ x)
      still_open x (inl q) d = inl q
      still_open x (inr l) d = inr (omega arith)

      -- a path in ps that does not end at v ends there still
      from_open : (u : ℕ) (w : Leads s v ps u) → w.end ≢ v → Leads s (suc v) qs u
      from_open u w d = record { end = w.end; path = kept t u w.end w.end_below w.path; end_below = w.end_below; end_open = still_open w.end w.end_open d }

      from_tail : Leads s (suc v) qs t
      from_tail =
          let w = b.leads t tail_below in
          from_open t w (λ q. not_both (reaches s.n v ps t) (cycle_soon t tail_below (subst (λ (x : ℕ). Descends ps x t) q w.path)) no_cycle)

      -- one that ends at v goes on from the tail
      from_v : (u : ℕ) → Descends ps v u → Leads s (suc v) qs u
      from_v u d =
          let w = from_tail in
          let up : Descends qs w.end v = descends_up qs w.end v (subst (λ (x : ℕ). Descends qs w.end x) (sym (parent_next ps v b.size t [])) w.path) in
          record { end = w.end; path = descends_trans qs w.end v u (kept t u v below d) up; end_below = w.end_below; end_open = w.end_open }

      from_any : (u : ℕ) → Leads s v ps u → Leads s (suc v) qs u
      from_any u w = at (ℕ_discrete w.end v)
        where
          at : Dec (w.end ≡ v) → Leads s (suc v) qs u
          at (yes q) = from_v u (subst (λ (x : ℕ). Descends ps x u) q w.path)
          at (no d) = from_open u w d

      pub prefix_more : Prefix s (suc v) (ps ++ (t ∷ []))
      prefix_more =
          record {
            size = one_more ps v t b.size;
            at_root = λ l. let d = eqb-false v s.root e in let i : s.root < v = omega arith in parent_kept ps v b.size (t ∷ []) s.root i ∙ b.at_root i;
            arcs = λ u l x. at u l x (ℕ_discrete u v);
            leads = λ u l. from_any u (b.leads u l);
          }
        where
          at : (u : ℕ) → u < suc v → eqb u s.root ≡ false → Dec (u ≡ v) → remaining s (parent qs u) u ≡ true
          at u l x (yes q) = subst (λ (y : ℕ). remaining s (parent qs y) y ≡ true) (sym q) (rw (parent_next ps v b.size t []) r)
          at u l x (no d) = let i : u < v = omega arith in rw (parent_kept ps v b.size (t ∷ []) u i) (b.arcs u i x)

  -- ALL SETTLED
  pub prefix_whole : (ps : List ℕ) → Prefix s s.n ps → is_arborescence s ps ≡ true
  prefix_whole ps b =
      make_arborescence s ps b.size (λ v l e. subst (λ (x : ℕ). parent ps x ≡ no_parent) (sym (eqb-true v s.root e)) (b.at_root root_below))
      (λ v l e. record { arc = b.arcs v l e; reach = reach v l (b.leads v l) })
    where
      reach : (v : ℕ) → v < s.n → Leads s s.n ps v → reaches s.n s.root ps v ≡ true
      reach v l w =
          let q : w.end ≡ s.root = ⊎_elim (λ (y : w.end ≡ s.root). y) (λ (y : s.n ≤ w.end). absurd (omega (arith, w.end_below))) w.end_open in
          let d : Descends ps s.root v = subst (λ (x : ℕ). Descends ps x v) q w.path in
          enough s.n s.root ps root_below (λ u m e. inl (remaining_ends s (parent ps u) u (b.arcs u m e)).tail_below) d.0 v l d.1
