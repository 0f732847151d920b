-- Exchanging arcs of an arborescence. A vertex h can take any parent t that is no descendant of it; and where t is one,
-- after some vertex on the path from t to h has taken a parent that is none. Assumes nothing.
use mathlib.Core.Path.{◌≡◌, refl, sym, ap, ◌∙◌}
use mathlib.Core.Bool.{true, false, cond}
use mathlib.Core.List.{List}
use mathlib.Core.Logic.{inl, ⊎_elim, ◌≢◌}
use Prim.Native.Nat.{ℕ, ◌+◌, ◌<◌}
use native.Mathlib.Omega.{arith}
use native.Mathlib.Decide.{ℕ_discrete}
use lib.Dec.{eqb}
use lib.ListN.{length, set, length-set}
use borrow.Author.Tests.{eqb-true, eq-eqb}
use Rattle.base.proofs.BoolLaws.{test, not_both}
use Rattle.base.proofs.SumLaws.{sum_change}
use Rattle.instance.specs.Instance.{Instance, weight}
use Rattle.instance.specs.Arborescence.{remaining, parent, reaches, is_arborescence, total}
use Rattle.instance.proofs.ArcLaws.{remaining_ends}
use Rattle.instance.proofs.ReachLaws.{enough}
use Rattle.instance.proofs.ArborescenceLaws.{parents_size, root_parent, joined, make_arborescence}
use Rattle.paths.specs.Paths.{Rooted, Descends, Avoids, OnPath, start, onward}
use Rattle.paths.proofs.PathLaws.{avoids_up, avoids_same, avoids_above, path_descends, parent_other, parent_same, path_changed, reach_root}

module _ (s : Instance) (ps : List ℕ) (root_below : s.root < s.n) (a : is_arborescence s ps ≡ true) where
  reach : (v : ℕ) → v < s.n → reaches s.n s.root ps v ≡ true
  reach v l =
      ⊎_elim (λ (e : eqb v s.root ≡ true). rw (eqb-true v s.root e) (reach_root s.n s.root ps))
      (λ (e : eqb v s.root ≡ false). (joined s ps a v l e).reach) (test (eqb v s.root))

  pub rooted : Rooted s.n s.root ps
  rooted =
      record {
        size = parents_size s ps a;
        root_below = root_below;
        at_root = root_parent s ps a s.root root_below (eq-eqb s.root s.root refl);
        below = λ v l e. (remaining_ends s (parent ps v) v (joined s ps a v l e).arc).tail_below;
        reach = reach;
      }

  -- ONE ARC
  module _ (t h : ℕ) (r : remaining s t h ≡ true) (out : Avoids ps h t) where
    abbrev qs : List ℕ
    qs = set ps h t

    inside : h < length ps
    inside = rw (parents_size s ps a) (remaining_ends s t h r).head_below

    pub exchange_uses : parent qs h ≡ t
    exchange_uses = parent_same ps h t inside

    arcs : (v : ℕ) → v < s.n → eqb v s.root ≡ false → remaining s (parent qs v) v ≡ true
    arcs v l e = at (ℕ_discrete v h)
      where
        at : Dec (v ≡ h) → remaining s (parent qs v) v ≡ true
        at (yes z) = rw (z, exchange_uses) r
        at (no z) = rw (parent_other ps h t v z) (joined s ps a v l e).arc

    meets : (v : ℕ) → v < s.n → reaches s.n s.root qs v ≡ true
    meets v l =
        let w = path_changed ps h t s.root inside out (s.n, reach t (remaining_ends s t h r).tail_below) s.n v (reach v l) in
        enough s.n s.root qs root_below (λ u m e. inl (remaining_ends s (parent qs u) u (arcs u m e)).tail_below) w.0 v l w.1

    pub exchange : is_arborescence s qs ≡ true
    exchange =
        make_arborescence s qs (simp length-set (parents_size s ps a))
        (λ v l e.
        parent_other ps h t v (λ z. not_both (eqb v s.root) e (rw z (remaining_ends s t h r).not_root)) ∙ root_parent s ps a v l e)
        (λ v l e. record { arc = arcs v l e; reach = meets v l })

    pub exchange_total : total s qs + weight s (parent ps h) h ≡ total s ps + weight s t h
    unfolding total
    exchange_total =
        let off = (remaining_ends s t h r).not_root in
        let here : cond (eqb h s.root) 0 (weight s (parent ps h) h) ≡ weight s (parent ps h) h = rw off in
        let there : cond (eqb h s.root) 0 (weight s (parent qs h) h) ≡ weight s t h = rw (off, exchange_uses) in
        let sums =
        sum_change s.n (λ v. cond (eqb v s.root) 0 (weight s (parent qs v) v)) (λ v. cond (eqb v s.root) 0 (weight s (parent ps v) v)) h
        (remaining_ends s t h r).head_below (λ v l z. rw (parent_other ps h t v z)) in
        omega arith

-- TWO ARCS
module _ (s : Instance) (ps : List ℕ) (root_below : s.root < s.n) (a : is_arborescence s ps ≡ true) (t h x k : ℕ)
    (r : remaining s t h ≡ true) (r₂ : remaining s x k ≡ true) (way : OnPath ps t h k) (apart : k ≢ h) (under : Descends ps h t) (out : Avoids ps h x) where
  abbrev first : List ℕ
  first = set ps k x

  clear : Avoids ps k x
  clear = avoids_above ps h k x out (path_descends ps h t k way under)

  first_in : is_arborescence s first ≡ true
  first_in = exchange s ps root_below a x k r₂ clear

  -- k has left h's subtree, and so has what hangs on it
  k_out : Avoids first h k
  k_out = avoids_up first h k apart (rw (exchange_uses s ps root_below a x k r₂ clear) (avoids_same ps k x h x clear out))

  way_out : (v : ℕ) → OnPath ps t h v → Avoids first h v → Avoids first h t
  way_out v start b = b
  way_out v (onward {v = u} w e) b = way_out u w (at (ℕ_discrete u k))
    where
      at : Dec (u ≡ k) → Avoids first h u
      at (yes z) = rw z k_out
      at (no z) = avoids_up first h u e (rw (parent_other ps k x u z) b)

  t_out : Avoids first h t
  t_out = way_out k way k_out

  abbrev second : List ℕ
  second = set first h t

  pub exchange_two : is_arborescence s second ≡ true
  exchange_two = exchange s first root_below first_in t h r t_out

  pub exchange_two_uses : parent second h ≡ t
  exchange_two_uses = exchange_uses s first root_below first_in t h r t_out

  pub exchange_two_total : total s second + (weight s (parent ps h) h + weight s (parent ps k) k) ≡ total s ps + (weight s t h + weight s x k)
  exchange_two_total =
      let e = exchange_total s ps root_below a x k r₂ clear in
      let f = exchange_total s first root_below first_in t h r t_out in
      let g = ap (λ (p : ℕ). weight s p h) (parent_other ps k x h (λ z. apart (sym z))) in
      omega arith
