-- One arc pinned or banned: an instance with an arc pinned has the remaining arcs of the one with it alone into its
-- head, and with an arc banned that is not pinned those of the one without it. So what `why` and `plan_without` show
-- can be checked by anyone on a board with that mark set (02, A6). Assumes nothing.
use mathlib.Core.Path.{◌≡◌, refl, sym, ap, ◌∙◌, subst}
use mathlib.Core.Bool.{Bool, true, false, ◌&&◌, not, and-true}
use mathlib.Core.Logic.{⊎_elim}
use Prim.Native.Nat.{ℕ, ◌≤◌, ◌<◌}
use native.Mathlib.Omega.{arith}
use lib.Dec.{eqb}
use lib.ListN.{length}
use lib.Seq.{get_or-set_same, get_or-set_other}
use borrow.Author.Tests.{eq-eqb, ne_eqb, eqb-true, eqb-false}
use Rattle.base.proofs.BoolLaws.{test, not_both, and_left, and_right, and_both, and_false_right}
use Rattle.base.proofs.BoundedLaws.{any_intro}
use Rattle.base.proofs.SumLaws.{any_same}
use Rattle.instance.specs.Limits.{max_vertices, cells, free, pinned, banned}
use Rattle.instance.specs.Instance.{Instance, cell, weight, mark, is_arc}
use Rattle.instance.specs.Matrix.{matrix_where, matrix_instance}
use Rattle.instance.specs.Arborescence.{is_pinned, other_pinned, remaining}
use Rattle.instance.proofs.ArcLaws.{arc_ends}
use Rattle.theory.specs.Usable.{forced}
use Rattle.theory.proofs.SameArcs.{SameArcs}
use Rattle.theory.proofs.MatrixInstances.{matrix_instance_same, matrix_instance_remaining}
use Rattle.theory.proofs.Restriction.{restricted_remaining, restricted_same_weight}
use Rattle.commands.specs.Model.{with_mark}
use Rattle.witness.specs.Witness.{forced_instance, all_but, deleted_instance}
use Rattle.witness.proofs.StateLaws.{forced_elsewhere}

and_false : (b : Bool) → b && false ≡ false
and_false b = and_false_right b false refl

module _ (s : Instance) (t h : ℕ) (small : s.n ≤ max_vertices) (x : is_arc s t h ≡ true) (long : length s.marks ≡ cells) where
  -- WHAT IS LEFT where some arcs are taken out
  left_remaining : (q : ℕ → ℕ → Bool) (g v : ℕ) → remaining (matrix_instance s.n s.root s.budget (matrix_where s q)) g v ≡ remaining s g v && q g v
  left_remaining q g v = matrix_instance_remaining s.n s.root s.budget (matrix_where s q) g v ∙ restricted_remaining s q small g v

  left_weight :
      (q : ℕ → ℕ → Bool) (g v : ℕ) → remaining (matrix_instance s.n s.root s.budget (matrix_where s q)) g v ≡ true →
      weight (matrix_instance s.n s.root s.budget (matrix_where s q)) g v ≡ weight s g v
  left_weight q g v r =
      let m = matrix_where s q in
      (matrix_instance_same s.n s.root s.budget m).weights g v r
      ∙ restricted_same_weight s q small g v (sym (matrix_instance_remaining s.n s.root s.budget m g v) ∙ r)

  -- THE MARK THAT IS SET, and all others
  module _ (m : ℕ) where
    abbrev s' : Instance
    s' = with_mark m t h s

    put_arc : (g v : ℕ) → is_arc s' g v ≡ is_arc s g v
    unfolding with_mark is_arc weight
    put_arc g v = refl

    put_here : mark s' t h ≡ m
    unfolding with_mark mark
    put_here = let e = arc_ends s t h x in get_or-set_same s.marks (cell t h) m free (omega (arith, e.tail_below, e.head_below))

    put_there : (g v : ℕ) → g < max_vertices → v < max_vertices → eqb g t && eqb v h ≡ false → mark s' g v ≡ mark s g v
    unfolding with_mark mark
    put_there g v lg lv e =
        get_or-set_other s.marks (cell t h) (cell g v) m free
        (λ z.
        let d = arc_ends s t h x in
        let a : g ≡ t = omega (arith, z, d.tail_below, d.head_below) in
        let b : v ≡ h = omega (arith, z, d.tail_below, d.head_below) in
        not_both (eqb g t && eqb v h) (and_both (eqb g t) (eqb v h) (eq-eqb g t a) (eq-eqb v h b)) e)

    -- other arcs are pinned as they were
    put_pinned : (g v : ℕ) → g < s.n → v < s.n → eqb g t && eqb v h ≡ false → is_pinned s' g v ≡ is_pinned s g v
    unfolding is_pinned
    put_pinned g v lg lv e = rw (put_arc g v, put_there g v (omega (arith, lg, small)) (omega (arith, lv, small)) e)

    elsewhere : (g v : ℕ) → eqb v h ≡ false → eqb g t && eqb v h ≡ false
    elsewhere g v e = rw e (and_false (eqb g t))

    -- pins into other heads are as they were
    others_elsewhere : (g v : ℕ) → v < s.n → eqb v h ≡ false → other_pinned s' g v ≡ other_pinned s g v
    unfolding other_pinned with_mark
    others_elsewhere g v l e =
        any_same s.n (λ k. not (eqb k g) && is_pinned s' k v) (λ k. not (eqb k g) && is_pinned s k v)
        (λ k b. ap (λ (y : Bool). not (eqb k g) && y) (put_pinned k v b l (elsewhere k v e)))

    -- the arcs into other heads remain as they did, and no arc is one no more
    remains_elsewhere : (g v : ℕ) → is_arc s g v ≡ true → eqb v h ≡ false → remaining s' g v ≡ remaining s g v
    unfolding remaining
    remains_elsewhere g v a e =
        let d = arc_ends s g v a in
        rw (put_arc g v, put_there g v (omega (arith, d.tail_below, small)) (omega (arith, d.head_below, small)) (elsewhere g v e), others_elsewhere g v d.head_below e)

    remains_none : (g v : ℕ) → is_arc s g v ≡ false → (remaining s' g v ≡ false) × (remaining s g v ≡ false)
    unfolding remaining
    remains_none g v a = (rw (put_arc g v, a), rw a)

  -- PINNED
  module _ (free_of_bans : eqb (mark s t h) banned ≡ false) (alone : other_pinned s t h ≡ false) where
    abbrev p : Instance
    p = with_mark pinned t h s

    others_here : other_pinned p t h ≡ false
    unfolding other_pinned with_mark
    others_here =
        any_same s.n (λ k. not (eqb k t) && is_pinned p k h) (λ k. not (eqb k t) && is_pinned s k h) (λ k b. at k b (eqb k t) refl) ∙ alone
      where
        at : (k : ℕ) → k < s.n → (y : Bool) → eqb k t ≡ y → not y && is_pinned p k h ≡ not y && is_pinned s k h
        at k b true e = refl
        at k b false e = put_pinned pinned k h b (arc_ends s t h x).head_below (rw e)

    keeps_here : (g : ℕ) → g < s.n → eqb g t ≡ false → other_pinned p g h ≡ true
    unfolding other_pinned is_pinned with_mark
    keeps_here g l e =
        any_intro s.n (λ k. not (eqb k g) && (is_arc p k h && eqb (mark p k h) pinned)) t (arc_ends s t h x).tail_below
        (and_both (not (eqb t g)) (is_arc p t h && eqb (mark p t h) pinned) (ap not (ne_eqb t g (λ z. eqb-false g t e (sym z))))
        (and_both (is_arc p t h) (eqb (mark p t h) pinned) (put_arc pinned t h ∙ x) (eq-eqb (mark p t h) pinned (put_here pinned))))

    into_head : (g : ℕ) → is_arc s g h ≡ true → remaining p g h ≡ remaining s g h && forced t h g h
    unfolding remaining forced
    into_head g a =
        ⊎_elim (λ (e : eqb g t ≡ true). subst (λ (k : ℕ). remaining p k h ≡ remaining s k h && forced t h k h) (sym (eqb-true g t e)) own)
        (λ (e : eqb g t ≡ false).
        rw (put_arc pinned g h, a, keeps_here g (arc_ends s g h a).tail_below e, eq-eqb h h refl, e) (and_false (not (eqb (mark p g h) banned)) ∙ sym (and_false (not (eqb (mark s g h) banned) && not (other_pinned s g h)))))
        (test (eqb g t))
      where
        own : remaining p t h ≡ remaining s t h && forced t h t h
        own = rw (put_arc pinned t h, x, put_here pinned, others_here, free_of_bans, alone, eq-eqb h h refl, eq-eqb t t refl)

    pinned_remaining : (g v : ℕ) → remaining p g v ≡ remaining s g v && forced t h g v
    pinned_remaining g v =
        ⊎_elim
        (λ (a : is_arc s g v ≡ true).
        ⊎_elim
        (λ (e : eqb v h ≡ true).
        let same = eqb-true v h e in
        subst (λ (k : ℕ). remaining p g k ≡ remaining s g k && forced t h g k) (sym same) (into_head g (subst (λ (k : ℕ). is_arc s g k ≡ true) same a)))
        (λ (e : eqb v h ≡ false). elsewhere_same g v a e) (test (eqb v h)))
        (λ (a : is_arc s g v ≡ false). no_arc_same g v a) (test (is_arc s g v))
      where
        elsewhere_same : (g v : ℕ) → is_arc s g v ≡ true → eqb v h ≡ false → remaining p g v ≡ remaining s g v && forced t h g v
        elsewhere_same g v a e = remains_elsewhere pinned g v a e ∙ sym (ap (λ (b : Bool). remaining s g v && b) (forced_elsewhere t h g v e) ∙ and-true (remaining s g v))

        no_arc_same : (g v : ℕ) → is_arc s g v ≡ false → remaining p g v ≡ remaining s g v && forced t h g v
        no_arc_same g v a = let n = remains_none pinned g v a in n.0 ∙ sym (ap (λ (b : Bool). b && forced t h g v) n.1)

    pub pinned_arcs : SameArcs (forced_instance s t h) (with_mark pinned t h s)
    unfolding with_mark weight
    pinned_arcs =
        record {
          vertices = refl;
          roots = refl;
          arcs = λ g v. left_remaining (forced t h) g v ∙ sym (pinned_remaining g v);
          weights = λ g v r. left_weight (forced t h) g v r;
        }

  -- BANNED
  module _ (unpinned : is_pinned s t h ≡ false) where
    abbrev b : Instance
    b = with_mark banned t h s

    still_pinned : (g v : ℕ) → g < s.n → v < s.n → is_pinned b g v ≡ is_pinned s g v
    unfolding is_pinned
    still_pinned g v lg lv =
        ⊎_elim
        (λ (e : eqb g t && eqb v h ≡ true).
        let i = eqb-true g t (and_left (eqb g t) (eqb v h) e) in
        let j = eqb-true v h (and_right (eqb g t) (eqb v h) e) in
        subst (λ (k : ℕ). is_pinned b k v ≡ is_pinned s k v) (sym i) (subst (λ (k : ℕ). is_pinned b t k ≡ is_pinned s t k) (sym j) (own ∙ sym unpinned)))
        (λ (e : eqb g t && eqb v h ≡ false). put_pinned banned g v lg lv e) (test (eqb g t && eqb v h))
      where
        own : is_arc b t h && eqb (mark b t h) pinned ≡ false
        own = rw (put_here banned) (and_false (is_arc b t h))

    still_others : (g v : ℕ) → v < s.n → other_pinned b g v ≡ other_pinned s g v
    unfolding other_pinned with_mark
    still_others g v l =
        any_same s.n (λ k. not (eqb k g) && is_pinned b k v) (λ k. not (eqb k g) && is_pinned s k v)
        (λ k m. ap (λ (y : Bool). not (eqb k g) && y) (still_pinned k v m l))

    banned_arc : (g v : ℕ) → is_arc s g v ≡ true → remaining b g v ≡ remaining s g v && all_but t h g v
    unfolding remaining all_but
    banned_arc g v a =
        let d = arc_ends s g v a in
        ⊎_elim
        (λ (e : eqb g t && eqb v h ≡ true).
        let i = eqb-true g t (and_left (eqb g t) (eqb v h) e) in
        let j = eqb-true v h (and_right (eqb g t) (eqb v h) e) in
        rw e (gone i j ∙ sym (and_false (is_arc s g v && (not (eqb (mark s g v) banned) && not (other_pinned s g v))))))
        (λ (e : eqb g t && eqb v h ≡ false).
        rw (put_arc banned g v, put_there banned g v (omega (arith, d.tail_below, small)) (omega (arith, d.head_below, small)) e, still_others g v d.head_below, e)
        (sym (and-true (is_arc s g v && (not (eqb (mark s g v) banned) && not (other_pinned s g v))))))
        (test (eqb g t && eqb v h))
      where
        gone : g ≡ t → v ≡ h → is_arc b g v && (not (eqb (mark b g v) banned) && not (other_pinned b g v)) ≡ false
        gone i j = ap (λ (m : ℕ). is_arc b g v && (not (eqb m banned) && not (other_pinned b g v))) ((λ k. mark b (i k) (j k)) ∙ put_here banned) ∙ and_false (is_arc b g v)

    banned_remaining : (g v : ℕ) → remaining b g v ≡ remaining s g v && all_but t h g v
    banned_remaining g v =
        ⊎_elim (λ (a : is_arc s g v ≡ true). banned_arc g v a)
        (λ (a : is_arc s g v ≡ false). let n = remains_none banned g v a in n.0 ∙ sym (ap (λ (c : Bool). c && all_but t h g v) n.1)) (test (is_arc s g v))

    pub banned_arcs : SameArcs (deleted_instance s t h) (with_mark banned t h s)
    unfolding with_mark weight
    banned_arcs =
        record {
          vertices = refl;
          roots = refl;
          arcs = λ g v. left_remaining (all_but t h) g v ∙ sym (banned_remaining g v);
          weights = λ g v r. left_weight (all_but t h) g v r;
        }
