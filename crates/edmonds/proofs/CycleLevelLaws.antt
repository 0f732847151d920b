-- A level of planning with a cycle: the contracted level can be planned, and what solves it solves this level, once the
-- cycle is expanded. Assumes nothing.
use mathlib.Core.Path.{◌≡◌, refl, sym, ◌∙◌, subst}
use mathlib.Core.Bool.{Bool, true, false}
use mathlib.Core.List.{List, ◌++◌}
use mathlib.Core.Logic.{◌≢◌, inl, inr, ⊎_elim}
use Prim.Native.Nat.{ℕ, ◌+◌, ◌*◌, ◌-◌, ◌≤◌, ◌<◌}
use native.Mathlib.Omega.{arith}
use lib.Dec.{eqb}
use lib.ListN.{set, length-set}
use lib.Seq.{get_or-set_same, get_or-set_other}
use borrow.Author.Tests.{eq-eqb, ne_eqb, eqb-true, eqb-false}
use Rattle.base.proofs.BoolLaws.{test, not_both}
use Rattle.instance.specs.Limits.{max_vertices}
use Rattle.instance.specs.Cuts.{Cut, cuts_from}
use Rattle.contraction.specs.Cells.{nth, cost}
use Rattle.contraction.specs.Groups.{Labels, Group, Chosen, Cycle, Lowered, contracted, expanded, groups}
use Rattle.contraction.specs.Search.{on_cycle}
use Rattle.contraction.specs.Trees.{Each, Reached, here, step, Tree, ProperCut}
use Rattle.base.proofs.CountingLaws.{count_more, count_one}
use Rattle.contraction.proofs.EachLaws.{each_append, tree_same}
use Rattle.contraction.proofs.Lowering.{lowered_twice, chosen_lowered}
use Rattle.contraction.proofs.Expansion.{expand_tree}
use Rattle.contraction.proofs.SearchLaws as search-laws
use Rattle.charging.specs.declared.charge.Charged.{Charged}
use Rattle.charging.specs.Charge.{ChosenArc, Unentered, ChargedGroup, UnenteredGroup}
use Rattle.cycles.specs.Cycle.{Met}
use Rattle.cycles.specs.Contract.{Contracted}
use Rattle.expansion.specs.Expansion.{CycleEntry, CycleEntered, Expanded}
use Rattle.edmonds.specs.Level.{Plannable, Solution}
use Rattle.instance.proofs.CutLaws.{cuts_joined}
use Rattle.charging.proofs.ChargeLaws.{unentered_before}

module _ {ws ls tails heads : List ℕ} {n root left : ℕ} (r : Plannable ws ls tails heads n root left) where
  root_below : root < n
  root_below = r.labels.root_below

  -- a cycle at v, contracted to the labels lc
  module _ {stamp : List ℕ} {v : ℕ} (mt : Met ls tails stamp n root v) {lc : List ℕ} (ct : Contracted ls stamp n v lc) where
    abbrev on : ℕ → Bool
    on = on_cycle (nth stamp) v

    cycle_at : {w : ℕ → ℕ → ℕ} → Chosen n root w (nth ls) (nth tails) (nth heads) → Cycle n root w (nth ls) (nth tails) (nth heads) on v
    cycle_at {w} ch = search-laws.cycle n root (nth ls) (nth tails) (nth stamp) mt.first mt.last v mt.walk w (nth heads) ch mt.met

    cycle : Cycle n root (cost ws) (nth ls) (nth tails) (nth heads) on v
    cycle = cycle_at r.chosen

    v_below : v < n
    v_below = mt.walk.v_below

    v_label : nth ls v ≡ v
    v_label = mt.walk.v_label

    label_on : (u : ℕ) → u < n → on (nth ls u) ≡ true → nth lc u ≡ v
    label_on u l i = ct.is u l ∙ rw i

    label_off : (u : ℕ) → u < n → on (nth ls u) ≡ false → nth lc u ≡ nth ls u
    label_off u l o = ct.is u l ∙ rw o

    label_v : nth lc v ≡ v
    label_v = label_on v v_below (rw v_label cycle.c_on)

    label_root : nth lc root ≡ nth ls root
    label_root = label_off root root_below cycle.root_off

    root_not_v : nth lc root ≢ v
    root_not_v e = not_both (on v) cycle.c_on (subst (λ (x : ℕ). on x ≡ false) (sym label_root ∙ e) cycle.root_off)

    back_on : (u : ℕ) → u < n → nth lc u ≡ v → on (nth ls u) ≡ true
    back_on u l e =
        ⊎_elim (λ (i : on (nth ls u) ≡ true). i)
        (λ (o : on (nth ls u) ≡ false). absurd (not_both (on v) cycle.c_on (subst (λ (x : ℕ). on x ≡ false) (sym (label_off u l o) ∙ e) o))) (test (on (nth ls u)))

    coarse_labels : Labels n root (nth lc)
    coarse_labels =
        record {
          below =
              λ u l.
              ⊎_elim (λ (i : on (nth ls u) ≡ true). rw (label_on u l i) v_below)
              (λ (o : on (nth ls u) ≡ false). rw (label_off u l o) (r.labels.below u l)) (test (on (nth ls u)));
          self =
              λ u l.
              ⊎_elim (λ (i : on (nth ls u) ≡ true). rw (label_on u l i) label_v)
              (λ (o : on (nth ls u) ≡ false).
              let self = r.labels.self u l in
              rw (label_off u l o) (label_off (nth ls u) (r.labels.below u l) (rw self o) ∙ self)) (test (on (nth ls u)));
          root_below = root_below;
        }

    -- a contracted group other than v's is a group off the cycle
    off : (g : ℕ) → Group n root (nth lc) g → g ≢ v → Group n root (nth ls) g × (on g ≡ false)
    off g gr ne =
        ⊎_elim (λ (i : on (nth ls g) ≡ true). absurd (ne (sym gr.1 ∙ label_on g gr.0 i)))
        (λ (o : on (nth ls g) ≡ false).
        let e : nth ls g ≡ g = sym (label_off g gr.0 o) ∙ gr.1 in
        ((gr.0, e, λ x. gr.2 (x ∙ sym label_root)), rw e at o)) (test (on (nth ls g)))

    -- FEWER GROUPS, and two at least
    still_own : (u : ℕ) → u < n → eqb (nth lc u) u ≡ true → eqb (nth ls u) u ≡ true
    still_own u l e =
        ⊎_elim
        (λ (i : on (nth ls u) ≡ true). let uv : u ≡ v = sym (eqb-true (nth lc u) u e) ∙ label_on u l i in eq-eqb (nth ls u) u (rw uv v_label))
        (λ (o : on (nth ls u) ≡ false). eq-eqb (nth ls u) u (sym (label_off u l o) ∙ eqb-true (nth lc u) u e)) (test (on (nth ls u)))

    -- the group of the tail of v's arc is another of the cycle
    fewer : groups n (nth lc) + 1 ≤ groups n (nth ls)
    fewer =
        let tb = cycle.tail_below v cycle.c_on in
        let u = nth ls (nth tails v) in
        let ub : u < n = r.labels.below (nth tails v) tb in
        let us : nth ls u ≡ u = r.labels.self (nth tails v) tb in
        let lu : nth lc u ≡ v = label_on u ub (rw us (cycle.tail_on v cycle.c_on)) in
        count_more n (λ x. eqb (nth lc x) x) (λ x. eqb (nth ls x) x) still_own u ub
        (ne_eqb (nth lc u) u (λ e. cycle.tail_out v cycle.c_on (sym e ∙ lu))) (eq-eqb (nth ls u) u us)

    two_left : 2 ≤ groups n (nth lc)
    two_left =
        let ρ = nth lc root in
        let ρs = coarse_labels.self root root_below in
        let a = count_one n (λ x. eqb x ρ) ρ (coarse_labels.below root root_below) (eq-eqb ρ ρ refl) in
        let b =
        count_more n (λ x. eqb x ρ) (λ x. eqb (nth lc x) x) (λ x l e. eq-eqb (nth lc x) x (rw (eqb-true x ρ e) ρs)) v v_below
        (ne_eqb v ρ (λ e. root_not_v (sym e))) (eq-eqb (nth lc v) v label_v) in
        omega arith

    pub three : 3 ≤ left
    three = let f = fewer in let t = two_left in let en = r.enough in omega arith

    -- THE CONTRACTED GROUP, charged
    pub stopped : {s : ℕ} → UnenteredGroup ws lc n v s → Unentered n root ws s
    stopped shut = shut root root_below root_not_v v v_below label_v

    module _ {ws' cuts cuts' : List ℕ} {k : ℕ} {c : Charged} (ch : ChargedGroup ws ws' lc n v k cuts cuts' c) where
      abbrev t : ℕ
      t = c.tail.0

      abbrev h : ℕ
      h = c.head.0

      abbrev k' : ℕ
      k' = c.next.0

      v_32 : v < max_vertices
      v_32 = omega (arith, v_below, r.small)

      -- the arcs chosen now: v's is the one that was charged, the others are as they were
      chosen : Chosen n root (cost ws') (nth lc) (nth (set tails v t)) (nth (set heads v h))
      chosen =
          record {
            head_below = λ g gr. (arc g gr).head_below;
            head_in = λ g gr. (arc g gr).head_in;
            tail_below = λ g gr. (arc g gr).tail_below;
            tail_out = λ g gr. (arc g gr).tail_out;
            tight = λ g gr. (arc g gr).tight;
          }
        where
          at_v : ChosenArc ws' lc n v (nth (set tails v t) v) (nth (set heads v h) v)
          at_v =
              let zt = r.tails_size in
              let zh = r.heads_size in
              let b = v_32 in
              rw (get_or-set_same tails v t 0 (omega arith), get_or-set_same heads v h 0 (omega arith)) ch.arc

          arc : (g : ℕ) → Group n root (nth lc) g → ChosenArc ws' lc n g (nth (set tails v t) g) (nth (set heads v h) g)
          arc g gr =
              ⊎_elim (λ (e : eqb g v ≡ true). subst (λ (x : ℕ). ChosenArc ws' lc n x (nth (set tails v t) x) (nth (set heads v h) x)) (sym (eqb-true g v e)) at_v)
              (λ (e : eqb g v ≡ false).
              let ne = eqb-false g v e in
              let o = off g gr ne in
              let gf = o.0 in
              let hb = r.chosen.head_below g gf in
              let hi = r.chosen.head_in g gf in
              let tb = r.chosen.tail_below g gf in
              rw (get_or-set_other tails v g t 0 ne, get_or-set_other heads v g h 0 ne)
              (record {
                tail_below = tb;
                head_below = hb;
                tail_out =
                    λ x.
                    ⊎_elim (λ (i : on (nth ls (nth tails g)) ≡ true). ne (sym x ∙ label_on (nth tails g) tb i))
                    (λ (i : on (nth ls (nth tails g)) ≡ false). r.chosen.tail_out g gf (sym (label_off (nth tails g) tb i) ∙ x)) (test (on (nth ls (nth tails g))));
                head_in = label_off (nth heads g) hb (rw hi o.1) ∙ hi;
                tight = (chosen_lowered ch.lowered r.chosen).tight g gf;
              }))
              (test (eqb g v))

      pub contracted_plannable : Plannable ws' lc (set tails v t) (set heads v h) n root (left - 1)
      contracted_plannable =
          let f = fewer in
          let two = two_left in
          let en = r.enough in
          let zt = r.tails_size in
          let zh = r.heads_size in
          record {
            tails_size = simp length-set zt;
            heads_size = simp length-set zh;
            small = r.small;
            labels = coarse_labels;
            chosen = chosen;
            enough = omega arith;
            two = omega arith;
          }

      -- THE CONTRACTED LEVEL, solved
      pub none_below : {s : ℕ} → Unentered n root ws' s → Unentered n root ws s
      none_below u = unentered_before ch.lowered u

      module _ {ws'' cuts'' ps : List ℕ} {m : ℕ} (so : Solution ws' ws'' lc n root (left - 1) k' cuts' cuts'' ps m) where
        entered_at : {g : ℕ} → Reached n root (nth lc) (nth ps) g → g ≡ v → CycleEntered ls stamp ps n v
        entered_at (here e) x = absurd (root_not_v (sym e ∙ x))
        entered_at (step u l e p rest) x = (u, record { below = l; on = back_on u l (e ∙ x); has = p })

        pub entered : CycleEntered ls stamp ps n v
        entered = entered_at (so.tree.reached v v_below) label_v

        abbrev cs : List Cut
        cs = cuts_from (m - k) k cuts''

        joined : cuts_from (k' - k) k cuts' ++ cuts_from (m - k') k' cuts'' ≡ cs
        joined = cuts_joined k k' m cuts' cuts'' ch.least so.least so.frame

        lowered : Lowered n (cost ws) (cost ws'') cs
        lowered = subst (Lowered n (cost ws) (cost ws'')) joined (lowered_twice ch.lowered so.lowered)

        coarse_tree : Tree n root (cost ws'') (contracted (nth ls) on v) cs (nth ps)
        coarse_tree =
            tree_same n root (cost ws'') (nth lc) (contracted (nth ls) on v) (nth ps) (nth ps) root_below (λ u l. sym (ct.is u l)) (λ u l. refl) cs
            (subst (λ (x : List Cut). Tree n root (cost ws'') (nth lc) x (nth ps)) joined
            (ch.lifts root root_not_v (cost ws'') (cuts_from (m - k') k' cuts'') (nth ps) so.tree))

        module _ {e : ℕ} (en : CycleEntry ls stamp ps n v e) {ps' : List ℕ} (ex : Expanded ls stamp tails heads n v e ps ps') where
          expanded_tree : Tree n root (cost ws'') (nth ls) cs (nth ps')
          expanded_tree =
              tree_same n root (cost ws'') (nth ls) (nth ls) (expanded (nth ls) (nth tails) (nth heads) on (nth ls e) (nth ps)) (nth ps') root_below (λ u l. refl) ex.is cs
              (expand_tree n root (cost ws'') (nth ls) (nth tails) (nth heads) on v (cycle_at (chosen_lowered lowered r.chosen)) cs (nth ps) coarse_tree e en.below en.on en.has)

          pub expands : Solution ws ws'' ls n root left k cuts cuts'' ps' m
          expands =
              let kk = ch.least in
              let kk' = ch.most in
              let km = so.least in
              let mm = so.most in
              let lp = three in
              record {
                parents_size = ex.size;
                tree = expanded_tree;
                lowered = lowered;
                proper_cuts =
                    subst (Each (ProperCut n root)) joined
                    (each_append (cuts_from (k' - k) k cuts') (cuts_from (m - k') k' cuts'') (ch.proper_cuts root root_below root_not_v) so.proper_cuts);
                least = omega arith;
                most = omega arith;
                frame =
                    λ i why.
                    ⊎_elim (λ (d : i < 2 * k). so.frame i (inl (omega arith)) ∙ ch.frame i (inl d))
                    (λ (d : 2 * m ≤ i). so.frame i (inr d) ∙ ch.frame i (inr (omega arith))) why;
                root_none = ex.is root root_below ∙ rw cycle.root_off so.root_none;
              }
