-- A charged group, in the three ways that charging ends: a value charged, nothing to charge, no arc at all. Assumes
-- nothing.
use mathlib.Core.Path.{◌≡◌, refl, ◌∙◌}
use mathlib.Core.Bool.{true, false}
use mathlib.Core.List.{List, [], ◌∷◌}
use mathlib.Core.Logic.{◌≢◌, ◌⊎◌, inl, inr, ⊎_elim}
use Prim.Native.Nat.{ℕ, ◌+◌, ◌*◌, ◌-◌, ◌≤◌, ◌<◌}
use native.Mathlib.Omega.{arith}
use Rattle.std.specs.Prelude.{Some, None}
use lib.Dec.{ltb}
use lib.ListN.{length, set}
use lib.Seq.{get_or-set_other}
use borrow.Author.Tests.{eq-eqb, ne_eqb, ltb-true, ltb-false}
use Rattle.base.proofs.BoolLaws.{test}
use Rattle.instance.specs.Limits.{max_vertices, no_arc, max_cuts, cut_words}
use Rattle.instance.specs.Cuts.{Cut, cuts_from}
use Rattle.contraction.specs.Groups.{Lowered}
use Rattle.contraction.specs.Trees.{none_left, more, Proper}
use Rattle.contraction.proofs.Lowering.{lowered_none, lowered_there}
use Rattle.contraction.proofs.Charging.{entering, enters_no, lowered_charge, charge_tree}
use Rattle.instance.proofs.SetBits.{inside_some}
use Rattle.contraction.specs.Cells.{nth, cost}
use Rattle.instance.specs.declared.CutIndex.{CutIndex}
use Rattle.charging.specs.declared.entering.Entering.{Entering}
use Rattle.charging.specs.Entering.{EnteringArc, CheapestArc}
use Rattle.charging.specs.Lower.{Affords, LoweredCells, lowered_weight}
use Rattle.charging.specs.Members.{Members}
use Rattle.charging.specs.Charge.{Unentered, ChargedGroup, UnenteredGroup}
use Rattle.charging.proofs.LowerLaws.{low_in, low_out}
use Rattle.instance.proofs.CutLaws.{no_cuts, one_cut}

-- a set that no arc enters was one before the arcs were lowered
pub unentered_before : {n root : ℕ} {ws ws' : List ℕ} {cs : List Cut} {s : ℕ} → Lowered n (cost ws) (cost ws') cs → Unentered n root ws' s → Unentered n root ws s
unentered_before lo c = record { proper = c.proper; shut = λ t h l m th. c.shut t h l m (lowered_there lo t h l m th) }

-- the vertices of a group other than the root's
group_proper : {ls : List ℕ} {n g s : ℕ} → Members ls n g s → (root : ℕ) → root < n → nth ls root ≢ g → (v : ℕ) → v < n → nth ls v ≡ g → Proper n root s
group_proper {ls} {n} {g} {s} ms root rl ne v l e =
    record {
      some = inside_some s v (ms.is v l ∙ eq-eqb (nth ls v) g e);
      below = ms.below;
      no_root = ms.is root rl ∙ ne_eqb (nth ls root) g ne;
    }

module _ (ws ls : List ℕ) (n g : ℕ) {arc : Entering} (b : CheapestArc ws ls n g n (Some arc)) where
  abbrev t : ℕ
  t = arc.tail.0

  abbrev h : ℕ
  h = arc.head.0

  abbrev a : ℕ
  a = arc.weight

  pub affords : Affords ws ls n g a
  affords v m e u l ne = b.least u v l m e ne

  enters_at : EnteringArc ws ls n g arc
  enters_at = b.arc

  module _ (ws' : List ℕ) (lo : LoweredCells ws ws' ls n g a n) (small : n ≤ max_vertices) where
    at_cell : (u v : ℕ) → u < n → v < n → cost ws' u v ≡ lowered_weight ls g a u v (cost ws u v)
    at_cell u v l m = lo.done u v l m

    same_cell : (u v : ℕ) → u < n → v < n → (nth ls v ≢ g) ⊎ ((nth ls u ≡ g) ⊎ (no_arc ≤ cost ws u v)) → cost ws' u v ≡ cost ws u v
    same_cell u v l m why = at_cell u v l m ∙ low_out ls g a u v why

    lowered_cell : (u v : ℕ) → u < n → v < n → cost ws u v < no_arc → nth ls v ≡ g → nth ls u ≢ g → cost ws' u v + a ≡ cost ws u v
    lowered_cell u v l m th e ne =
        let x = at_cell u v l m ∙ low_in ls g a u v e ne th in
        let y = affords v m e u l ne in
        omega arith

    beyond_or_none : (u v : ℕ) → v < max_vertices → (n ≤ u) ⊎ ((n ≤ v) ⊎ (no_arc ≤ cost ws u v)) → cost ws' u v ≡ cost ws u v
    beyond_or_none u v l (inl d) = lo.rest u v l (inl d)
    beyond_or_none u v l (inr (inl d)) = lo.rest u v l (inr d)
    beyond_or_none u v l (inr (inr d)) =
        ⊎_elim
        (λ (p : ltb u n ≡ true).
        ⊎_elim (λ (q : ltb v n ≡ true). same_cell u v (ltb-true u n p) (ltb-true v n q) (inr (inr d)))
        (λ (q : ltb v n ≡ false). lo.rest u v l (inr (ltb-false v n q))) (test (ltb v n)))
        (λ (p : ltb u n ≡ false). lo.rest u v l (inl (ltb-false u n p))) (test (ltb u n))

    module _ (cuts : List ℕ) (k s : ℕ) (room : k < max_cuts) (cuts_size : length cuts ≡ cut_words) (ms : Members ls n g s) (pos : 1 ≤ a) where
      abbrev cut : Cut
      cut = record { set = s; value = a }

      abbrev cuts' : List ℕ
      cuts' = set (set cuts (2 * k) s) (2 * k + 1) a

      is_one : cuts_from ((k + 1) - k) k cuts' ≡ cut ∷ []
      is_one = one_cut cuts k s a (omega arith)

      pub charged : ChargedGroup ws ws' ls n g k cuts cuts' (record { tail = arc.tail; head = arc.head; next = record { 0 = k + 1 } })
      charged =
          record {
            least = omega arith;
            most = omega arith;
            frame =
                λ i why.
                let off : (i ≢ 2 * k) × (i ≢ 2 * k + 1) = ⊎_elim (λ (d : i < 2 * k). (λ x. omega arith, λ x. omega arith)) (λ (d : 2 * (k + 1) ≤ i). (λ x. omega arith, λ x. omega arith)) why in
                get_or-set_other (set cuts (2 * k) s) (2 * k + 1) i a 0 off.1 ∙ get_or-set_other cuts (2 * k) i s 0 off.0;
            lowered =
                rw is_one
                (lowered_charge n (nth ls) g cut ms.is (cost ws) (cost ws') lowered_cell
                (λ u v l m why. same_cell u v l m (⊎_elim (λ d. inl d) (λ d. inr (inl d)) why)) beyond_or_none);
            arc =
                record {
                  tail_below = enters_at.tail_below;
                  head_below = enters_at.head_below;
                  tail_out = enters_at.tail_out;
                  head_in = enters_at.head_in;
                  tight =
                      let x = enters_at.is in
                      let there = enters_at.there in
                      let y = lowered_cell t h enters_at.tail_below enters_at.head_below (omega arith) enters_at.head_in enters_at.tail_out in
                      omega arith;
                };
            lifts = λ root off w cs parent tr. rw is_one (charge_tree n (nth ls) g cut ms.is root w cs parent tr off h enters_at.head_below enters_at.head_in);
            proper_cuts = λ root rl ne. rw is_one (more (record { proper = group_proper ms root rl ne h enters_at.head_below enters_at.head_in; value = pos }) none_left);
          }

  -- the cheapest arc has weight 0 already
  pub uncharged : (cuts : List ℕ) (c : CutIndex) → a ≡ 0 → ChargedGroup ws ws ls n g c.0 cuts cuts (record { tail = arc.tail; head = arc.head; next = c })
  uncharged cuts c z =
      let e = no_cuts c.0 cuts in
      record {
        least = omega arith;
        most = omega arith;
        frame = λ i why. refl;
        lowered = rw e (lowered_none n (cost ws));
        arc =
            record {
              tail_below = enters_at.tail_below;
              head_below = enters_at.head_below;
              tail_out = enters_at.tail_out;
              head_in = enters_at.head_in;
              tight = enters_at.is ∙ z;
            };
        lifts = λ root off w cs parent tr. rw e tr;
        proper_cuts = λ root rl ne. rw e none_left;
      }

-- no arc at all
pub no_arcs : {ws ls : List ℕ} {n g s : ℕ} → CheapestArc ws ls n g n None → Members ls n g s → UnenteredGroup ws ls n g s
no_arcs {ws} {ls} {n} {g} {s} b ms root rl ne v l ve =
    record {
      proper = group_proper ms root rl ne v l ve;
      shut =
          λ p q x y th.
          ⊎_elim (λ (d : (nth ls q ≡ g) × (nth ls p ≢ g)). absurd (omega (arith, b.least p q x y d.0 d.1)))
          (λ (d : (nth ls q ≢ g) ⊎ (nth ls p ≡ g)). enters_no n (nth ls) g (record { set = s; value = 0 }) ms.is p q x y d) (entering (nth ls) g p q);
    }
