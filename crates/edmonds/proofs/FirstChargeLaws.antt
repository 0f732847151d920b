-- The first charges, of single vertices, one after the other. Assumes nothing.
use mathlib.Core.Path.{◌≡◌, refl, sym, ap, ◌∙◌, subst}
use mathlib.Core.List.{List, ◌++◌, append_assoc}
use mathlib.Core.Logic.{◌≢◌, ◌⊎◌, inl, inr, ⊎_elim}
use Prim.Native.Nat.{ℕ, ◌+◌, ◌*◌, ◌-◌, ◌≤◌, ◌<◌}
use native.Mathlib.Omega.{arith}
use native.Mathlib.Nat.{eq-or-lt_of_le}
use lib.Dec.{eqb}
use lib.ListN.{length, set, length-set}
use lib.Seq.{get_or-set_same, get_or-set_other}
use Rattle.instance.specs.Limits.{max_vertices, max_cuts}
use Rattle.instance.specs.Cuts.{Cut, cuts_from}
use Rattle.contraction.specs.Cells.{nth, cost, OwnLabels}
use Rattle.contraction.specs.Groups.{Group, Lowered}
use Rattle.contraction.specs.Trees.{Each, none_left, Tree, ProperCut}
use Rattle.base.proofs.CountingLaws.{count_le}
use Rattle.contraction.proofs.EachLaws.{each_append}
use Rattle.contraction.proofs.Lowering.{lowered_none, lowered_twice}
use Rattle.charging.specs.declared.charge.Charged.{Charged}
use Rattle.charging.specs.Charge.{ChosenArc, Unentered, ChargedGroup, UnenteredGroup}
use Rattle.edmonds.specs.Level.{Plannable}
use Rattle.instance.proofs.CutLaws.{cuts_begun}
use Rattle.charging.proofs.ChargeLaws.{unentered_before}

-- every vertex below v but the root is charged; ws₀ and cuts₀ are matrix and buffer at the start
pub record Begun (ws₀ ws ls tails heads : List ℕ) (n root : ℕ) (cuts₀ cuts : List ℕ) (k v : ℕ) : Type 0 where
  pub tails_size : length tails ≡ max_vertices
  pub heads_size : length heads ≡ max_vertices
  pub few : k ≤ v
  pub fewer : root < v → k + 1 ≤ v
  pub arcs : (g : ℕ) → g < v → g ≢ root → ChosenArc ws ls n g (nth tails g) (nth heads g)
  pub lowered : Lowered n (cost ws₀) (cost ws) (cuts_from k 0 cuts)
  pub lifts : (w : ℕ → ℕ → ℕ) (cs : List Cut) (parent : ℕ → ℕ) → Tree n root w (nth ls) cs parent → Tree n root w (nth ls) (cuts_from k 0 cuts ++ cs) parent
  pub proper_cuts : Each (ProperCut n root) (cuts_from k 0 cuts)
  pub frame : (i : ℕ) → 2 * k ≤ i → nth cuts i ≡ nth cuts₀ i

pub none_charged : {ws ls tails heads : List ℕ} {n root : ℕ} {cuts : List ℕ} → length tails ≡ max_vertices → length heads ≡ max_vertices → Begun ws ws ls tails heads n root cuts cuts 0 0
unfolding cuts_from
none_charged {ws} {n = n} c d =
    record {
      tails_size = c;
      heads_size = d;
      few = omega arith;
      fewer = λ l. absurd (omega arith);
      arcs = λ g l. absurd (omega arith);
      lowered = lowered_none n (cost ws);
      lifts = λ w cs parent t. t;
      proper_cuts = none_left;
      frame = λ i l. refl;
    }

module _ {ws₀ ws ls tails heads : List ℕ} {n root : ℕ} {cuts₀ cuts : List ℕ} {k v : ℕ} (small : n ≤ max_vertices) (own : OwnLabels ls) (rb : root < n)
    (b : Begun ws₀ ws ls tails heads n root cuts₀ cuts k v) where
  pub pass_root : v ≡ root → Begun ws₀ ws ls tails heads n root cuts₀ cuts k (v + 1)
  pass_root e =
      record {
        tails_size = b.tails_size;
        heads_size = b.heads_size;
        few = omega (arith, b.few);
        fewer = λ l. omega (arith, b.few);
        arcs = λ g l ne. ⊎_elim (λ (d : g ≡ v). absurd (ne (d ∙ e))) (λ (d : g < v). b.arcs g d ne) (eq-or-lt_of_le {n = g} {m = v} (omega arith));
        lowered = b.lowered;
        lifts = b.lifts;
        proper_cuts = b.proper_cuts;
        frame = b.frame;
      }

  module _ (vn : v < n) (vr : v ≢ root) where
    root_off : nth ls root ≢ v
    root_off e = vr (sym e ∙ own root (omega arith))

    pub none_enters : {set : ℕ} → UnenteredGroup ws ls n v set → Unentered n root ws₀ set
    none_enters shut = unentered_before b.lowered (shut root rb root_off v vn (own v (omega arith)))

    module _ {ws' cuts' : List ℕ} {c : Charged} (ch : ChargedGroup ws ws' ls n v k cuts cuts' c) where
      abbrev t : ℕ
      t = c.tail.0

      abbrev h : ℕ
      h = c.head.0

      abbrev next : ℕ
      next = c.next.0

      pub one_charged : Begun ws₀ ws' ls (set tails v t) (set heads v h) n root cuts₀ cuts' next (v + 1)
      one_charged =
          let zt = b.tails_size in
          let zh = b.heads_size in
          let k₀ = ch.least in
          let k₁ = ch.most in
          let joined = cuts_begun k next cuts cuts' ch.least ch.frame in
          record {
            tails_size = simp length-set zt;
            heads_size = simp length-set zh;
            few = omega (arith, b.few);
            fewer = λ l. omega (arith, b.fewer (omega arith));
            arcs = λ g l ne. arcs_now g ne (eq-or-lt_of_le {n = g} {m = v} (omega arith));
            lowered = subst (Lowered n (cost ws₀) (cost ws')) joined (lowered_twice b.lowered ch.lowered);
            lifts =
                λ w cs parent tr.
                subst (λ (x : List Cut). Tree n root w (nth ls) x parent)
                (sym (append_assoc (cuts_from k 0 cuts) (cuts_from (next - k) k cuts') cs) ∙ ap (λ (x : List Cut). x ++ cs) joined)
                (b.lifts w (cuts_from (next - k) k cuts' ++ cs) parent (ch.lifts root root_off w cs parent tr));
            proper_cuts = subst (Each (ProperCut n root)) joined (each_append (cuts_from k 0 cuts) (cuts_from (next - k) k cuts') b.proper_cuts (ch.proper_cuts root rb root_off));
            frame = λ i l. ch.frame i (inr l) ∙ b.frame i (omega arith);
          }
        where
          arcs_now : (g : ℕ) → g ≢ root → (g ≡ v) ⊎ (g < v) → ChosenArc ws' ls n g (nth (set tails v t) g) (nth (set heads v h) g)
          arcs_now g ne (inl d) =
              let zt = b.tails_size in
              let zh = b.heads_size in
              rw d (rw (get_or-set_same tails v t 0 (omega arith), get_or-set_same heads v h 0 (omega arith)) ch.arc)
          arcs_now g ne (inr d) =
              let a = b.arcs g d ne in
              let z = a.tight in
              let x = ch.lowered.paid (nth tails g) (nth heads g) a.tail_below a.head_below (omega arith) in
              rw (get_or-set_other tails v g t 0 (omega arith), get_or-set_other heads v g h 0 (omega arith))
              (record { tail_below = a.tail_below; head_below = a.head_below; tail_out = a.tail_out; head_in = a.head_in; tight = omega arith })

  -- EVERY VERTEX IS CHARGED
  module _ (end : n ≤ v) (le : v ≤ n) {left : ℕ} (bound : left ≡ n + (2 - n)) where
    own_below : (q : ℕ) → q < n → nth ls q ≡ q
    own_below q l = own q (omega arith)

    group_arc : (g : ℕ) → Group n root (nth ls) g → ChosenArc ws ls n g (nth tails g) (nth heads g)
    group_arc g gr = let a = gr.0 in b.arcs g (omega arith) (λ e. gr.2 (e ∙ sym (own_below root rb)))

    pub begun_plannable : Plannable ws ls tails heads n root left
    begun_plannable =
        let c = count_le n (λ q. eqb (nth ls q) q) in
        record {
          tails_size = b.tails_size;
          heads_size = b.heads_size;
          small = small;
          labels = record { below = λ q l. rw (own_below q l) l; self = λ q l. rw (own_below q l) (own_below q l); root_below = rb };
          chosen =
              record {
                head_below = λ g gr. (group_arc g gr).head_below;
                head_in = λ g gr. (group_arc g gr).head_in;
                tail_below = λ g gr. (group_arc g gr).tail_below;
                tail_out = λ g gr. (group_arc g gr).tail_out;
                tight = λ g gr. (group_arc g gr).tight;
              };
          enough = omega arith;
          two = omega arith;
        }

    pub room : k + left ≤ max_cuts + 2
    room = let f = b.fewer (omega arith) in omega arith

    -- so many cuts at most, in all
    pub all_few : (count : ℕ) → count + 2 ≤ k + left → count ≤ 2 * n - 3
    all_few count most = let f = b.fewer (omega arith) in omega arith
