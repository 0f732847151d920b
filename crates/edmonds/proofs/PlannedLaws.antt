-- From the solved first level to the contract. Assumes nothing.
use mathlib.Core.Path.{◌≡◌, refl, sym, ◌∙◌, subst}
use mathlib.Core.List.{List, ◌++◌}
use mathlib.Core.Logic.{inr}
use Prim.Native.Nat.{ℕ, ◌+◌, ◌*◌, ◌-◌, ◌≤◌, ◌<◌}
use native.Mathlib.Omega.{arith}
use lib.ListN.{length, take}
use lib.Seq.{get_or-take, length-take-le}
use Rattle.base.proofs.ListLaws.{default}
use Rattle.base.proofs.PartLaws.{drop_same}
use Rattle.instance.specs.Limits.{max_vertices, no_parent, cells, cut_limit, max_cuts, cut_words, word_limit}
use Rattle.instance.specs.Instance.{Instance}
use Rattle.instance.specs.Arborescence.{parent}
use Rattle.instance.specs.Cuts.{Cut, cuts_from, cuts_in, values}
use Rattle.instance.specs.Matrix.{unmarked, MatrixOk}
use Rattle.instance.proofs.CutLaws.{cuts_length, cuts_begun}
use Rattle.instance.proofs.MatrixLaws.{matrix_total_most}
use Rattle.contraction.specs.Cells.{nth, cost, OwnLabels}
use Rattle.contraction.specs.Groups.{Lowered}
use Rattle.contraction.specs.Trees.{Each, Tree, ProperCut}
use Rattle.contraction.proofs.EachLaws.{each_append, tree_same}
use Rattle.contraction.proofs.Lowering.{lowered_twice}
use Rattle.contraction.proofs.ArcWeights.{matrix_weights}
use Rattle.contraction.proofs.Finish.{set_proper, arborescence, proves}
use Rattle.charging.specs.Charge.{Unentered}
use Rattle.charging.proofs.ChargeLaws.{unentered_before}
use Rattle.edmonds.specs.Level.{Solution}
use Rattle.edmonds.specs.Planned.{Minimum, PlannedMatrix, NonePlanned}
use Rattle.edmonds.proofs.FirstChargeLaws.{Begun, all_few}
use Rattle.edmonds.proofs.ReducedLaws.{is_reduced}

module _ (ws₀ : List ℕ) (n root : ℕ) (ok : MatrixOk n root ws₀) where
  abbrev s : Instance
  s = unmarked n root ws₀

  -- NONE
  pub none_planned : {set : ℕ} → Unentered n root ws₀ set → NonePlanned ws₀ n root set
  unfolding unmarked
  none_planned {set} c =
      record {
        set_good = set_proper s set c.proper;
        value_zero = refl;
        shut =
            λ t h r.
            let sh = matrix_weights n root ws₀ ok in
            c.shut t h (sh.tail_below t h r) (sh.head_below t h r) (sh.there t h r);
      }

  -- FOUND
  module _ {ws ls tails heads : List ℕ} {cuts₀ cuts : List ℕ} {k v : ℕ} (own : OwnLabels ls) (b : Begun ws₀ ws ls tails heads n root cuts₀ cuts k v) (end : n ≤ v) (le : v ≤ n) {left : ℕ} (bound : left ≡ n + (2 - n)) where
    -- a set that no arc of the lowered matrix enters
    pub none_left_planned : {set : ℕ} → Unentered n root ws set → NonePlanned ws₀ n root set
    none_left_planned u = none_planned (unentered_before b.lowered u)

    module _ {ws' cuts' ps : List ℕ} {count : ℕ} (so : Solution ws ws' ls n root left k cuts cuts' ps count) where
      abbrev cs : List Cut
      cs = cuts_from count 0 cuts'

      places : length ps ≡ max_vertices
      places = so.parents_size

      joined : cuts_from k 0 cuts ++ cuts_from (count - k) k cuts' ≡ cs
      joined = cuts_begun k count cuts cuts' so.least so.frame

      lowered : Lowered n (cost ws₀) (cost ws') cs
      lowered = subst (Lowered n (cost ws₀) (cost ws')) joined (lowered_twice b.lowered so.lowered)

      proper_cuts : Each (ProperCut n root) cs
      proper_cuts = subst (Each (ProperCut n root)) joined (each_append (cuts_from k 0 cuts) (cuts_from (count - k) k cuts') b.proper_cuts so.proper_cuts)

      same_parent : (q : ℕ) → q < n → parent (take n ps) q ≡ nth ps q
      same_parent q l = let small = ok.small in let z = places in get_or-take n ps q no_parent l ∙ default ps q no_parent 0 (omega arith)

      tree : Tree n root (cost ws') (λ q. q) cs (parent (take n ps))
      tree =
          let small = ok.small in
          tree_same n root (cost ws') (nth ls) (λ q. q) (nth ps) (parent (take n ps)) ok.root_below (λ q l. sym (own q (omega arith))) same_parent cs
          (subst (λ (x : List Cut). Tree n root (cost ws') (nth ls) x (nth ps)) joined
          (b.lifts (cost ws') (cuts_from (count - k) k cuts') (nth ps) so.tree))

      few : count ≤ cut_limit n
      few = all_few ok.small own ok.root_below b end le bound count so.most

      minimum : Minimum s (take n ps) cs
      unfolding unmarked
      minimum =
          let small = ok.small in
          let rb = ok.root_below in
          let z = places in
          let sh = matrix_weights n root ws₀ ok in
          let sized : length (take n ps) ≡ n = length-take-le n ps (omega arith) in
          let at_root : parent (take n ps) root ≡ no_parent = same_parent root rb ∙ so.root_none in
          let l = cuts_length count 0 cuts' in
          let f = few in
          record {
            arborescence = arborescence s (cost ws₀) (cost ws') (take n ps) cs sh lowered small rb sized at_root tree;
            proved = proves s (cost ws₀) (cost ws') (take n ps) cs sh lowered small rb sized at_root tree proper_cuts (omega arith);
          }

      -- the cuts' values can be added
      pub addable : (count ≤ max_cuts) × (values (cuts_in count cuts') < word_limit)
      unfolding cuts_in
      addable =
          let small = ok.small in
          let f = few in
          let e = minimum.proved.adds in
          let t = matrix_total_most n root ws₀ ok (take n ps) in
          (omega arith, omega arith)

      pub planned : length ws' ≡ cells → length cuts' ≡ cut_words → length cuts₀ ≡ cut_words → PlannedMatrix ws₀ ws' n root cuts₀ cuts' (record { parents = ps; total = values (cuts_in count cuts'); count = count })
      unfolding cuts_in
      planned size cuts_size size₀ =
          record {
            matrix_size = size;
            cuts_size = cuts_size;
            parents_size = places;
            few = few;
            minimum = minimum;
            is_total = minimum.proved.adds;
            reduced = is_reduced ws₀ n root ok ws' cs size lowered proper_cuts;
            rest = drop_same (2 * count) cuts' cuts₀ (cuts_size ∙ sym size₀) (λ i l. so.frame i (inr l) ∙ b.frame i (omega (arith, so.least)));
          }
