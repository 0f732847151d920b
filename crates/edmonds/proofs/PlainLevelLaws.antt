-- A level of planning with no cycle: the chosen arcs are an arborescence. Assumes nothing.
use mathlib.Core.Path.{refl, ◌∙◌}
use mathlib.Core.List.{List, []}
use Prim.Native.Nat.{ℕ, ◌<◌}
use native.Mathlib.Omega.{arith}
use borrow.Author.Tests.{eq-eqb}
use Rattle.contraction.specs.Cells.{nth, cost}
use Rattle.contraction.specs.Groups.{own_arcs}
use Rattle.contraction.specs.Trees.{none_left}
use Rattle.contraction.proofs.EachLaws.{tree_same}
use Rattle.contraction.proofs.Lowering.{lowered_none}
use Rattle.contraction.proofs.NoCycle.{own_tree}
use Rattle.cycles.specs.Cycle.{Searchable, NoCycle}
use Rattle.expansion.specs.Expansion.{OwnArcs}
use Rattle.edmonds.specs.Level.{Plannable, Solution}
use Rattle.instance.proofs.CutLaws.{no_cuts}

module _ {ws ls tails heads : List ℕ} {n root left : ℕ} (r : Plannable ws ls tails heads n root left) where
  pub searchable : Searchable ls tails n root
  searchable = record { small = r.small; labels = r.labels; arc = λ g gr. r.chosen.tail_below g gr }

  root_below : root < n
  root_below = r.labels.root_below

  pub solved_plain : {cuts ps : List ℕ} {k : ℕ} → NoCycle ls tails n root → OwnArcs ls tails heads n root ps → Solution ws ws ls n root left k cuts cuts ps k
  solved_plain {cuts} {ps} {k} nc own =
      let e = no_cuts k cuts in
      let sm = r.small in
      let t = own_tree n root (cost ws) (nth ls) (nth tails) (nth heads) r.labels r.chosen (omega arith) nc in
      record {
        parents_size = own.size;
        tree = rw e (tree_same n root (cost ws) (nth ls) (nth ls) (own_arcs root (nth ls) (nth tails) (nth heads)) (nth ps) root_below (λ v l. refl) own.is [] t);
        lowered = rw e (lowered_none n (cost ws));
        proper_cuts = rw e none_left;
        least = omega arith;
        most = omega (arith, r.two);
        frame = λ i why. refl;
        root_none = own.is root root_below ∙ rw (eq-eqb (nth ls root) (nth ls root) refl);
      }
