-- A tree is stored behind the others, or there is no room and the buffer is as it was. Assumes nothing.
use mathlib.Core.Path.{sym, ap, ◌∙◌}
use mathlib.Core.List.{List}
use Prim.Native.Nat.{ℕ, ◌+◌, ◌-◌, ◌*◌}
use native.Mathlib.Nat.{mul-le-mul_left}
use native.Mathlib.Omega.{arith}
use lib.ListN.{take}
use lib.Seq.{length-take-le, paste}
use Rattle.std.proofs.lemmas.Slice.{put_mid-paste}
use Rattle.enumeration.specs.declared.Ended.{Ended}
use Rattle.backtracking.specs.Listing.{place}
use Rattle.backtracking.proofs.StepLaws.{complete_is, tree_stored, tree_without_room}
use Rattle.backtracking.proofs.store.store_tree.Goals as goal

pub overflow_mul-start : goal.overflow_mul-start
overflow_mul-start c = omega (arith, mul-le-mul_left c.args.progress.trees c.requires.0)

pub overflow_add-end : goal.overflow_add-end
overflow_add-end c = omega (arith, mul-le-mul_left c.args.progress.trees c.requires.0)

pub returns-then-out-end : goal.returns-then-out-end
returns-then-out-end c =
    let a = c.args in
    let p = c.requires in
    record {
      scanned = sym (tree_without_room a.n a.progress.left a.progress.trees a.progress.ended a.out.now p.1 (take a.n a.parents.now) c.if-out-end.true);
      counted = omega arith;
    }

pub returns : goal.returns
returns c =
    let a = c.args in
    let p = c.requires in
    let size = length-take-le a.n a.parents.now (omega arith) in
    record {
      scanned =
          ap (λ (o : List ℕ). place a.progress.left (a.progress.trees + 1) a.progress.ended o)
          (put_mid-paste (a.progress.trees * a.n) (a.progress.trees * a.n + a.n - a.progress.trees * a.n) a.out.now c.copy_from_slice.new.self (take a.n a.parents.now) a.n
          c.copy_from_slice.ensures.after (omega arith) (sym size))
          ∙ ap (λ (e : Ended). place a.progress.left (a.progress.trees + 1) e (paste a.out.now (a.progress.trees * a.n) (take a.n a.parents.now) a.n))
          (complete_is a.progress.ended p.1)
          ∙ sym (tree_stored a.n a.progress.left a.progress.trees a.progress.ended a.out.now p.1 (take a.n a.parents.now) c.if-out-end.false);
      counted = omega arith;
    }
