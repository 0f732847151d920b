-- `press_list` makes one press after another and stops at the first refused one: the laws of its loop are in LoopLaws.
-- Assumes nothing.
use mathlib.Core.Path.{◌≡◌, refl, sym, ◌∙◌, subst}
use lib.ListN.{length}
use Prim.Native.Nat.{ℕ}
use native.Mathlib.Omega.{arith}
use Rattle.board.specs.Contents.{contents_of}
use Rattle.instance.proofs.RefusalLaws.{answer_of_ok, answer_of_err}
use Rattle.command_list.specs.CommandList.{none_applied, commands_in}
use Rattle.command_list.proofs.CommandListLaws.{list_on_invalid}
use Rattle.command_list.proofs.LoopLaws.{Upto, upto_begin, upto_next, upto_stopped, upto_end}
use Rattle.command_list.proofs.press_list.Goals as goal

pub returns-then-not-is_valid : goal.returns-then-not-is_valid
unfolding none_applied
returns-then-not-is_valid c =
    let b = c.args.b.now in
    record {
      result = sym (list_on_invalid (commands_in c.args.list.now) (contents_of b) (sym c.is_valid.ensures ∙ c.if-not-is_valid.true));
      list_kept = refl;
    }

pub loop-applied-init : goal.loop-applied-init
loop-applied-init c = upto_begin _ _ (sym c.is_valid.ensures ∙ c.if-not-is_valid.false)

pub returns-then-is_err : goal.returns-then-is_err
returns-then-is_err c =
    let x = c.execute-result in
    record {
      result = upto_stopped _ _ _ _ _ c.loop-applied.invariant c.loop-applied-test.true _ x.ensures (answer_of_err x.result (sym c.is_err.ensures.value ∙ c.if-is_err.true));
      list_kept = refl;
    }

pub loop-applied-preserved : goal.loop-applied-preserved
loop-applied-preserved c =
    let x = c.execute-result in
    upto_next _ _ _ _ _ c.loop-applied.invariant c.loop-applied-test.true _ x.ensures (answer_of_ok x.result (sym c.is_err.ensures.value ∙ c.if-is_err.false))

pub returns : goal.returns
returns c =
    let l = c.loop-applied in
    let ps = c.args.list.now in
    let b = c.args.b.now in
    let e : l.applied ≡ length ps = omega (arith, c.loop-applied-test.false, l.auto.applied-end) in
    record {
      result =
          upto_end ps b _
          (subst (λ (i : ℕ). Upto ps b i (record { applied = i; answer = 0; board = l.b })) e l.invariant);
      list_kept = refl;
    }
