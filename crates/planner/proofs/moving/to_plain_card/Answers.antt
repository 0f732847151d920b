-- `to_plain_card` meets its contract: each return by its law. Assumes nothing.
use mathlib.Core.Path.{refl}
use Rattle.std.proofs.lemmas.Result.{err_from_is_err_and}
use Rattle.instance.proofs.RefusalLaws.{not_0}
use Rattle.commands.proofs.ValidLaws.{valid_parts}
use Rattle.planner.proofs.MovingLaws.{history_refused, history_valid, records_refused, history_moved}
use borrow.Author.Rules.{rules}
use Rattle.planner.proofs.moving.to_plain_card.Goals as goal

pub returns-in_err-b : goal.returns-in_err-b
returns-in_err-b c =
    let p = err_from_is_err_and c.from_residual.result c.from_residual.ensures.1 in
    rw (p.1, p.2) (history_refused _ _ _ c.in_err-b.ensures (not_0 _))

pub returns-then-b-ne0 : goal.returns-then-b-ne0
returns-then-b-ne0 c = records_refused _ _ _ c.in_ok-b.ensures refl c.if-b-ne0.true

pub write_instance-requires : goal.write_instance-requires
write_instance-requires c =
    let v = valid_parts _ (history_valid _ c.args.out.now _ c.in_ok-b.ensures refl) in
    (v.n_low, v.n_high, v.root_below, search rules, search rules)

pub returns : goal.returns
returns c = history_moved _ _ _ c.in_ok-b.ensures refl c.if-b-ne0.false _ _ c.write_instance.ensures
