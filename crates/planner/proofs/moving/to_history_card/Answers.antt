-- `to_history_card` meets its contract: each return by its law. Assumes nothing.
use mathlib.Core.Path.{refl}
use Rattle.std.proofs.lemmas.Result.{err_from_is_err_and}
use Rattle.instance.proofs.RefusalLaws.{not_0}
use Rattle.planner.proofs.MovingLaws.{plain_refused, plain_valid, plain_moved}
use Rattle.planner.proofs.moving.to_history_card.Goals as goal

pub returns-in_err-b : goal.returns-in_err-b
returns-in_err-b c =
    let p = err_from_is_err_and c.from_residual.result c.from_residual.ensures.1 in
    rw (p.1, p.2) (plain_refused _ _ _ c.in_err-b.ensures (not_0 _))

pub write_history-requires : goal.write_history-requires
write_history-requires c = plain_valid _ c.args.out.now _ c.in_ok-b.ensures refl

pub returns : goal.returns
returns c = plain_moved _ _ _ c.in_ok-b.ensures refl _ _ c.write_history.ensures
