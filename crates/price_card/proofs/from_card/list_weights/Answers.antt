-- `list_weights` meets its contract: each return by its law. Assumes nothing.
use mathlib.Core.Path.{refl}
use Rattle.instance.proofs.RefusalLaws.{not_0}
use Rattle.price_card.proofs.FromCardLaws.{weights_refused, write_refused, write_done}
use Rattle.price_card.proofs.from_card.list_weights.Goals as goal

pub returns-then-answer-ne0 : goal.returns-then-answer-ne0
returns-then-answer-ne0 c = rw c.not_listed.ensures (weights_refused c.args.taken _ c.if-answer-ne0.true)

pub returns-in-Ok : goal.returns-in-Ok
returns-in-Ok c =
    write_done c.args.taken _ c.if-answer-ne0.false _ _ c.in-Ok.ensures refl

pub returns-in-Err : goal.returns-in-Err
returns-in-Err c =
    rw (c.not_listed-in-Err.ensures, c.from.ensures) (write_refused c.args.taken _ c.if-answer-ne0.false _ _ c.in-Err.ensures (not_0 _))
