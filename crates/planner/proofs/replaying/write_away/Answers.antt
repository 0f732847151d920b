-- A buffer of the longest card's length has room. Assumes nothing.
use mathlib.Core.Path.{◌∙◌}
use native.Mathlib.Omega.{arith}
use Rattle.std.specs.Prelude.{Err}
use Rattle.std.proofs.Common.{rules}
use Rattle.card.specs.Write.{written_of}
use Rattle.commands.proofs.ValidLaws.{valid_parts}
use Rattle.board.specs.ModelOf.{instance_of}
use Rattle.planner.proofs.WritingLaws.{written_answer}
use Rattle.planner.proofs.replaying.write_away.Goals as goal

pub write_instance-requires : goal.write_instance-requires
write_instance-requires c =
    let v = valid_parts _ c.requires in
    (v.n_low, v.n_high, v.root_below, search rules, search rules)

pub returns-in-Err : goal.returns-in-Err
returns-in-Err c =
    c.from.ensures
    ∙ written_answer (instance_of c.args.b.now) (written_of (Err c.in-Err.refusal)) _ (valid_parts _ c.requires).n_high (omega arith) c.in-Err.ensures.result
