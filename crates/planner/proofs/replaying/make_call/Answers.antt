-- Each call by its law. Assumes nothing.
use Rattle.planner.proofs.CallKinds.{makes_command, makes_look, makes_write}
use Rattle.planner.proofs.replaying.make_call.Goals as goal

pub returns-in-Command : goal.returns-in-Command
returns-in-Command c =
    let x = c.execute in
    rw (c.in-Command.is, c.command_answer.ensures) (makes_command c.args.b.now _ _ _ x.ensures)

pub returns-in-Look : goal.returns-in-Look
returns-in-Look c = rw c.in-Look.is (makes_look c.args.b.now c.look_valid.result _ _ _ c.view_answer.ensures c.look_valid.ensures)

pub returns-in-Write : goal.returns-in-Write
returns-in-Write c = rw c.in-Write.is (makes_write c.args.b.now _ _ c.requires c.write_away.ensures)
