-- `write_history` meets its contract: the bits are put from the buffer's beginning, and the last byte is filled.
-- Assumes nothing.
use Prim.Native.Nat.{◌≤◌, ◌<◌}
use native.Mathlib.Omega.{arith}
use lib.Dec.{ltb}
use lib.ListN.{length}
use borrow.Author.Tests.{lt-ltb}
use Rattle.base.proofs.AllOfLaws.{all_of_intro}
use Rattle.board.specs.ModelOf.{model_of}
use Rattle.history_format.specs.HistoryCard.{history_bytes}
use Rattle.history_card.proofs.WriteLaws.{history_most, whole_bytes, short_refused, all_written}
use Rattle.history_card.proofs.write.write_history.Goals as goal

pub overflow_add-needed : goal.overflow_add-needed
overflow_add-needed c =
    record { fits = omega (arith, c.history_width.ensures, history_most (model_of c.args.b) c.requires) }

pub returns-then-out-needed : goal.returns-then-out-needed
returns-then-out-needed c =
    let a = c.args in
    let m = model_of a.b in
    let l : length a.out.now < history_bytes m = rw (whole_bytes m, ← c.history_width.ensures) c.if-out-needed.true in
    short_refused m a.out.now l

pub returns : goal.returns
returns c =
    let a = c.args in
    let m = model_of a.b in
    let l : history_bytes m ≤ length a.out.now = rw (whole_bytes m, ← c.history_width.ensures) c.if-out-needed.false in
    rw (c.history_width.ensures, ← whole_bytes m)
    (all_written m a.out.now l _ _ (rw c.new.ensures at c.put_history-all.ensures) _ _ c.fill_byte.ensures
    (all_of_intro (λ x. ltb x 256) 0 _ (λ i. lt-ltb _ 256 (c.type_inv.out i).fits)))
