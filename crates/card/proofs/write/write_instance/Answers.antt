-- `write_instance` meets its contract: the bits are put from the buffer's beginning, and the last byte is filled.
-- Assumes nothing.
use Prim.Native.Nat.{◌≤◌}
use lib.Dec.{ltb}
use lib.ListN.{length}
use borrow.Author.Tests.{lt-ltb}
use Rattle.base.proofs.AllOfLaws.{all_of_intro}
use Rattle.bits.proofs.WriterLaws.{filling_room}
use Rattle.instance.specs.Instance.{instance_with}
use Rattle.card_format.specs.Card.{bytes_needed, instance_bits}
use Rattle.card.proofs.WriteLaws.{short_refused, bits_room, whole_bytes, all_written}
use Rattle.card.proofs.write.write_instance.Goals as goal

pub returns-then-out-needed : goal.returns-then-out-needed
returns-then-out-needed c =
    let a = c.args in
    short_refused _ a.out.now (rw (← c.needed_length-needed.ensures) c.if-out-needed.true)

pub fill_byte-requires : goal.fill_byte-requires
fill_byte-requires c =
    let a = c.args in
    let l : bytes_needed a.n ≤ length a.out.now = rw (← c.needed_length-needed.ensures) c.if-out-needed.false in
    let i = instance_with a.n a.root a.budget a.weights.now a.marks.now in
    filling_room a.out.now _ _ (instance_bits i) (bytes_needed a.n) (rw c.new.ensures at c.put_instance-all.ensures)
    (whole_bytes i c.requires.1 c.requires.2 a.out.now l) l

pub returns : goal.returns
returns c =
    let a = c.args in
    let l : bytes_needed a.n ≤ length a.out.now = rw (← c.needed_length-needed.ensures) c.if-out-needed.false in
    rw c.needed_length-needed.ensures
    (all_written (instance_with a.n a.root a.budget a.weights.now a.marks.now) c.requires.1 c.requires.2 a.out.now l
    _ _ (rw c.new.ensures at c.put_instance-all.ensures) _ _ c.fill_byte.ensures
    (all_of_intro (λ x. ltb x 256) 0 _ (λ i. lt-ltb _ 256 (c.slice_known-3-1.given i).fits)))

pub put_instance-all-requires-clause-ready : goal.put_instance-all-requires-clause-ready
put_instance-all-requires-clause-ready c =
    let a = c.args in
    let l : bytes_needed a.n ≤ length a.out.now = rw (← c.needed_length-needed.ensures) c.if-out-needed.false in
    rw c.new.ensures (bits_room (instance_with a.n a.root a.budget a.weights.now a.marks.now) c.requires.1 c.requires.2 a.out.now l)
