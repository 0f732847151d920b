-- `put_history` meets its contract: marker, the bits of a card, the count, the records, each with the room that
-- `WriteLaws` counts. Assumes nothing.
use native.Mathlib.Omega.{arith}
use mathlib.Core.Path.{◌≡◌}
use mathlib.Core.Bool.{true}
use Prim.Native.Nat.{◌≤◌}
use lib.ListN.{length}
use Rattle.instance.specs.Limits.{max_records}
use Rattle.commands.specs.Valid.{valid}
use Rattle.commands.proofs.ValidLaws.{valid_parts}
use Rattle.board.specs.ModelOf.{model_of}
use Rattle.board.specs.declared.Board.{Board}
use Rattle.board.proofs.ModelOfLaws.{known, length_history}
use Rattle.history_card.proofs.PutLaws.{history_sliced}
use Rattle.history_card.proofs.WriteLaws.{marker_room, instance_room, count_room, records_room, all_put}
use Rattle.history_card.proofs.write.put_history.Goals as goal

-- the records are those of the history
long : (b : Board) → valid (model_of b) ≡ true → length b.records ≡ max_records → b.count ≤ length b.records
long b ok l = omega (arith, (valid_parts _ ok).few, length_history b.count b.records)

pub put_bits-after_marker-requires : goal.put_bits-after_marker-requires
put_bits-after_marker-requires c =
    let a = c.args in
    (marker_room (model_of a.b) c.requires.0 a.out.now a.start c.requires.1, omega arith)

pub overflow_cast-b : goal.overflow_cast-b
overflow_cast-b c =
    let b = c.args.b in
    record { fits = omega (arith, (valid_parts (model_of b) c.requires.0).few, length_history b.count b.records) }

pub put_bits-after_count-requires : goal.put_bits-after_count-requires
put_bits-after_count-requires c =
    let a = c.args in (
      count_room (model_of a.b) c.requires.0 a.out.now a.start c.requires.1 _ _ c.put_bits-after_marker.ensures _ _ c.put_instance-after_cells.ensures,
      omega arith,
    )

pub shared_ref_as_front-put_records : goal.shared_ref_as_front-put_records
shared_ref_as_front-put_records c = omega (arith, (valid_parts _ c.requires.0).few, length_history c.args.b.count c.args.b.records)

pub put_records-requires : goal.put_records-requires
put_records-requires c =
    let a = c.args in
    let b = a.b in
    let h = history_sliced b.records b.count (long b c.requires.0 (known b _ c.well_formed.0).records_long) in
    rw h (records_room (model_of b) c.requires.0 a.out.now a.start c.requires.1 _ _ c.put_bits-after_marker.ensures _ _ c.put_instance-after_cells.ensures
    b.count (length_history b.count b.records) _ _ c.put_bits-after_count.ensures)

pub returns : goal.returns
returns c =
    let a = c.args in
    let b = a.b in
    let h = history_sliced b.records b.count (long b c.requires.0 (known b _ c.well_formed.0).records_long) in
    all_put (model_of b) c.requires.0 a.out.now a.start c.requires.1 _ _ c.put_bits-after_marker.ensures _ _ c.put_instance-after_cells.ensures
    b.count (length_history b.count b.records) _ _ c.put_bits-after_count.ensures _ _ (rw h at c.put_records.ensures)

pub put_instance-after_cells-requires : goal.put_instance-after_cells-requires
put_instance-after_cells-requires c =
    let a = c.args in
    let v = valid_parts (model_of a.b) c.requires.0 in
    let k = known a.b _ c.well_formed.0 in
    record {
      n_le_max_vertices = (v.n_high, v.root_below, k.weights_long, k.marks_long);
      ready = instance_room (model_of a.b) c.requires.0 a.out.now a.start c.requires.1 _ _ c.put_bits-after_marker.ensures;
    }
