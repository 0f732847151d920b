-- `history_width` meets its contract: the widths of the parts. Assumes nothing.
use native.Mathlib.Omega.{arith}
use mathlib.Core.Path.{◌≡◌}
use mathlib.Core.Bool.{true}
use Prim.Native.Nat.{◌≤◌}
use lib.ListN.{length}
use Rattle.instance.specs.Limits.{max_records}
use Rattle.commands.specs.Valid.{valid}
use Rattle.commands.proofs.ValidLaws.{valid_parts}
use Rattle.board.specs.ModelOf.{model_of}
use Rattle.board.specs.declared.Board.{Board}
use Rattle.board.proofs.ModelOfLaws.{known, length_history}
use Rattle.history_card.proofs.PutLaws.{history_sliced}
use Rattle.history_card.proofs.WriteLaws.{history_width, history_most}
use Rattle.history_card.proofs.write.history_width.Goals as goal

-- the records are those of the history
long : (b : Board) → valid (model_of b) ≡ true → length b.records ≡ max_records → b.count ≤ length b.records
long b ok l = omega (arith, (valid_parts _ ok).few, length_history b.count b.records)

pub needed_bits-requires : goal.needed_bits-requires
needed_bits-requires c = let v = valid_parts _ c.requires in (v.n_low, v.n_high)

pub shared_ref_as_front-records : goal.shared_ref_as_front-records
shared_ref_as_front-records c = omega (arith, (valid_parts _ c.requires).few, length_history c.args.b.count c.args.b.records)

pub returns : goal.returns
returns c =
    let b = c.args.b in
    let h = history_sliced b.records b.count (long b c.requires (known b _ c.well_formed.0).records_long) in
    omega (arith, c.needed_bits.ensures, rw h at c.records_width.ensures, history_width (model_of b) c.requires)

pub overflow_add-result-3 : goal.overflow_add-result-3
overflow_add-result-3 c = record { fits = omega (arith, returns c, history_most (model_of c.args.b) c.requires) }

pub overflow_add-result-2 : goal.overflow_add-result-2
overflow_add-result-2 c = record { fits = omega (arith, returns c, history_most (model_of c.args.b) c.requires) }

pub overflow_add-result : goal.overflow_add-result
overflow_add-result c = record { fits = omega (arith, returns c, history_most (model_of c.args.b) c.requires) }
