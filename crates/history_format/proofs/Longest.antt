-- "the longest is 5,174 bytes": no board's history card is longer, nor any that opens, and there is one that is as long
-- and opens. Assumes nothing.
--
-- A record of a valid board has 101 bits at most, and there are 200 of them at most: with the six bits, those of an
-- instance of 32 vertices and the count that is 41,392 bits, which is 5,174 bytes. There are so many where 200 records
-- name every arc from the root. That card is not computed: its length is that of its parts.
use mathlib.Core.Path.{◌≡◌, refl}
use mathlib.Core.Bool.{true, false}
use mathlib.Core.List.{List}
use mathlib.Core.Logic.{⊎_elim}
use Prim.Native.Nat.{ℕ, zero, suc, ◌*◌, ◌/◌, ◌%◌, ◌≤◌, ◌<◌}
use native.Mathlib.Omega.{arith}
use lib.Dec.{ltb}
use lib.ListN.{length, replicate, length-append, length-replicate, get_or-replicate}
use borrow.Author.Tests.{ltb-true, ltb-false}
use Rattle.base.specs.Bounded.{all_below, any_below, sum_below, count_below}
use Rattle.base.specs.Lists.{tabulate_from, tabulate}
use Rattle.base.proofs.BoolLaws.{test, cond_true}
use Rattle.base.proofs.BoundedLaws.{all_intro}
use Rattle.base.proofs.PartLaws.{all_of_replicate}
use Rattle.instance.specs.Limits.{max_vertices, max_budget, max_weight, no_arc, free, max_records, cells}
use Rattle.instance.specs.Instance.{Instance, weight, can_be_arc, is_arc}
use Rattle.instance.specs.Cuts.{inside}
use Rattle.instance.specs.Valid.{cell_ok, cell_valid}
use Rattle.card_format.specs.Card.{bits_needed}
use Rattle.card_format.proofs.LengthLaws.{needed_most}
use Rattle.commands.specs.Model.{Replaced, old_marks, Model}
use Rattle.commands.specs.Valid.{head_ok, record_ok, valid}
use Rattle.commands.proofs.ValidLaws.{valid_parts, parts_valid}
use Rattle.history_format.specs.RecordBits.{record_bits}
use Rattle.history_format.specs.HistoryCard.{max_history_card, history_refusal, records_bits, history_bytes, history_card_of}
use Rattle.history_format.proofs.RecordFits.{Shaped}
use Rattle.history_format.proofs.RecordLaws.{length_marks}
use Rattle.history_format.proofs.RecordLength.{longest_valid}
use Rattle.history_format.proofs.HistoryLaws.{AllShaped, records_short}
use Rattle.history_format.proofs.HistoryBits.{length_history_bits, length_history_card}
use Rattle.history_format.proofs.LongHistory.{long_refused}
use Rattle.history_format.proofs.ModelAgain.{history_opens_again}
use Rattle.history_format.proofs.Moves.{history_card_opens}

-- NONE IS LONGER
pub longest_history : (m : Model) → valid m ≡ true → length (history_card_of m) ≤ max_history_card
unfolding history_bytes
longest_history m e =
    let v = valid_parts m e in
    let few = v.few in
    let r = records_short m.instance m.history v.n_high v.records_ok in
    let b = length_history_bits m v.n_high v.root_below in
    let n = needed_most m.instance.n v.n_high in
    let w = length_history_card m in
    omega arith

-- of any bytes: a history card that opens is not longer
pub opened_history_short : (ws : List ℕ) → history_refusal ws ≡ 0 → length ws ≤ max_history_card
opened_history_short ws e =
    ⊎_elim (λ (q : ltb max_history_card (length ws) ≡ true). absurd (long_refused ws (ltb-true max_history_card (length ws) q) (history_card_opens ws e)))
    (λ (q : ltb max_history_card (length ws) ≡ false). ltb-false max_history_card (length ws) q) (test (ltb max_history_card (length ws)))

-- ONE IS AS LONG
-- every arc from the root, free before
abbrev all_heads : Replaced
all_heads = old_marks 0 4294967294 (replicate max_vertices free)

unfoldable pub full_instance : Instance
full_instance = record { n = max_vertices; root = 0; budget = max_budget; weights = replicate cells max_weight; marks = replicate cells free }

unfoldable pub full_model : Model
full_model = record { instance = full_instance; history = replicate max_records all_heads }

-- VALID
cell_full : (i : ℕ) → i < cells → cell_valid full_instance i ≡ true
unfolding cell_valid full_instance cell_ok
cell_full i l =
    rw (get_or-replicate {A = ℕ} cells i max_weight no_arc l, get_or-replicate {A = ℕ} cells i free free l) (cond_true (can_be_arc max_vertices 0 (i / 32) (i % 32)))

record_full : record_ok full_instance all_heads ≡ true
unfolding record_ok head_ok full_instance is_arc can_be_arc weight inside any_below all_below
record_full = refl

full_valid : valid full_model ≡ true
unfolding full_model full_instance
full_valid =
    parts_valid full_model (record {
      n_low = omega arith;
      n_high = omega arith;
      root_below = omega arith;
      budget_most = omega arith;
      cells_ok = all_intro cells (cell_valid full_instance) cell_full;
      few = omega (arith, length-replicate {A = Replaced} max_records all_heads);
      records_ok = all_of_replicate (record_ok full_instance) max_records all_heads record_full;
    })

heads_shaped : Shaped all_heads
unfolding tabulate tabulate_from inside
heads_shaped = record { heads_fit = omega arith; only_members = refl }

repeated_shaped : (k : ℕ) (o : Replaced) → Shaped o → AllShaped (replicate k o)
repeated_shaped zero o h = tt
repeated_shaped (suc k) o h = (h, repeated_shaped k o h)

full_shaped : AllShaped full_model.history
unfolding full_model
full_shaped = repeated_shaped max_records all_heads heads_shaped

-- AS LONG
repeated_long : (k : ℕ) (o : Replaced) → length (record_bits o) ≡ longest_valid → length (records_bits (replicate k o)) ≡ longest_valid * k
unfolding records_bits
repeated_long zero o h = refl
repeated_long (suc k) o h = omega (arith, length-append (records_bits (replicate k o)) (record_bits o), repeated_long k o h)

heads_long : length (record_bits all_heads) ≡ longest_valid
unfolding count_below sum_below inside
heads_long = length_marks 0 4294967294 (replicate max_vertices free)

pub full_long : length (history_card_of full_model) ≡ max_history_card
unfolding full_model full_instance history_bytes bits_needed
full_long =
    omega (
      arith,
      length_history_card full_model,
      length_history_bits full_model (omega arith) (omega arith),
      repeated_long max_records all_heads heads_long,
    )

-- and it opens
pub full_opens : history_refusal (history_card_of full_model) ≡ 0
full_opens = history_opens_again full_model full_valid full_shaped
