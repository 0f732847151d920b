-- Records on a card by hand: one of each kind as bits, from the words of document 02, and read back; single records
-- that are refused or pass on instance Q, and a few in turn. Computed. Assumes nothing.
use mathlib.Core.Path.{◌≡◌, refl}
use mathlib.Core.List.{List, [], ◌∷◌, ◌++◌, map}
use Prim.Native.Nat.{ℕ}
use lib.ListN.{length, take, replicate}
use Rattle.base.specs.Bounded.{all_below, any_below, sum_below, count_below}
use Rattle.base.specs.Lists.{tabulate_from, tabulate, all_of}
use Rattle.bits.specs.Bits.{bits_of, number_from, field}
use Rattle.instance.specs.Refusals.{bad_length, bad_filling, bad_record}
use Rattle.instance.specs.Instance.{weight, can_be_arc, is_arc}
use Rattle.instance.specs.Cuts.{inside}
use Rattle.instance.proofs.WorkedCases.{filled, instance_from, instance_q}
use Rattle.commands.specs.Model.{Replaced, old_mark, old_marks, old_budget}
use Rattle.commands.specs.Valid.{head_ok, record_ok}
use Rattle.history_format.specs.RecordBits.{member_marks, record_length, replaced_in, form_refusal, record_refusal, mark_bits, record_bits}
use Rattle.history_format.specs.HistoryCard.{history_in, end_refusal, records_refusal, records_bits}

-- ONE OF EACH KIND
pub record WrittenCase : Type 0 where
  pub replaced : Replaced
  pub bits : List ℕ

-- the marks of several arcs by head, each of 32: at 1 and at 3, and free elsewhere
abbrev marks_at : (one three : ℕ) → List ℕ
marks_at a b = 0 ∷ a ∷ 0 ∷ b ∷ replicate 28 0

unfoldable pub written : List WrittenCase
written =
    -- "0 a link (feeder 5, fed 5, replaced mark 2)": 2→5, pinned
    record { replaced = old_mark 2 5 1; bits = 0 ∷ 0 ∷ 0 ∷ 0 ∷ 0 ∷ 1 ∷ 0 ∷ 0 ∷ 0 ∷ 1 ∷ 0 ∷ 1 ∷ 0 ∷ 1 ∷ [] } ∷
    -- "1 the replaced budget (25)": the greatest
    record { replaced = old_budget 32505794; bits = 0 ∷ 1 ∷ 1 ∷ 1 ∷ 1 ∷ 1 ∷ 0 ∷ 1 ∷ 1 ∷ 1 ∷ 1 ∷ 1 ∷ 1 ∷ 1 ∷ 1 ∷ 1 ∷ 1 ∷ 1 ∷ 1 ∷ 1 ∷ 1 ∷ 0 ∷ 0 ∷ 0 ∷ 0 ∷ 1 ∷ 0 ∷ [] } ∷
    -- "2 a group (feeder 5, set 32 with link members only, then 2 bits for each member upwards)": of 0 the heads 1 and
    -- 3, which is 10 as a number; 0→1 banned, 0→3 pinned
    record { replaced = old_marks 0 10 (marks_at 2 1); bits = 1 ∷ 0 ∷ 0 ∷ 0 ∷ 0 ∷ 0 ∷ 0 ∷ replicate 28 0 ++ (1 ∷ 0 ∷ 1 ∷ 0 ∷ []) ++ (1 ∷ 0 ∷ []) ++ (0 ∷ 1 ∷ []) } ∷
    []

pub written_so : map (λ c. record_bits c.replaced) written ≡ map (λ c. c.bits) written
unfolding written record_bits mark_bits bits_of inside
written_so = refl

-- read back, whatever follows
pub read_so : (ys : List ℕ) → map (λ c. replaced_in (c.bits ++ ys)) written ≡ map (λ c. c.replaced) written
unfolding written replaced_in member_marks tabulate tabulate_from count_below sum_below inside field number_from
read_so ys = refl

pub long_so : (ys : List ℕ) → map (λ c. record_length (c.bits ++ ys)) written ≡ map (λ c. length c.bits) written
unfolding written record_length count_below sum_below inside field number_from
long_so ys = refl

-- SINGLE RECORDS on instance Q, where 3→2 is no arc
pub record RecordCase : Type 0 where
  pub answer : ℕ
  pub bits : List ℕ

-- 0 for a record that passes
abbrev one : (answer : ℕ) → (bits : List ℕ) → RecordCase
one k bs = record { answer = k; bits = bs }

-- a record's first bits only
abbrev cut : (count : ℕ) → Replaced → List ℕ
cut k o = take k (record_bits o)

unfoldable pub single : List RecordCase
single =
    -- "kind 3 (two bits long)", with anything behind it; of one bit of it, or none, "3 where it runs past the end"
    one bad_record (1 ∷ 1 ∷ [])
    ∷ one bad_record (1 ∷ 1 ∷ 0 ∷ [])
    ∷ one bad_length (1 ∷ [])
    ∷ one bad_length []
    -- an arc with each mark; "a value out of range"; one bit short, whatever it says
    ∷ one 0 (record_bits (old_mark 0 1 0))
    ∷ one 0 (record_bits (old_mark 0 1 2))
    ∷ one bad_record (record_bits (old_mark 0 1 3))
    ∷ one bad_length (cut 13 (old_mark 0 1 3))
    -- "a non-link": no price, into itself, into the root, a position not below n
    ∷ one bad_record (record_bits (old_mark 3 2 0))
    ∷ one bad_length (cut 13 (old_mark 3 2 0))
    ∷ one bad_record (record_bits (old_mark 1 1 0))
    ∷ one bad_record (record_bits (old_mark 1 0 0))
    ∷ one bad_record (record_bits (old_mark 0 4 0))
    ∷ one bad_record (record_bits (old_mark 31 1 0))
    -- "27 use the new limits" (A9): the greatest budget and one more
    ∷ one 0 (record_bits (old_budget 32505794))
    ∷ one bad_record (record_bits (old_budget 32505795))
    ∷ one bad_length (cut 26 (old_budget 32505795))
    -- several arcs; a mark out of range; "an empty group"
    ∷ one 0 (record_bits (old_marks 0 10 (marks_at 2 1)))
    ∷ one bad_length (cut 42 (old_marks 0 10 (marks_at 2 1)))
    ∷ one bad_record (record_bits (old_marks 0 10 (marks_at 2 3)))
    ∷ one bad_record (record_bits (old_marks 0 0 (marks_at 0 0)))
    ∷ one bad_length (cut 38 (old_marks 0 0 (marks_at 0 0)))
    -- "link members only": 3→1 is an arc and 3→2 is none, and both marks are looked for
    ∷ one bad_record (record_bits (old_marks 3 6 (marks_at 1 0)))
    ∷ one bad_length (cut 42 (old_marks 3 6 (marks_at 1 0)))
    ∷ one bad_length (cut 41 (old_marks 3 6 (marks_at 1 0)))
    -- the highest of 32, which is not below n
    ∷ one bad_record (record_bits (old_marks 0 2147483650 (marks_at 1 0)))
    ∷ one bad_length (cut 42 (old_marks 0 2147483650 (marks_at 1 0)))
    ∷ []

pub single_refusals : map (λ c. record_refusal (instance_q 16 []) c.bits) single ≡ map (λ c. c.answer) single
unfolding
    single record_refusal form_refusal record_length replaced_in member_marks record_bits mark_bits record_ok head_ok is_arc can_be_arc weight
    instance_q instance_from filled inside all_below any_below count_below sum_below tabulate tabulate_from bits_of field number_from
single_refusals = refl

-- IN TURN: "the records, oldest first", and what is behind them
pub record TurnCase : Type 0 where
  pub answer : ℕ
  pub count : ℕ
  pub bits : List ℕ

abbrev turn : (answer count : ℕ) → (bits : List ℕ) → TurnCase
turn k n bs = record { answer = k; count = n; bits = bs }

unfoldable pub turns : List TurnCase
turns =
    turn 0 2 (records_bits (old_budget 5 ∷ old_mark 0 1 2 ∷ []))
    -- the first that is refused
    ∷ turn bad_record 2 (record_bits (old_mark 0 1 3) ++ cut 26 (old_budget 5))
    ∷ turn bad_length 2 (record_bits (old_mark 0 1 2) ++ cut 26 (old_budget 32505795))
    ∷ turn bad_length 2 (record_bits (old_mark 0 1 2))
    ∷ turn bad_record 2 (1 ∷ 1 ∷ [])
    -- "then 3 if whole bytes remain; then 8"
    ∷ turn 0 1 (record_bits (old_mark 0 1 2) ++ replicate 7 0)
    ∷ turn bad_length 1 (record_bits (old_mark 0 1 2) ++ replicate 8 0)
    ∷ turn bad_length 1 (record_bits (old_mark 0 1 2) ++ replicate 8 1)
    ∷ turn bad_filling 1 (record_bits (old_mark 0 1 2) ++ (0 ∷ 1 ∷ []))
    ∷ turn bad_record 1 (record_bits (old_mark 0 1 3) ++ replicate 8 1)
    ∷ []

pub turn_refusals : map (λ c. records_refusal c.count (instance_q 16 []) c.bits) turns ≡ map (λ c. c.answer) turns
unfolding
    turns records_refusal end_refusal records_bits record_refusal form_refusal record_length replaced_in member_marks record_bits mark_bits record_ok
    head_ok is_arc can_be_arc weight instance_q instance_from filled inside all_below any_below count_below sum_below tabulate tabulate_from bits_of
    field number_from all_of
turn_refusals = refl

-- the oldest is first on the card, and the latest first in the history
pub oldest_first :
    (records_bits (old_budget 5 ∷ old_mark 2 5 1 ∷ []) ≡ record_bits (old_mark 2 5 1) ++ record_bits (old_budget 5))
    × (history_in 2 (record_bits (old_mark 2 5 1) ++ record_bits (old_budget 5)) [] ≡ old_budget 5 ∷ old_mark 2 5 1 ∷ [])
unfolding records_bits history_in record_bits bits_of record_length replaced_in field number_from
oldest_first = (refl, refl)
