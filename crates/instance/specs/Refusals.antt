-- The refusals of documents 01 and 02, each under one name with its sentence and what 02 amends of it; 0 is accepted.
-- Assumes nothing: these are definitions.
use Rattle.std.specs.Prelude.{ℕ}

-- a card that is refused with one of these gives "no board"

-- "card under 5 bytes"
abbrev pub card_short : ℕ
card_short = 1

-- "positions field 0 or 33 to 63"; 02, A8: "An old console refuses every new card by 2", "A move handed the other kind
-- is 2"; A3: "2 and 4 for a bad count or root"
abbrev pub bad_count : ℕ
bad_count = 2

-- "card length not the needed one"; of a new card 02, A8: "3 now meaning that the old bits run past the end",
-- "3 where it runs past the end" of the count and each record, "3 if whole bytes remain"
abbrev pub bad_length : ℕ
bad_length = 3

-- "root not below positions"; 02, A3: "2 and 4 for a bad count or root"
abbrev pub bad_root : ℕ
bad_root = 4

-- "budget field above 31,000,000"; 02, A9: "5 .. use the new limits"
abbrev pub bad_card_budget : ℕ
bad_card_budget = 5

-- "price field 1,000,001 to 1,048,574"; 02, A9: "6 is retired". By the new limit that range is empty, and no public
-- call answers 6 (`six_retired` in card_format, `six_never_given` in demands)
abbrev pub bad_weight : ℕ
bad_weight = 6

-- "mark 3, or a mark other than 0 on no link"
abbrev pub bad_mark : ℕ
bad_mark = 7

-- "a filling bit is 1"; of a new card 02, A8: "then 3 if whole bytes remain; then 8"
abbrev pub bad_filling : ℕ
bad_filling = 8

-- "board as before" after these

-- "press names a position not below n"; 02, A5: "9 for a feeder or a set bit not below the count"; A12: "9 for the
-- feeder"
abbrev pub no_vertex : ℕ
no_vertex = 9

-- "press names no link"; 02, A5: "10 if no member is a link"
abbrev pub no_such_arc : ℕ
no_such_arc = 10

-- "budget press above 31,000,000"; 02, A9: "11 .. use the new limits"
abbrev pub bad_budget : ℕ
bad_budget = 11

-- "press with 200 recorded"
abbrev pub history_full : ℕ
history_full = 12

-- "take-back with none recorded"
abbrev pub history_empty : ℕ
history_empty = 13

-- "a lent buffer too short"
abbrev pub buffer_short : ℕ
buffer_short = 14

-- "board handed in has a field outside the ranges above, a mark other than 0 on no link, more than 200 recorded, or a
-- record naming no link or restoring a value out of range"; 02, A9: "15 .. use the new limits"; A5: "a group record
-- naming a non-link, or nothing, is damage (15)"
abbrev pub invalid_board : ℕ
invalid_board = 15

-- price lists as text (02, A3), beside 2, 4 and 14: a refused list "leaves the buffer untouched"; "by the first faulty
-- line, in this order within it"

-- "its shape"
abbrev pub bad_line : ℕ
bad_line = 16

-- "a position not below the count"
abbrev pub line_no_vertex : ℕ
line_no_vertex = 17

-- "feeder = fed or fed = root"
abbrev pub line_no_arc : ℕ
line_no_arc = 18

-- "a price above the limit"; the writer: "a cell not passed over that is neither a price nor no link"; A9: "19 .. use
-- the new limits"
abbrev pub weight_too_high : ℕ
weight_too_high = 19

-- "a link named before"
abbrev pub named_before : ℕ
named_before = 20

-- a plan made elsewhere that is refused with one of these (02, A6): "in order 15, 14, 21 .. 25"

-- "not a feed tree"
abbrev pub not_arborescence : ℕ
not_arborescence = 21

-- "wrong total"
abbrev pub wrong_total : ℕ
wrong_total = 22

-- "a bad cut or more than 61"
abbrev pub bad_cut : ℕ
bad_cut = 23

-- "a link overcharged"
abbrev pub overcharged : ℕ
overcharged = 24

-- "amounts not adding up"
abbrev pub wrong_values : ℕ
wrong_values = 25

-- a listing of all plans that is refused so (02, A7) leaves "board and buffers as before": "15, then 26"

-- "26 for a try limit of 0 or above 1,000,000"
abbrev pub bad_try_limit : ℕ
bad_try_limit = 26

-- history cards (02, A8: new cards): opening gives "no board" after 27; a move leaves the buffer as it was after both

-- "27 for a count above 200, kind 3 (two bits long), or a record naming a non-link, an empty group or a value out of
-- range"; A9: "27 use the new limits"
abbrev pub bad_record : ℕ
bad_record = 27

-- "28 for a move to old with records"
abbrev pub has_records : ℕ
has_records = 28

-- passive runs (02, A11): "a refusal touches no buffer"; and the row used of two price lists (A12): "a refusal hands
-- back the empty part at the start of the shipped list"

-- "29 for a count outside 1 to 32"; A12: "in order 29, 9 for the feeder, 14, 30"
abbrev pub count_out_of_range : ℕ
count_out_of_range = 29

-- "30 for a price or mark out of range or a marked run that has no price"; A12: "30 if the chosen row has a number that
-- is neither a price nor no link"
abbrev pub out_of_range : ℕ
out_of_range = 30

-- "31 for an unequal pair, met at its first cell"
abbrev pub unequal_pair : ℕ
unequal_pair = 31
