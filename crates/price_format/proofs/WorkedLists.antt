-- Price lists, refused and not, at the ends of every range and in the order of document 02: one list of them with one
-- claim about all. Sheet Q of document 01 as a list, read and written. Computed. Assumes nothing.
use mathlib.Core.Path.{◌≡◌, refl}
use mathlib.Core.Bool.{Bool, true, ◌&&◌}
use mathlib.Core.List.{List, [], ◌∷◌, ◌++◌}
use Prim.Native.Nat.{ℕ}
use Prim.Native.String.{String}
use lib.Dec.{eqb}
use lib.ListN.{length}
use Rattle.base.specs.Bounded.{all_below}
use Rattle.base.specs.Lists.{tabulate, tabulate_from, join_below, any_of, all_of}
use Rattle.instance.specs.Refusals.{bad_count, bad_root, buffer_short, bad_line, line_no_vertex, line_no_arc, weight_too_high, named_before}
use Rattle.instance.specs.Instance.{can_be_arc}
use Rattle.text.specs.Decimal.{decimal, decimal_in, value_after}
use Rattle.text.specs.Lines.{codes, line_feed}
use Rattle.price_format.specs.Numbers.{is_digit, digits_in, is_number}
use Rattle.price_format.specs.Lines.{number_then, first_number, after_number, has_line, first_line, after_line}
use Rattle.price_format.specs.Reading.{names, is_named, weight_named, prices_of, numbers_refusal, line_refusal, read_lines, read_list, count_refusal, room_refusal}
use Rattle.price_format.specs.Writing.{is_written, place_text, list_text, place_ok, prices_refusal, write_refusal, arcs_only}

-- LISTS
pub record Case : Type 0 where
  pub answer : ℕ
  pub line : ℕ
  pub n : ℕ
  pub root : ℕ
  pub text : List ℕ

abbrev list_case : (answer line n root : ℕ) → (text : List ℕ) → Case
list_case a k n r t = record { answer = a; line = k; n = n; root = r; text = t }

-- a line with its line feed
abbrev ln : String → List ℕ
ln s = codes s ++ (line_feed ∷ [])

-- by number, and for each number what comes before the next one
unfoldable pub cases : List Case
cases =
    -- the empty text is a list; so is one line, and several in any order
    list_case 0 0 4 0 []
    ∷ list_case 0 0 1 0 []
    ∷ list_case 0 0 4 0 (ln "0 1 10")
    ∷ list_case 0 0 4 0 (ln "3 1 7" ++ ln "0 3 0" ++ ln "1 2 1048574")
    -- 16: no line feed at the end, an empty line, a carriage return, spaces, a sign, a needless 0, a number too few or
    -- too many, a letter
    ∷ list_case bad_line 1 4 0 (codes "0 1 10")
    ∷ list_case bad_line 2 4 0 (ln "0 1 10" ++ codes "0 2 10")
    ∷ list_case bad_line 1 4 0 (ln "")
    ∷ list_case bad_line 2 4 0 (ln "0 1 10" ++ ln "" ++ ln "0 2 10")
    ∷ list_case bad_line 1 4 0 (codes "0 1 10" ++ (13 ∷ line_feed ∷ []))
    ∷ list_case bad_line 1 4 0 (ln "0  1 10")
    ∷ list_case bad_line 1 4 0 (ln " 0 1 10")
    ∷ list_case bad_line 1 4 0 (ln "0 1 10 ")
    ∷ list_case bad_line 1 4 0 (ln "0 1 +10")
    ∷ list_case bad_line 1 4 0 (ln "0 1 010")
    ∷ list_case bad_line 1 4 0 (ln "00 1 10")
    ∷ list_case bad_line 1 4 0 (ln "0 01 10")
    ∷ list_case bad_line 1 4 0 (ln "0 1")
    ∷ list_case bad_line 1 4 0 (ln "0 1 10 1")
    ∷ list_case bad_line 1 4 0 (ln "0 1 x")
    ∷ list_case bad_line 1 4 0 (codes "0 1 10" ++ (0 ∷ []))
    ∷ list_case bad_line 1 4 0 (ln "0 1 10,50")
    -- before 17 and 19
    ∷ list_case bad_line 1 4 0 (ln "4 4 01")
    ∷ list_case bad_line 1 4 0 (ln "0 1 01048575")
    -- 17: a position not below the count, of any length; before 18
    ∷ list_case line_no_vertex 1 4 0 (ln "4 1 10")
    ∷ list_case line_no_vertex 1 4 0 (ln "0 4 10")
    ∷ list_case line_no_vertex 1 4 0 (ln "4 4 5")
    ∷ list_case line_no_vertex 1 4 0 (ln "4294967296 1 10")
    ∷ list_case line_no_vertex 1 4 0 (ln "0 18446744073709551617 10")
    ∷ list_case line_no_vertex 1 4 0 (ln "10000000000000000000 1 10")
    ∷ list_case line_no_vertex 1 1 0 (ln "0 1 10")
    ∷ list_case line_no_vertex 1 32 0 (ln "32 1 5")
    ∷ list_case 0 0 32 0 (ln "31 30 5")
    -- 18: feeder = fed, or fed = root; before 19
    ∷ list_case line_no_arc 1 4 0 (ln "2 2 10")
    ∷ list_case line_no_arc 1 4 0 (ln "1 1 1048575")
    ∷ list_case line_no_arc 1 4 0 (ln "2 0 10")
    ∷ list_case line_no_arc 1 4 2 (ln "1 2 1048575")
    ∷ list_case line_no_arc 1 1 0 (ln "0 0 10")
    -- 19: a price above the limit, of any length; "1,048,575 can't be typed"; before 20
    ∷ list_case weight_too_high 1 4 0 (ln "0 1 1048575")
    ∷ list_case weight_too_high 1 4 0 (ln "0 1 4294967306")
    ∷ list_case weight_too_high 1 4 0 (ln "0 1 18446744073709551626")
    ∷ list_case weight_too_high 1 4 0 (ln "0 1 10000000000000000000")
    ∷ list_case weight_too_high 2 4 0 (ln "0 1 10" ++ ln "0 1 1048575")
    -- 20: a link named before, at the same price too; the way back is another link
    ∷ list_case named_before 2 4 0 (ln "0 1 10" ++ ln "0 1 10")
    ∷ list_case named_before 3 4 0 (ln "0 1 0" ++ ln "1 2 5" ++ ln "0 1 7")
    ∷ list_case 0 0 4 0 (ln "2 1 10" ++ ln "1 2 10")
    -- the first faulty line decides
    ∷ list_case line_no_vertex 2 4 0 (ln "0 1 10" ++ ln "4 1 10" ++ codes "x")
    ∷ list_case bad_line 2 4 0 (ln "0 1 10" ++ codes "x" ++ ln "0 1 10" ++ ln "4 1 10")
    ∷ []

abbrev pub agrees : Case → Bool
agrees c = eqb (read_list c.n c.root c.text).answer c.answer && eqb (read_list c.n c.root c.text).line c.line

pub cases_agree : all_of agrees cases ≡ true
unfolding
    cases all_of codes read_list read_lines line_refusal numbers_refusal is_named any_of names has_line first_line after_line number_then first_number after_number digits_in is_digit is_number value_after
cases_agree = refl

-- WHAT COMES BEFORE THE TEXT: "2 and 4 for a bad count or root, 14"
pub before_text :
    (room_refusal 0 0 0 ≡ bad_count) × (room_refusal 33 33 0 ≡ bad_count) × (room_refusal 4 4 0 ≡ bad_root) × (room_refusal 4 3 15 ≡ buffer_short)
    × (room_refusal 4 3 16 ≡ 0) × (room_refusal 32 31 1024 ≡ 0) × (room_refusal 1 0 0 ≡ buffer_short)
unfolding room_refusal count_refusal
before_text = (refl, refl, refl, refl, refl, refl, refl)

-- SHEET Q
-- in written order: "by feeder, then fed"
unfoldable pub list_q : List ℕ
list_q = ln "0 1 10" ++ ln "0 2 10" ++ ln "0 3 8" ++ ln "1 2 1" ++ ln "1 3 4" ++ ln "2 1 2" ++ ln "2 3 9" ++ ln "3 1 7"

-- "no link in all other cells"
unfoldable pub prices_q : List ℕ
prices_q =
    1048575 ∷ 10 ∷ 10 ∷ 8
    ∷ 1048575 ∷ 1048575 ∷ 1 ∷ 4
    ∷ 1048575 ∷ 2 ∷ 1048575 ∷ 9
    ∷ 1048575 ∷ 7 ∷ 1048575 ∷ 1048575 ∷ []

-- the same with other numbers where no link can be
unfoldable pub rubbish_q : List ℕ
rubbish_q =
    0 ∷ 10 ∷ 10 ∷ 8
    ∷ 7 ∷ 1048576 ∷ 1 ∷ 4
    ∷ 4294967295 ∷ 2 ∷ 5 ∷ 9
    ∷ 1 ∷ 7 ∷ 1048575 ∷ 3 ∷ []

pub q_read : prices_of 4 (read_list 4 0 list_q).lines ≡ prices_q
unfolding
    list_q prices_q prices_of tabulate tabulate_from weight_named codes read_list read_lines line_refusal numbers_refusal is_named any_of names has_line first_line after_line number_then first_number after_number digits_in is_digit is_number value_after
q_read = refl

pub q_written : list_text 4 0 prices_q ≡ list_q
unfolding list_q prices_q codes list_text join_below place_text is_written can_be_arc decimal decimal_in
q_written = refl

pub q_passed_over : (list_text 4 0 rubbish_q ≡ list_q) × (arcs_only 4 0 rubbish_q ≡ prices_q)
unfolding list_q prices_q rubbish_q codes list_text join_below place_text is_written can_be_arc decimal decimal_in arcs_only tabulate tabulate_from
q_passed_over = (refl, refl)

-- THE WRITER'S NUMBERS: 14 for the prices before 19, and 19 before 14 for the text
pub writer_order :
    (prices_refusal 4 0 (0 ∷ 1048576 ∷ []) ≡ buffer_short) × (write_refusal 2 0 (0 ∷ 1048576 ∷ 0 ∷ 0 ∷ []) 0 ≡ weight_too_high)
    × (write_refusal 2 0 (0 ∷ 1048574 ∷ 0 ∷ 0 ∷ []) 11 ≡ buffer_short) × (write_refusal 2 0 (0 ∷ 1048574 ∷ 0 ∷ 0 ∷ []) 12 ≡ 0)
    × (write_refusal 2 0 (1048576 ∷ 1048575 ∷ 1048576 ∷ 1048576 ∷ []) 0 ≡ 0) × (write_refusal 1 0 (9999999 ∷ []) 0 ≡ 0)
unfolding prices_refusal write_refusal room_refusal count_refusal all_below place_ok list_text join_below place_text is_written can_be_arc decimal decimal_in
writer_order = (refl, refl, refl, refl, refl, refl)
