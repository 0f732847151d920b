-- Calls on two lists of prices (02, A12), as one list with one claim about the whole list: the answer, the row that is
-- handed back, and where it stands. Computed. Assumes nothing.
use mathlib.Core.Path.{◌≡◌, refl}
use mathlib.Core.List.{List, [], ◌∷◌, map}
use Prim.Native.Nat.{ℕ}
use Rattle.base.specs.Lists.{any_of, all_of}
use Rattle.instance.specs.Limits.{no_arc}
use Rattle.price_row.specs.Row.{row_at, has_price, is_own, chosen_row, room_refusal, price_ok, row_ok, row_refusal, row_used, chosen_address, row_address}

-- no link
abbrev x : ℕ
x = no_arc

-- where the two lists stand
abbrev at_school : ℕ × ℕ
at_school = (1, 40)

abbrev at_shipped : ℕ × ℕ
at_shipped = (2, 8)

pub record Result : Type 0 where
  pub answer : ℕ
  pub row : List ℕ
  pub address : ℕ × ℕ

pub record Case : Type 0 where
  pub n : ℕ
  pub tail : ℕ
  pub school : List ℕ
  pub shipped : List ℕ
  pub result : Result

abbrev case : (n tail : ℕ) → (school shipped : List ℕ) → (answer : ℕ) → (row : List ℕ) → (address : ℕ × ℕ) → Case
case n t a b k ws p = record { n = n; tail = t; school = a; shipped = b; result = record { answer = k; row = ws; address = p } }

-- "a refusal hands back the empty part at the start of the shipped list"
abbrev refused : (n tail : ℕ) → (school shipped : List ℕ) → (answer : ℕ) → Case
refused n t a b k = case n t a b k [] at_shipped

unfoldable pub computed : Case → Result
computed c =
    record {
      answer = row_refusal c.n c.tail c.school c.shipped;
      row = row_used c.n c.tail c.school c.shipped;
      address = row_address c.n c.tail c.school c.shipped at_school at_shipped;
    }

-- rows of the school's list: no price; the price 0, off the diagonal; a number on the diagonal alone
abbrev school : List ℕ
school = x ∷ x ∷ x ∷ 0 ∷ x ∷ x ∷ x ∷ x ∷ 7 ∷ []

abbrev shipped : List ℕ
shipped = 11 ∷ 12 ∷ 13 ∷ 14 ∷ 15 ∷ 16 ∷ 17 ∷ 18 ∷ 19 ∷ []

unfoldable pub cases : List Case
cases =
    -- each row of these lists: the shipped one, and the school's own twice
    case 3 0 school shipped 0 (11 ∷ 12 ∷ 13 ∷ []) (2, 8) ∷
    case 3 1 school shipped 0 (0 ∷ x ∷ x ∷ []) (1, 52) ∷
    case 3 2 school shipped 0 (x ∷ x ∷ 7 ∷ []) (1, 64) ∷
    -- no price in either list: the shipped row all the same
    case 2 1 (5 ∷ 6 ∷ x ∷ x ∷ []) (7 ∷ 8 ∷ x ∷ x ∷ []) 0 (x ∷ x ∷ []) (2, 16) ∷
    -- lists that are longer: the row goes by the count
    case 2 1 school shipped 0 (x ∷ 0 ∷ []) (1, 48) ∷
    -- one position
    case 1 0 (x ∷ []) (5 ∷ []) 0 (5 ∷ []) (2, 8) ∷
    -- the greatest price; a number that is none "is not 1,048,575", so the school's row is chosen and refused
    case 2 0 (x ∷ 1048574 ∷ x ∷ x ∷ []) (1 ∷ 2 ∷ 3 ∷ 4 ∷ []) 0 (x ∷ 1048574 ∷ []) (1, 40) ∷
    refused 2 0 (x ∷ 1048576 ∷ x ∷ x ∷ []) (1 ∷ 2 ∷ 3 ∷ 4 ∷ []) 30 ∷
    refused 2 0 (4294967295 ∷ 5 ∷ x ∷ x ∷ []) (1 ∷ 2 ∷ 3 ∷ 4 ∷ []) 30 ∷
    refused 2 0 (x ∷ x ∷ 5 ∷ 6 ∷ []) (1 ∷ 1048576 ∷ 3 ∷ 4 ∷ []) 30 ∷
    -- the row that is not chosen is not judged, nor any other row
    case 2 0 (x ∷ 5 ∷ 1048576 ∷ x ∷ []) (1048576 ∷ 2 ∷ 3 ∷ 1048576 ∷ []) 0 (x ∷ 5 ∷ []) (1, 40) ∷
    case 2 1 (1048576 ∷ x ∷ x ∷ x ∷ []) (1048576 ∷ 2 ∷ 3 ∷ 4 ∷ []) 0 (3 ∷ 4 ∷ []) (2, 16) ∷
    -- 14 for either list, also for the one that is not needed, and before 30
    refused 2 0 (x ∷ 5 ∷ x ∷ []) (1 ∷ 2 ∷ 3 ∷ 4 ∷ []) 14 ∷
    refused 2 0 (x ∷ 5 ∷ x ∷ x ∷ []) (1 ∷ 2 ∷ 3 ∷ []) 14 ∷
    refused 2 0 (x ∷ 1048576 ∷ x ∷ x ∷ []) [] 14 ∷
    -- 9 before 14, 29 before both
    refused 2 2 [] [] 9 ∷
    refused 2 4294967295 school shipped 9 ∷
    refused 0 0 school shipped 29 ∷
    refused 33 33 [] [] 29 ∷ []

-- THE CLAIM
pub worked : map computed cases ≡ map (λ c. c.result) cases
unfolding computed cases any_of all_of row_at has_price is_own chosen_row room_refusal price_ok row_ok row_refusal row_used chosen_address row_address
worked = refl
