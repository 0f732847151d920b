-- The school's own prices first (02, A12): of two lists of prices, the school's and the shipped one, the row that is
-- used for a tail; by which number the call is refused; what it hands back, and where that stands in memory. Assumes
-- nothing: these are definitions.
use Rattle.std.specs.Prelude.{◌≡◌, Bool, ◌||◌, not, cond, List, [], ◌∷◌, ℕ, ◌+◌, ◌*◌, ltb, leb, eqb, length, take, drop}
use Rattle.base.specs.Lists.{any_of, all_of}
use Rattle.instance.specs.Limits.{max_vertices, max_weight, no_arc}
use Rattle.instance.specs.Refusals.{no_vertex, buffer_short, count_out_of_range, out_of_range}

-- WHICH ROW
-- "Both lists hold n times n 32-bit prices": tail by tail, n numbers each
unfoldable pub row_at : (n tail : ℕ) → (prices : List ℕ) → List ℕ
row_at n t ps = take n (drop (t * n) ps)

-- "a row has any price if one of its n numbers is not 1,048,575": whether or not that number is a price, and on the
-- diagonal too
unfoldable pub has_price : (row : List ℕ) → Bool
has_price ws = any_of (λ w. not (eqb w no_arc)) ws

unfoldable pub is_own : (n tail : ℕ) → (school : List ℕ) → Bool
is_own n t a = has_price (row_at n t a)

-- "the row used is the part of the school's list where that row has any price, and otherwise the same part of the
-- shipped list"
unfoldable pub chosen_row : (n tail : ℕ) → (school shipped : List ℕ) → List ℕ
chosen_row n t a b = cond (is_own n t a) (row_at n t a) (row_at n t b)

-- BY WHICH NUMBER IT IS REFUSED
-- "in order 29, 9 for the feeder, 14": of each list the length is given, and either may be too short; 0 if none of them
unfoldable pub room_refusal : (n tail school shipped : ℕ) → ℕ
room_refusal n t a b =
    cond (eqb n 0 || ltb max_vertices n) count_out_of_range
    (cond (leb n t) no_vertex (cond (ltb a (n * n) || ltb b (n * n)) buffer_short 0))

-- a price, or no link
unfoldable pub price_ok : (w : ℕ) → Bool
price_ok w = leb w max_weight || eqb w no_arc

unfoldable pub row_ok : (row : List ℕ) → Bool
row_ok ws = all_of price_ok ws

-- "30 if the chosen row has a number that is neither a price nor no link": the other row is not judged
unfoldable pub row_refusal : (n tail : ℕ) → (school shipped : List ℕ) → ℕ
row_refusal n t a b =
    cond (eqb (room_refusal n t (length a) (length b)) 0) (cond (row_ok (chosen_row n t a b)) 0 out_of_range)
    (room_refusal n t (length a) (length b))

-- the call's numbers; 0 is accepted
abbrev pub row_numbers : List ℕ
row_numbers = 0 ∷ no_vertex ∷ buffer_short ∷ count_out_of_range ∷ out_of_range ∷ []

-- WHAT IS HANDED BACK
-- "a refusal hands back the empty part"
unfoldable pub row_used : (n tail : ℕ) → (school shipped : List ℕ) → List ℕ
row_used n t a b = cond (eqb (row_refusal n t a b) 0) (chosen_row n t a b) []

-- an address is a block of memory and a byte in it; here that of number k of a list, each of four bytes, from the
-- list's own
abbrev pub address_at : (k : ℕ) → (list : ℕ × ℕ) → ℕ × ℕ
address_at k p = (p.0, k * 4 + p.1)

-- "handed back as that part, not copied": the row begins in the chosen list, where the tail's row does
unfoldable pub chosen_address : (n tail : ℕ) → (school : List ℕ) → (school_address shipped_address : ℕ × ℕ) → ℕ × ℕ
chosen_address n t a p q = cond (is_own n t a) (address_at (t * n) p) (address_at (t * n) q)

-- "a refusal hands back the empty part at the start of the shipped list"
unfoldable pub row_address : (n tail : ℕ) → (school shipped : List ℕ) → (school_address shipped_address : ℕ × ℕ) → ℕ × ℕ
row_address n t a b p q = cond (eqb (row_refusal n t a b) 0) (chosen_address n t a p q) q

-- What `row_used` promises, for every input: all of it is unique, and so three equations.
pub record UsesRow (school shipped : List ℕ) (school_address shipped_address : ℕ × ℕ) (n tail answer : ℕ) (row : List ℕ) (address : ℕ × ℕ) : Type 0 where
  pub number : answer ≡ row_refusal n tail school shipped
  pub numbers : row ≡ row_used n tail school shipped
  pub stands : address ≡ row_address n tail school shipped school_address shipped_address
