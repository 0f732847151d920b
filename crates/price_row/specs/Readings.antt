-- What document 02, A12, says of a call in words, with no test that computes: which row is handed back and where it
-- stands, and by which number a call is refused. The definitions of Row say this and nothing else (`reads` and `only`
-- in proofs/ReadingsLaws.antt). Assumes nothing: these are definitions.
use Rattle.std.specs.Prelude.{◌≡◌, List, [], ◌≢◌, ◌⊎◌, ℕ, ◌+◌, ◌*◌, ◌≤◌, ◌<◌, length, get_or}
use Rattle.instance.specs.Limits.{max_vertices, max_weight, no_arc}
use Rattle.instance.specs.Refusals.{no_vertex, buffer_short, count_out_of_range, out_of_range}
use Rattle.price_row.specs.Row.{address_at}

-- number j of a tail's row
abbrev pub number_at : (n tail : ℕ) → (prices : List ℕ) → (j : ℕ) → ℕ
number_at n t ps j = get_or ps (t * n + j) no_arc

-- "a row has any price if one of its n numbers is not 1,048,575"
pub record AnyPrice (n tail : ℕ) (prices : List ℕ) : Type 0 where
  pub place : ℕ
  pub inside : place < n
  pub priced : number_at n tail prices place ≢ no_arc

-- "a number that is neither a price nor no link"
pub record BadNumber (n tail : ℕ) (prices : List ℕ) : Type 0 where
  pub place : ℕ
  pub inside : place < n
  pub no_price : max_weight < number_at n tail prices place
  pub not_none : number_at n tail prices place ≢ no_arc

-- a part of a list, "not copied": its numbers are those of the tail's row, and it begins where that row does
pub record PartOf (n tail : ℕ) (list : List ℕ) (list_address : ℕ × ℕ) (row : List ℕ) (address : ℕ × ℕ) : Type 0 where
  pub whole : length row ≡ n
  pub same : (j : ℕ) → j < n → get_or row j no_arc ≡ number_at n tail list j
  pub begins : address ≡ address_at (tail * n) list_address

-- "Both lists hold n times n 32-bit prices": what there is where 29, 9 and 14 are not due
pub record Sized (n tail school shipped : ℕ) : Type 0 where
  pub some : 0 < n
  pub small : n ≤ max_vertices
  pub below : tail < n
  pub first : n * n ≤ school
  pub second : n * n ≤ shipped

-- Each case of a call, with its answer, the row that it hands back and where that stands: "in order 29, 9 for the
-- feeder, 14, 30 .. a refusal hands back the empty part at the start of the shipped list".
pub data RowReads (school shipped : List ℕ) (school_address shipped_address : ℕ × ℕ) (n tail : ℕ) : (answer : ℕ) → (row : List ℕ) → (address : ℕ × ℕ) → Type 0 where
  count_refused : (n ≡ 0) ⊎ (max_vertices < n) → RowReads school shipped school_address shipped_address n tail count_out_of_range [] shipped_address
  tail_refused : 0 < n → n ≤ max_vertices → n ≤ tail → RowReads school shipped school_address shipped_address n tail no_vertex [] shipped_address
  room_refused : 0 < n → n ≤ max_vertices → tail < n → (length school < n * n) ⊎ (length shipped < n * n)
      → RowReads school shipped school_address shipped_address n tail buffer_short [] shipped_address
  own_refused : Sized n tail (length school) (length shipped) → AnyPrice n tail school → BadNumber n tail school
      → RowReads school shipped school_address shipped_address n tail out_of_range [] shipped_address
  shipped_refused : Sized n tail (length school) (length shipped) → (AnyPrice n tail school → ⊥) → BadNumber n tail shipped
      → RowReads school shipped school_address shipped_address n tail out_of_range [] shipped_address
  own_used : {row : List ℕ} {address : ℕ × ℕ} → Sized n tail (length school) (length shipped) → AnyPrice n tail school → (BadNumber n tail school → ⊥)
      → PartOf n tail school school_address row address → RowReads school shipped school_address shipped_address n tail 0 row address
  shipped_used : {row : List ℕ} {address : ℕ × ℕ} → Sized n tail (length school) (length shipped) → (AnyPrice n tail school → ⊥) → (BadNumber n tail shipped → ⊥)
      → PartOf n tail shipped shipped_address row address → RowReads school shipped school_address shipped_address n tail 0 row address
