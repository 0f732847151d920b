-- The bits of a card that was written: how many they are, that they are bits, and a field of each cell is read where
-- it was written. Assumes nothing.
--
-- Reading runs through the cells as writing does, so no place is computed: the card's bits from cell i on are those
-- of the cells from i on.
use mathlib.Core.Path.{◌≡◌, refl, ap, ◌∙◌}
use mathlib.Core.Bool.{Bool, true, false, cond}
use mathlib.Core.List.{List, [], ◌∷◌, ◌++◌, append_assoc}
use Prim.Native.Nat.{ℕ, zero, suc, ◌+◌, ◌*◌, ◌-◌, ◌%◌, ◌^◌, ◌≤◌, ◌<◌}
use native.Mathlib.Omega.{arith}
use native.Mathlib.Numerals.{add-one}
use native.Mathlib.Nat.{add-zero}
use lib.ListN.{length, get_or, drop, length-append, length-replicate}
use lib.Seq.{drop_at}
use Rattle.base.specs.Lists.{all_of, tabulate_from}
use Rattle.base.proofs.ListLaws.{default}
use Rattle.bits.specs.Bits.{bits_of, bits_in, field, are_bits}
use Rattle.bits.proofs.NumberLaws.{length_bits_of, bits_of_are_bits, are_bits_append, zeros_are_bits}
use Rattle.bits.proofs.ByteLaws.{bits_in_packed}
use Rattle.bits.proofs.FieldLaws.{field_read}
use Rattle.instance.specs.Limits.{max_vertices, no_arc, cells}
use Rattle.instance.specs.Instance.{Instance, instance_with, weight_at, mark_at}
use Rattle.card_format.specs.Widths.{n_width, root_width, budget_width, header_width, weight_width, mark_width, cell_width}
use Rattle.card_format.specs.Card.{on_card, bits_needed, bytes_needed, cell_fields, header_bits, one_cell, cell_bits, instance_bits, filling_bits, card_of}
use Rattle.card_format.specs.Offsets.{offset}
use Rattle.card_format.proofs.LengthLaws.{length_known}
use Rattle.card_format.proofs.OffsetLaws.{offset_start, offset_end}

-- ONE CELL AFTER THE OTHER
cell_bits_step : (k i : ℕ) (s : Instance) → 0 < k →
    cell_bits k i s ≡ one_cell s.n s.root i (weight_at s i) (mark_at s i) ++ cell_bits (k - 1) (i + 1) s
unfolding cell_bits
cell_bits_step zero i s h = absurd (omega arith)
cell_bits_step (suc k) i s h = let e : suc k - 1 ≡ k = omega arith in rw (e, add-one i)

pub cell_bits_none : (i : ℕ) (s : Instance) → cell_bits 0 i s ≡ []
unfolding cell_bits
cell_bits_none i s = refl

-- the next cell of a loop that goes upwards over full arrays
pub next_cell : (n r b : ℕ) (ws ms : List ℕ) (i : ℕ) → i < cells → length ws ≡ cells → length ms ≡ cells →
    let s = instance_with n r b ws ms in
    cell_bits (cells - i) i s ≡ one_cell n r i (get_or ws i 0) (get_or ms i 0) ++ cell_bits (cells - (i + 1)) (i + 1) s
next_cell n r b ws ms i h lw lm =
    let e : cells - i - 1 ≡ cells - (i + 1) = omega arith in
    let w : get_or ws i 0 ≡ get_or ws i no_arc = default ws i 0 no_arc (omega arith) in
    rw (w, ← e) (cell_bits_step (cells - i) i (instance_with n r b ws ms) (omega arith))

-- the budget is not among them
pub cell_bits_budget : (k i n r b c : ℕ) (ws ms : List ℕ) → cell_bits k i (instance_with n r b ws ms) ≡ cell_bits k i (instance_with n r c ws ms)
unfolding cell_bits
cell_bits_budget zero i n r b c ws ms = refl
cell_bits_budget (suc k) i n r b c ws ms = rw (cell_bits_budget k (suc i) n r b c ws ms)

-- HOW MANY
pub length_header : (n r b : ℕ) → length (header_bits n r b) ≡ header_width
length_header n r b = simp (length-append, length_bits_of)

pub length_pair : (w m : ℕ) → length (bits_of weight_width w ++ bits_of mark_width m) ≡ cell_width
length_pair w m = simp (length-append, length_bits_of)

length_one_cell : (t : Bool) (w m : ℕ) → length (cond t (bits_of weight_width w ++ bits_of mark_width m) []) ≡ cond t cell_width 0
length_one_cell true w m = length_pair w m
length_one_cell false w m = refl

-- the cells' bits reach from offset to offset
length_cell_bits : (k i : ℕ) (s : Instance) → offset s.n s.root i + length (cell_bits k i s) ≡ offset s.n s.root (i + k)
unfolding cell_bits offset
length_cell_bits zero i s = rw (add-zero i) (omega arith)
length_cell_bits (suc k) i s =
    let c = one_cell s.n s.root i (weight_at s i) (mark_at s i) in
    let e : i + suc k ≡ suc i + k = omega arith in
    let l = length_one_cell (on_card s.n s.root i) (weight_at s i) (mark_at s i) in
    rw e (omega (arith, length-append c (cell_bits k (suc i) s), l, length_cell_bits k (suc i) s))

module _ (s : Instance) (few : s.n ≤ max_vertices) (inside : s.root < s.n) where
  pub length_cells : header_width + length (cell_bits cells 0 s) ≡ bits_needed s.n
  length_cells =
      let e = rw (offset_start s.n s.root) at (length_cell_bits cells 0 s) in
      e ∙ offset_end s.n s.root few inside

  pub length_instance_bits : length (instance_bits s) ≡ bits_needed s.n
  unfolding instance_bits
  length_instance_bits =
      let h = header_bits s.n s.root s.budget in
      omega (arith, length-append h (cell_bits cells 0 s), length_header s.n s.root s.budget, length_cells)

-- ARE BITS
one_are_bits : (t : Bool) (w m : ℕ) → are_bits (cond t (bits_of weight_width w ++ bits_of mark_width m) []) ≡ true
unfolding all_of
one_are_bits true w m =
    are_bits_append (bits_of weight_width w) (bits_of mark_width m) (bits_of_are_bits weight_width w) (bits_of_are_bits mark_width m)
one_are_bits false w m = refl

cells_are_bits : (k i : ℕ) (s : Instance) → are_bits (cell_bits k i s) ≡ true
unfolding cell_bits
cells_are_bits zero i s = zeros_are_bits 0
cells_are_bits (suc k) i s =
    are_bits_append (one_cell s.n s.root i (weight_at s i) (mark_at s i)) (cell_bits k (suc i) s)
    (one_are_bits (on_card s.n s.root i) (weight_at s i) (mark_at s i)) (cells_are_bits k (suc i) s)

header_are_bits : (n r b : ℕ) → are_bits (header_bits n r b) ≡ true
header_are_bits n r b =
    are_bits_append (bits_of n_width n ++ bits_of root_width r) (bits_of budget_width b)
    (are_bits_append (bits_of n_width n) (bits_of root_width r) (bits_of_are_bits n_width n) (bits_of_are_bits root_width r))
    (bits_of_are_bits budget_width b)

pub instance_are_bits : (s : Instance) → are_bits (instance_bits s) ≡ true
unfolding instance_bits
instance_are_bits s =
    are_bits_append (header_bits s.n s.root s.budget) (cell_bits cells 0 s) (header_are_bits s.n s.root s.budget) (cells_are_bits cells 0 s)

-- a card that was written has these bits, and zeros behind them
module _ (s : Instance) (few : s.n ≤ max_vertices) (inside : s.root < s.n) where
  bits_long : length (instance_bits s ++ filling_bits s.n) ≡ 8 * bytes_needed s.n
  bits_long =
      let w = length_known s.n few in
      length-append (instance_bits s) (filling_bits s.n)
      ∙ omega (arith, length_instance_bits s few inside, length-replicate {A = ℕ} (8 * bytes_needed s.n - bits_needed s.n) 0, w.whole)

  pub card_bits_in : bits_in (card_of s) ≡ instance_bits s ++ filling_bits s.n
  unfolding card_of
  card_bits_in =
      bits_in_packed (bytes_needed s.n) (instance_bits s ++ filling_bits s.n) bits_long
      (are_bits_append (instance_bits s) (filling_bits s.n) (instance_are_bits s) (zeros_are_bits (8 * bytes_needed s.n - bits_needed s.n)))

-- FIELDS OF CELLS
-- a cell's two fields
abbrev pub pair : Instance → (i : ℕ) → List ℕ
pair s i = bits_of weight_width (weight_at s i) ++ bits_of mark_width (mark_at s i)

-- a field that is found in each cell, whatever follows it, is found in all of them
module _ (s : Instance) (a w o : ℕ) (v : ℕ → ℕ) (found : (i : ℕ) (ys : List ℕ) → field a w (pair s i ++ ys) ≡ v i) where
  head_again : (i : ℕ) (t : Bool) (ys zs : List ℕ) → cond t (field a w ((cond t (pair s i) [] ++ ys) ++ zs)) o ≡ cond t (v i) o
  head_again i true ys zs = rw (append_assoc (pair s i) ys zs) (found i (ys ++ zs))
  head_again i false ys zs = refl

  rest_again : (i : ℕ) (t : Bool) (ys zs : List ℕ) → let bs = (cond t (pair s i) [] ++ ys) ++ zs in cond t (drop cell_width bs) bs ≡ ys ++ zs
  rest_again i true ys zs =
      rw (append_assoc (pair s i) ys zs) (drop_at (pair s i) (ys ++ zs) cell_width (length_pair (weight_at s i) (mark_at s i)))
  rest_again i false ys zs = refl

  pub fields_again : (zs : List ℕ) (k i : ℕ) →
      cell_fields s.n s.root a w o k i (cell_bits k i s ++ zs) ≡ tabulate_from k i (λ j. cond (on_card s.n s.root j) (v j) o)
  unfolding cell_fields cell_bits tabulate_from
  fields_again zs zero i = refl
  fields_again zs (suc k) i =
      let t = on_card s.n s.root i in
      rw (head_again i t (cell_bits k (suc i) s) zs, rest_again i t (cell_bits k (suc i) s) zs)
      (ap (λ (l : List ℕ). cond t (v i) o ∷ l) (fields_again zs k (suc i)))

pub weight_found : (s : Instance) (i : ℕ) (ys : List ℕ) → field 0 weight_width (pair s i ++ ys) ≡ weight_at s i % 2 ^ weight_width
weight_found s i ys =
    rw (append_assoc (bits_of weight_width (weight_at s i)) (bits_of mark_width (mark_at s i)) ys)
    (field_read [] (bits_of mark_width (mark_at s i) ++ ys) 0 weight_width (weight_at s i) refl)

pub mark_found : (s : Instance) (i : ℕ) (ys : List ℕ) → field weight_width mark_width (pair s i ++ ys) ≡ mark_at s i % 2 ^ mark_width
mark_found s i ys =
    rw (append_assoc (bits_of weight_width (weight_at s i)) (bits_of mark_width (mark_at s i)) ys)
    (field_read (bits_of weight_width (weight_at s i)) ys weight_width mark_width (mark_at s i) (length_bits_of weight_width (weight_at s i)))
