-- Where the cells stand, and where they end. Assumes nothing.
--
-- That the last cell ends at `bits-needed n` is a count of the cells on the card: (n − 1)². In the row of a tail t,
-- the heads below n are on the card, without t itself and the root: n − 2 cells, or n − 1 where t is the root. Each
-- row is a run of stretches that are wholly on the card or wholly off it.
use mathlib.Core.Path.{◌≡◌, refl, ◌∙◌}
use mathlib.Core.Bool.{Bool, true, false, cond}
use Prim.Native.Nat.{ℕ, zero, suc, ◌+◌, ◌*◌, ◌-◌, ◌/◌, ◌%◌, ◌≤◌, ◌<◌}
use native.Mathlib.Omega.{arith}
use native.Mathlib.Numerals.{add-one}
use native.Mathlib.Nat.{add-zero, add-suc, suc-mul, mul-suc, zero-mul, mul-zero}
use native.Mathlib.Decide.{dec_lt}
use borrow.Author.Tests.{lt-ltb, le-ltb, eq-eqb, ne_eqb}
use Rattle.instance.specs.Limits.{max_vertices, cells}
use Rattle.instance.specs.Instance.{can_be_arc}
use Rattle.card_format.specs.Widths.{header_width, cell_width}
use Rattle.card_format.specs.Card.{on_card, bits_needed}
use Rattle.card_format.specs.Offsets.{offset}

pub offset_next : (n r i : ℕ) → offset n r (i + 1) ≡ offset n r i + cond (on_card n r i) cell_width 0
unfolding offset
offset_next n r i = rw add-one

pub offset_start : (n r : ℕ) → offset n r 0 ≡ header_width
unfolding offset
offset_start n r = refl

step_le : (b : Bool) (x : ℕ) → x ≤ x + cond b cell_width 0
step_le true x = omega arith
step_le false x = omega arith

offset_add : (d n r i : ℕ) → offset n r i ≤ offset n r (i + d)
unfolding offset
offset_add zero n r i = rw (add-zero i) (omega arith)
offset_add (suc d) n r i = rw (add-suc i d) (omega (arith, offset_add d n r i, step_le (on_card n r (i + d)) (offset n r (i + d))))

pub offset_up : (n r i m : ℕ) → i ≤ m → offset n r i ≤ offset n r m
offset_up n r i m h =
    let s : m ≡ i + (m - i) = omega arith in
    rw s (offset_add (m - i) n r i)

-- a cell on the card ends before a later one begins
pub offset_within : (n r i m : ℕ) → i < m → on_card n r i ≡ true → offset n r i + cell_width ≤ offset n r m
offset_within n r i m h e =
    let s : m ≡ (i + 1) + (m - (i + 1)) = omega arith in
    let q : offset n r (i + 1) ≡ offset n r i + cell_width = offset_next n r i ∙ rw e in
    rw s (omega (arith, offset_add (m - (i + 1)) n r (i + 1), q))

-- ON THE CARD OR OFF IT
pub on_card_on : (n r i : ℕ) → i / 32 < n → i % 32 < n → (i / 32 ≡ i % 32 → ⊥) → (i % 32 ≡ r → ⊥) → on_card n r i ≡ true
unfolding on_card can_be_arc
on_card_on n r i a b c d = simp (lt-ltb _ _ a, lt-ltb _ _ b, ne_eqb _ _ c, ne_eqb _ _ d)

off_tail : (n r i : ℕ) → n ≤ i / 32 → on_card n r i ≡ false
unfolding on_card can_be_arc
off_tail n r i a = simp (le-ltb _ _ a)

off_head : (n r i : ℕ) → i / 32 < n → n ≤ i % 32 → on_card n r i ≡ false
unfolding on_card can_be_arc
off_head n r i a b = simp (lt-ltb _ _ a, le-ltb _ _ b)

off_same : (n r i : ℕ) → i / 32 < n → i % 32 < n → i / 32 ≡ i % 32 → on_card n r i ≡ false
unfolding on_card can_be_arc
off_same n r i a b c = simp (lt-ltb _ _ a, lt-ltb _ _ b, eq-eqb _ _ c)

off_root : (n r i : ℕ) → i / 32 < n → i % 32 < n → (i / 32 ≡ i % 32 → ⊥) → i % 32 ≡ r → on_card n r i ≡ false
unfolding on_card can_be_arc
off_root n r i a b c d = simp (lt-ltb _ _ a, lt-ltb _ _ b, ne_eqb _ _ c, eq-eqb _ _ d)

-- THE COUNT
module _ (n r : ℕ) where
  run : (b : Bool) (d x : ℕ) → ((i : ℕ) → x ≤ i → i < x + d → on_card n r i ≡ b) → offset n r (x + d) ≡ offset n r x + d * cond b cell_width 0
  unfolding offset
  run b zero x h = rw (add-zero x) (omega (arith, zero-mul (cond b cell_width 0)))
  run b (suc d) x h =
      let e = run b d x (λ i p q. h i p (omega arith)) in
      rw (add-suc x d, h (x + d) (omega arith) (omega arith)) (omega (arith, e, suc-mul d (cond b cell_width 0)))

  on_run : (x y : ℕ) → x ≤ y → ((i : ℕ) → x ≤ i → i < y → on_card n r i ≡ true) → offset n r y ≡ offset n r x + cell_width * (y - x)
  on_run x y l h =
      let s : x + (y - x) ≡ y = omega arith in
      let e = run true (y - x) x (λ i p q. h i p (omega arith)) in
      let f : offset n r y ≡ offset n r x + (y - x) * cell_width = rw s at e in
      omega arith

  off_run : (x y : ℕ) → x ≤ y → ((i : ℕ) → x ≤ i → i < y → on_card n r i ≡ false) → offset n r y ≡ offset n r x
  off_run x y l h =
      let s : x + (y - x) ≡ y = omega arith in
      let e = run false (y - x) x (λ i p q. h i p (omega arith)) in
      let f : offset n r y ≡ offset n r x + (y - x) * 0 = rw s at e in
      omega (arith, mul-zero (y - x))

module _ (n r : ℕ) (few : n ≤ max_vertices) (inside : r < n) where
  -- the row of a tail, between two of its heads that are left out
  between : (t x y : ℕ) → t < n → x ≤ y → y ≤ n → ((h : ℕ) → x ≤ h → h < y → h ≡ t → ⊥) → ((h : ℕ) → x ≤ h → h < y → h ≡ r → ⊥) →
      offset n r (32 * t + y) ≡ offset n r (32 * t + x) + cell_width * (y - x)
  between t x y l p q a b =
      let e = on_run n r (32 * t + x) (32 * t + y) (omega arith)
      (λ i u v. on_card_on n r i (omega arith) (omega arith)
      (λ z. a (i - 32 * t) (omega arith) (omega arith) (omega arith)) (λ z. b (i - 32 * t) (omega arith) (omega arith) (omega arith))) in
      omega arith

  -- one head that is left out
  skip : (t h : ℕ) → h < 32 → on_card n r (32 * t + h) ≡ false → offset n r (32 * t + (h + 1)) ≡ offset n r (32 * t + h)
  skip t h l e =
      off_run n r (32 * t + h) (32 * t + (h + 1)) (omega arith) (λ i u v. let z : i ≡ 32 * t + h = omega arith in rw z e)

  -- the heads from n on
  rest : (t : ℕ) → t < n → offset n r (32 * t + 32) ≡ offset n r (32 * t + n)
  rest t l = off_run n r (32 * t + n) (32 * t + 32) (omega arith) (λ i u v. off_head n r i (omega arith) (omega arith))

  left_out : (t : ℕ) → t < n → (on_card n r (32 * t + t) ≡ false)
  left_out t l = off_same n r (32 * t + t) (omega arith) (omega arith) (omega arith)

  root_out : (t : ℕ) → t < n → (t ≡ r → ⊥) → on_card n r (32 * t + r) ≡ false
  root_out t l d = off_root n r (32 * t + r) (omega arith) (omega arith) (λ z. d (omega arith)) (omega arith)

  -- two heads left out, the lower one first
  two_out : (t x y : ℕ) → t < n → x < y → y < n → ((h : ℕ) → (h ≡ x → ⊥) → (h ≡ y → ⊥) → (h ≡ t → ⊥) × (h ≡ r → ⊥)) →
      on_card n r (32 * t + x) ≡ false → on_card n r (32 * t + y) ≡ false → offset n r (32 * t + 32) ≡ offset n r (32 * t) + cell_width * (n - 2)
  two_out t x y l p q only a b =
      let z : 32 * t + 0 ≡ 32 * t = omega arith in
      let e1 : offset n r (32 * t + x) ≡ offset n r (32 * t) + cell_width * (x - 0) =
      rw z at (between t 0 x l (omega arith) (omega arith) (λ h u v. (only h (λ w. omega arith) (λ w. omega arith)).0) (λ h u v. (only h (λ w. omega arith) (λ w. omega arith)).1)) in
      let e2 = skip t x (omega arith) a in
      let e3 = between t (x + 1) y l (omega arith) (omega arith) (λ h u v. (only h (λ w. omega arith) (λ w. omega arith)).0) (λ h u v. (only h (λ w. omega arith) (λ w. omega arith)).1) in
      let e4 = skip t y (omega arith) b in
      let e5 = between t (y + 1) n l (omega arith) (omega arith) (λ h u v. (only h (λ w. omega arith) (λ w. omega arith)).0) (λ h u v. (only h (λ w. omega arith) (λ w. omega arith)).1) in
      let e6 = rest t l in
      omega arith

  row : (t : ℕ) → t < n → (t ≡ r → ⊥) → offset n r (32 * t + 32) ≡ offset n r (32 * t) + cell_width * (n - 2)
  row t l d = go (dec_lt t r)
    where
      go : Dec (t < r) → offset n r (32 * t + 32) ≡ offset n r (32 * t) + cell_width * (n - 2)
      go (yes u) = two_out t t r l u inside (λ h a b. (a, b)) (left_out t l) (root_out t l d)
      go (no u) = two_out t r t l (omega arith) l (λ h a b. (b, a)) (root_out t l d) (left_out t l)

  -- the root's own row
  root_row : offset n r (32 * r + 32) ≡ offset n r (32 * r) + cell_width * (n - 1)
  root_row =
      let z : 32 * r + 0 ≡ 32 * r = omega arith in
      let e1 : offset n r (32 * r + r) ≡ offset n r (32 * r) + cell_width * (r - 0) =
      rw z at (between r 0 r inside (omega arith) (omega arith) (λ h u v w. omega arith) (λ h u v w. omega arith)) in
      let e2 = skip r r (omega arith) (left_out r inside) in
      let e3 = between r (r + 1) n inside (omega arith) (omega arith) (λ h u v w. omega arith) (λ h u v w. omega arith) in
      let e4 = rest r inside in
      omega arith

  rows_before : (t : ℕ) → t ≤ r → offset n r (32 * t) ≡ header_width + cell_width * (t * (n - 2))
  rows_before zero h = offset_start n r ∙ omega (arith, zero-mul (n - 2))
  rows_before (suc t) h =
      let e : 32 * suc t ≡ 32 * t + 32 = omega arith in
      rw e (omega (arith, row t (omega arith) (λ z. omega arith), rows_before t (omega arith), suc-mul t (n - 2)))

  from_root : (t : ℕ) → t ≡ r → offset n r (32 * suc t) ≡ header_width + cell_width * (t * (n - 2) + (n - 1))
  from_root t q =
      let e : 32 * suc r ≡ 32 * r + 32 = omega arith in
      rw (q, e) (omega (arith, root_row, rows_before r (omega arith)))

  rows_behind : (t : ℕ) → r ≤ t → t < n → offset n r (32 * suc t) ≡ header_width + cell_width * (t * (n - 2) + (n - 1))
  rows_behind zero h l = from_root zero (omega arith)
  rows_behind (suc t) h l = go (dec_lt r (suc t)) (rows_behind t)
    where
      go : Dec (r < suc t) → (r ≤ t → t < n → offset n r (32 * suc t) ≡ header_width + cell_width * (t * (n - 2) + (n - 1)))
          → offset n r (32 * suc (suc t)) ≡ header_width + cell_width * (suc t * (n - 2) + (n - 1))
      go (yes u) ih =
          let e : 32 * suc (suc t) ≡ 32 * suc t + 32 = omega arith in
          rw e (omega (arith, row (suc t) l (λ z. omega arith), ih (omega arith) (omega arith), suc-mul t (n - 2)))
      go (no u) ih = from_root (suc t) (omega arith)

square : (m : ℕ) → m * (m - 1) + m ≡ m * m
square zero = omega arith
square (suc m) =
    let e : suc m - 1 ≡ m = omega arith in
    rw e (omega (arith, mul-suc (suc m) m))

-- the cells end where the filling begins
pub offset_end : (n r : ℕ) → n ≤ max_vertices → r < n → offset n r cells ≡ bits_needed n
unfolding bits_needed
offset_end n r few inside =
    let s : suc (n - 1) ≡ n = omega arith in
    let d : n - 2 ≡ n - 1 - 1 = omega arith in
    let e : offset n r (32 * n) ≡ header_width + cell_width * ((n - 1) * (n - 2) + (n - 1)) = rw s at (rows_behind n r few inside (n - 1) (omega arith) (omega arith)) in
    let f = off_run n r (32 * n) cells (omega arith) (λ i u v. off_tail n r i (omega arith)) in
    let q : (n - 1) * (n - 2) + (n - 1) ≡ (n - 1) * (n - 1) = rw d (square (n - 1)) in
    omega arith
