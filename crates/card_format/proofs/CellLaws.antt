-- The cells of a card by their index: the fields that are read one after the other, and the first faulty cell.
-- Assumes nothing.
use mathlib.Core.Path.{◌≡◌, refl, ap, ◌∙◌, sym}
use mathlib.Core.Bool.{Bool, true, false, ◌&&◌, cond, true≢false}
use mathlib.Core.List.{List, [], ◌∷◌}
use mathlib.Core.Logic.{⊎_elim}
use Prim.Native.Nat.{ℕ, zero, suc, ◌+◌, ◌-◌, ◌^◌, ◌≤◌, ◌<◌}
use native.Mathlib.Omega.{arith}
use native.Mathlib.Numerals.{add-one}
use native.Mathlib.Nat.{add-zero, eq-or-lt_of_le}
use lib.Dec.{leb, eqb}
use lib.ListN.{length, get_or, drop}
use lib.Seq.{drop-drop}
use borrow.Author.Tests.{eqb-false, leb-true, le-leb, eq-eqb, ne_eqb}
use Rattle.base.specs.Lists.{tabulate_from, tabulate}
use Rattle.base.proofs.BoolLaws.{passed}
use Rattle.base.proofs.ListLaws.{length_tabulate, get_d_tabulate}
use Rattle.bits.specs.Bits.{field}
use Rattle.bits.proofs.FieldLaws.{field_drop}
use Rattle.instance.specs.Limits.{no_arc, free, cells, max_weight, banned}
use Rattle.instance.specs.Refusals.{bad_weight, bad_mark}
use Rattle.instance.specs.Valid.{cell_ok}
use Rattle.card_format.specs.Widths.{header_width, mark_width, cell_width}
use Rattle.card_format.specs.Card.{on_card, cell_fields, unused_mark, cell_refusal, cells_refusal}
use Rattle.card_format.specs.Offsets.{offset, cell_field}

-- FIELDS
next_rest : (b : Bool) (p : ℕ) (bs : List ℕ) → cond b (drop cell_width (drop p bs)) (drop p bs) ≡ drop (p + cond b cell_width 0) bs
next_rest true p bs = drop-drop cell_width p bs
next_rest false p bs = ap (λ (k : ℕ). drop k bs) (sym (add-zero p))

fields_from : (a w o n r : ℕ) (bs : List ℕ) (k i : ℕ) →
    cell_fields n r a w o k i (drop (offset n r i) bs) ≡ tabulate_from k i (cell_field n r a w o bs)
unfolding cell_fields cell_field offset tabulate_from
fields_from a w o n r bs zero i = refl
fields_from a w o n r bs (suc k) i =
    rw (field_drop (offset n r i) a w bs, next_rest (on_card n r i) (offset n r i) bs)
    (ap (λ (l : List ℕ). cond (on_card n r i) (field (offset n r i + a) w bs) o ∷ l) (fields_from a w o n r bs k (suc i)))

-- the fields that are read running through the cells are those at their offsets
pub fields_by_index : (a w o n r : ℕ) (bs : List ℕ) → cell_fields n r a w o cells 0 (drop header_width bs) ≡ tabulate cells (cell_field n r a w o bs)
unfolding offset tabulate
fields_by_index a w o n r bs = fields_from a w o n r bs cells 0

pub length_fields : (a w o n r : ℕ) (bs : List ℕ) → length (cell_fields n r a w o cells 0 (drop header_width bs)) ≡ cells
length_fields a w o n r bs = ap length (fields_by_index a w o n r bs) ∙ length_tabulate cells (cell_field n r a w o bs)

pub field_at : (a w o n r : ℕ) (bs : List ℕ) (i d : ℕ) → i < cells →
    get_or (cell_fields n r a w o cells 0 (drop header_width bs)) i d ≡ cell_field n r a w o bs i
field_at a w o n r bs i d h =
    ap (λ (l : List ℕ). get_or l i d) (fields_by_index a w o n r bs) ∙ get_d_tabulate cells (cell_field n r a w o bs) i d h

-- THE FIRST FAULTY CELL
-- a loop that goes through the cells: none is left; the cell at i is faulty; it is not
pub judged_none : (i : ℕ) (f g : ℕ → ℕ) → cells_refusal (tabulate_from 0 i f) (tabulate_from 0 i g) ≡ 0
unfolding cells_refusal tabulate_from
judged_none i f g = refl

judged_step : (k i : ℕ) (f g : ℕ → ℕ) → 0 < k → cells_refusal (tabulate_from k i f) (tabulate_from k i g)
    ≡ cond (eqb (cell_refusal (f i) (g i)) 0) (cells_refusal (tabulate_from (k - 1) (i + 1) f) (tabulate_from (k - 1) (i + 1) g)) (cell_refusal (f i) (g i))
unfolding cells_refusal tabulate_from
judged_step zero i f g h = absurd (omega arith)
judged_step (suc k) i f g h = let e : suc k - 1 ≡ k = omega arith in rw (e, add-one i)

pub judged_faulty : (k i : ℕ) (f g : ℕ → ℕ) → 0 < k → (cell_refusal (f i) (g i) ≡ 0 → ⊥) →
    cells_refusal (tabulate_from k i f) (tabulate_from k i g) ≡ cell_refusal (f i) (g i)
judged_faulty k i f g h z = judged_step k i f g h ∙ simp (ne_eqb (cell_refusal (f i) (g i)) 0 z)

pub judged_next : (k i : ℕ) (f g : ℕ → ℕ) → 0 < k → cell_refusal (f i) (g i) ≡ 0 →
    cells_refusal (tabulate_from k i f) (tabulate_from k i g) ≡ cells_refusal (tabulate_from (k - 1) (i + 1) f) (tabulate_from (k - 1) (i + 1) g)
judged_next k i f g h z = judged_step k i f g h ∙ simp (eq-eqb (cell_refusal (f i) (g i)) 0 z)

-- no cell is refused exactly if each passes
pub no_cell_refused : (k i : ℕ) (f g : ℕ → ℕ) → ((j : ℕ) → i ≤ j → j < i + k → cell_refusal (f j) (g j) ≡ 0) →
    cells_refusal (tabulate_from k i f) (tabulate_from k i g) ≡ 0
unfolding cells_refusal tabulate_from
no_cell_refused zero i f g h = refl
no_cell_refused (suc k) i f g h =
    rw (eq-eqb (cell_refusal (f i) (g i)) 0 (h i (omega arith) (omega arith))) (no_cell_refused k (suc i) f g (λ j p q. h j (omega arith) (omega arith)))

-- the first answer that is not 0 is 0, so both are
pub first_passes : (c rest : ℕ) → cond (eqb c 0) rest c ≡ 0 → (c ≡ 0) × (rest ≡ 0)
first_passes zero rest e = (refl, e)
first_passes (suc c) rest e = let q : suc c ≡ 0 = simp (ne_eqb (suc c) 0 (λ z. omega arith)) at e in absurd (omega arith)

pub each_passes : (k i : ℕ) (f g : ℕ → ℕ) → cells_refusal (tabulate_from k i f) (tabulate_from k i g) ≡ 0 →
    (j : ℕ) → i ≤ j → j < i + k → cell_refusal (f j) (g j) ≡ 0
unfolding cells_refusal tabulate_from
each_passes zero i f g e j p q = absurd (omega arith)
each_passes (suc k) i f g e j p q =
    let s = first_passes (cell_refusal (f i) (g i)) (cells_refusal (tabulate_from k (suc i) f) (tabulate_from k (suc i) g)) e in
    ⊎_elim (λ (z : i ≡ j). rw (← z) s.0) (λ (l : i < j). each_passes k (suc i) f g s.1 j (omega arith) (omega arith)) (eq-or-lt_of_le p)

-- A CELL THAT PASSES IS ONE THAT A VALID INSTANCE MAY HOLD
pub ok_passes : (w m : ℕ) → cell_ok w m ≡ true → cell_refusal w m ≡ 0
unfolding cell_ok cell_refusal
ok_passes w m = go (leb w max_weight) (eqb w no_arc) (eqb m free)
  where
    go : (a c z : Bool) → cond a (leb m banned) (c && z) ≡ true → ◌≡◌ {A = ℕ} (cond a (cond (eqb m unused_mark) bad_mark 0) (cond c (cond z 0 bad_mark) bad_weight)) 0
    go true c z e = let l = leb-true m banned e in rw (ne_eqb m unused_mark (λ q. omega arith))
    go false true true e = refl
    go false true false e = absurd (true≢false (sym e))
    go false false z e = absurd (true≢false (sym e))

pub passes_ok : (w m : ℕ) → m < 2 ^ mark_width → cell_refusal w m ≡ 0 → cell_ok w m ≡ true
unfolding cell_ok cell_refusal
passes_ok w m h = go (leb w max_weight) (eqb w no_arc) (eqb m free)
  where
    go : (a c z : Bool) → ◌≡◌ {A = ℕ} (cond a (cond (eqb m unused_mark) bad_mark 0) (cond c (cond z 0 bad_mark) bad_weight)) 0 → cond a (leb m banned) (c && z) ≡ true
    go true c z e = let q = eqb-false m unused_mark (passed (eqb m unused_mark) 6 0 e).0 in le-leb m banned (omega arith)
    go false true true e = refl
    go false true false e = absurd (omega arith)
    go false false z e = absurd (omega arith)

-- no answer but 0, 6 and 7
pub cell_refusal_most : (w m : ℕ) → cell_refusal w m ≤ bad_mark
unfolding cell_refusal
cell_refusal_most w m = go (leb w max_weight) (eqb m unused_mark) (eqb w no_arc) (eqb m free)
  where
    go : (a b c z : Bool) → cond a (cond b bad_mark 0) (cond c (cond z 0 bad_mark) bad_weight) ≤ bad_mark
    go true true c z = omega arith
    go true false c z = omega arith
    go false b true true = omega arith
    go false b true false = omega arith
    go false b false z = omega arith

pub cells_refusal_most : (ws ms : List ℕ) → cells_refusal ws ms ≤ bad_mark
unfolding cells_refusal
cells_refusal_most [] ms = omega arith
cells_refusal_most (w ∷ ws) [] = omega arith
cells_refusal_most (w ∷ ws) (m ∷ ms) = go (eqb (cell_refusal w m) 0) (cells_refusal_most ws ms)
  where
    go : (b : Bool) → cells_refusal ws ms ≤ bad_mark → cond b (cells_refusal ws ms) (cell_refusal w m) ≤ bad_mark
    go true h = h
    go false h = cell_refusal_most w m
