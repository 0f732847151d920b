-- What is read of the first bits of a list is the same whatever follows them: a field, the cells of a card, and so the
-- instance. A history card has a plain card at its front (InnerCard), and an input that is too long has there all that
-- is looked at (LongHistory). Assumes nothing.
use mathlib.Core.Path.{◌≡◌, refl, sym, ◌∙◌}
use mathlib.Core.Bool.{Bool, true, false, cond}
use mathlib.Core.List.{List, ◌++◌}
use Prim.Native.Nat.{ℕ, ◌+◌, ◌≤◌, ◌<◌}
use native.Mathlib.Omega.{arith}
use lib.ListN.{length, drop, length-drop}
use lib.Seq.{take-append-le, drop-append-le}
use Rattle.base.proofs.ListLaws.{tabulate_is}
use Rattle.bits.specs.Bits.{field}
use Rattle.instance.specs.Limits.{no_arc, free, cells}
use Rattle.card_format.specs.Widths.{n_width, root_width, budget_width, header_width, weight_width, mark_width, cell_width}
use Rattle.card_format.specs.Card.{n_in, root_in, on_card, cell_fields, instance_of_bits}
use Rattle.card_format.specs.Offsets.{offset, cell_field}
use Rattle.card_format.proofs.OffsetLaws.{offset_within}
use Rattle.card_format.proofs.CellLaws.{fields_by_index, length_fields, field_at}

pub field_front : (a w : ℕ) (xs zs : List ℕ) → a + w ≤ length xs → field a w (xs ++ zs) ≡ field a w xs
unfolding field
field_front a w xs zs h =
    let l : w ≤ length (drop a xs) = rw (length-drop a xs) (omega arith) in
    rw (drop-append-le a xs zs (omega arith), take-append-le w (drop a xs) zs l)

-- a field of every cell, where the cells end within the first bits
module _ (n r a w o : ℕ) (xs zs : List ℕ) (narrow : a + w ≤ cell_width) (fits : offset n r cells ≤ length xs) where
  cell_front : (i : ℕ) → i < cells → (t : Bool) → on_card n r i ≡ t →
      cond t (field (offset n r i + a) w (xs ++ zs)) o ≡ cond t (field (offset n r i + a) w xs) o
  cell_front i h true q = let e = offset_within n r i cells h q in field_front (offset n r i + a) w xs zs (omega arith)
  cell_front i h false q = refl

  pub fields_front : cell_fields n r a w o cells 0 (drop header_width (xs ++ zs)) ≡ cell_fields n r a w o cells 0 (drop header_width xs)
  unfolding cell_field
  fields_front =
      tabulate_is cells (cell_fields n r a w o cells 0 (drop header_width (xs ++ zs))) (cell_field n r a w o xs) 0
      (length_fields a w o n r (xs ++ zs)) (λ i h. field_at a w o n r (xs ++ zs) i 0 h ∙ cell_front i h (on_card n r i) refl)
      ∙ sym (fields_by_index a w o n r xs)

pub instance_front : (xs zs : List ℕ) → header_width ≤ length xs → offset (n_in xs) (root_in xs) cells ≤ length xs →
    instance_of_bits (xs ++ zs) ≡ instance_of_bits xs
instance_front xs zs h f =
    rw (
      field_front 0 n_width xs zs (omega arith),
      field_front n_width root_width xs zs (omega arith),
      field_front (n_width + root_width) budget_width xs zs (omega arith),
      fields_front (n_in xs) (root_in xs) 0 weight_width no_arc xs zs (omega arith) f,
      fields_front (n_in xs) (root_in xs) weight_width mark_width free xs zs (omega arith) f,
    )
