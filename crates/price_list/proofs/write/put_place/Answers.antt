-- The line of a place, or nothing. Assumes nothing.
use mathlib.Core.Path.{◌≡◌, sym, ◌∙◌}
use mathlib.Core.Bool.{true, false}
use mathlib.Core.List.{[]}
use Prim.Native.Nat.{ℕ, ◌/◌, ◌%◌}
use Rattle.text.proofs.BufferLaws.{puts_none}
use Rattle.price_format.specs.Lines.{line_text}
use Rattle.price_format.specs.Writing.{is_written, place_text}
use Rattle.price_list.proofs.write.put_place.Goals as goal

written : (n r k w : ℕ) → is_written n r k w ≡ true → place_text n r k w ≡ line_text (k / n) (k % n) w
unfolding place_text
written n r k w e = rw e

unwritten : (n r k w : ℕ) → is_written n r k w ≡ false → place_text n r k w ≡ []
unfolding place_text
unwritten n r k w e = rw e

pub put_three-requires : goal.put_three-requires
put_three-requires c =
    let l = c.is_written in
    rw (written _ _ _ _ (sym l.ensures ∙ c.if-is_written.true)) at c.requires.1

pub returns-then-is_written : goal.returns-then-is_written
returns-then-is_written c =
    let l = c.is_written in
    rw (written _ _ _ _ (sym l.ensures ∙ c.if-is_written.true)) c.put_three.ensures

pub returns : goal.returns
returns c =
    let l = c.is_written in
    rw (unwritten _ _ _ _ (sym l.ensures ∙ c.if-is_written.false)) (puts_none _ _)
