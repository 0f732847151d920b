-- The row's own number, its list by the school's row, its place by the tail. Assumes nothing.
use mathlib.Core.Path.{◌≡◌, refl, sym, ap, ◌∙◌}
use mathlib.Core.Bool.{Bool, true, false, cond}
use mathlib.Core.List.{List}
use mir.Val.{bool_byte}
use Prim.Native.Nat.{ℕ, ◌+◌, ◌*◌, ◌-◌, ◌≤◌}
use native.Mathlib.Omega.{arith}
use lib.ListN.{length, take, drop}
use borrow.Author.Tests.{ne_eqb}
use Rattle.price_row.specs.Row.{has_price, is_own}
use Rattle.price_row.proofs.RowLaws.{part_is_row}
use Rattle.feed_planner.proofs.RowLaws.{row_within}
use Rattle.feed_planner.proofs.rows.feed_row_used.Goals as goal

as_number : (x : Bool) → bool_byte x ≡ cond x 1 0
as_number true = refl
as_number false = refl

own : (n t : ℕ) (ps : List ℕ) → has_price (take (t * n + n - t * n) (drop (t * n) ps)) ≡ is_own n t ps
unfolding is_own
own n t ps = ap has_price (part_is_row n t ps)

inside : (c : goal.Else-answer-ne0) → let a = c.args in (a.tail * a.n + a.n ≤ 1024) × (a.tail * a.n + a.n ≤ length a.school.now)
inside c = row_within _ _ _ _ (sym c.row_used.ensures.number ∙ c.if-answer-ne0.false)

pub returns-then-answer-ne0 : goal.returns-then-answer-ne0
returns-then-answer-ne0 c =
    let u = c.row_used in
    record { number = u.ensures.number; list = rw (ne_eqb _ 0 c.if-answer-ne0.true); start = rw (ne_eqb _ 0 c.if-answer-ne0.true) }

pub overflow_mul-start : goal.overflow_mul-start
overflow_mul-start c = let i = (inside c).0 in omega arith

pub overflow_cast-start : goal.overflow_cast-start
overflow_cast-start c = let i = (inside c).0 in omega arith

pub overflow_add-end : goal.overflow_add-end
overflow_add-end c = let i = (inside c).0 in omega arith

pub offset_bounds-school-start : goal.offset_bounds-school-start
offset_bounds-school-start c = let i = (inside c).0 in omega arith

pub returns : goal.returns
returns c =
    let u = c.row_used in
    let a = c.args in
    record {
      number = sym c.if-answer-ne0.false ∙ u.ensures.number;
      list = as_number c.has_price.result ∙ ap (λ (x : Bool). cond x 1 0) (c.has_price.ensures ∙ own a.n a.tail a.school.now);
      start = refl;
    }

pub slice_bounds-has_price-end : goal.slice_bounds-has_price-end
slice_bounds-has_price-end c = (inside c).1
