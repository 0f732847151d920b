-- `print_board` is safe: the numbers of a valid board are short, and the trees that are listed lie within the buffer.
-- Assumes nothing.
use mathlib.Core.Path.{ap}
use native.Mathlib.Omega.{arith}
use Rattle.instance.proofs.ValidLaws.{valid_some, valid_small, valid_root, valid_budget}
use Rattle.commands.proofs.ValidLaws.{valid_fields}
use Rattle.board.specs.ModelOf.{model_of, instance_of}
use Rattle.planner.specs.Enumerating.{listing_from}
use Rattle.print_listing.proofs.BoardLaws.{listed_room}
use Rattle.print_listing.proofs.LineLaws.{counted}
use Rattle.print_listing.proofs.print_board.Goals as goal

pub print_heading-requires : goal.print_heading-requires
print_heading-requires c =
    let s = instance_of c.args.b in
    let v = valid_fields (model_of c.args.b) c.requires.good in
    (valid_small s v, valid_root s v, valid_budget s v)

pub overflow_mul-end : goal.overflow_mul-end
overflow_mul-end c =
    let l = c.list_plans-listing in
    let i = c.in-Ok in
    let r = listed_room c.args.b _ _ (listing_from l.result) i.listed.ended i.listed.trees i.listed.tries c.requires.good l.ensures (ap listing_from i.is) in
    omega (arith, l.auto.out)

-- the trees lie within the buffer, whose length stays
pub slice_bounds-trees-end : goal.slice_bounds-trees-end
slice_bounds-trees-end c =
    let l = c.list_plans-listing in
    let i = c.in-Ok in
    let r = listed_room c.args.b _ _ (listing_from l.result) i.listed.ended i.listed.trees i.listed.tries c.requires.good l.ensures (ap listing_from i.is) in
    omega (arith, l.auto.out)

pub slice_bounds-print_trees-end : goal.slice_bounds-print_trees-end
slice_bounds-print_trees-end c =
    let l = c.list_plans-listing in
    let i = c.in-Ok in
    let r = listed_room c.args.b _ _ (listing_from l.result) i.listed.ended i.listed.trees i.listed.tries c.requires.good l.ensures (ap listing_from i.is) in
    counted _ _ (omega (arith, l.auto.out))

pub print_trees-requires : goal.print_trees-requires
print_trees-requires c =
    let s = instance_of c.args.b in
    let v = valid_fields (model_of c.args.b) c.requires.good in
    (c.requires.long, c.requires.bounded, valid_some s v, valid_small s v)
