-- The cuts have room. Assumes nothing.
use mathlib.Core.Path.{◌≡◌, sym, ◌∙◌}
use lib.ListN.{length}
use Rattle.std.proofs.Common.{rules}
use Rattle.std.proofs.lemmas.List.{length-take-le}
use Rattle.planner.proofs.displaying.display_plan.Goals as goal

pub copy_from_slice-requires-2 : goal.copy_from_slice-requires-2
copy_from_slice-requires-2 c =
    let long : length c.args.plan.cuts ≡ 122 = search rules in
    length-take-le 122 c.args.cuts.now c.requires.2 ∙ sym long
