-- Short buffers are refused; else what planning found is displayed. Assumes nothing.
use mathlib.Core.Path.{sym, ◌∙◌}
use Rattle.std.proofs.Common.{rules}
use Rattle.states.proofs.ShowLaws.{states_shown}
use Rattle.commands.proofs.ValidLaws.{valid_fields, valid_parts}
use Rattle.board.specs.ModelOf.{instance_of}
use Rattle.planner.specs.Looking.{buffers}
use Rattle.planner.proofs.LookingLaws.{shows, looks_by_parts, valid_short, valid_shown, rooms}
use Rattle.planner.proofs.looking.look_valid.Goals as goal

pub is_too_short-requires : goal.is_too_short-requires
is_too_short-requires c = (valid_parts _ c.requires).n_high

pub returns-then-is_too_short : goal.returns-then-is_too_short
returns-then-is_too_short c =
    let a = c.args in
    let b = a.b.now in
    looks_by_parts b _ _ _ c.requires
    (valid_short (instance_of b) (buffers a.parents.now a.states.now a.cuts.now) (sym c.is_too_short.ensures ∙ c.if-is_too_short.true))

pub plan_instance-surveyed-requires : goal.plan_instance-surveyed-requires
plan_instance-surveyed-requires c = valid_fields _ c.requires

pub display-requires : goal.display-requires
display-requires c =
    let r = rooms _ _ _ _ (sym c.is_too_short.ensures ∙ c.if-is_too_short.false) in
    ((valid_parts _ c.requires).n_high, r.for_parents, r.for_states, r.for_cuts)

pub returns : goal.returns
returns c =
    let b = c.args.b.now in
    let s = c.plan_instance-surveyed in
    looks_by_parts b _ _ _ c.requires
    (valid_shown (instance_of b) _ _ _ (sym c.is_too_short.ensures ∙ c.if-is_too_short.false)
    (shows (instance_of b) s.result _ _ s.ensures c.display.ensures
    (states_shown (instance_of b) (valid_parts _ c.requires).n_high (search rules) s.result.used s.ensures.table)))
