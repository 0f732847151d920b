-- The loop makes one call after the other; what it keeps is told by `CallsMade`. Assumes nothing.
use mathlib.Core.Path.{refl, sym, ◌∙◌}
use Rattle.instance.proofs.RefusalLaws.{not_0}
use Rattle.commands.proofs.ValidLaws.{valid_parts}
use Rattle.board.specs.ModelOf.{model_of}
use Rattle.planner.proofs.OpeningLaws.{opened_answer, opened_starts}
use Rattle.planner.proofs.ReplayingLaws.{long_lists, begun, again, not_opened, lists_refused, buffers_refused, ended}
use Rattle.planner.proofs.replaying.replay.Goals as goal

pub returns-in-Err : goal.returns-in-Err
returns-in-Err c =
    let e = c.in-Err.refusal in
    not_opened _ _ _ _ _ _ _ c.from.result (sym (opened_answer _ _ c.in-Err.ensures) ∙ sym c.from.ensures) (λ z. not_0 e (sym c.from.ensures ∙ z)) refl

pub returns-then-are_lists_short : goal.returns-then-are_lists_short
returns-then-are_lists_short c =
    lists_refused _ _ _ _ _ _ _ (sym (opened_answer _ _ c.in-Ok.ensures)) refl (sym c.are_lists_short.ensures ∙ c.if-are_lists_short.true)

pub is_too_short-requires : goal.is_too_short-requires
is_too_short-requires c = (valid_parts (model_of c.in-Ok.opened) (opened_starts _ _ c.in-Ok.ensures (sym (opened_answer _ _ c.in-Ok.ensures))).good).n_high

pub returns-then-is_too_short : goal.returns-then-is_too_short
returns-then-is_too_short c =
    let z = sym (opened_answer _ _ c.in-Ok.ensures) in
    buffers_refused _ _ _ _ _ _ _ z refl _ (opened_starts _ _ c.in-Ok.ensures z).same_n (sym c.is_too_short.ensures ∙ c.if-is_too_short.true)

pub loop-i-init : goal.loop-i-init
loop-i-init c =
    let s = opened_starts _ _ c.in-Ok.ensures (sym (opened_answer _ _ c.in-Ok.ensures)) in
    let f = long_lists _ _ _ _ (sym c.are_lists_short.ensures ∙ c.if-are_lists_short.false) in
    begun _ _ _ _ _ _ c.in-Ok.opened s.tied s.good s.same_n f.enough_firsts f.enough_seconds f.room (sym c.is_too_short.ensures ∙ c.if-is_too_short.false)

pub loop-i-preserved : goal.loop-i-preserved
loop-i-preserved c =
    let l = c.loop-i in
    let m = c.make_call in
    again _ _ _ _ _ _ l.b l.i l.answers _ _ _ c.loop-i-test.true l.invariant (rw (← c.call_at-call.ensures) m.ensures)

pub returns : goal.returns
returns c =
    let l = c.loop-i in
    ended _ _ _ _ _ _ l.b l.i l.answers _ _ c.look_valid.result c.loop-i-test.false l.invariant c.look_valid.ensures
    (sym (opened_answer _ _ c.in-Ok.ensures))
