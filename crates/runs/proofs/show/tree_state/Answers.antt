-- By which of the two is the other's parent, if any. Assumes nothing.
use mathlib.Core.Path.{ap, ◌∙◌}
use Prim.Native.Nat.{ℕ, ◌+◌, ◌*◌}
use lib.ListN.{get_or}
use Rattle.runs.specs.Show.{inside_state, outside_state}
use Rattle.runs.proofs.ShowLaws.{tree_down, tree_up, tree_out}
use Rattle.runs.proofs.show.tree_state.Goals as goal

pub returns-then-shown-j : goal.returns-then-shown-j
returns-then-shown-j c =
    let a = c.args in
    let p = c.requires in
    c.inside_state.ensures ∙ ap (λ (x : ℕ). inside_state x a.shown.now.total a.shown.now.limit) (a.shown.now.costs_are a.j p.1) ∙ tree_down a.shown.now.n a.shown.now.parents.now a.shown.now.places a.i a.j p.0 p.1 a.shown.now.keys.now a.shown.now.total a.shown.now.limit c.if-shown-j.true

pub returns-then-shown-i : goal.returns-then-shown-i
returns-then-shown-i c =
    let a = c.args in
    let p = c.requires in
    c.inside_state-then-shown-i.ensures ∙ ap (λ (x : ℕ). inside_state x a.shown.now.total a.shown.now.limit) (a.shown.now.costs_are a.i p.0) ∙ tree_up a.shown.now.n a.shown.now.parents.now a.shown.now.places a.i a.j p.0 p.1 a.shown.now.keys.now a.shown.now.total a.shown.now.limit c.if-shown-j.false c.if-shown-i.true

pub returns : goal.returns
returns c =
    let a = c.args in
    let p = c.requires in
    c.outside_state.ensures
    ∙ ap (λ (x : ℕ). outside_state (get_or a.shown.now.keys.now (32 * a.i + a.j) 0) x a.shown.now.total a.shown.now.limit) (a.shown.now.between_is a.i a.j p.0 p.1 p.2)
    ∙ tree_out a.shown.now.n a.shown.now.parents.now a.shown.now.places a.i a.j p.0 p.1 a.shown.now.keys.now a.shown.now.total a.shown.now.limit c.if-shown-j.false c.if-shown-i.false
