-- The walk is made on the matrix of what remains, and its events are those of the instance. Assumes nothing.
use mathlib.Core.Path.{◌≡◌, refl, sym, ap, ◌∙◌, subst}
use mathlib.Core.List.{List, []}
use Prim.Native.Nat.{ℕ, ◌-◌}
use native.Mathlib.Omega.{arith}
use lib.ListN.{replicate}
use Rattle.instance.specs.Limits.{no_parent}
use Rattle.instance.specs.Instance.{instance_with}
use Rattle.instance.specs.Matrix.{matrix_instance}
use Rattle.instance.proofs.MatrixLaws.{matrix_budget, valid_matrix}
use Rattle.enumeration.specs.Events.{Event, events_from, events}
use Rattle.enumeration.specs.declared.Ended.TheVariants.{Complete}
use Rattle.enumeration.proofs.EventLaws.{sized_events_from}
use Rattle.enumeration.proofs.SameEvents.{matrix_events}
use Rattle.enumeration.proofs.WalkLaws.{tries_within}
use Rattle.backtracking.specs.Listing.{place, scan, Settling}
use Rattle.backtracking.proofs.SettlingLaws.{first_settling}
use Rattle.backtracking.proofs.BufferLaws.{lists_trees}
use Rattle.backtracking.proofs.list_trees.Goals as goal

pub remaining_matrix-m-requires : goal.remaining_matrix-m-requires
remaining_matrix-m-requires c =
    let a = c.args in
    (valid_matrix (instance_with a.n a.root a.budget a.weights.now a.marks.now) c.requires.0).small

pub settle-requires : goal.settle-requires
settle-requires c =
    let a = c.args in
    let s = instance_with a.n a.root a.budget a.weights.now a.marks.now in
    let made = c.remaining_matrix-m.ensures ∙ sym (matrix_budget a.n a.root a.budget a.weights.now a.marks.now) in
    (subst (λ (x : List ℕ). Settling x (replicate 32 no_parent) s.n s.root 0 0) (sym made) (first_settling s (valid_matrix s c.requires.0)), refl, omega (arith, c.requires.1))

pub returns : goal.returns
unfolding events
returns c =
    let a = c.args in
    let s = instance_with a.n a.root a.budget a.weights.now a.marks.now in
    let k = valid_matrix s c.requires.0 in
    let made = c.remaining_matrix-m.ensures ∙ sym (matrix_budget a.n a.root a.budget a.weights.now a.marks.now) in
    let at = place a.limit 0 Complete a.out.now in
    let whole : s.n - 0 ≡ s.n = omega arith in
    lists_trees s a.limit a.out.now _ c.settle.result (sized_events_from s.n s.n 0 s [] (omega arith)) (tries_within s a.limit _)
    (c.settle.ensures.scanned
    ∙ ap (λ (j : ℕ). scan s.n (events_from j 0 (matrix_instance s.n s.root s.budget c.remaining_matrix-m.result) []) at) whole
    ∙ ap (λ (x : List ℕ). scan s.n (events_from s.n 0 (matrix_instance s.n s.root s.budget x) []) at) made
    ∙ ap (λ (es : List Event). scan s.n es at) (matrix_events s k.root_below k.small))
