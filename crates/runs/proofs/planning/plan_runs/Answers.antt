-- Refused with nothing touched, or the graph is valid and what is found is shown. Assumes nothing.
use mathlib.Core.Path.{refl, sym, subst}
use mathlib.Core.List.{List}
use Prim.Native.Nat.{ℕ}
use lib.ListN.{length}
use Rattle.std.proofs.lemmas.Result.{err_from_is_err_and}
use Rattle.instance.specs.declared.Outcome.TheVariants.{NoTree}
use Rattle.spanning.specs.Graph.{graph_of}
use Rattle.spanning.specs.KeyTables.{KeysOf}
use Rattle.spanning.proofs.KeyTableLaws.{table_keys}
use Rattle.instance.proofs.RefusalLaws.{not_0}
use Rattle.runs.proofs.RefusalLaws.{not_refused, states_room, costs_room}
use Rattle.runs.proofs.AcceptLaws.{plans_refused, plans_shown, showable, accepts_tree, accepts_none}
use Rattle.runs.proofs.planning.plan_runs.Goals as goal

pub returns-in_err-check_runs : goal.returns-in_err-check_runs
returns-in_err-check_runs c =
    let a = c.args in
    let p = err_from_is_err_and c.from_residual.result c.from_residual.ensures.1 in
    rw (p.1, p.2)
    (plans_refused (graph_of a.count a.prices.now a.marks.now) a.budget a.states.now a.states.now a.replacements.now a.replacements.now _ c.in_err-check_runs.ensures
    (not_0 c.in_err-check_runs.field-0.0) refl refl)

pub key_table-keys-requires : goal.key_table-keys-requires
key_table-keys-requires c =
    let a = c.args in
    not_refused (graph_of a.count a.prices.now a.marks.now) (length a.states.now) (length a.replacements.now) (sym c.in_ok-check_runs.ensures)

pub cheapest_tree-requires : goal.cheapest_tree-requires
cheapest_tree-requires c =
    let a = c.args in
    let v = not_refused (graph_of a.count a.prices.now a.marks.now) (length a.states.now) (length a.replacements.now) (sym c.in_ok-check_runs.ensures) in
    (v.some, v.small)

pub show_tree-requires : goal.show_tree-requires
show_tree-requires c =
    let a = c.args in
    let g = graph_of a.count a.prices.now a.marks.now in
    let none = sym c.in_ok-check_runs.ensures in
    let v = not_refused g (length a.states.now) (length a.replacements.now) none in
    let k = subst (λ (l : List ℕ). KeysOf g a.count l) (sym c.key_table-keys.ensures) (table_keys g v) in
    let t = c.in-Some.ensures in
    showable g v c.in-Some.parents t.places (t.cheapest g k) (length a.states.now) (length a.replacements.now)
    (states_room g (length a.states.now) (length a.replacements.now) none) (costs_room g (length a.states.now) (length a.replacements.now) none)

pub returns-in-Some : goal.returns-in-Some
returns-in-Some c =
    let a = c.args in
    let g = graph_of a.count a.prices.now a.marks.now in
    let none = sym c.in_ok-check_runs.ensures in
    let v = not_refused g (length a.states.now) (length a.replacements.now) none in
    let k = subst (λ (l : List ℕ). KeysOf g a.count l) (sym c.key_table-keys.ensures) (table_keys g v) in
    let t = c.in-Some.ensures in
    let s = c.show_tree in
    plans_shown g a.budget a.states.now _ a.replacements.now _ none s.result
    (accepts_tree g v a.budget c.in-Some.parents t.places (t.cheapest g k) a.states.now _ a.replacements.now _ s.result c.key_table-keys.result
    c.key_table-keys.ensures s.ensures)

pub show_none-requires : goal.show_none-requires
show_none-requires c =
    let a = c.args in
    let g = graph_of a.count a.prices.now a.marks.now in
    let none = sym c.in_ok-check_runs.ensures in
    let v = not_refused g (length a.states.now) (length a.replacements.now) none in (
      v.small,
      v.weights_size,
      states_room g (length a.states.now) (length a.replacements.now) none,
      costs_room g (length a.states.now) (length a.replacements.now) none,
    )

pub returns-in-None : goal.returns-in-None
returns-in-None c =
    let a = c.args in
    let g = graph_of a.count a.prices.now a.marks.now in
    let none = sym c.in_ok-check_runs.ensures in
    let v = not_refused g (length a.states.now) (length a.replacements.now) none in
    let k = subst (λ (l : List ℕ). KeysOf g a.count l) (sym c.key_table-keys.ensures) (table_keys g v) in
    plans_shown g a.budget a.states.now _ a.replacements.now _ none NoTree
    (accepts_none g v a.budget (c.in-None.ensures g k) a.states.now _ a.replacements.now _ c.show_none.ensures)
