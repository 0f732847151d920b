-- Each way answers by its law: banned, a rival, or what was planned with the arc alone into its head. Assumes nothing.
use mathlib.Core.Path.{◌≡◌, refl, sym, ◌∙◌}
use Prim.Native.Nat.{ℕ, ◌≤◌, ◌<◌}
use native.Mathlib.Omega.{arith}
use borrow.Author.Tests.{eq-eqb, ne_eqb}
use Rattle.std.proofs.Common.{rules}
use Rattle.instance.specs.Limits.{max_vertices, max_records}
use Rattle.instance.specs.Instance.{mark}
use Rattle.commands.proofs.ValidLaws.{valid_fields}
use Rattle.board.specs.ModelOf.{model_of, instance_of}
use Rattle.board.specs.declared.Board.{Board}
use Rattle.planner.specs.Explaining.{explain_refusal}
use Rattle.planner.proofs.ExplainingLaws.{explainable, explainable_small, explainable_count, rival_budget, explains_banned, explains_rival, explains_priced}
use Rattle.planner.proofs.explaining.explain.Goals as goal

-- the arc has its ends below 32, and the board at most 200 records
record Ranges (b : Board) (t h : ℕ) : Type 0 where
  tail_low : t < max_vertices
  head_low : h < max_vertices
  n_high : b.n ≤ max_vertices
  few : b.count ≤ max_records

ranges : (b : Board) (t h a k : ℕ) → explain_refusal (model_of b) t h a k ≡ 0 → Ranges b t h
ranges b t h a k z =
    let x = explainable (model_of b) t h a k z in
    let n = explainable_small (model_of b) t h a k x in
    record {
      tail_low = omega (arith, x.tail_below, n);
      head_low = omega (arith, x.head_below, n);
      n_high = n;
      few = explainable_count (instance_of b) b.count b.records t h a k x;
    }

pub overflow_mul-tail : goal.overflow_mul-tail
overflow_mul-tail c = record { fits = omega (arith, (ranges _ _ _ _ _ c.requires).tail_low) }

pub overflow_add-tail : goal.overflow_add-tail
overflow_add-tail c = let r = ranges _ _ _ _ _ c.requires in record { fits = omega (arith, r.tail_low, r.head_low) }

pub bounds-b-tail : goal.bounds-b-tail
bounds-b-tail c = let r = ranges _ _ _ _ _ c.requires in omega (arith, r.tail_low, r.head_low)

-- BANNED
pub setter-requires : goal.setter-requires
setter-requires c = let r = ranges _ _ _ _ _ c.requires in (r.few, r.head_low)

pub returns-then-b-tail-eq-BANNED : goal.returns-then-b-tail-eq-BANNED
unfolding mark
returns-then-b-tail-eq-BANNED c =
    rw c.setter.ensures (explains_banned (model_of c.args.b.now) c.args.tail c.args.head _ (eq-eqb _ _ c.if-b-tail-eq-BANNED.true))

-- A RIVAL
pub rival-requires : goal.rival-requires
rival-requires c = (ranges _ _ _ _ _ c.requires).n_high

pub setter-requires-in-Some : goal.setter-requires-in-Some
setter-requires-in-Some c = let r = ranges _ _ _ _ _ c.requires in (r.few, r.head_low)

pub returns-in-Some : goal.returns-in-Some
unfolding mark
returns-in-Some c =
    let b = c.args.b.now in
    let found = c.in-Some.ensures.some in
    rw c.setter-in-Some.ensures
    (explains_rival (model_of b) c.args.tail c.args.head _ c.in-Some.other.0 (ne_eqb _ _ c.if-b-tail-eq-BANNED.false)
    (found.0 ∙ rival_budget b.n b.root b.budget b.weights b.marks c.args.tail c.args.head) found.1)

-- PLANNED
pub plan_forced-plan-requires : goal.plan_forced-plan-requires
plan_forced-plan-requires c =
    ((valid_fields _ (explainable (model_of c.args.b.now) _ _ _ _ c.requires).is_valid), (ranges _ _ _ _ _ c.requires).head_low)

pub display_plan-requires : goal.display_plan-requires
display_plan-requires c =
    let x = explainable (model_of c.args.b.now) _ _ _ _ c.requires in
    ((ranges _ _ _ _ _ c.requires).n_high, x.for_parents, x.for_cuts)

pub returns : goal.returns
unfolding mark
returns c =
    let b = c.args.b.now in
    let none = sym (rival_budget b.n b.root b.budget b.weights b.marks c.args.tail c.args.head) ∙ c.in_default.ensures.none in
    explains_priced (model_of b) c.args.tail c.args.head c.plan_forced-plan.result _ _ _ (ne_eqb _ _ c.if-b-tail-eq-BANNED.false) refl (omega (arith, none))
    c.plan_forced-plan.ensures c.display_plan.ensures
