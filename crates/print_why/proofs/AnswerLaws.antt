-- The board of a card that opens is valid, and an answer of it comes with no more cuts than there is room for. Assumes
-- nothing.
use mathlib.Core.Path.{◌≡◌, sym, ap, ◌∙◌}
use mathlib.Core.Bool.{Bool, true, false}
use mathlib.Core.List.{List}
use Prim.Native.Nat.{ℕ, zero, suc, ◌≤◌}
use native.Mathlib.Omega.{arith}
use lib.Dec.{eqb}
use lib.ListN.{length}
use Rattle.instance.specs.Limits.{max_vertices, max_cuts, max_records, banned}
use Rattle.instance.specs.Instance.{Instance, mark}
use Rattle.instance.specs.Arborescence.{other_pinned}
use Rattle.instance.specs.Cuts.{Cut}
use Rattle.instance.specs.States.{outcome}
use Rattle.instance.specs.declared.Outcome.{Outcome}
use Rattle.instance.specs.declared.Outcome.TheVariants.{Plan, Over, NoTree}
use Rattle.witness.specs.Witness.{forced_instance, deleted_instance}
use Rattle.survey.specs.FirstPlan.{CutsShown}
use Rattle.commands.specs.Valid.{valid}
use Rattle.commands.proofs.ValidLaws.{valid_parts}
use Rattle.board.specs.ModelOf.{model_of, instance_of}
use Rattle.board.specs.declared.Answered.{Answered}
use Rattle.board.specs.declared.Board.{Board}
use Rattle.board.proofs.ModelOfLaws.{length_history}
use Rattle.planner.specs.declared.Reason.{Reason}
use Rattle.planner.specs.declared.View.{View}
use Rattle.planner.specs.Opening.{opened_from}
use Rattle.planner.specs.Explaining.{TreeBuffers, ShowsPlan, ExplainsArc, ExplainsBy, Explains, PlansWithoutAt, PlansWithout}
use Rattle.planner.proofs.OpeningLaws.{opened_answer, opened_starts}
use Rattle.print_why.specs.Answers.{reason_pairs, view_pairs}

pub opened_valid : (ws : List ℕ) (o : Answered) → o ≡ opened_from ws → o.answer ≡ 0 → valid (model_of o.board) ≡ true
opened_valid ws o e a = (opened_starts ws o e (sym (opened_answer ws o e) ∙ a)).good

-- THE CUTS of a plan that is shown
cuts_few : (o : Outcome) (s : Instance) (cs : List Cut) → s.n ≤ max_vertices → CutsShown o s cs → length cs ≤ max_cuts
unfolding CutsShown
cuts_few (Plan v) s cs h w = omega (arith, w.few)
cuts_few (Over v) s cs h w = omega (arith, w.few)
cuts_few NoTree s cs h w = let e = ap length w.1 in omega arith

plan_few : (s : Instance) (old new : TreeBuffers) (k : ℕ) → s.n ≤ max_vertices → ShowsPlan s old new k → k ≤ max_cuts
plan_few s old new k h w = let f = cuts_few (outcome s) s w.cut_list h w.cuts_shown in omega (arith, w.counted)

-- of an answer
arc_few :
    (is_banned has_rival : Bool) (s : Instance) (who : ℕ → ℕ → ℕ) (t h : ℕ) (old new : TreeBuffers) (r : Reason) → s.n ≤ max_vertices →
    ExplainsArc is_banned has_rival s who t h old new r → reason_pairs r ≤ max_cuts
unfolding ExplainsArc
arc_few true rivals s who t h old new r small w = rw w.0 (omega arith)
arc_few false true s who t h old new r small w = rw w.0 (omega arith)
arc_few false false s who t h old new r small w = rw w.1 (plan_few (forced_instance s t h) old new w.0 small w.2)

explained_few :
    (a : ℕ) (s : Instance) (who : ℕ → ℕ → ℕ) (t h : ℕ) (old new : TreeBuffers) (r : Reason) → s.n ≤ max_vertices →
    ExplainsBy a s who t h old new r → reason_pairs r ≤ max_cuts
unfolding ExplainsBy
explained_few zero s who t h old new r small w = arc_few (eqb (mark s t h) banned) (other_pinned s t h) s who t h old new r small w
explained_few (suc a) s who t h old new r small w = rw w.0 (omega arith)

deleted_few :
    (a : ℕ) (s : Instance) (t h : ℕ) (old new : TreeBuffers) (v : View) → s.n ≤ max_vertices → PlansWithoutAt a s t h old new v →
    view_pairs v ≤ max_cuts
unfolding PlansWithoutAt
deleted_few zero s t h old new v small w = rw w.1 (plan_few (deleted_instance s t h) old new w.0 small w.2)
deleted_few (suc a) s t h old new v small w = rw w.0 (omega arith)

module _ (b : Board) (good : valid (model_of b) ≡ true) where
  pub small : b.n ≤ max_vertices
  small = (valid_parts (model_of b) good).n_high

  pub few_records : b.count ≤ max_records
  few_records = let l = length_history b.count b.records in omega (arith, (valid_parts (model_of b) good).few)

  module _ (t h : ℕ) (old new : TreeBuffers) where
    pub explains_few : (r : Reason) → Explains b t h old new r → reason_pairs r ≤ max_cuts
    unfolding Explains
    explains_few r w = explained_few _ (instance_of b) _ t h old new r small w

    pub plan_without_few : (v : View) → PlansWithout b t h old new v → view_pairs v ≤ max_cuts
    unfolding PlansWithout
    plan_without_few v w = deleted_few _ (instance_of b) t h old new v small w
