-- From the refusals that were passed, and from what was planned and copied out, to what `why` and `plan_without`
-- promise. Assumes nothing.
use mathlib.Core.Path.{◌≡◌, refl, ap, ◌∙◌, subst}
use mathlib.Core.Bool.{Bool, true, false, ◌&&◌, ◌||◌, not}
use mathlib.Core.List.{List}
use Prim.Native.Nat.{ℕ, zero, suc, ◌≤◌, ◌<◌}
use native.Mathlib.Omega.{arith}
use lib.Dec.{ltb, eqb}
use lib.ListN.{length}
use borrow.Author.Tests.{ltb-true, ltb-false, lt-ltb, le-ltb, not-false}
use Rattle.base.specs.Lists.{any_of, in_front}
use Rattle.base.proofs.BoolLaws.{and_left, and_right, or_false_left, or_false_right}
use Rattle.instance.specs.Limits.{max_vertices, max_records, cut_words, banned}
use Rattle.instance.specs.Instance.{Instance, instance_with, without_budget, mark, weight, is_arc}
use Rattle.instance.specs.Matrix.{unmarked}
use Rattle.instance.specs.Arborescence.{is_pinned, other_pinned}
use Rattle.instance.specs.declared.Outcome.{Outcome}
use Rattle.instance.proofs.ValidLaws.{valid_small}
use Rattle.commands.specs.Model.{Model}
use Rattle.commands.specs.Valid.{valid}
use Rattle.commands.specs.Setters.{setter}
use Rattle.commands.proofs.ValidLaws.{valid_fields, valid_parts}
use Rattle.board.specs.ModelOf.{history_of, model_of, instance_of}
use Rattle.board.specs.declared.Board.{Board}
use Rattle.board.specs.declared.UndoRecord.{UndoRecord}
use Rattle.board.proofs.ModelOfLaws.{length_history}
use Rattle.survey.specs.FirstPlan.{PlansFirst}
use Rattle.survey.specs.declared.first_plan.FirstPlan.{FirstPlan}
use Rattle.witness.specs.Witness.{is_rival, rival, forced_instance, deleted_instance}
use Rattle.witness.proofs.RivalLaws.{rival_other}
use Rattle.planner.specs.declared.View.{View}
use Rattle.planner.specs.declared.View as views
use Rattle.planner.specs.declared.Reason.{Reason}
use Rattle.planner.specs.declared.Reason.TheVariants.{Banned, Rival, Priced, Refused}
use Rattle.planner.specs.Looking.{answer_of}
use Rattle.planner.specs.Displaying.{DisplaysPlan}
use Rattle.planner.specs.Explaining.{reason_answer, TreeBuffers, tree_short, arc_answer, explain_answer, explain_refusal, explain_numbers, ShowsPlan, ExplainsArc, ExplainsBy, ExplainsAt, Explains, PlansWithoutAt, PlansWithout}

-- PASSED: a valid board, an arc of it, and room
pub record Explainable (m : Model) (t h a c : ℕ) : Type 0 where
  pub is_valid : valid m ≡ true
  pub tail_below : t < m.instance.n
  pub head_below : h < m.instance.n
  pub arc : is_arc m.instance t h ≡ true
  pub for_parents : m.instance.n ≤ a
  pub for_cuts : cut_words ≤ c

arc_passed : (v x y z : Bool) → arc_answer v x y z ≡ 0 → (v ≡ true) × (x ≡ false) × (y ≡ false) × (z ≡ false)
unfolding arc_answer
arc_passed false x y z e = absurd (omega arith)
arc_passed true true y z e = absurd (omega arith)
arc_passed true false true z e = absurd (omega arith)
arc_passed true false false true e = absurd (omega arith)
arc_passed true false false false e = (refl, refl, refl, refl)

pub explainable : (m : Model) (t h a c : ℕ) → explain_refusal m t h a c ≡ 0 → Explainable m t h a c
unfolding explain_answer tree_short
explainable m t h a c e =
    let s = m.instance in
    let T = ltb t s.n in
    let H = ltb h s.n in
    let A = ltb a s.n in
    let C = ltb c cut_words in
    let p = arc_passed (valid m) (not (T && H)) (not (is_arc s t h)) (A || C) e in
    let i = not-false (T && H) p.1 in
    record {
      is_valid = p.0;
      tail_below = ltb-true t s.n (and_left T H i);
      head_below = ltb-true h s.n (and_right T H i);
      arc = not-false (is_arc s t h) p.2;
      for_parents = ltb-false a s.n (or_false_left A C p.3);
      for_cuts = ltb-false c cut_words (or_false_right A C p.3);
    }

-- the answer is one of the call's own numbers
arc_listed : (v x y z : Bool) → any_of (eqb (arc_answer v x y z)) explain_numbers ≡ true
unfolding arc_answer any_of
arc_listed false x y z = refl
arc_listed true true y z = refl
arc_listed true false true z = refl
arc_listed true false false true = refl
arc_listed true false false false = refl

pub explain_listed : (v : Bool) (s : Instance) (t h a c : ℕ) → any_of (eqb (explain_answer v s t h a c)) explain_numbers ≡ true
unfolding explain_answer
explain_listed v s t h a c = arc_listed v (not (ltb t s.n && ltb h s.n)) (not (is_arc s t h)) (tree_short s.n a c)

-- what a valid board has: few vertices and records
pub explainable_small : (m : Model) (t h a c : ℕ) → Explainable m t h a c → m.instance.n ≤ max_vertices
explainable_small m t h a c e = valid_small m.instance (valid_fields m e.is_valid)

pub explainable_count :
    (s : Instance) (count : ℕ) (rs : List UndoRecord) (t h a c : ℕ) → Explainable (record { instance = s; history = history_of count rs }) t h a c → count ≤ max_records
explainable_count s count rs t h a c e =
    omega (arith, length_history count rs, (valid_parts (record { instance = s; history = history_of count rs }) e.is_valid).few)

-- marks have no part in what is an arc, nor has the budget
pub arc_of : (n root b : ℕ) (ws ms : List ℕ) (t h : ℕ) → is_arc (unmarked n root ws) t h ≡ is_arc (instance_with n root b ws ms) t h
unfolding is_arc weight unmarked
arc_of n root b ws ms t h = refl

-- WHAT WAS PLANNED IS SHOWN
pub shows_plan :
    (s : Instance) (r : FirstPlan) (old new : TreeBuffers) → PlansFirst s r →
    DisplaysPlan r s.n old.parents new.parents old.cuts new.cuts → ShowsPlan s old new r.pairs
shows_plan s r old new p d =
    record {
      cut_list = p.cut_list;
      counted = p.counted;
      cuts_shown = p.cuts_found;
      parents_buffer = d.parents ∙ ap (λ (l : List ℕ). in_front l old.parents) p.parents_found;
      cuts_buffer = d.cuts ∙ ap (λ (l : List ℕ). in_front l old.cuts) p.words;
    }

-- THE WAYS OF `why`
module _ (m : Model) (t h : ℕ) where
  pub explains_banned : (x : TreeBuffers) → eqb (mark m.instance t h) banned ≡ true → ExplainsAt 0 m t h x x (Banned (setter m.history t h))
  unfolding ExplainsBy ExplainsArc
  explains_banned x e = rw e (refl, refl)

  pub explains_rival :
      (x : TreeBuffers) (g : ℕ) → eqb (mark m.instance t h) banned ≡ false → g ≡ rival m.instance t h → g < m.instance.n →
      ExplainsAt 0 m t h x x (Rival (record { 0 = g }) (setter m.history g h))
  unfolding ExplainsBy ExplainsArc
  explains_rival x g e r l =
      let is : other_pinned m.instance t h ≡ true = rival_other m.instance t h ∙ lt-ltb _ _ (subst (λ (k : ℕ). k < m.instance.n) r l) in
      rw (e, is) (ap (λ (k : ℕ). Rival (record { 0 = k }) (setter m.history k h)) r, refl)

  pub explains_priced :
      (r : FirstPlan) (old new : TreeBuffers) (g : ℕ) → eqb (mark m.instance t h) banned ≡ false → g ≡ rival m.instance t h → m.instance.n ≤ g →
      PlansFirst (forced_instance m.instance t h) r → DisplaysPlan r m.instance.n old.parents new.parents old.cuts new.cuts →
      ExplainsAt 0 m t h old new (Priced r.outcome r.pairs)
  unfolding ExplainsBy ExplainsArc
  explains_priced r old new g e k l p d =
      let is : other_pinned m.instance t h ≡ false = rival_other m.instance t h ∙ le-ltb _ _ (subst (λ (j : ℕ). m.instance.n ≤ j) k l) in
      rw (e, is) (r.pairs, ap (λ (o : Outcome). Priced o r.pairs) p.result, shows_plan _ r old new p d)

-- the budget has no part in a rival
pub rival_budget : (n root b : ℕ) (ws ms : List ℕ) (t h : ℕ) → rival (without_budget n root ws ms) t h ≡ rival (instance_with n root b ws ms) t h
unfolding rival is_rival is_pinned is_arc mark weight
rival_budget n root b ws ms t h = refl

pub explains_number : (k : ℕ) (m : Model) (t h : ℕ) (x : TreeBuffers) → (k ≡ 0 → ⊥) → ExplainsAt k m t h x x (Refused k)
unfolding ExplainsBy
explains_number zero m t h x n = absurd (n refl)
explains_number (suc k) m t h x n = (refl, refl)

pub explains_refused :
    (b : Board) (t h k : ℕ) (x : TreeBuffers) → k ≡ explain_refusal (model_of b) t h (length x.parents) (length x.cuts) → (k ≡ 0 → ⊥) →
    Explains b t h x x (Refused k)
unfolding Explains
explains_refused b t h k x e n = subst (λ (j : ℕ). ExplainsAt j (model_of b) t h x x (Refused k)) e (explains_number k (model_of b) t h x n)

pub explains_passed :
    (b : Board) (t h : ℕ) (old new : TreeBuffers) (r : Reason) → explain_refusal (model_of b) t h (length old.parents) (length old.cuts) ≡ 0 →
    ExplainsAt 0 (model_of b) t h old new r → Explains b t h old new r
unfolding Explains
explains_passed b t h old new r e x = rw e x

-- THE WAYS OF `plan_without`
pub plan_without_number : (k : ℕ) (s : Instance) (t h : ℕ) (x : TreeBuffers) → (k ≡ 0 → ⊥) → PlansWithoutAt k s t h x x (views.TheVariants.Refused k)
unfolding PlansWithoutAt
plan_without_number zero s t h x n = absurd (n refl)
plan_without_number (suc k) s t h x n = (refl, refl)

pub plan_without_refused :
    (b : Board) (t h k : ℕ) (x : TreeBuffers) → k ≡ explain_refusal (model_of b) t h (length x.parents) (length x.cuts) → (k ≡ 0 → ⊥) →
    PlansWithout b t h x x (views.TheVariants.Refused k)
unfolding PlansWithout
plan_without_refused b t h k x e n = subst (λ (j : ℕ). PlansWithoutAt j (instance_of b) t h x x (views.TheVariants.Refused k)) e (plan_without_number k (instance_of b) t h x n)

pub plan_without_planned :
    (b : Board) (t h : ℕ) (r : FirstPlan) (old new : TreeBuffers) → explain_refusal (model_of b) t h (length old.parents) (length old.cuts) ≡ 0 →
    PlansFirst (deleted_instance (instance_of b) t h) r → DisplaysPlan r b.n old.parents new.parents old.cuts new.cuts →
    PlansWithout b t h old new (views.TheVariants.Shown r.outcome r.pairs)
unfolding PlansWithout PlansWithoutAt
plan_without_planned b t h r old new e p d =
    rw e (r.pairs, ap (λ (o : Outcome). views.TheVariants.Shown o r.pairs) p.result, shows_plan _ r old new p d)

-- an arc that is explained was not refused
arc_explained :
    (x y : Bool) (s : Instance) (who : ℕ → ℕ → ℕ) (t h : ℕ) (old new : TreeBuffers) (r : Reason) → ExplainsArc x y s who t h old new r → reason_answer r ≡ 0
unfolding ExplainsArc
arc_explained true y s who t h old new r e = ap reason_answer e.0
arc_explained false true s who t h old new r e = ap reason_answer e.0
arc_explained false false s who t h old new r e = ap reason_answer e.1

arc_alike :
    (x y : Bool) (s : Instance) (who by : ℕ → ℕ → ℕ) (t h : ℕ) (old new : TreeBuffers) (r : Reason) → ((g : ℕ) → who g h ≡ by g h) →
    ExplainsArc x y s who t h old new r → ExplainsArc x y s by t h old new r
unfolding ExplainsArc
arc_alike true y s who by t h old new r e x = (x.0 ∙ ap Banned (e t), x.1)
arc_alike false true s who by t h old new r e x = (x.0 ∙ ap (Rival (record { 0 = rival s t h })) (e (rival s t h)), x.1)
arc_alike false false s who by t h old new r e x = x

-- WHAT AN ANSWER TELLS: the number, and that a refusal leaves both buffers
pub explains_answer : (a : ℕ) (s : Instance) (who : ℕ → ℕ → ℕ) (t h : ℕ) (old new : TreeBuffers) (r : Reason) → ExplainsBy a s who t h old new r → reason_answer r ≡ a
unfolding ExplainsBy
explains_answer zero s who t h old new r x = arc_explained (eqb (mark s t h) banned) (other_pinned s t h) s who t h old new r x
explains_answer (suc a) s who t h old new r x = ap reason_answer x.0

pub explains_before :
    (a : ℕ) (s : Instance) (who : ℕ → ℕ → ℕ) (t h : ℕ) (old new : TreeBuffers) (r : Reason) → ExplainsBy a s who t h old new r → (a ≡ 0 → ⊥) → new ≡ old
unfolding ExplainsBy
explains_before zero s who t h old new r x n = absurd (n refl)
explains_before (suc a) s who t h old new r x n = x.1

pub plan_without_answer : (a : ℕ) (s : Instance) (t h : ℕ) (old new : TreeBuffers) (v : View) → PlansWithoutAt a s t h old new v → answer_of v ≡ a
unfolding PlansWithoutAt
plan_without_answer zero s t h old new v x = ap answer_of x.1
plan_without_answer (suc a) s t h old new v x = ap answer_of x.0

pub plan_without_before : (a : ℕ) (s : Instance) (t h : ℕ) (old new : TreeBuffers) (v : View) → PlansWithoutAt a s t h old new v → (a ≡ 0 → ⊥) → new ≡ old
unfolding PlansWithoutAt
plan_without_before zero s t h old new v x n = absurd (n refl)
plan_without_before (suc a) s t h old new v x n = x.1

-- BY WHOM: it matters for arcs into the head alone, and only where nothing refuses
pub explains_alike :
    (a : ℕ) (s : Instance) (who by : ℕ → ℕ → ℕ) (t h : ℕ) (old new : TreeBuffers) (r : Reason) → (a ≡ 0 → (g : ℕ) → who g h ≡ by g h) →
    ExplainsBy a s who t h old new r → ExplainsBy a s by t h old new r
unfolding ExplainsBy
explains_alike zero s who by t h old new r e x = arc_alike (eqb (mark s t h) banned) (other_pinned s t h) s who by t h old new r (e refl) x
explains_alike (suc a) s who by t h old new r e x = x
