-- From what planning found and what was copied out to what a look promises. Assumes nothing.
use mathlib.Core.Path.{◌≡◌, refl, ap, ◌∙◌}
use mathlib.Core.Bool.{true, false, ◌||◌}
use mathlib.Core.List.{List}
use Prim.Native.Nat.{ℕ, ◌*◌, ◌≤◌}
use lib.Dec.{ltb}
use borrow.Author.Tests.{ltb-false}
use Rattle.base.specs.Lists.{in_front}
use Rattle.base.proofs.BoolLaws.{or_false_left, or_false_right}
use Rattle.instance.specs.Limits.{cut_words}
use Rattle.instance.specs.Refusals.{buffer_short, invalid_board}
use Rattle.instance.specs.Instance.{Instance}
use Rattle.instance.specs.States.{states}
use Rattle.commands.specs.Valid.{valid}
use Rattle.board.specs.ModelOf.{model_of, instance_of}
use Rattle.board.specs.declared.Board.{Board}
use Rattle.states.specs.Show.{states_by}
use Rattle.survey.specs.declared.Survey.{Survey}
use Rattle.survey.specs.Survey.{Surveys}
use Rattle.planner.specs.declared.View.{View}
use Rattle.planner.specs.declared.View.TheVariants.{Shown, Refused}
use Rattle.planner.specs.Looking.{Buffers, too_short, short_for, Shows, LooksAt, LooksValid, Looks}
use Rattle.planner.specs.Displaying.{Displays}

-- THE LOOK SHOWS WHAT WAS FOUND
pub shows :
    (s : Instance) (r : Survey) (old new : Buffers) → Surveys s r → Displays r s.weights s.n s.root old new →
    states_by r.used s.weights s.n s.root ≡ states s →
    Shows s old new (Shown r.plan.outcome r.plan.pairs)
shows s r old new f d right =
    record {
      cut_list = f.plan.cut_list;
      result = λ i. Shown (f.plan.result i) (f.plan.counted i);
      cuts_shown = f.plan.cuts_found;
      parents_buffer = d.plan.parents ∙ ap (λ (l : List ℕ). in_front l old.parents) f.plan.parents_found;
      states_buffer = d.states ∙ ap (λ (l : List ℕ). in_front l old.states) right;
      cuts_buffer = d.plan.cuts ∙ ap (λ (l : List ℕ). in_front l old.cuts) f.plan.words;
    }

-- THE THREE WAYS of a look
pub looks_invalid : (b : Board) (x : Buffers) → valid (model_of b) ≡ false → Looks b x x (Refused invalid_board)
unfolding Looks LooksAt
looks_invalid b x e = rw e (record { result = refl; buffers = refl })

pub looks_by_parts : (b : Board) (v : View) (old new : Buffers) → valid (model_of b) ≡ true → LooksValid (instance_of b) old new v → Looks b old new v
unfolding Looks
looks_by_parts b v old new e l = rw e l

pub valid_short : (s : Instance) (x : Buffers) → short_for s.n x ≡ true → LooksValid s x x (Refused buffer_short)
unfolding LooksAt
valid_short s x t = rw t (record { result = refl; buffers = refl })

pub valid_shown : (s : Instance) (v : View) (old new : Buffers) → short_for s.n old ≡ false → Shows s old new v → LooksValid s old new v
unfolding LooksAt
valid_shown s v old new t x = rw t x

-- buffers that are long enough
pub record Rooms (n parents states cuts : ℕ) : Type 0 where
  pub for_parents : n ≤ parents
  pub for_states : n * n ≤ states
  pub for_cuts : cut_words ≤ cuts

pub rooms : (n a b c : ℕ) → too_short n a b c ≡ false → Rooms n a b c
unfolding too_short
rooms n a b c e =
    let P = ltb a n in
    let Q = ltb b (n * n) in
    let R = ltb c cut_words in
    let r = or_false_right P (Q || R) e in
    record {
      for_parents = ltb-false a n (or_false_left P (Q || R) e);
      for_states = ltb-false b (n * n) (or_false_left Q R r);
      for_cuts = ltb-false c cut_words (or_false_right Q R r);
    }
