-- One call of a list against the log: a board that is valid and tied to the log stays so, the answer is the log's, and
-- a look between leaves of the buffers what a later look keeps. Assumes nothing.
use mathlib.Core.Path.{◌≡◌, ap, ◌∙◌, subst}
use mathlib.Core.Bool.{Bool, true, false}
use Prim.Native.Nat.{ℕ, ◌*◌, ◌≤◌}
use native.Mathlib.Omega.{arith}
use lib.ListN.{length, take, drop}
use Rattle.base.proofs.FrontLaws.{front_length, front_take, front_drop}
use Rattle.instance.specs.Limits.{max_vertices, cut_words}
use Rattle.instance.specs.Instance.{Instance}
use Rattle.instance.specs.Cuts.{words_of}
use Rattle.instance.specs.Candidates.{first_tree}
use Rattle.instance.specs.States.{outcome, states}
use Rattle.theory.proofs.StateLaws.{states_read}
use Rattle.theory.proofs.FirstLaws.{first_size}
use Rattle.commands.specs.Commands.{Command, Result, applied, answered}
use Rattle.commands.specs.Valid.{valid}
use Rattle.commands.specs.Log.{Log, note, unnoted}
use Rattle.board.specs.ModelOf.{model_of, instance_of}
use Rattle.board.specs.Calls.{Answers}
use Rattle.board.specs.declared.Board.{Board}
use Rattle.board.specs.declared.Answered.{Answered}
use Rattle.commands.proofs.LogLaws.{Tied, step_tied}
use Rattle.commands.proofs.ValidLaws.{valid_parts}
use Rattle.commands.proofs.AnsweredLaws.{answered_applied}
use Rattle.board.proofs.CallLaws.{call_board, call_answer, call_valid, call_changes}
use Rattle.survey.proofs.ShownLaws.{words_length}
use Rattle.planner.specs.declared.View.{View}
use Rattle.planner.specs.Looking.{Buffers, answer_of, short_for, Shows, LooksAt, Looks}
use Rattle.planner.specs.Replaying.{Call, command, look, write, log_call, Makes}
use Rattle.planner.proofs.LookingLaws.{Rooms, rooms}

-- how the buffers stand after calls: as long as they were, and the same after the places that a look fills
pub record Since (n : ℕ) (old new : Buffers) : Type 0 where
  pub parents_long : length new.parents ≡ length old.parents
  pub states_long : length new.states ≡ length old.states
  pub cuts_long : length new.cuts ≡ length old.cuts
  pub parents_after : drop n new.parents ≡ drop n old.parents
  pub states_after : drop (n * n) new.states ≡ drop (n * n) old.states
  pub cuts_after : drop cut_words new.cuts ≡ drop cut_words old.cuts

pub since_same : (n : ℕ) (old new : Buffers) → new ≡ old → Since n old new
since_same n old new e =
    record {
      parents_long = ap (λ (x : Buffers). length x.parents) e;
      states_long = ap (λ (x : Buffers). length x.states) e;
      cuts_long = ap (λ (x : Buffers). length x.cuts) e;
      parents_after = ap (λ (x : Buffers). drop n x.parents) e;
      states_after = ap (λ (x : Buffers). drop (n * n) x.states) e;
      cuts_after = ap (λ (x : Buffers). drop cut_words x.cuts) e;
    }

pub since_then : {n : ℕ} {x y z : Buffers} → Since n x y → Since n y z → Since n x z
since_then a b =
    record {
      parents_long = b.parents_long ∙ a.parents_long;
      states_long = b.states_long ∙ a.states_long;
      cuts_long = b.cuts_long ∙ a.cuts_long;
      parents_after = b.parents_after ∙ a.parents_after;
      states_after = b.states_after ∙ a.states_after;
      cuts_after = b.cuts_after ∙ a.cuts_after;
    }

-- A LOOK THAT SHOWS: what it shows is as long as the places that it fills
pub shown_answer : (s : Instance) (v : View) (old new : Buffers) → Shows s old new v → answer_of v ≡ 0
shown_answer s v old new x = ap answer_of x.result

module _ (s : Instance) (v : View) (old new : Buffers) (x : Shows s old new v) where
  pub words_long : s.n ≤ max_vertices → length (words_of x.cut_list) ≡ cut_words
  words_long small = words_length (outcome s) s x.cut_list small x.cuts_shown

  -- what stands in the places that it fills
  pub tree_front : take s.n new.parents ≡ first_tree s
  tree_front = ap (take s.n) x.parents_buffer ∙ front_take (first_tree s) old.parents s.n (first_size s)

  pub states_front : take (s.n * s.n) new.states ≡ states s
  states_front = ap (take (s.n * s.n)) x.states_buffer ∙ front_take (states s) old.states (s.n * s.n) (states_read s).size

  pub words_front : s.n ≤ max_vertices → take cut_words new.cuts ≡ words_of x.cut_list
  words_front small = ap (take cut_words) x.cuts_buffer ∙ front_take (words_of x.cut_list) old.cuts cut_words (words_long small)

  shown_since : s.n ≤ max_vertices → Rooms s.n (length old.parents) (length old.states) (length old.cuts) → Since s.n old new
  shown_since small r =
      let size = (states_read s).size in
      let words = words_long small in
      record {
        parents_long = ap length x.parents_buffer ∙ front_length (first_tree s) old.parents (omega (arith, first_size s, r.for_parents));
        states_long = ap length x.states_buffer ∙ front_length (states s) old.states (omega (arith, size, r.for_states));
        cuts_long = ap length x.cuts_buffer ∙ front_length (words_of x.cut_list) old.cuts (omega (arith, words, r.for_cuts));
        parents_after = ap (drop s.n) x.parents_buffer ∙ front_drop (first_tree s) old.parents s.n (first_size s);
        states_after = ap (drop (s.n * s.n)) x.states_buffer ∙ front_drop (states s) old.states (s.n * s.n) size;
        cuts_after = ap (drop cut_words) x.cuts_buffer ∙ front_drop (words_of x.cut_list) old.cuts cut_words words;
      }

-- what a look at a valid board says
pub looks_valid : (b : Board) (v : View) (old new : Buffers) → valid (model_of b) ≡ true → Looks b old new v →
    LooksAt true (short_for b.n old) (instance_of b) old new v
unfolding Looks
looks_valid b v old new g l = subst (λ (x : Bool). LooksAt x (short_for b.n old) (instance_of b) old new v) g l

pub looks_long : (b : Board) (v : View) (old new : Buffers) → valid (model_of b) ≡ true → short_for b.n old ≡ false → Looks b old new v → Shows (instance_of b) old new v
unfolding LooksAt
looks_long b v old new g t l = subst (λ (x : Bool). LooksAt true x (instance_of b) old new v) t (looks_valid b v old new g l)

-- ONE CALL
pub record CallStep (e : Call) (b : Board) (k : Log) (old new : Buffers) (r : Answered) : Type 0 where
  pub answer : r.answer ≡ (log_call e k).answer
  pub tied : Tied (model_of r.board) (log_call e k).log
  pub good : valid (model_of r.board) ≡ true
  pub same_n : r.board.n ≡ b.n
  pub since : Since b.n old new

module _ (b : Board) (k : Log) (g : valid (model_of b) ≡ true) (y : Tied (model_of b) k) where
  command_step : (c : Command) (r : Answered) → Answers (answered c (model_of b)) b r → (r.answer ≡ (note c k).answer) × Tied (model_of r.board) (note c k).log
  command_step c r a =
      let s = step_tied c (model_of b) k y in
      let q : answered c (model_of b) ≡ applied c (model_of b) = answered_applied c (model_of b) g in (
        call_answer c b r a ∙ ap (λ (d : Result). d.answer) q ∙ s.same_answer,
        rw (call_board c b r a ∙ ap (λ (d : Result). d.board) q) s.tied,
      )

  pub call_step : (e : Call) (r : Answered) (old new : Buffers) → short_for b.n old ≡ false → Makes b e old new r → CallStep e b k old new r
  unfolding Makes log_call unnoted
  call_step (command c) r old new t m =
      let s = command_step c r m.0 in
      record {
        answer = s.0;
        tied = s.1;
        good = call_valid c b r m.0 g;
        same_n = (call_changes c b r m.0).n;
        since = since_same b.n old new m.1;
      }
  call_step look r old new t m =
      let x = looks_long b m.0 old new g t m.3 in
      record {
        answer = m.1 ∙ shown_answer (instance_of b) m.0 old new x;
        tied = rw m.2 y;
        good = rw m.2 g;
        same_n = ap (λ (x : Board). x.n) m.2;
        since = shown_since (instance_of b) m.0 old new x (valid_parts (model_of b) g).n_high (rooms b.n (length old.parents) (length old.states) (length old.cuts) t);
      }
  call_step write r old new t m =
      record {
        answer = m.0 ∙ rw g;
        tied = rw m.1 y;
        good = rw m.1 g;
        same_n = ap (λ (x : Board). x.n) m.1;
        since = since_same b.n old new m.2;
      }
