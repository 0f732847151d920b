-- RUNS of the public calls, for every claim about a list of them: commands singly and in lists, looks, writes, checks,
-- listings and explanations between. The log is kept from what the calls were handed, and a run follows it. Assumes
-- nothing.
use mathlib.Core.Path.{◌≡◌, refl, sym, ap, ◌∙◌, subst}
use mathlib.Core.List.{List, [], ◌∷◌, map}
use Prim.Native.Nat.{ℕ}
use lib.ListN.{take}
use Rattle.card.specs.Write.{Written}
use Rattle.commands.specs.Model.{Model}
use Rattle.commands.specs.Valid.{valid}
use Rattle.commands.specs.Commands.{Command, answered, answers, board_after}
use Rattle.commands.specs.Log.{Log, note}
use Rattle.commands.specs.LogLists.{note_list, Input, single, list, input_answers, input_after}
use Rattle.commands.proofs.ChangeLaws.{answered_changes}
use Rattle.board.specs.ModelOf.{model_of}
use Rattle.board.specs.Contents.{Contents, contents_of, contents_after, all_contents_after}
use Rattle.board.specs.declared.Board.{Board}
use Rattle.board.specs.declared.Answered.{Answered}
use Rattle.board.proofs.CallLaws.{call_answer, call_changes}
use Rattle.board.proofs.ContentsLaws.{call_contents, contents_model}
use Rattle.board.proofs.RunLaws.{Called, called_answers, Follows, call_follows}
use Rattle.command_list.specs.declared.Press.{Press}
use Rattle.command_list.specs.CommandList.{ListAnswered}
use Rattle.command_list.specs.CommandList.{ListResult, list_answered, commands_in, list_result_of}
use Rattle.command_list.proofs.AppliedLaws.{Singly, list_singly, list_valid}
use Rattle.command_list.proofs.FollowLaws.{ListTied, list_tied}
use Rattle.command_list.proofs.ListCalled.{ListCalled, list_called}
use Rattle.planner.specs.Enumerating.{Listing}
use Rattle.planner.specs.declared.View.{View}
use Rattle.planner.specs.declared.Reason.{Reason}
use Rattle.planner.specs.Looking.{Buffers}
use Rattle.planner.specs.Explaining.{TreeBuffers}
use Rattle.planner.proofs.Learnt.{Looked, Wrote, WroteHistory, Checked, Enumerated, Explained, PlannedWithout}

-- a run: "each later one the board as the call before left it, refused or not; looks and writes may come between", and
-- checks of plans made elsewhere (02, A6), listings of all plans (02, A7), `why` and `plan_without`, which leave the
-- board too. A command is a
-- single one or a group: "The press claim .. take[s] a group as one press" (02, A5); or a list of them was handed over,
-- which is answered by two numbers: "how many were applied and the refusal number, or 0" (02, A1).
pub data Run : List Input → Board → (answers : List ℕ) → (last : Board) → Type 0 where
  no_call : {b : Board} → Run [] b [] b
  then_command :
      {c : Command} {is : List Input} {b : Board} {r : Answered} {xs : List ℕ} {e : Board} → Called c b r → Run is r.board xs e →
      Run (single c ∷ is) b (r.answer ∷ xs) e
  then_list :
      {ps ps' : List Press} {is : List Input} {b : Board} {r : ListAnswered} {xs : List ℕ} {e : Board} → ListCalled ps ps' b r → Run is r.board xs e →
      Run (list (commands_in ps) ∷ is) b (r.applied ∷ r.answer ∷ xs) e
  then_look :
      {is : List Input} {b : Board} {xs : List ℕ} {e : Board} {v : View} {old new : Buffers} → Looked b old new v → Run is b xs e → Run is b xs e
  then_write :
      {is : List Input} {b : Board} {xs : List ℕ} {e : Board} {r : Written} {out out' : List ℕ} → Wrote b out out' r → Run is b xs e → Run is b xs e
  then_write_history :
      {is : List Input} {b : Board} {xs : List ℕ} {e : Board} {r : Written} {out out' : List ℕ} → WroteHistory b out out' r → Run is b xs e → Run is b xs e
  then_check :
      {is : List Input} {b : Board} {xs : List ℕ} {e : Board} {ps ps' : List ℕ} {v k : ℕ} {ws ws' : List ℕ} {r : ℕ} → Checked b ps ps' v k ws ws' r → Run is b xs e →
      Run is b xs e
  then_enumerate :
      {is : List Input} {b : Board} {xs : List ℕ} {e : Board} {limit : ℕ} {out out' : List ℕ} {r : Listing} → Enumerated b limit out out' r → Run is b xs e →
      Run is b xs e
  then_why :
      {is : List Input} {b : Board} {xs : List ℕ} {e : Board} {t h : ℕ} {old new : TreeBuffers} {r : Reason} → Explained b t h old new r → Run is b xs e → Run is b xs e
  then_without :
      {is : List Input} {b : Board} {xs : List ℕ} {e : Board} {t h : ℕ} {old new : TreeBuffers} {v : View} → PlannedWithout b t h old new v → Run is b xs e → Run is b xs e

-- A LIST THAT WAS HANDED OVER is the single commands that it applied
pub list_called_singly : {ps ps' : List Press} {b : Board} {r : ListAnswered} → ListCalled ps ps' b r → Singly (commands_in ps) (contents_of b) (list_result_of r)
list_called_singly {ps} {b = b} l = subst (Singly (commands_in ps) (contents_of b)) (sym (list_called l).result) (list_singly (commands_in ps) (contents_of b))

n_kept : (cs : List Command) (b : Model) → (board_after answered cs b).instance.n ≡ b.instance.n
unfolding board_after
n_kept [] b = refl
n_kept (c ∷ cs) b = n_kept cs (answered c b).board ∙ (answered_changes c b).n

list_called_n : {ps ps' : List Press} {b : Board} {r : ListAnswered} → ListCalled ps ps' b r → r.board.n ≡ b.n
list_called_n {ps} {b = b} {r = r} l =
    let cs = take r.applied (commands_in ps) in
    ap (λ (w : Contents). w.model.instance.n) (sym (list_called_singly l).board) ∙ ap (λ (m : Model). m.instance.n) (contents_model cs (contents_of b))
    ∙ n_kept cs (model_of b)

-- A RUN FOLLOWS THE LOG
pub record FollowsRun (is : List Input) (k : Log) (b : Board) (xs : List ℕ) (e : Board) : Type 0 where
  pub same_answers : xs ≡ input_answers is k
  pub follows : Follows e (input_after is k)
  pub same_n : e.n ≡ b.n

-- how many a list applied and its answer are the log's
pub record ListFollows (cs : List Command) (k : Log) (r : ListAnswered) : Type 0 where
  pub same_applied : r.applied ≡ (note_list cs k).applied
  pub same_answer : r.answer ≡ (note_list cs k).answer
  pub follows : Follows r.board (note_list cs k).log

pub list_follows :
    {ps ps' : List Press} {b : Board} {r : ListAnswered} → ListCalled ps ps' b r → (k : Log) → Follows b k → ListFollows (commands_in ps) k r
list_follows {ps} {b = b} {r = r} l k f =
    let cs = commands_in ps in
    let e = (list_called l).result in
    let t : ListTied (list_result_of r) (note_list cs k) =
    subst (λ (d : ListResult). ListTied d (note_list cs k)) (sym e) (list_tied cs (contents_of b) k f.is_valid f.tied) in
    record {
      same_applied = t.same_applied;
      same_answer = t.same_answer;
      follows =
          record {
            is_valid = ap (λ (d : ListResult). valid d.board.model) e ∙ list_valid cs (contents_of b) f.is_valid;
            tied = t.tied;
          };
    }

pub run_follows : {is : List Input} {b : Board} {xs : List ℕ} {e : Board} → Run is b xs e → (k : Log) → Follows b k → FollowsRun is k b xs e
unfolding input_answers input_after
run_follows no_call k f = record { same_answers = refl; follows = f; same_n = refl }
run_follows (then_command {c = c} {b = b} {r = r} l rest) k f =
    let a = called_answers l in
    let s = call_follows c b r k a f in
    let n = run_follows rest (note c k).log s.follows in
    record {
      same_answers = λ i. s.same_answer i ∷ n.same_answers i;
      follows = n.follows;
      same_n = n.same_n ∙ (call_changes c b r a).n;
    }
run_follows (then_list {ps = ps} l rest) k f =
    let s = list_follows l k f in
    let n = run_follows rest (note_list (commands_in ps) k).log s.follows in
    record {
      same_answers = λ i. s.same_applied i ∷ s.same_answer i ∷ n.same_answers i;
      follows = n.follows;
      same_n = n.same_n ∙ list_called_n l;
    }
run_follows (then_look l rest) k f = run_follows rest k f
run_follows (then_write l rest) k f = run_follows rest k f
run_follows (then_write_history l rest) k f = run_follows rest k f
run_follows (then_check l rest) k f = run_follows rest k f
run_follows (then_enumerate l rest) k f = run_follows rest k f
run_follows (then_why l rest) k f = run_follows rest k f
run_follows (then_without l rest) k f = run_follows rest k f

-- WHAT A RUN GIVES, without a log and on any board: what the contents of its first board say
unfoldable contents_answers : List Input → Contents → List ℕ
contents_answers [] w = []
contents_answers (single c ∷ is) w = (answered c w.model).answer ∷ contents_answers is (contents_after c w)
contents_answers (list cs ∷ is) w = let r = list_answered cs w in r.applied ∷ r.answer ∷ contents_answers is r.board

unfoldable contents_left : List Input → Contents → Contents
contents_left [] w = w
contents_left (single c ∷ is) w = contents_left is (contents_after c w)
contents_left (list cs ∷ is) w = contents_left is (list_answered cs w).board

record Gives (is : List Input) (b : Board) (xs : List ℕ) (e : Board) : Type 0 where
  pub same_answers : xs ≡ contents_answers is (contents_of b)
  pub same_contents : contents_of e ≡ contents_left is (contents_of b)

run_gives : {is : List Input} {b : Board} {xs : List ℕ} {e : Board} → Run is b xs e → Gives is b xs e
unfolding contents_answers contents_left
run_gives no_call = record { same_answers = refl; same_contents = refl }
run_gives (then_command {c = c} {is = is} {b = b} {r = r} l rest) =
    let a = called_answers l in
    let n = run_gives rest in
    let w = call_contents c b r a in
    record {
      same_answers = λ i. call_answer c b r a i ∷ (n.same_answers ∙ ap (contents_answers is) w) i;
      same_contents = n.same_contents ∙ ap (contents_left is) w;
    }
run_gives (then_list {is = is} {r = r} l rest) =
    let e = (list_called l).result in
    let n = run_gives rest in
    let w = ap (λ (d : ListResult). d.board) e in
    record {
      same_answers = λ i. (e i).applied ∷ (e i).answer ∷ (n.same_answers ∙ ap (contents_answers is) w) i;
      same_contents = n.same_contents ∙ ap (contents_left is) w;
    }
run_gives (then_look l rest) = run_gives rest
run_gives (then_write l rest) = run_gives rest
run_gives (then_write_history l rest) = run_gives rest
run_gives (then_check l rest) = run_gives rest
run_gives (then_enumerate l rest) = run_gives rest
run_gives (then_why l rest) = run_gives rest
run_gives (then_without l rest) = run_gives rest

-- SINGLE COMMANDS alone: what the model gives for them, and every record place of the last board
pub record RunsAs (cs : List Command) (b : Board) (xs : List ℕ) (e : Board) : Type 0 where
  pub same_answers : xs ≡ answers answered cs (model_of b)
  pub same_contents : contents_of e ≡ all_contents_after cs (contents_of b)
  pub same_model : model_of e ≡ board_after answered cs (model_of b)

answers_of_singles : (cs : List Command) (w : Contents) → contents_answers (map single cs) w ≡ answers answered cs w.model
unfolding contents_answers answers contents_after
answers_of_singles [] w = refl
answers_of_singles (c ∷ cs) w = λ i. (answered c w.model).answer ∷ answers_of_singles cs (contents_after c w) i

left_by_singles : (cs : List Command) (w : Contents) → contents_left (map single cs) w ≡ all_contents_after cs w
unfolding contents_left all_contents_after
left_by_singles [] w = refl
left_by_singles (c ∷ cs) w = left_by_singles cs (contents_after c w)

pub run_as : {cs : List Command} {b : Board} {xs : List ℕ} {e : Board} → Run (map single cs) b xs e → RunsAs cs b xs e
run_as {cs} {b} run =
    let g = run_gives run in
    let w = g.same_contents ∙ left_by_singles cs (contents_of b) in
    record {
      same_answers = g.same_answers ∙ answers_of_singles cs (contents_of b);
      same_contents = w;
      same_model = ap (λ (v : Contents). v.model) w ∙ contents_model cs (contents_of b);
    }
