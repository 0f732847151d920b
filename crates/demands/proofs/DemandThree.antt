-- DEMAND 3, of the public calls themselves and for every caller: one claim about every list of commands on a freshly
-- opened card of either kind, refused ones included, made singly or handed over in lists, looks, writes, checks,
-- listings and explanations between them or not. Assumes nothing.
use mathlib.Core.Path.{◌≡◌, sym, ap, ◌∙◌, subst}
use mathlib.Core.Bool.{Bool, true, false, true≢false}
use mathlib.Core.List.{List}
use Prim.Native.Nat.{ℕ, ◌*◌}
use lib.ListN.{take, replicate}
use Rattle.instance.specs.Limits.{no_parent}
use Rattle.instance.specs.Instance.{Instance}
use Rattle.instance.specs.Arborescence.{is_arborescence}
use Rattle.instance.specs.Candidates.{first_tree}
use Rattle.theory.specs.Readings.{StatesRead, NoArborescence, FirstReads}
use Rattle.theory.proofs.StateLaws.{states_read}
use Rattle.theory.proofs.FirstLaws.{first_reads, first_none}
use Rattle.commands.specs.LogLists.{Input, input_answers, input_after}
use Rattle.commands.specs.Effective.{effective}
use Rattle.board.specs.ModelOf.{instance_of}
use Rattle.board.specs.declared.Board.{Board}
use Rattle.board.specs.declared.Answered.{Answered}
use Rattle.history_format.specs.HistoryCard.{open_refusal, model_in}
use Rattle.planner.specs.declared.View.{View}
use Rattle.planner.specs.Looking.{Buffers, short_for, LooksAt}
use Rattle.planner.specs.Replaying.{log_in}
use Rattle.planner.proofs.CallSteps.{tree_front, states_front, looks_valid}
use Rattle.planner.proofs.Learnt.{OpenedBy, opened_by, Looked, looked}
use Rattle.planner.proofs.OpeningLaws.{opened_starts}
use Rattle.demands.proofs.Runs.{Run, run_follows}

-- "every call's answer, accepted or the refusal's number, is the book's. A look at the last board, whatever buffers it
-- is lent, gives 14 exactly when one is too short; otherwise the n times n states are those of 'Link states', over the
-- feed trees of the card's positions, root and prices under the standing marks, within the standing budget." The last
-- words are amended: "The claim about presses and the rule on reduced prices now use the larger of the budget and the
-- cheapest total" (02, A2). A list of presses is answered by "how many were applied and the refusal number, or 0" (02,
-- A1), and the book has both from the presses themselves. "The claim about presses now covers take-backs of records
-- that came on a card" (02, A8): the log of a card, `log_in`, begins with them. And the feeder list "depends on root,
-- marks and prices alone, not on the order of presses or take-backs, and the press claim gains it" (02, A10).
pub record Demand3 (ws : List ℕ) (is : List Input) (xs : List ℕ) (old new : Buffers) (v : View) : Type 0 where
  pub answers : xs ≡ input_answers is (log_in ws)
  pub last_look : LooksAt true (short_for (model_in ws).instance.n old) (effective (input_after is (log_in ws))) old new v
  -- the n times n states in the buffer, read in the documents' words and in both directions: closed exactly when no
  -- arborescence of the effective instance within that limit uses the arc, open exactly when some do and some don't,
  -- sure exactly when there is one and all use it
  pub states_shown :
      short_for (model_in ws).instance.n old ≡ false →
      StatesRead (effective (input_after is (log_in ws))) (take ((model_in ws).instance.n * (model_in ws).instance.n) new.states)
  -- the n parents in the buffer: the first of the cheapest arborescences of the effective instance
  pub parents_shown :
      short_for (model_in ws).instance.n old ≡ false → take (model_in ws).instance.n new.parents ≡ first_tree (effective (input_after is (log_in ws)))
  -- and read in the documents' words: where there is an arborescence, it is one, none is cheaper, and each that is as
  -- cheap is it or comes after it; where there is none, 255 everywhere
  pub parents_read :
      short_for (model_in ws).instance.n old ≡ false → (ps : List ℕ) → is_arborescence (effective (input_after is (log_in ws))) ps ≡ true →
      FirstReads (effective (input_after is (log_in ws))) (take (model_in ws).instance.n new.parents)
  pub no_parents :
      short_for (model_in ws).instance.n old ≡ false → NoArborescence (effective (input_after is (log_in ws))) →
      take (model_in ws).instance.n new.parents ≡ replicate (effective (input_after is (log_in ws))).n no_parent

shown_states : (t : Bool) (s : Instance) (v : View) (old new : Buffers) → LooksAt true t s old new v → t ≡ false → StatesRead s (take (s.n * s.n) new.states)
unfolding LooksAt
shown_states true s v old new l e = absurd (true≢false e)
shown_states false s v old new x e = subst (StatesRead s) (sym (states_front s v old new x)) (states_read s)

shown_parents : (t : Bool) (s : Instance) (v : View) (old new : Buffers) → LooksAt true t s old new v → t ≡ false → take s.n new.parents ≡ first_tree s
unfolding LooksAt
shown_parents true s v old new l e = absurd (true≢false e)
shown_parents false s v old new x e = tree_front s v old new x

-- from the answers and the look itself, whoever made them
pub shown_as_demanded :
    (ws : List ℕ) (is : List Input) (xs : List ℕ) (old new : Buffers) (v : View) → xs ≡ input_answers is (log_in ws) →
    (effective (input_after is (log_in ws))).n ≡ (model_in ws).instance.n →
    LooksAt true (short_for (model_in ws).instance.n old) (effective (input_after is (log_in ws))) old new v → Demand3 ws is xs old new v
shown_as_demanded ws is xs old new v answers n looks =
    let t = short_for (model_in ws).instance.n old in
    let k = input_after is (log_in ws) in
    let first : t ≡ false → take (model_in ws).instance.n new.parents ≡ first_tree (effective k) =
    λ e. subst (λ (m : ℕ). take m new.parents ≡ first_tree (effective k)) n (shown_parents t (effective k) v old new looks e) in
    record {
      answers = answers;
      last_look = looks;
      states_shown = λ e. subst (λ (m : ℕ). StatesRead (effective k) (take (m * m) new.states)) n (shown_states t (effective k) v old new looks e);
      parents_shown = first;
      parents_read = λ e ps a. subst (FirstReads (effective k)) (sym (first e)) (first_reads (effective k) ps a);
      no_parents = λ e z. first e ∙ first_none (effective k) z;
    }

pub demand_3 :
    (ws : List ℕ) (is : List Input) (o : Answered) (xs : List ℕ) (last : Board) (v : View) (old new : Buffers) → open_refusal ws ≡ 0 →
    OpenedBy ws o → Run is o.board xs last → Looked last old new v → Demand3 ws is xs old new v
demand_3 ws is o xs last v old new z p run l =
    let s = opened_starts ws o (opened_by p) z in
    let r = run_follows run (log_in ws) (record { is_valid = s.good; tied = s.tied }) in
    let shown = looks_valid last v old new r.follows.is_valid (looked l) in
    let t = short_for (model_in ws).instance.n old in
    let k = input_after is (log_in ws) in
    let same = r.follows.tied.same_instance in
    let looks : LooksAt true t (effective k) old new v =
    subst (λ (i : Instance). LooksAt true t i old new v) same
    (subst (λ (n : ℕ). LooksAt true (short_for n old) (instance_of last) old new v) (r.same_n ∙ s.same_n) shown) in
    let n : (effective k).n ≡ (model_in ws).instance.n = sym (ap (λ (i : Instance). i.n) same) ∙ r.same_n ∙ s.same_n in
    shown_as_demanded ws is xs old new v r.same_answers n looks
