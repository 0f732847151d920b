-- PLANS MADE ELSEWHERE (02, A6), of the calls: a plan that is accepted is a cheapest tree that keeps pins and bans,
-- whoever made it; on a board without a tree every plan is 21; whatever a look gives as plan or over is accepted; after
-- any run a check goes by the effective marks; and boards that are called equal answer alike. Assumes nothing.
use mathlib.Core.Path.{◌≡◌, refl, sym, ap, ◌∙◌, subst}
use mathlib.Core.Bool.{Bool, true, false, cond, true≢false}
use mathlib.Core.List.{List, ◌++◌, append_assoc}
use mathlib.Core.Logic.{◌⊎◌, inl, inr}
use Prim.Native.Nat.{ℕ, ◌*◌, ◌-◌, ◌≤◌}
use native.Mathlib.Omega.{arith}
use lib.ListN.{length, take, drop, replicate, length-take, take-append-drop}
use Rattle.instance.specs.Limits.{max_vertices, max_cuts, cut_words}
use Rattle.instance.specs.Refusals.{invalid_board, not_arborescence}
use Rattle.instance.specs.Instance.{Instance}
use Rattle.instance.specs.Arborescence.{is_arborescence, total}
use Rattle.instance.specs.Candidates.{first_tree}
use Rattle.instance.specs.Cuts.{Cut, cuts_in, pair_words, words_of, values, Feasible}
use Rattle.instance.specs.declared.Outcome.{Outcome}
use Rattle.instance.specs.declared.Outcome.TheVariants.{Plan, Over, NoTree}
use Rattle.instance.specs.States.{outcome}
use Rattle.theory.proofs.MarkLaws.{pinned_used, banned_unused}
use Rattle.theory.proofs.OutcomeLaws.{outcome_reads}
use Rattle.theory.proofs.FirstLaws.{first_size}
use Rattle.theory.proofs.SameOutcomes.{arcs_same}
use Rattle.certificate.specs.Certificate.{certificate_refusal}
use Rattle.certificate.specs.Readings.{Accepted}
use Rattle.certificate.proofs.CertificateLaws.{same_refusal, accepted_reads, accepted_least, no_tree_refused}
use Rattle.commands.specs.Valid.{valid}
use Rattle.commands.specs.LogLists.{Input, input_after}
use Rattle.commands.specs.Effective.{effective}
use Rattle.commands.specs.SameBoard.{SameBoard}
use Rattle.commands.proofs.SameBoardLaws.{same_valid}
use Rattle.commands.proofs.ValidLaws.{valid_parts}
use Rattle.board.specs.ModelOf.{model_of, instance_of}
use Rattle.board.specs.declared.Board.{Board}
use Rattle.board.specs.declared.Answered.{Answered}
use Rattle.survey.specs.FirstPlan.{CutsShown}
use Rattle.survey.proofs.WordLaws.{cuts_again}
use Rattle.survey.proofs.ShownLaws.{words_length}
use Rattle.planner.specs.declared.View.{View}
use Rattle.planner.specs.declared.View.TheVariants.{Shown, Refused}
use Rattle.planner.specs.Looking.{Buffers, short_for, LooksAt, Looks}
use Rattle.planner.specs.Checking.{check_answer}
use Rattle.planner.proofs.Learnt.{OpenedBy, opened_by, Looked, looked, Checked, checked}
use Rattle.history_format.specs.HistoryCard.{open_refusal}
use Rattle.planner.specs.Replaying.{log_in}
use Rattle.planner.proofs.OpeningLaws.{opened_starts}
use Rattle.demands.proofs.DemandTwo.{KeepsMarks, ProvedTree, demand_2}
use Rattle.demands.proofs.Runs.{Run, run_follows}

-- A PLAN THAT IS ACCEPTED
pub record CheapestPlan (s : Instance) (tree : List ℕ) (v : ℕ) : Type 0 where
  pub arborescence : is_arborescence s tree ≡ true
  pub costs : total s tree ≡ v
  pub marks_kept : KeepsMarks s tree
  pub least : (ps : List ℕ) → is_arborescence s ps ≡ true → v ≤ total s ps

module _ {b : Board} {ps ps' : List ℕ} {v k : ℕ} {ws ws' : List ℕ} {r : ℕ} (c : Checked b ps ps' v k ws ws' r) where
  -- what was answered 0 was accepted, on a valid board
  check_accepted : r ≡ 0 → Accepted (instance_of b) ps v k ws
  check_accepted z = (accepted_reads (instance_of b) ps v k ws).0 (by (valid (model_of b)) (sym (checked c).result ∙ z))
    where
      by : (g : Bool) → cond g (certificate_refusal (instance_of b) ps v k ws) invalid_board ≡ 0 → certificate_refusal (instance_of b) ps v k ws ≡ 0
      by true e = e
      by false e = absurd (omega (arith, e))

  -- "Show that an accepted plan is cheapest, whoever made it."
  pub accepted_cheapest : r ≡ 0 → CheapestPlan (instance_of b) (take b.n ps) v
  accepted_cheapest z =
      let s = instance_of b in
      let a = check_accepted z in
      record {
        arborescence = a.arborescence;
        costs = a.costs;
        marks_kept = record { pins = pinned_used s (take b.n ps) a.arborescence; bans = banned_unused s (take b.n ps) a.arborescence };
        least = (accepted_least s ps v k ws a).least;
      }

  -- a board without a feed tree: every plan that is long enough is 21
  pub none_accepted : valid (model_of b) ≡ true → outcome (instance_of b) ≡ NoTree → b.n ≤ length ps → 2 * k ≤ length ws → r ≡ not_arborescence
  none_accepted g o l m = (checked c).result ∙ rw g (no_tree_refused (instance_of b) ps v k ws ((outcome_reads (instance_of b)).fails.0 o) l m)

-- WHAT OUR OWN PLANNER GIVES
-- a look with an outcome was no refusal
abbrev is_shown : View → Bool
is_shown (Shown o k) = true
is_shown (Refused a) = false

abbrev pub outcome_in : View → Outcome
outcome_in (Shown o k) = o
outcome_in (Refused a) = NoTree

abbrev pub pairs_in : View → ℕ
pairs_in (Shown o k) = k
pairs_in (Refused a) = 0

no_refusal : (g t : Bool) (s : Instance) (old new : Buffers) (u : View) → LooksAt g t s old new u → is_shown u ≡ true → (g ≡ true) × (t ≡ false)
unfolding LooksAt
no_refusal true false s old new u x e = (refl, refl)
no_refusal true true s old new u x e = absurd (true≢false (sym e ∙ ap is_shown x.result))
no_refusal false t s old new u x e = absurd (true≢false (sym e ∙ ap is_shown x.result))

-- buffers that hold the first tree and the cuts that prove it: they are accepted
module _ (s : Instance) (parents words : List ℕ) (cs : List Cut) (small : s.n ≤ max_vertices) (in_parents : take s.n parents ≡ first_tree s)
    (in_cuts : take cut_words words ≡ words_of cs) (shown : CutsShown (outcome s) s cs) (w : ℕ) (p : ProvedTree s (first_tree s) cs w) where
  words_all : length (words_of cs) ≡ cut_words
  words_all = words_length (outcome s) s cs small shown

  few_pairs : length cs ≤ max_cuts
  few_pairs = omega (arith, p.price.few, small)

  parents_long : s.n ≤ length parents
  parents_long =
      let l = length-take s.n parents in
      let m = ap length in_parents ∙ first_size s in
      omega (arith, l, m)

  words_long : cut_words ≤ length words
  words_long =
      let l = length-take cut_words words in
      let m = ap length in_cuts ∙ words_all in
      omega (arith, l, m)

  cuts_read : cuts_in (length cs) words ≡ cs
  unfolding words_of
  cuts_read =
      ap (cuts_in (length cs))
      (sym (take-append-drop cut_words words) ∙ ap (λ (l : List ℕ). l ++ drop cut_words words) in_cuts
      ∙ append_assoc (pair_words cs) (replicate (cut_words - 2 * length cs) 0) (drop cut_words words))
      ∙ cuts_again cs (replicate (cut_words - 2 * length cs) 0 ++ drop cut_words words)

  pub own_plan : Accepted s parents w (length cs) words
  own_plan =
      record {
        parents_sent = parents_long;
        words_sent = omega (arith, words_long, few_pairs);
        arborescence = subst (λ (t : List ℕ). is_arborescence s t ≡ true) (sym in_parents) p.arborescence;
        costs = ap (total s) in_parents ∙ p.costs;
        few = few_pairs;
        feasible = subst (Feasible s) (sym cuts_read) p.price.feasible;
        adds = ap values cuts_read ∙ p.price.adds;
      }

-- "All that our own planner gives as plan or over must be accepted.": the look's own buffers, total and number of pairs
pub own_accepted :
    {b : Board} {u : View} {old new : Buffers} {w k : ℕ} {ps' ws' : List ℕ} {r : ℕ} → Looked b old new u → (u ≡ Shown (Plan w) k) ⊎ (u ≡ Shown (Over w) k) →
    Checked b new.parents ps' w k new.cuts ws' r → r ≡ 0
unfolding Looks
own_accepted {b} {u} {old} {new} {w} {k} {ps'} {ws'} {r} l e c =
    let s = instance_of b in
    let q = no_refusal (valid (model_of b)) (short_for b.n old) s old new u (looked l) (shown_by e) in
    let d = demand_2 b u old new l q.0 q.1 in
    let p = d.proved w (which e (ap outcome_in d.shown)) in
    let a = own_plan s new.parents new.cuts d.cuts (valid_parts (model_of b) q.0).n_high d.in_parents d.in_cuts d.cuts_shown w p in
    let same : length d.cuts ≡ k = sym (ap pairs_in d.shown) ∙ pairs_by e in
    (checked c).result ∙ rw q.0 ((accepted_reads s new.parents w k new.cuts).1 (subst (λ (j : ℕ). Accepted s new.parents w j new.cuts) same a))
  where
    shown_by : (u ≡ Shown (Plan w) k) ⊎ (u ≡ Shown (Over w) k) → is_shown u ≡ true
    shown_by (inl e) = ap is_shown e
    shown_by (inr e) = ap is_shown e

    pairs_by : (u ≡ Shown (Plan w) k) ⊎ (u ≡ Shown (Over w) k) → pairs_in u ≡ k
    pairs_by (inl e) = ap pairs_in e
    pairs_by (inr e) = ap pairs_in e

    which : {o : Outcome} → (u ≡ Shown (Plan w) k) ⊎ (u ≡ Shown (Over w) k) → outcome_in u ≡ o → (o ≡ Plan w) ⊎ (o ≡ Over w)
    which (inl e) x = inl (sym x ∙ ap outcome_in e)
    which (inr e) x = inr (sym x ∙ ap outcome_in e)

-- AFTER ANY RUN on a freshly opened card a plan is judged by the log's marks
pub check_follows :
    (ws : List ℕ) (is : List Input) (o : Answered) (xs : List ℕ) (last : Board) → open_refusal ws ≡ 0 → OpenedBy ws o → Run is o.board xs last →
    {ps ps' : List ℕ} {v k : ℕ} {us us' : List ℕ} {r : ℕ} → Checked last ps ps' v k us us' r →
    r ≡ certificate_refusal (effective (input_after is (log_in ws))) ps v k us
check_follows ws is o xs last z p run {ps} {ps'} {v} {k} {us} {us'} {r} c =
    let s = opened_starts ws o (opened_by p) z in
    let f = (run_follows run (log_in ws) (record { is_valid = s.good; tied = s.tied })).follows in
    (checked c).result ∙ rw f.is_valid (ap (λ (i : Instance). certificate_refusal i ps v k us) f.tied.same_instance)

-- BOARDS THAT ARE CALLED EQUAL answer alike
pub same_check :
    {a b : Board} {ps ps' qs' : List ℕ} {v k : ℕ} {ws us' vs' : List ℕ} {r q : ℕ} → SameBoard (model_of a) (model_of b) → Checked a ps ps' v k ws us' r →
    Checked b ps qs' v k ws vs' q → r ≡ q
same_check {a} {b} {ps} {ps'} {qs'} {v} {k} {ws} {us'} {vs'} {r} {q} s x y =
    let g = same_valid (model_of a) (model_of b) s in
    let c = same_refusal (instance_of a) (instance_of b) (arcs_same (instance_of a) (instance_of b) s.same_instances) ps v k ws in
    let e : check_answer a ps v k ws ≡ check_answer b ps v k ws = rw (g, c) in
    (checked x).result ∙ e ∙ sym (checked y).result
