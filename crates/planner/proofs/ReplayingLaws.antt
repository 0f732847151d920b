-- The loop that makes a list of calls. What is made so far stands in front of the answers, and what is left would
-- complete the log's answers: so the invariant speaks of the rest of the list and of the log that the board is tied to.
-- Assumes nothing.
use mathlib.Core.Path.{◌≡◌, refl, sym, ap, ◌∙◌, subst}
use mathlib.Core.Bool.{Bool, true, false, ◌||◌}
use mathlib.Core.List.{List, [], ◌∷◌, ◌++◌, append_assoc, append-nil}
use Prim.Native.Nat.{ℕ, zero, suc, ◌+◌, ◌*◌, ◌≤◌, ◌<◌}
use native.Mathlib.Omega.{arith}
use native.Mathlib.Numerals.{add-one}
use lib.Dec.{ltb}
use lib.ListN.{length, get_or, set, take, drop, length-set, drop_of_length-le, take-append-drop}
use lib.Seq.{drop-cons, take-suc-set, drop-set-lt}
use borrow.Author.Tests.{le-ltb, ltb-false}
use Rattle.base.specs.Lists.{in_front}
use Rattle.base.proofs.BoolLaws.{or_false_left, or_false_right, or_right, or_both_false}
use Rattle.base.proofs.FrontLaws.{front_is}
use Rattle.base.proofs.PartLaws.{drop_later}
use Rattle.instance.specs.Limits.{max_vertices, cut_words}
use Rattle.instance.specs.Refusals.{buffer_short}
use Rattle.instance.specs.Instance.{Instance}
use Rattle.instance.specs.Candidates.{first_tree}
use Rattle.instance.specs.States.{states}
use Rattle.instance.specs.Cuts.{words_of}
use Rattle.theory.proofs.StateLaws.{states_read}
use Rattle.theory.proofs.FirstLaws.{first_size}
use Rattle.commands.specs.Valid.{valid}
use Rattle.commands.specs.Log.{Log}
use Rattle.commands.specs.Effective.{effective}
use Rattle.board.specs.ModelOf.{model_of, instance_of}
use Rattle.board.specs.declared.Board.{Board}
use Rattle.board.specs.declared.Answered.{Answered}
use Rattle.commands.proofs.LogLaws.{Tied}
use Rattle.commands.proofs.ValidLaws.{valid_parts}
use Rattle.history_format.specs.HistoryCard.{open_refusal, model_in}
use Rattle.planner.specs.declared.View.{View}
use Rattle.planner.specs.declared.View.TheVariants.{Refused}
use Rattle.planner.specs.Looking.{Buffers, short_for, Shows, Looks}
use Rattle.planner.specs.Replaying.{Call, call, calls, log_in, log_call, call_answers, calls_after, Makes, lists_short, ReplaysAt, Replays}
use Rattle.planner.proofs.CallSteps.{Since, since_same, since_then, words_long, looks_long, CallStep, call_step}

-- the calls from place i on
abbrev pub from : (ks fs gs : List ℕ) → (i : ℕ) → List Call
from ks fs gs i = calls (drop i ks) (drop i fs) (drop i gs)

pub record CallsMade (ws ks fs gs xs₀ : List ℕ) (old : Buffers) (b : Board) (i : ℕ) (xs : List ℕ) (new : Buffers) : Type 0 where
  pub within : i ≤ length ks
  pub firsts : length ks ≤ length fs
  pub seconds : length ks ≤ length gs
  pub room : length ks ≤ length xs₀
  pub long : short_for (model_in ws).instance.n old ≡ false
  pub size : length xs ≡ length xs₀
  pub log : Log
  pub tied : Tied (model_of b) log
  pub good : valid (model_of b) ≡ true
  pub same_n : b.n ≡ (model_in ws).instance.n
  pub since : Since (model_in ws).instance.n old new
  pub answered :
      take i xs ++ call_answers (from ks fs gs i) log
      ≡ call_answers (calls ks fs gs) (log_in ws)
  pub rest : drop i xs ≡ drop i xs₀
  pub after :
      calls_after (from ks fs gs i) log
      ≡ calls_after (calls ks fs gs) (log_in ws)

-- a buffer is too short after calls exactly when it was before
same_short : (n : ℕ) (old new : Buffers) → Since n old new → short_for n new ≡ short_for n old
same_short n old new s = rw (s.parents_long, s.states_long, s.cuts_long)

pub split : (ks fs gs : List ℕ) (i : ℕ) → i < length ks → length ks ≤ length fs → length ks ≤ length gs →
    from ks fs gs i ≡ call (get_or ks i 0) (get_or fs i 0) (get_or gs i 0) ∷ from ks fs gs (suc i)
unfolding calls
split ks fs gs i h p q = rw (drop-cons ks i 0 h, drop-cons fs i 0 (omega arith), drop-cons gs i 0 (omega arith))

lists_not_short : (ks fs gs xs : List ℕ) → length ks ≤ length fs → length ks ≤ length gs → length ks ≤ length xs → lists_short (length ks) (length fs) (length gs) (length xs) ≡ false
unfolding lists_short
lists_not_short ks fs gs xs p q r = simp (le-ltb (length fs) (length ks) p, le-ltb (length gs) (length ks) q, le-ltb (length xs) (length ks) r)

pub record LongLists (kinds firsts seconds answers : ℕ) : Type 0 where
  pub enough_firsts : kinds ≤ firsts
  pub enough_seconds : kinds ≤ seconds
  pub room : kinds ≤ answers

pub long_lists : (k f s a : ℕ) → lists_short k f s a ≡ false → LongLists k f s a
unfolding lists_short
long_lists k f s a e =
    let P = ltb f k in
    let Q = ltb s k in
    let R = ltb a k in
    let r = or_false_right P (Q || R) e in
    record {
      enough_firsts = ltb-false f k (or_false_left P (Q || R) e);
      enough_seconds = ltb-false s k (or_false_left Q R r);
      room = ltb-false a k (or_false_right Q R r);
    }

-- a card that does not open, and lists or buffers that are too short
pub not_opened : (ws ks fs gs xs : List ℕ) (old : Buffers) (v : View) (a : ℕ) → open_refusal ws ≡ a → (a ≡ 0 → ⊥) → v ≡ Refused a → Replays ws ks fs gs xs xs old old v
unfolding Replays ReplaysAt
not_opened ws ks fs gs xs old v zero e n r = absurd (n refl)
not_opened ws ks fs gs xs old v (suc a) e n r = rw e (refl, record { result = r; buffers = refl })

too_short_at : (t : Bool) (ws ks fs gs xs : List ℕ) (old : Buffers) (v : View) → t ≡ true → v ≡ Refused buffer_short →
    ReplaysAt 0 t (calls ks fs gs) (log_in ws) xs xs old old v
unfolding ReplaysAt
too_short_at t ws ks fs gs xs old v e r = rw e (refl, record { result = r; buffers = refl })

module _ (ws ks fs gs xs : List ℕ) (old : Buffers) (v : View) (z : open_refusal ws ≡ 0) (r : v ≡ Refused buffer_short) where
  abbrev short_lists : Bool
  short_lists = lists_short (length ks) (length fs) (length gs) (length xs)

  pub lists_refused : short_lists ≡ true → Replays ws ks fs gs xs xs old old v
  unfolding Replays
  lists_refused e = rw z (too_short_at (short_lists || short_for (model_in ws).instance.n old) ws ks fs gs xs old v (rw e) r)

  pub buffers_refused : (n : ℕ) → n ≡ (model_in ws).instance.n → short_for n old ≡ true → Replays ws ks fs gs xs xs old old v
  unfolding Replays
  buffers_refused n q e =
      rw z
      (too_short_at (short_lists || short_for (model_in ws).instance.n old) ws ks fs gs xs old v
      (or_right short_lists (short_for (model_in ws).instance.n old) (ap (λ (m : ℕ). short_for m old) (sym q) ∙ e)) r)

-- THE LAST LOOK is one from the buffers as they were before the calls
shows_since : (s : Instance) (v : View) (old mid new : Buffers) → s.n ≤ max_vertices → Since s.n old mid → Shows s mid new v → Shows s old new v
shows_since s v old mid new small e x =
    let same : (k : ℕ) (l a b : List ℕ) → length l ≡ k → drop k a ≡ drop k b → in_front l a ≡ in_front l b =
    λ k l a b n q. sym (front_is l a k n) ∙ ap (λ (r : List ℕ). l ++ r) q ∙ front_is l b k n in
    record {
      cut_list = x.cut_list;
      result = x.result;
      cuts_shown = x.cuts_shown;
      parents_buffer = x.parents_buffer ∙ same s.n (first_tree s) mid.parents old.parents (first_size s) e.parents_after;
      states_buffer = x.states_buffer ∙ same (s.n * s.n) (states s) mid.states old.states (states_read s).size e.states_after;
      cuts_buffer = x.cuts_buffer ∙ same cut_words (words_of x.cut_list) mid.cuts old.cuts (words_long s v mid new x small) e.cuts_after;
    }

finish : (cs : List Call) (k : Log) (v : View) (xs₀ xs : List ℕ) (old new : Buffers) → xs ≡ in_front (call_answers cs k) xs₀ →
    Shows (effective (calls_after cs k)) old new v → ReplaysAt 0 false cs k xs₀ xs old new v
unfolding ReplaysAt
finish cs k v xs₀ xs old new a x = (a, x)

length_answers : (cs : List Call) (k : Log) → length (call_answers cs k) ≡ length cs
unfolding call_answers
length_answers [] k = refl
length_answers (c ∷ cs) k = ap suc (length_answers cs (log_call c k).log)

module _ (ws ks fs gs xs₀ : List ℕ) (old : Buffers) where
  abbrev start : Log
  start = log_in ws

  pub begun : (b : Board) → Tied (model_of b) start → valid (model_of b) ≡ true → b.n ≡ (model_in ws).instance.n → length ks ≤ length fs → length ks ≤ length gs →
      length ks ≤ length xs₀ → short_for b.n old ≡ false → CallsMade ws ks fs gs xs₀ old b 0 xs₀ old
  begun b y g e p q r t =
      record {
        within = omega arith;
        firsts = p;
        seconds = q;
        room = r;
        long = ap (λ (n : ℕ). short_for n old) (sym e) ∙ t;
        size = refl;
        log = start;
        tied = y;
        good = g;
        same_n = e;
        since = since_same (model_in ws).instance.n old old refl;
        answered = refl;
        rest = refl;
        after = refl;
      }

  -- one call more
  pub again : (b : Board) (i : ℕ) (xs : List ℕ) (new next : Buffers) (d : Answered) → i < length ks → CallsMade ws ks fs gs xs₀ old b i xs new →
      Makes b (call (get_or ks i 0) (get_or fs i 0) (get_or gs i 0)) new next d → CallsMade ws ks fs gs xs₀ old d.board (i + 1) (set xs i d.answer) next
  unfolding call_answers calls_after
  again b i xs new next d h g m =
      let e = call (get_or ks i 0) (get_or fs i 0) (get_or gs i 0) in
      let q : short_for b.n new ≡ false = ap (λ (n : ℕ). short_for n new) g.same_n ∙ same_short (model_in ws).instance.n old new g.since ∙ g.long in
      let s : CallStep e b g.log new next d = call_step b g.log g.good g.tied e d new next q m in
      let sp = split ks fs gs i h g.firsts g.seconds in
      let k = (log_call e g.log).log in
      subst (λ (j : ℕ). CallsMade ws ks fs gs xs₀ old d.board j (set xs i d.answer) next) (sym (add-one i))
      (record {
        within = h;
        firsts = g.firsts;
        seconds = g.seconds;
        room = g.room;
        long = g.long;
        size = length-set xs i d.answer ∙ g.size;
        log = k;
        tied = s.tied;
        good = s.good;
        same_n = s.same_n ∙ g.same_n;
        since = since_then g.since (subst (λ (n : ℕ). Since n new next) g.same_n s.since);
        answered =
            ap (λ (l : List ℕ). l ++ call_answers (from ks fs gs (suc i)) k) (take-suc-set xs i d.answer (omega (arith, g.size, g.room)))
            ∙ append_assoc (take i xs) (d.answer ∷ []) (call_answers (from ks fs gs (suc i)) k)
            ∙ ap (λ (a : ℕ). take i xs ++ (a ∷ call_answers (from ks fs gs (suc i)) k)) s.answer
            ∙ ap (λ (cs : List Call). take i xs ++ call_answers cs g.log) (sym sp)
            ∙ g.answered;
        rest = drop-set-lt (suc i) xs i d.answer (omega arith) ∙ drop_later i (suc i) xs xs₀ (omega arith) g.rest;
        after = ap (λ (cs : List Call). calls_after cs g.log) (sym sp) ∙ g.after;
      })

  past : (i : ℕ) → length ks ≤ i → from ks fs gs i ≡ []
  unfolding calls
  past i h = rw (drop_of_length-le ks {i = i} h)

  -- THE END: the last look, at a board that is tied to the log of the whole list
  length_calls : (ks fs gs : List ℕ) → length ks ≤ length fs → length ks ≤ length gs → length (calls ks fs gs) ≡ length ks
  unfolding calls
  length_calls [] fs gs p q = refl
  length_calls (k ∷ ks) [] gs p q = absurd (omega arith)
  length_calls (k ∷ ks) (f ∷ fs) [] p q = absurd (omega arith)
  length_calls (k ∷ ks) (f ∷ fs) (g ∷ gs) p q = ap suc (length_calls ks fs gs (omega arith) (omega arith))

  module _ (b : Board) (i : ℕ) (xs : List ℕ) (mid new : Buffers) (v : View) (h : length ks ≤ i) (g : CallsMade ws ks fs gs xs₀ old b i xs mid)
      (l : Looks b mid new v) where
    all_made : i ≡ length (calls ks fs gs)
    all_made = omega (arith, g.within, length_calls ks fs gs g.firsts g.seconds)

    answers_made : xs ≡ in_front (call_answers (calls ks fs gs) start) xs₀
    unfolding call_answers
    answers_made =
        sym (take-append-drop i xs)
        ∙ ap (λ (r : List ℕ). take i xs ++ r) g.rest
        ∙ ap (λ (r : List ℕ). r ++ drop i xs₀)
        (sym (append-nil (take i xs)) ∙ ap (λ (cs : List Call). take i xs ++ call_answers cs g.log) (sym (past i h)) ∙ g.answered)
        ∙ front_is (call_answers (calls ks fs gs) start) xs₀ i (length_answers (calls ks fs gs) start ∙ sym all_made)

    log_made : g.log ≡ calls_after (calls ks fs gs) start
    unfolding calls_after
    log_made = ap (λ (cs : List Call). calls_after cs g.log) (sym (past i h)) ∙ g.after

    shown_of : instance_of b ≡ effective (calls_after (calls ks fs gs) start)
    shown_of = g.tied.same_instance ∙ ap effective log_made

    shown : Shows (instance_of b) old new v
    shown =
        let q : short_for b.n mid ≡ false = ap (λ (n : ℕ). short_for n mid) g.same_n ∙ same_short (model_in ws).instance.n old mid g.since ∙ g.long in
        shows_since (instance_of b) v old mid new (valid_parts (model_of b) g.good).n_high (subst (λ (n : ℕ). Since n old mid) (sym g.same_n) g.since)
        (looks_long b v mid new g.good q l)

    pub ended : open_refusal ws ≡ 0 → Replays ws ks fs gs xs₀ xs old new v
    unfolding Replays
    ended z =
        rw (z, or_both_false (lists_short (length ks) (length fs) (length gs) (length xs₀)) (short_for (model_in ws).instance.n old) (lists_not_short ks fs gs xs₀ g.firsts g.seconds g.room) g.long)
        (finish (calls ks fs gs) start v xs₀ xs old new answers_made (subst (λ (s : Instance). Shows s old new v) shown_of shown))
