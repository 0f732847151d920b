-- DEMAND 3 OF THE LIBRARY: a chain of presses, each on the card that the one before wrote, is a run. Every answer is
-- the log's, and a look at the last card shows what demand 3 asks for. The idea: a card that was written opens as the
-- very model that was written, so a card can stand for the board, and each press is one step of the log. Assumes
-- nothing.
use mathlib.Core.Path.{◌≡◌, refl, sym, ap, ◌∙◌, subst}
use mathlib.Core.Bool.{Bool, true, false, true≢false, ◌||◌, cond}
use mathlib.Core.List.{List, [], ◌∷◌, map, ◌++◌}
use mathlib.Core.Logic.{◌≢◌}
use Prim.Native.Nat.{ℕ, zero, suc, ◌≤◌}
use native.Mathlib.Omega.{arith}
use lib.Dec.{ltb, eqb}
use lib.ListN.{length, take}
use borrow.Author.Tests.{eq-eqb, eqb-true, eqb-false, le-ltb}
use Rattle.base.specs.Lists.{any_of}
use Rattle.instance.specs.Instance.{Instance}
use Rattle.instance.specs.Refusals.{buffer_short}
use Rattle.commands.specs.Model.{Model}
use Rattle.commands.specs.Valid.{valid}
use Rattle.commands.specs.Commands.{Command, set_mark, set_marks, set_budget, undo, answered, command_numbers}
use Rattle.commands.specs.Log.{Log, note}
use Rattle.commands.specs.LogLists.{note_list, Input, single, list, input_answers, input_after}
use Rattle.commands.specs.Effective.{effective}
use Rattle.commands.proofs.AnsweredLaws.{answered_valid}
use Rattle.commands.proofs.LogLaws.{Tied}
use Rattle.commands.proofs.NumberLaws.{answered_listed}
use Rattle.history_format.specs.HistoryCard.{open_refusal, model_in, history_card_of, max_history_card}
use Rattle.history_format.proofs.HistoryAgain.{model_in_valid, model_in_shaped}
use Rattle.history_format.proofs.Longest.{longest_history}
use Rattle.planner.specs.declared.View.{View}
use Rattle.planner.specs.Looking.{Buffers, short_for, LooksAt}
use Rattle.planner.specs.Replaying.{Call, command, calls, log_in}
use Rattle.feed_planner.specs.Presses.{pressed, press_refusal, next_card, Presses}
use Rattle.feed_planner.specs.PressLists.{ListPressed, list_pressed, list_refusal, pressed_on, PressesList}
use Rattle.feed_planner.specs.Words.{Words}
use Rattle.feed_planner.specs.Looking.{Views, LooksOn, LooksAtCard}
use Rattle.feed_planner.proofs.Learnt.{PressedBy, pressed_by, ListPressedBy, list_pressed_by, LookedBy, looked_by}
use Rattle.demands.proofs.CardSteps.{press_answer, press_follows, press_stays, list_follows, CardFollows, card_begins, written_follows, stored_answer, stored_card}
use Rattle.demands.proofs.DemandThree.{Demand3, shown_as_demanded}

-- THE CHAIN
-- the card that the caller goes on with: the one that was written, or after a refusal the one that there was
abbrev pub card_after : (answer : ℕ) → (card : List ℕ) → (size : ℕ) → (out : List ℕ) → List ℕ
card_after a ws n out = cond (eqb a 0) (take n out) ws

-- Presses, prepared lists of them and looks between, each by an exported function. 14 is no answer to a press but to
-- the caller's buffer or his lists of numbers: then nothing was pressed, and he goes on with the card that he has; with
-- room for the longest card and a number for each kind it does not come (`room_enough`). Of a
-- prepared list every kind is a press's. `feed_write_card` and the moves make a card that another chain may begin with;
-- the other functions write none.
pub data Chain : List Input → (card : List ℕ) → (answers : List ℕ) → (last : List ℕ) → Type 0 where
  no_press : {ws : List ℕ} → Chain [] ws [] ws
  then_press :
      {c : Command} {is : List Input} {ws out out' : List ℕ} {n n' a : ℕ} {xs last : List ℕ} → PressedBy ws c out out' n n' a → a ≢ buffer_short →
      Chain is (card_after a ws n' out') xs last → Chain (single c ∷ is) ws (a ∷ xs) last
  then_list :
      {cs : List Command} {is : List Input} {ws ks fs gs out out' : List ℕ} {n n' p p' q q' a : ℕ} {xs last : List ℕ} →
      ListPressedBy ws ks fs gs out out' n n' p p' q q' a → a ≢ buffer_short → calls ks fs gs ≡ map command cs →
      Chain is (card_after a ws n' out') xs last → Chain (list cs ∷ is) ws (p' ∷ q' ∷ xs) last
  then_short : {c : Command} {is : List Input} {ws out out' : List ℕ} {n n' : ℕ} {xs last : List ℕ} → PressedBy ws c out out' n n' buffer_short →
      Chain is ws xs last → Chain is ws xs last
  then_list_short : {is : List Input} {ws ks fs gs out out' : List ℕ} {n n' p p' q q' : ℕ} {xs last : List ℕ} →
      ListPressedBy ws ks fs gs out out' n n' p p' q q' buffer_short → Chain is ws xs last → Chain is ws xs last
  then_look :
      {is : List Input} {ws xs last : List ℕ} {old new : Buffers} {w w' : Words} {a : ℕ} → LookedBy ws old new w w' a → Chain is ws xs last → Chain is ws xs last

-- ONE LINK OF THE CHAIN
record Link (i : Input) (k : Log) (n : ℕ) (xs : List ℕ) (ws : List ℕ) : Type 0 where
  same_answers : xs ≡ input_answers (i ∷ []) k
  follows : CardFollows ws (input_after (i ∷ []) k) n

press_link :
    (ws : List ℕ) (c : Command) (out out' : List ℕ) (n n' a : ℕ) (k : Log) (count : ℕ) → a ≢ buffer_short → Presses ws c out out' n n' a →
    CardFollows ws k count → Link (single c) k count (a ∷ []) (card_after a ws n' out')
unfolding press_refusal input_answers input_after
press_link ws c out out' n n' a k count h p f = go (eqb a 0) refl
  where
    v : valid (model_in ws) ≡ true
    v = model_in_valid ws f.opens

    told : a ≡ (pressed ws c).answer
    told = stored_answer (press_refusal ws c) (length (next_card ws c)) (next_card ws c) out out' n n' a p h ∙ rw (eq-eqb (open_refusal ws) 0 f.opens)

    same : a ≡ (note c k).answer
    same = told ∙ press_answer (model_in ws) v c k f.tied

    go : (b : Bool) → eqb a 0 ≡ b → Link (single c) k count (a ∷ []) (card_after a ws n' out')
    go true e =
        let s = stored_card (press_refusal ws c) (length (next_card ws c)) (next_card ws c) out out' n n' a p (eqb-true a 0 e) in
        record {
          same_answers = λ j. same j ∷ [];
          follows = subst (λ (x : List ℕ). CardFollows x (note c k).log count) (sym (rw e s)) (written_follows ws f.opens (single c) k count f);
        }
    go false e =
        let z : (pressed ws c).answer ≢ 0 = λ y. eqb-false a 0 e (told ∙ y) in
        let g = press_follows (model_in ws) v (model_in_shaped ws) c k f.tied in
        let stays = subst (λ (x : Model). Tied x (note c k).log) (press_stays (model_in ws) v c z) g.tied in
        record {
          same_answers = λ j. same j ∷ [];
          follows = subst (λ (x : List ℕ). CardFollows x (note c k).log count) (sym (rw e)) (record { opens = f.opens; tied = stays; same_n = f.same_n });
        }

-- no list of numbers is too short where the answer is not 14
numbers_passed : (t : Bool) (a : ℕ) → a ≢ buffer_short → a ≡ cond t buffer_short 0 → a ≡ 0
numbers_passed true a n e = absurd (n e)
numbers_passed false a n e = e

list_link :
    (ws ks fs gs : List ℕ) (cs : List Command) (out out' : List ℕ) (n n' p p' q q' a : ℕ) (k : Log) (count : ℕ) → a ≢ buffer_short →
    calls ks fs gs ≡ map command cs → PressesList ws ks fs gs out out' n n' p p' q q' a → CardFollows ws k count →
    Link (list cs) k count (p' ∷ q' ∷ []) (card_after a ws n' out')
unfolding list_refusal input_answers input_after
list_link ws ks fs gs cs out out' n n' p p' q q' a k count h e r f =
    let m = model_in ws in
    let t = list_follows cs m (model_in_valid ws f.opens) (model_in_shaped ws) k f.tied in
    let d : pressed_on ws ks fs gs ≡ list_pressed (map command cs) m = ap (λ (c : List Call). list_pressed c m) e in
    let b = history_card_of (pressed_on ws ks fs gs).board in
    let told = stored_answer (list_refusal ws ks fs gs) (length b) b out out' n n' a r.stored h in
    let z : a ≡ 0 = numbers_passed (ltb (length fs) (length ks) || ltb (length gs) (length ks)) a h (told ∙ rw (eq-eqb (open_refusal ws) 0 f.opens)) in
    let s = stored_card (list_refusal ws ks fs gs) (length b) b out out' n n' a r.stored z in
    let u : p' ≡ (note_list cs k).applied = r.applied_word ∙ rw z (ap (λ (x : ListPressed). x.applied) d ∙ t.same_applied) in
    let w : q' ≡ (note_list cs k).answer = r.stopped_word ∙ rw z (ap (λ (x : ListPressed). x.answer) d ∙ t.same_answer) in
    let card : card_after a ws n' out' ≡ history_card_of (list_pressed (map command cs) m).board =
    (rw z s) ∙ ap (λ (x : ListPressed). history_card_of x.board) d in
    record {
      same_answers = λ j. u j ∷ w j ∷ [];
      follows = subst (λ (x : List ℕ). CardFollows x (note_list cs k).log count) (sym card) (written_follows ws f.opens (list cs) k count f);
    }

-- THE WHOLE CHAIN
pub record ChainFollows (is : List Input) (k : Log) (n : ℕ) (xs last : List ℕ) : Type 0 where
  pub same_answers : xs ≡ input_answers is k
  pub follows : CardFollows last (input_after is k) n

pub chain_follows : {is : List Input} {ws xs last : List ℕ} → Chain is ws xs last → (k : Log) (n : ℕ) → CardFollows ws k n → ChainFollows is k n xs last
unfolding input_answers input_after
chain_follows no_press k n f = record { same_answers = refl; follows = f }
chain_follows (then_press {c = c} {ws = ws} {out = out} {out' = out'} {n = m} {n' = m'} {a = a} {xs = xs} p h rest) k n f =
    let l = press_link ws c out out' m m' a k n h (pressed_by p) f in
    let r = chain_follows rest (note c k).log n l.follows in
    record {
      same_answers = ap (λ (zs : List ℕ). zs ++ xs) l.same_answers ∙ ap (λ (zs : List ℕ). (note c k).answer ∷ zs) r.same_answers;
      follows = r.follows;
    }
chain_follows (then_list {cs = cs} {ws = ws} {ks = ks} {fs = fs} {gs = gs} {out = out} {out' = out'} {n = m} {n' = m'} {p = p} {p' = p'} {q = q} {q' = q'} {a = a} {xs = xs} b h e rest) k n f =
    let l = list_link ws ks fs gs cs out out' m m' p p' q q' a k n h e (list_pressed_by b) f in
    let r = chain_follows rest (note_list cs k).log n l.follows in
    record {
      same_answers =
          ap (λ (zs : List ℕ). zs ++ xs) l.same_answers
          ∙ ap (λ (zs : List ℕ). (note_list cs k).applied ∷ (note_list cs k).answer ∷ zs) r.same_answers;
      follows = r.follows;
    }
chain_follows (then_short p rest) k n f = chain_follows rest k n f
chain_follows (then_list_short p rest) k n f = chain_follows rest k n f
chain_follows (then_look l rest) k n f = chain_follows rest k n f

-- ROOM for the longest card: no press on a card that opens is answered 14
room_answer : (k m size a : ℕ) → a ≡ cond (eqb k 0) (cond (ltb size m) buffer_short 0) k → k ≢ buffer_short → m ≤ size → a ≢ buffer_short
room_answer k m size a e n l z = go (eqb k 0) refl e
  where
    go : (x : Bool) → eqb k 0 ≡ x → a ≡ cond x (cond (ltb size m) buffer_short 0) k → ⊥
    go true q w = let r : a ≡ 0 = rw (le-ltb size m l) at w in absurd (omega (arith, z))
    go false q w = n (sym w ∙ z)

-- no command is answered 14
never_short : (c : Command) (m : Model) → (answered c m).answer ≢ buffer_short
unfolding any_of command_numbers
never_short c m e = go c (rw e at (answered_listed c m))
  where
    go : (d : Command) → any_of (eqb buffer_short) (command_numbers d) ≡ true → ⊥
    go (set_mark x t h) q = true≢false (sym q)
    go (set_marks x t h) q = true≢false (sym q)
    go (set_budget v) q = true≢false (sym q)
    go undo q = true≢false (sym q)

pub room_enough : (ws : List ℕ) (c : Command) (out out' : List ℕ) (n n' a : ℕ) → open_refusal ws ≡ 0 → max_history_card ≤ length out → Presses ws c out out' n n' a
    → a ≢ buffer_short
unfolding press_refusal
room_enough ws c out out' n n' a z h p =
    let l = longest_history (pressed ws c).board (answered_valid c (model_in ws) (model_in_valid ws z)) in
    let k : press_refusal ws c ≡ (pressed ws c).answer = rw (eq-eqb (open_refusal ws) 0 z) in
    room_answer (press_refusal ws c) (length (next_card ws c)) (length out) a p.number (λ y. never_short c (model_in ws) (sym k ∙ y)) (omega arith)

-- "Demand 3 for it: a chain of presses, each on the card that the one before wrote, is a run."
pub record ChainClaim (ws : List ℕ) (is : List Input) (xs : List ℕ) (old new : Buffers) (w w' : Words) (answer : ℕ) : Type 0 where
  pub view : View
  pub demanded : Demand3 ws is xs old new view
  pub told : Views view w w' answer

on_open : (k : ℕ) (ws : List ℕ) (old new : Buffers) (v : View) → k ≡ 0 → LooksOn k ws old new v
    → LooksAt true (short_for (model_in ws).instance.n old) (model_in ws).instance old new v
unfolding LooksOn
on_open zero ws old new v z l = l
on_open (suc k) ws old new v z l = absurd (omega (arith, z))

pub chain_demand_3 :
    (ws : List ℕ) (is : List Input) (xs last : List ℕ) (old new : Buffers) (w w' : Words) (a : ℕ) → open_refusal ws ≡ 0 → Chain is ws xs last →
    LookedBy last old new w w' a → ChainClaim ws is xs old new w w' a
chain_demand_3 ws is xs last old new w w' a z c l =
    let n = (model_in ws).instance.n in
    let f = chain_follows c (log_in ws) n (card_begins ws z) in
    let g = f.follows in
    let s = looked_by l in
    let i = g.tied.same_instance in
    let looks = on_open (open_refusal last) last old new s.view g.opens s.looks in
    let k = effective (input_after is (log_in ws)) in
    let there : LooksAt true (short_for n old) k old new s.view =
    subst (λ (x : Instance). LooksAt true (short_for n old) x old new s.view) i
    (subst (λ (m : ℕ). LooksAt true (short_for m old) (model_in last).instance old new s.view) g.same_n looks) in
    record {
      view = s.view;
      demanded = shown_as_demanded ws is xs old new s.view f.same_answers (sym (ap (λ (x : Instance). x.n) i) ∙ g.same_n) there;
      told = s.told;
    }
