-- The loop that makes a prepared list of presses, and the card after it. What was made so far and what the rest of the
-- list would give are together the whole list. Assumes nothing.
use mathlib.Core.Path.{◌≡◌, refl, sym, ap, ◌∙◌}
use mathlib.Core.Bool.{Bool, true, false, cond, true≢false}
use mathlib.Core.List.{List, [], ◌∷◌, map}
use mathlib.Core.Logic.{◌≢◌}
use Prim.Native.Nat.{ℕ, suc, ◌+◌, ◌≤◌, ◌<◌}
use native.Mathlib.Omega.{arith}
use lib.Dec.{eqb}
use lib.ListN.{length, get_or, drop_of_length-le}
use borrow.Author.Tests.{eq-eqb, ne_eqb}
use Rattle.commands.specs.Model.{Model}
use Rattle.commands.specs.Commands.{Command, answered}
use Rattle.commands.specs.Valid.{valid}
use Rattle.board.specs.ModelOf.{model_of}
use Rattle.board.specs.Calls.{Answers}
use Rattle.board.specs.declared.Board.{Board}
use Rattle.board.specs.declared.Answered.{Answered}
use Rattle.board.specs.Contents.{Contents, contents_after}
use Rattle.board.proofs.CallLaws.{call_board, call_answer, call_valid}
use Rattle.command_list.specs.CommandList.{ListResult, none_applied, list_applied}
use Rattle.command_list.specs.CommandList as lists
use Rattle.board.specs.declared.Command as declared-command
use Rattle.planner.specs.declared.replaying.Call as declared-call
use Rattle.planner.specs.declared.replaying.Call.TheVariants as declared-calls
use Rattle.planner.specs.Replaying.{Call, command, look, write, call, call_of, calls}
use Rattle.planner.proofs.ReplayingLaws.{from, split}
use Rattle.feed_planner.specs.PressLists.{no_such_press, ListPressed, none_pressed, one_more, list_pressed}

-- so many presses made before
abbrev more_pressed : (count : ℕ) → ListPressed → ListPressed
more_pressed k r = record { applied = k + r.applied; answer = r.answer; board = r.board }

abbrev with_applied : (applied : ℕ) → ListPressed → ListPressed
with_applied k r = record { applied = k; answer = r.answer; board = r.board }

none_more : (k a : ℕ) (m : Model) → more_pressed k (none_pressed a m) ≡ record { applied = k; answer = a; board = m }
none_more k a m = ap (λ (x : ℕ). with_applied x (none_pressed a m)) (omega arith)

one_further : (k : ℕ) (r : ListPressed) → more_pressed k (one_more r) ≡ more_pressed (k + 1) r
one_further k r = ap (λ (x : ℕ). with_applied x r) (omega arith)

pub record PressedSoFar (ks fs gs : List ℕ) (m : Model) (b : Board) (i : ℕ) : Type 0 where
  pub within : i ≤ length ks
  pub good : valid (model_of b) ≡ true
  pub made : more_pressed i (list_pressed (from ks fs gs i) (model_of b)) ≡ list_pressed (calls ks fs gs) m

pub none_yet : (ks fs gs : List ℕ) (b : Board) → valid (model_of b) ≡ true → PressedSoFar ks fs gs (model_of b) b 0
none_yet ks fs gs b v =
    let r = list_pressed (calls ks fs gs) (model_of b) in
    record { within = omega arith; good = v; made = ap (λ (x : ℕ). with_applied x r) (omega arith) }

-- A KIND THAT PRESSES NOTHING
abbrev pub presses : Call → Bool
presses (command c) = true
presses look = false
presses write = false

pub presses_nothing : (a : declared-call.Call) → ((c : declared-command.Command) → a ≡ declared-calls.Command c → ⊥) → presses (call_of a) ≡ false
presses_nothing (declared-calls.Command c) n = absurd (n c refl)
presses_nothing declared-calls.Look n = refl
presses_nothing declared-calls.Write n = refl

nothing_pressed : (a : Call) (cs : List Call) (m : Model) → presses a ≡ false → list_pressed (a ∷ cs) m ≡ none_pressed no_such_press m
unfolding list_pressed
nothing_pressed (command c) cs m e = absurd (true≢false e)
nothing_pressed look cs m e = refl
nothing_pressed write cs m e = refl

module _ (ks fs gs : List ℕ) (m : Model) (p : length ks ≤ length fs) (q : length ks ≤ length gs) (b : Board) (i : ℕ) (s : PressedSoFar ks fs gs m b i) where
  pub stopped_at_kind : i < length ks → presses (call (get_or ks i 0) (get_or fs i 0) (get_or gs i 0)) ≡ false
      → record { applied = i; answer = no_such_press; board = model_of b } ≡ list_pressed (calls ks fs gs) m
  stopped_at_kind h n =
      sym (none_more i no_such_press (model_of b))
      ∙ ap (more_pressed i) (sym (nothing_pressed (call (get_or ks i 0) (get_or fs i 0) (get_or gs i 0)) (from ks fs gs (suc i)) (model_of b) n))
      ∙ ap (λ (cs : List Call). more_pressed i (list_pressed cs (model_of b))) (sym (split ks fs gs i h p q)) ∙ s.made

  -- ONE PRESS
  module _ (h : i < length ks) (c : Command) (e : command c ≡ call (get_or ks i 0) (get_or fs i 0) (get_or gs i 0)) (d : Answered)
      (a : Answers (answered c (model_of b)) b d) where
    abbrev rest : List Call
    rest = from ks fs gs (suc i)

    next : more_pressed i (list_pressed (command c ∷ rest) (model_of b)) ≡ list_pressed (calls ks fs gs) m
    next = ap (λ (x : Call). more_pressed i (list_pressed (x ∷ rest) (model_of b))) e
        ∙ ap (λ (cs : List Call). more_pressed i (list_pressed cs (model_of b))) (sym (split ks fs gs i h p q)) ∙ s.made

    -- refused: "board as before"
    pub stopped_at_press : d.answer ≢ 0 → record { applied = i; answer = d.answer; board = model_of d.board } ≡ list_pressed (calls ks fs gs) m
    unfolding list_pressed
    stopped_at_press z =
        let t = call_answer c b d a in
        let r : list_pressed (command c ∷ rest) (model_of b) ≡ none_pressed d.answer (model_of b) = rw (← t, ne_eqb d.answer 0 z) in
        ap (λ (x : Board). record { applied = i; answer = d.answer; board = model_of x }) (a.unchanged z)
        ∙ sym (none_more i d.answer (model_of b)) ∙ ap (more_pressed i) (sym r) ∙ next

    pub pressed_one_more : d.answer ≡ 0 → PressedSoFar ks fs gs m d.board (i + 1)
    unfolding list_pressed
    pressed_one_more z =
        let t = sym (call_answer c b d a) ∙ z in
        let r : list_pressed (command c ∷ rest) (model_of b) ≡ one_more (list_pressed rest (model_of d.board)) = rw (eq-eqb _ 0 t, call_board c b d a) in
        record {
          within = omega arith;
          good = call_valid c b d a s.good;
          made =
              ap (λ (j : ℕ). more_pressed (i + 1) (list_pressed (from ks fs gs j) (model_of d.board))) {x = i + 1} {y = suc i} (omega arith)
              ∙ sym (one_further i (list_pressed rest (model_of d.board))) ∙ ap (more_pressed i) (sym r) ∙ next;
        }

  -- THE END
  pub all_pressed : length ks ≤ i → record { applied = i; answer = 0; board = model_of b } ≡ list_pressed (calls ks fs gs) m
  unfolding list_pressed calls
  all_pressed h =
      sym (none_more i 0 (model_of b))
      ∙ ap (λ (cs : List Call). more_pressed i (list_pressed cs (model_of b))) (sym past) ∙ s.made
    where
      past : from ks fs gs i ≡ []
      past = rw (drop_of_length-le ks {i = i} h)

-- A LIST OF PRESSES gives what `press_list` gives: the same numbers, and the model of the board that it leaves
abbrev model_result : ListResult → ListPressed
model_result r = record { applied = r.applied; answer = r.answer; board = r.board.model }

pub pressed_as_applied : (cs : List Command) (w : Contents) → list_pressed (map command cs) w.model ≡ model_result (list_applied cs w)
unfolding list_pressed list_applied none_applied lists.one_more contents_after
pressed_as_applied [] w = refl
pressed_as_applied (c ∷ cs) w = go (eqb (answered c w.model).answer 0) (pressed_as_applied cs (contents_after c w))
  where
    go : (b : Bool) → list_pressed (map command cs) (contents_after c w).model ≡ model_result (list_applied cs (contents_after c w))
        → cond b (one_more (list_pressed (map command cs) (answered c w.model).board)) (none_pressed (answered c w.model).answer w.model)
        ≡ model_result (cond b (lists.one_more (list_applied cs (contents_after c w))) (none_applied (answered c w.model).answer w))
    go true e = ap one_more e
    go false e = refl
