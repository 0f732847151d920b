-- Boards that are the same are equally valid, answer every command alike and stay the same: what no call looks at
-- decides nothing. Assumes nothing.
use mathlib.Core.Path.{◌≡◌, refl, sym, ap, ◌∙◌, subst}
use mathlib.Core.Bool.{Bool, true, false, ◌&&◌, cond}
use mathlib.Core.List.{List, [], ◌∷◌}
use Prim.Native.Nat.{ℕ, zero, suc}
use lib.Dec.{leb}
use lib.ListN.{length, get_or, length-set}
use Rattle.base.specs.Bounded.{all_below, any_below}
use Rattle.base.specs.Lists.{tabulate, all_of}
use Rattle.base.proofs.AllOfLaws.{all_of_eq}
use Rattle.base.proofs.StoreLaws.{store_alike}
use Rattle.instance.specs.Limits.{max_vertices, free, banned, max_records}
use Rattle.instance.specs.Refusals.{history_empty, invalid_board}
use Rattle.instance.specs.Marks.{mark_number}
use Rattle.instance.specs.Instance.{Instance, with_budget, cell, weight, mark, is_arc}
use Rattle.instance.specs.Cuts.{inside}
use Rattle.instance.specs.Valid.{valid_instance}
use Rattle.instance.specs.Same.{SameInstance}
use Rattle.instance.specs.declared.Mark.{Mark}
use Rattle.instance.proofs.SameLaws.{same_is_arc, same_arc_mark, same_valid_instance}
use Rattle.commands.specs.Heads.{names_arc, names_any, heads_of, marks_of, with_marks}
use Rattle.commands.specs.Model.{Replaced, old_mark, old_marks, old_budget, Model, with_mark, restored}
use Rattle.commands.specs.Valid.{head_ok, record_ok, valid}
use Rattle.commands.specs.Commands.{Command, set_mark, set_marks, set_budget, undo, Result, refused, accepted, decided, mark_refusal, marked, marks_refusal, several_marked, budget_refusal, budgeted, undone, applied, answered, answers, board_after}
use Rattle.commands.specs.SameBoard.{SameBoard, SameResult}
use Rattle.commands.proofs.HeadsLaws.{put_length, put_alike}
use Rattle.commands.proofs.CommandLaws.{unrefused}

-- WHAT COMMANDS DO TO AN INSTANCE
module _ (a b : Instance) (e : SameInstance a b) where
  with_mark_same : length a.marks ≡ length b.marks → (m t h : ℕ) → SameInstance (with_mark m t h a) (with_mark m t h b)
  unfolding with_mark weight mark
  with_mark_same n m t h =
      record {
        same_n = e.same_n;
        same_root = e.same_root;
        same_budget = e.same_budget;
        same_weights = e.same_weights;
        same_marks = λ u v c. store_alike free m a.marks b.marks (cell t h) (cell u v) n (e.same_marks u v c);
      }

  with_marks_same :
      length a.marks ≡ length b.marks → (t : ℕ) (q : ℕ → Bool) (g : ℕ → ℕ) → SameInstance (with_marks t q g a) (with_marks t q g b)
  unfolding with_marks weight mark
  with_marks_same n t q g =
      record {
        same_n = e.same_n;
        same_root = e.same_root;
        same_budget = e.same_budget;
        same_weights = e.same_weights;
        same_marks = λ u v c. put_alike t q g a.marks b.marks (cell u v) n (e.same_marks u v c);
      }

  same_names : (t c : ℕ) → names_arc a t c ≡ names_arc b t c
  unfolding names_arc
  same_names t c = λ j h. inside c h && same_is_arc a b e t h j

  -- the marks of the arcs that are named
  same_marks_of : (t c : ℕ) → marks_of a t (names_arc b t c) ≡ marks_of b t (names_arc b t c)
  unfolding marks_of names_arc
  same_marks_of t c = λ j. tabulate max_vertices (λ h. mark_same h j)
    where
      at : (x y : Bool) (h : ℕ) → (y ≡ true → mark a t h ≡ mark b t h) → cond (x && y) (mark a t h) free ≡ cond (x && y) (mark b t h) free
      at true true h m = m refl
      at true false h m = refl
      at false y h m = refl

      mark_same : (h : ℕ) → cond (inside c h && is_arc b t h) (mark a t h) free ≡ cond (inside c h && is_arc b t h) (mark b t h) free
      mark_same h = at (inside c h) (is_arc b t h) h (same_arc_mark a b e t h)

  with_budget_same : (v : ℕ) → SameInstance (with_budget v a) (with_budget v b)
  unfolding weight mark
  with_budget_same v =
      record { same_n = e.same_n; same_root = e.same_root; same_budget = refl; same_weights = e.same_weights; same_marks = e.same_marks }

  pub record_ok_same : (r : Replaced) → record_ok a r ≡ record_ok b r
  unfolding record_ok head_ok
  record_ok_same (old_mark t h m) = ap (λ (c : Bool). c && leb m banned) (same_is_arc a b e t h)
  record_ok_same (old_marks t c ms) =
      λ j. any_below max_vertices (inside c) && all_below max_vertices (λ h. cond (inside c h) (same_is_arc a b e t h j && leb (get_or ms h free) banned) true)
  record_ok_same (old_budget v) = refl

-- THE SAME TESTS REFUSE BOTH, OR NEITHER
module _ (a b : Model) (s : SameBoard a b) where
  refused_same : (k : ℕ) → SameResult (refused k a) (refused k b)
  unfolding refused
  refused_same k = record { same_answer = refl; same_board = s }

  accepted_same :
      (q r : Replaced) (x y : Instance) → q ≡ r → SameInstance x y → length x.marks ≡ length y.marks → SameResult (accepted q x a) (accepted r y b)
  unfolding accepted
  accepted_same q r x y o i n =
      record {
        same_answer = refl;
        same_board =
            record {
              same_instances = i;
              same_sizes = n;
              same_history = ap (λ (p : Replaced). p ∷ a.history) o ∙ ap (λ (ps : List Replaced). r ∷ ps) s.same_history;
            };
      }

  decided_same :
      (j k : ℕ) (d f : Result) → j ≡ k → (k ≡ 0 → SameResult d f) → SameResult (decided j d a) (decided k f b)
  unfolding decided
  decided_same j zero d f p h = rw p (h refl)
  decided_same j (suc k) d f p h = rw p (refused_same (suc k))

  valid_tests : (v w : Bool) (d f : Result) → v ≡ w → SameResult d f → SameResult (cond v d (refused invalid_board a)) (cond w f (refused invalid_board b))
  valid_tests v true d f p k = rw p k
  valid_tests v false d f p k = rw p (refused_same invalid_board)

-- EVERY COMMAND
module _ (a b : Model) (s : SameBoard a b) where
  abbrev sa : Instance
  sa = a.instance

  abbrev sb : Instance
  sb = b.instance

  same : SameInstance a.instance b.instance
  same = s.same_instances

  pub same_valid : valid a ≡ valid b
  unfolding valid
  same_valid =
      ap (λ (c : Bool). c && (leb (length a.history) max_records && all_of (record_ok sa) a.history)) (same_valid_instance sa sb same)
      ∙ ap (λ (c : Bool). valid_instance sb && (leb (length a.history) max_records && c))
      (all_of_eq (record_ok sa) (record_ok sb) (record_ok_same sa sb same) a.history)
      ∙ ap (λ (rs : List Replaced). valid_instance sb && (leb (length rs) max_records && all_of (record_ok sb) rs)) s.same_history

  mark_sizes : (m t h : ℕ) → length (with_mark m t h sa).marks ≡ length (with_mark m t h sb).marks
  unfolding with_mark
  mark_sizes m t h = length-set sa.marks (cell t h) m ∙ s.same_sizes ∙ sym (length-set sb.marks (cell t h) m)

  marks_sizes : (t : ℕ) (q : ℕ → Bool) (g : ℕ → ℕ) → length (with_marks t q g sa).marks ≡ length (with_marks t q g sb).marks
  unfolding with_marks
  marks_sizes t q g = put_length t q g sa.marks ∙ s.same_sizes ∙ sym (put_length t q g sb.marks)

  budget_sizes : (v : ℕ) → length (with_budget v sa).marks ≡ length (with_budget v sb).marks
  budget_sizes v = s.same_sizes

  mark_refusal_same : (t h : ℕ) → mark_refusal sa (length a.history) t h ≡ mark_refusal sb (length b.history) t h
  unfolding mark_refusal
  mark_refusal_same t h = rw (same_is_arc sa sb same t h, same.same_n, s.same_history)

  marked_same : (m : Mark) (t h : ℕ) → SameResult (marked m t h a) (marked m t h b)
  unfolding marked
  marked_same m t h =
      decided_same a b s (mark_refusal sa (length a.history) t h) (mark_refusal sb (length b.history) t h) _ _ (mark_refusal_same t h)
      (λ e.
      accepted_same a b s (old_mark t h (mark sa t h)) (old_mark t h (mark sb t h)) (with_mark (mark_number m) t h sa) (with_mark (mark_number m) t h sb)
      (ap (old_mark t h) (same_arc_mark sa sb same t h (unrefused sb (length b.history) t h e).arc))
      (with_mark_same sa sb same s.same_sizes (mark_number m) t h) (mark_sizes (mark_number m) t h))

  marks_refusal_same : (t c : ℕ) → marks_refusal sa (length a.history) t c ≡ marks_refusal sb (length b.history) t c
  unfolding marks_refusal names_any
  marks_refusal_same t c = rw (same_names sa sb same t c, same.same_n, s.same_history)

  several_marked_same : (m : Mark) (t c : ℕ) → SameResult (several_marked m t c a) (several_marked m t c b)
  unfolding several_marked
  several_marked_same m t c =
      let q = names_arc sb t c in
      decided_same a b s (marks_refusal sa (length a.history) t c) (marks_refusal sb (length b.history) t c) _ _ (marks_refusal_same t c)
      (λ _.
      rw (same_names sa sb same t c)
      (accepted_same a b s (old_marks t (heads_of q) (marks_of sa t q)) (old_marks t (heads_of q) (marks_of sb t q))
      (with_marks t q (λ h. mark_number m) sa) (with_marks t q (λ h. mark_number m) sb) (ap (old_marks t (heads_of q)) (same_marks_of sa sb same t c))
      (with_marks_same sa sb same s.same_sizes t q (λ h. mark_number m)) (marks_sizes t q (λ h. mark_number m))))

  budgeted_same : (v : ℕ) → SameResult (budgeted v a) (budgeted v b)
  unfolding budgeted
  budgeted_same v =
      decided_same a b s (budget_refusal (length a.history) v) (budget_refusal (length b.history) v) _ _
      (ap (λ (rs : List Replaced). budget_refusal (length rs) v) s.same_history)
      (λ _.
      accepted_same a b s (old_budget sa.budget) (old_budget sb.budget) (with_budget v sa) (with_budget v sb)
      (ap old_budget same.same_budget) (with_budget_same sa sb same v) (budget_sizes v))

  undone_same : (rs : List Replaced) → SameResult (undone rs a) (undone rs b)
  unfolding undone restored
  undone_same [] = refused_same a b s history_empty
  undone_same (old_mark t h m ∷ rs) =
      record {
        same_answer = refl;
        same_board = record { same_instances = with_mark_same sa sb same s.same_sizes m t h; same_sizes = mark_sizes m t h; same_history = refl };
      }
  undone_same (old_marks t c ms ∷ rs) =
      let g : ℕ → ℕ = λ h. get_or ms h free in
      record {
        same_answer = refl;
        same_board =
            record { same_instances = with_marks_same sa sb same s.same_sizes t (inside c) g; same_sizes = marks_sizes t (inside c) g; same_history = refl };
      }
  undone_same (old_budget v ∷ rs) =
      record {
        same_answer = refl;
        same_board = record { same_instances = with_budget_same sa sb same v; same_sizes = budget_sizes v; same_history = refl };
      }

  pub same_applied : (c : Command) → SameResult (applied c a) (applied c b)
  unfolding applied
  same_applied (set_mark m t h) = marked_same m t h
  same_applied (set_marks m t c) = several_marked_same m t c
  same_applied (set_budget v) = budgeted_same v
  same_applied undo = subst (λ (rs : List Replaced). SameResult (undone a.history a) (undone rs b)) s.same_history (undone_same a.history)

  pub same_answered : (c : Command) → SameResult (answered c a) (answered c b)
  unfolding answered
  same_answered c = valid_tests a b s (valid a) (valid b) (applied c a) (applied c b) same_valid (same_applied c)

-- EVERY LIST OF COMMANDS
pub same_answers : (cs : List Command) (a b : Model) → SameBoard a b → answers answered cs a ≡ answers answered cs b
unfolding answers
same_answers [] a b s = refl
same_answers (c ∷ cs) a b s =
    let k = same_answered a b s c in
    ap (λ (v : ℕ). v ∷ answers answered cs (answered c a).board) k.same_answer
    ∙ ap (λ (vs : List ℕ). (answered c b).answer ∷ vs) (same_answers cs (answered c a).board (answered c b).board k.same_board)

pub same_after : (cs : List Command) (a b : Model) → SameBoard a b → SameBoard (board_after answered cs a) (board_after answered cs b)
unfolding board_after
same_after [] a b s = s
same_after (c ∷ cs) a b s = same_after cs (answered c a).board (answered c b).board (same_answered a b s c).same_board
