-- "The marks afterwards equal those from single presses on each member link, in any order, the 200 limit aside" (02,
-- A5): for every list of heads that has the members that are arcs and no others, in whatever order and however often.
--
-- The idea: one mark more, on marks that were put at some heads at once, is one head more (`put_one`), and the order in
-- which a list names its heads is not to be seen in the test that is left. "The 200 limit aside" is said twice: the
-- marks alone know no limit, and the single commands may start on a board that has room for them. Assumes nothing.
use mathlib.Core.Path.{◌≡◌, refl, sym, ap, ◌∙◌, subst}
use mathlib.Core.Bool.{Bool, true, false, ◌||◌}
use mathlib.Core.List.{List, [], ◌∷◌, map}
use Prim.Native.Nat.{ℕ, ◌+◌, ◌≤◌, ◌<◌}
use native.Mathlib.Omega.{arith}
use lib.Dec.{eqb}
use lib.ListN.{length, replicate}
use borrow.Author.Tests.{lt-ltb, lt-leb, eq-eqb}
use Rattle.base.specs.Lists.{any_of, all_of}
use Rattle.base.proofs.BoolLaws.{and_right, and_both, or_left, or_right}
use Rattle.base.proofs.AllOfLaws.{all_of_first, all_of_rest}
use Rattle.instance.specs.Limits.{max_vertices, max_records}
use Rattle.instance.specs.Marks.{mark_number}
use Rattle.instance.specs.Instance.{Instance, weight, mark, is_arc}
use Rattle.instance.specs.Cuts.{inside}
use Rattle.instance.specs.declared.Mark.{Mark}
use Rattle.instance.proofs.ArcLaws.{arc_ends}
use Rattle.commands.specs.Heads.{names_arc, with_marks}
use Rattle.commands.specs.Model.{old_mark, Model, with_mark}
use Rattle.commands.specs.Valid.{valid}
use Rattle.commands.specs.Commands.{Command, set_mark, set_marks, Result, refused, accepted, arc_refusal, mark_refusal, applied, answered, answers, board_after}
use Rattle.commands.proofs.HeadsLaws.{put_none, put_one}
use Rattle.commands.proofs.CommandLaws.{mark_accepted, marks_cases}
use Rattle.commands.proofs.ValidLaws.{valid_parts}
use Rattle.commands.proofs.AnsweredLaws.{answered_applied, accepted_valid}
use Rattle.commands.proofs.LogLaws.{answers_agree, boards_agree}

-- single commands, one for each head of the list
abbrev pub singles : (mark : Mark) → (tail : ℕ) → (list : List ℕ) → List Command
singles m t hs = map (set_mark m t) hs

-- the list has the heads of the arcs that are named, each once at least, and no others
abbrev pub ListsArcs : Instance → (tail heads : ℕ) → (list : List ℕ) → Type 0
ListsArcs s t c hs = (h : ℕ) → any_of (eqb h) hs ≡ names_arc s t c h

-- the marks set one after the other, with no board and no limit
abbrev pub marked_singly : (mark tail : ℕ) → (list : List ℕ) → Instance → Instance
marked_singly m t [] s = s
marked_singly m t (h ∷ hs) s = marked_singly m t hs (with_mark m t h s)

-- ONE AFTER THE OTHER
one_more :
    (s : Instance) (m t h : ℕ) (q : ℕ → Bool) → h < 32 → with_mark m t h (with_marks t q (λ v. m) s) ≡ with_marks t (λ v. eqb v h || q v) (λ v. m) s
unfolding with_mark with_marks
one_more s m t h q l =
    λ j. record { n = s.n; root = s.root; budget = s.budget; weights = s.weights; marks = put_one t q (λ v. m) s.marks h l j }

turned : (x y z : Bool) → (x || y) || z ≡ y || (x || z)
turned true true z = refl
turned true false z = refl
turned false y z = refl

module _ (s : Instance) (m t : ℕ) (small : s.n ≤ max_vertices) where
  -- on marks that were put at the heads q, a list puts those that it names or q has
  put_singly :
      (hs : List ℕ) (p q : ℕ → Bool) → all_of (is_arc s t) hs ≡ true → ((v : ℕ) → p v ≡ any_of (eqb v) hs || q v) →
      marked_singly m t hs (with_marks t q (λ v. m) s) ≡ with_marks t p (λ v. m) s
  unfolding any_of
  put_singly [] p q a h = ap (λ (x : ℕ → Bool). with_marks t x (λ v. m) s) (λ j v. sym (h v) j)
  put_singly (u ∷ hs) p q a h =
      let ends = arc_ends s t u (all_of_first (is_arc s t) u hs a) in
      ap (marked_singly m t hs) (one_more s m t u q (omega arith))
      ∙ put_singly hs p (λ v. eqb v u || q v) (all_of_rest (is_arc s t) u hs a) (λ v. h v ∙ turned (eqb v u) (any_of (eqb v) hs) (q v))

nothing_put : (s : Instance) (t : ℕ) (g : ℕ → ℕ) → with_marks t (λ v. false) g s ≡ s
unfolding with_marks
nothing_put s t g =
    λ j. record { n = s.n; root = s.root; budget = s.budget; weights = s.weights; marks = put_none t (λ v. false) g s.marks (λ h l. refl) j }

or_none : (x : Bool) → x ≡ x || false
or_none true = refl
or_none false = refl

-- every head of the list is that of an arc
listed_arcs : (s : Instance) (t c : ℕ) (hs ks : List ℕ) → ListsArcs s t c hs → ((h : ℕ) → any_of (eqb h) ks ≡ true → any_of (eqb h) hs ≡ true) →
    all_of (is_arc s t) ks ≡ true
unfolding all_of any_of names_arc
listed_arcs s t c hs [] l sub = refl
listed_arcs s t c hs (h ∷ ks) l sub =
    and_both (is_arc s t h) (all_of (is_arc s t) ks)
    (and_right (inside c h) (is_arc s t h) (sym (l h) ∙ sub h (or_left (eqb h h) (any_of (eqb h) ks) (eq-eqb h h refl))))
    (listed_arcs s t c hs ks l (λ v e. sub v (or_right (eqb v h) (any_of (eqb v) ks) e)))

-- THE LAW, WITH NO LIMIT
pub marked_alike :
    (s : Instance) (m t c : ℕ) (hs : List ℕ) → s.n ≤ max_vertices → ListsArcs s t c hs → marked_singly m t hs s ≡ with_marks t (names_arc s t c) (λ v. m) s
marked_alike s m t c hs small l =
    ap (marked_singly m t hs) (sym (nothing_put s t (λ v. m)))
    ∙ put_singly s m t small hs (names_arc s t c) (λ v. false) (listed_arcs s t c hs hs l (λ h e. e)) (λ h. sym (l h) ∙ or_none (any_of (eqb h) hs))

-- THE COMMANDS, where the limit has room for them
arc_unrefused : (s : Instance) (k t h : ℕ) → is_arc s t h ≡ true → k < max_records → mark_refusal s k t h ≡ 0
unfolding mark_refusal arc_refusal
arc_unrefused s k t h a l =
    let e = arc_ends s t h a in
    simp (lt-ltb t s.n e.tail_below, lt-ltb h s.n e.head_below, a, lt-leb max_records k l)

record Singly (m : Mark) (t : ℕ) (hs : List ℕ) (b : Model) : Type 0 where
  pub all_accepted : answers applied (singles m t hs) b ≡ replicate (length hs) 0
  pub same_instance : (board_after applied (singles m t hs) b).instance ≡ marked_singly (mark_number m) t hs b.instance

singly :
    (m : Mark) (t : ℕ) (hs : List ℕ) (b : Model) → all_of (is_arc b.instance t) hs ≡ true → length b.history + length hs ≤ max_records → Singly m t hs b
unfolding answers board_after applied accepted with_mark is_arc weight
singly m t [] b a l = record { all_accepted = refl; same_instance = refl }
singly m t (u ∷ hs) b a l =
    let s = b.instance in
    let after : Model = record { instance = with_mark (mark_number m) t u s; history = old_mark t u (mark s t u) ∷ b.history } in
    let k = mark_accepted m t u b (arc_unrefused s (length b.history) t u (all_of_first (is_arc s t) u hs a) (omega arith)) in
    let next = singly m t hs after (all_of_rest (is_arc s t) u hs a) (omega arith) in
    record {
      all_accepted = rw k (ap (λ (xs : List ℕ). 0 ∷ xs) next.all_accepted);
      same_instance = ap (λ (d : Result). (board_after applied (singles m t hs) d.board).instance) k ∙ next.same_instance;
    }

several_put : (m : Mark) (t c : ℕ) (b : Model) → (applied (set_marks m t c) b).answer ≡ 0 →
    (applied (set_marks m t c) b).board.instance ≡ with_marks t (names_arc b.instance t c) (λ v. mark_number m) b.instance
unfolding applied accepted refused
several_put m t c b =
    marks_cases (λ d. d.answer ≡ 0 → d.board.instance ≡ with_marks t (names_arc b.instance t c) (λ v. mark_number m) b.instance) b
    (λ k e. absurd (omega arith)) m t c (λ _ _ _. refl)

-- THE LAW, OF THE COMMANDS: one command on the board b, and single ones on a board a with the same instance. That may
-- be another board, with fewer records: so nothing is said of the limit but that it has room there.
pub record SinglesAlike (m : Mark) (t c : ℕ) (hs : List ℕ) (b a : Model) : Type 0 where
  pub all_accepted : answers answered (singles m t hs) a ≡ replicate (length hs) 0
  pub same_instance : (board_after answered (singles m t hs) a).instance ≡ (answered (set_marks m t c) b).board.instance

pub singles_alike :
    (m : Mark) (t c : ℕ) (hs : List ℕ) (b a : Model) → (answered (set_marks m t c) b).answer ≡ 0 → valid a ≡ true → a.instance ≡ b.instance →
    ListsArcs b.instance t c hs → length a.history + length hs ≤ max_records → SinglesAlike m t c hs b a
singles_alike m t c hs b a z v e l few =
    let w = accepted_valid (set_marks m t c) b z in
    let one = answered_applied (set_marks m t c) b w in
    let listed = subst (λ (s : Instance). ListsArcs s t c hs) (sym e) l in
    let p = singly m t hs a (listed_arcs a.instance t c hs hs listed (λ h i. i)) few in
    record {
      all_accepted = answers_agree (singles m t hs) a v ∙ p.all_accepted;
      same_instance =
          ap (λ (x : Model). x.instance) (boards_agree (singles m t hs) a v) ∙ p.same_instance ∙ ap (marked_singly (mark_number m) t hs) e
          ∙ marked_alike b.instance (mark_number m) t c hs (valid_parts b w).n_high l
          ∙ sym (ap (λ (d : Result). d.board.instance) one ∙ several_put m t c b (ap (λ (d : Result). d.answer) (sym one) ∙ z));
    }
