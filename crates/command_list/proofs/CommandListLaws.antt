-- A list in two parts is the one after the other. Assumes nothing.
use mathlib.Core.Path.{◌≡◌, refl, sym, ap, ◌∙◌}
use mathlib.Core.Bool.{Bool, true, false, cond}
use mathlib.Core.List.{List, [], ◌∷◌, ◌++◌}
use Prim.Native.Nat.{ℕ, suc, ◌+◌, ◌≤◌}
use native.Mathlib.Omega.{arith}
use lib.Dec.{eqb}
use borrow.Author.Tests.{eq-eqb, ne_eqb, eqb-true, eqb-false}
use Rattle.instance.specs.Refusals.{invalid_board}
use Rattle.commands.specs.Valid.{valid}
use Rattle.commands.specs.Commands.{Command, answered}
use Rattle.board.specs.Contents.{Contents, contents_after}
use Rattle.command_list.specs.CommandList.{ListResult, none_applied, one_more, more_applied, list_applied, list_answered, continued}

-- ONE COMMAND MORE AT THE FRONT
pub applied_on :
    (c : Command) (cs : List Command) (w : Contents) → (answered c w.model).answer ≡ 0 →
    list_applied (c ∷ cs) w ≡ one_more (list_applied cs (contents_after c w))
unfolding list_applied
applied_on c cs w e = rw (eq-eqb (answered c w.model).answer 0 e)

pub applied_stop :
    (c : Command) (cs : List Command) (w : Contents) → ((answered c w.model).answer ≡ 0 → ⊥) →
    list_applied (c ∷ cs) w ≡ none_applied (answered c w.model).answer w
unfolding list_applied
applied_stop c cs w n = rw (ne_eqb (answered c w.model).answer 0 n)

pub list_on_valid : (cs : List Command) (w : Contents) → valid w.model ≡ true → list_answered cs w ≡ list_applied cs w
unfolding list_answered
list_on_valid cs w e = rw e

pub list_on_invalid : (cs : List Command) (w : Contents) → valid w.model ≡ false → list_answered cs w ≡ none_applied invalid_board w
unfolding list_answered
list_on_invalid cs w e = rw e

-- MORE COMMANDS AFTER A LIST
abbrev with_applied : ℕ → ListResult → ListResult
with_applied k r = record { applied = k; answer = r.answer; board = r.board }

more_none : (r : ListResult) → more_applied 0 r ≡ r
unfolding more_applied
more_none r = ap (λ (k : ℕ). with_applied k r) (omega arith)

more_one : (k : ℕ) (r : ListResult) → one_more (more_applied k r) ≡ more_applied (suc k) r
unfolding one_more more_applied
more_one k r = ap (λ (i : ℕ). with_applied i r) (omega arith)

more_more : (j k : ℕ) (r : ListResult) → more_applied j (more_applied k r) ≡ more_applied (j + k) r
unfolding more_applied
more_more j k r = ap (λ (i : ℕ). with_applied i r) (omega arith)

pub continued_on : (r : ListResult) (cs : List Command) → r.answer ≡ 0 → continued r cs ≡ more_applied r.applied (list_applied cs r.board)
unfolding continued
continued_on r cs e = rw (eq-eqb r.answer 0 e)

pub continued_stop : (r : ListResult) (cs : List Command) → (r.answer ≡ 0 → ⊥) → continued r cs ≡ r
unfolding continued
continued_stop r cs n = rw (ne_eqb r.answer 0 n)

-- a list that is continued counts on
continued_more : (k : ℕ) (r : ListResult) (cs : List Command) → continued (more_applied k r) cs ≡ more_applied k (continued r cs)
unfolding more_applied
continued_more k r cs = go (eqb r.answer 0) refl
  where
    go : (t : Bool) → eqb r.answer 0 ≡ t → continued (more_applied k r) cs ≡ more_applied k (continued r cs)
    go true e =
        let z = eqb-true r.answer 0 e in
        continued_on (more_applied k r) cs z ∙ sym (more_more k r.applied (list_applied cs r.board)) ∙ ap (more_applied k) (sym (continued_on r cs z))
    go false e =
        let n = eqb-false r.answer 0 e in
        continued_stop (more_applied k r) cs n ∙ ap (more_applied k) (sym (continued_stop r cs n))

continued_one : (r : ListResult) (cs : List Command) → continued (one_more r) cs ≡ one_more (continued r cs)
unfolding one_more
continued_one r cs = go (eqb r.answer 0) refl
  where
    go : (t : Bool) → eqb r.answer 0 ≡ t → continued (one_more r) cs ≡ one_more (continued r cs)
    go true e =
        let z = eqb-true r.answer 0 e in
        continued_on (one_more r) cs z ∙ sym (more_one r.applied (list_applied cs r.board)) ∙ ap one_more (sym (continued_on r cs z))
    go false e =
        let n = eqb-false r.answer 0 e in
        continued_stop (one_more r) cs n ∙ ap one_more (sym (continued_stop r cs n))

applied_join : (cs ds : List Command) (w : Contents) → list_applied (cs ++ ds) w ≡ continued (list_applied cs w) ds
unfolding list_applied none_applied
applied_join [] ds w = sym (continued_on (none_applied 0 w) ds refl ∙ more_none (list_applied ds w))
applied_join (c ∷ cs) ds w = go (eqb (answered c w.model).answer 0) refl (applied_join cs ds (contents_after c w))
  where
    a : ℕ
    a = (answered c w.model).answer

    Rest : Type 0
    Rest = list_applied (cs ++ ds) (contents_after c w) ≡ continued (list_applied cs (contents_after c w)) ds

    go : (t : Bool) → eqb a 0 ≡ t → Rest → list_applied (c ∷ (cs ++ ds)) w ≡ continued (list_applied (c ∷ cs) w) ds
    go true e h =
        let z = eqb-true a 0 e in
        applied_on c (cs ++ ds) w z ∙ ap one_more h ∙ sym (continued_one (list_applied cs (contents_after c w)) ds)
        ∙ ap (λ (r : ListResult). continued r ds) (sym (applied_on c cs w z))
    go false e h =
        let n = eqb-false a 0 e in
        applied_stop c (cs ++ ds) w n ∙ sym (continued_stop (none_applied a w) ds n) ∙ ap (λ (r : ListResult). continued r ds) (sym (applied_stop c cs w n))

-- A LIST IN TWO PARTS
pub continued_join : (r : ListResult) (cs ds : List Command) → continued (continued r cs) ds ≡ continued r (cs ++ ds)
continued_join r cs ds = go (eqb r.answer 0) refl
  where
    go : (t : Bool) → eqb r.answer 0 ≡ t → continued (continued r cs) ds ≡ continued r (cs ++ ds)
    go true e =
        let z = eqb-true r.answer 0 e in
        ap (λ (q : ListResult). continued q ds) (continued_on r cs z) ∙ continued_more r.applied (list_applied cs r.board) ds
        ∙ ap (more_applied r.applied) (sym (applied_join cs ds r.board)) ∙ sym (continued_on r (cs ++ ds) z)
    go false e =
        let n = eqb-false r.answer 0 e in
        ap (λ (q : ListResult). continued q ds) (continued_stop r cs n) ∙ continued_stop r ds n ∙ sym (continued_stop r (cs ++ ds) n)

pub continued_none : (r : ListResult) → continued r [] ≡ r
unfolding list_applied none_applied more_applied
continued_none r = go (eqb r.answer 0) refl
  where
    go : (t : Bool) → eqb r.answer 0 ≡ t → continued r [] ≡ r
    go true e =
        let z = eqb-true r.answer 0 e in
        let k : r.applied + 0 ≡ r.applied = omega arith in
        continued_on r [] z ∙ (λ j. record { applied = k j; answer = sym z j; board = r.board })
    go false e = continued_stop r [] (eqb-false r.answer 0 e)

-- every list is the empty one continued, which judges the board
pub answered_from_none : (cs : List Command) (w : Contents) → list_answered cs w ≡ continued (list_answered [] w) cs
unfolding none_applied list_applied
answered_from_none cs w = go (valid w.model) refl
  where
    go : (t : Bool) → valid w.model ≡ t → list_answered cs w ≡ continued (list_answered [] w) cs
    go true e =
        list_on_valid cs w e ∙ sym (more_none (list_applied cs w)) ∙ sym (continued_on (none_applied 0 w) cs refl)
        ∙ ap (λ (r : ListResult). continued r cs) (sym (list_on_valid [] w e))
    go false e =
        list_on_invalid cs w e ∙ sym (continued_stop (none_applied invalid_board w) cs (λ z. omega arith))
        ∙ ap (λ (r : ListResult). continued r cs) (sym (list_on_invalid [] w e))

-- HOW MANY
pub none_count : (w : Contents) → (list_answered [] w).applied ≡ 0
unfolding list_answered list_applied none_applied
none_count w = go (valid w.model)
  where
    go : (t : Bool) → (cond t (none_applied 0 w) (none_applied invalid_board w)).applied ≡ 0
    go true = refl
    go false = refl

-- one command more is at most one more applied
pub continued_most : (r : ListResult) (c : Command) → (continued r (c ∷ [])).applied ≤ r.applied + 1
unfolding continued list_applied none_applied one_more more_applied
continued_most r c = go (eqb r.answer 0) (eqb (answered c r.board.model).answer 0)
  where
    a : ℕ
    a = (answered c r.board.model).answer

    go :
        (t u : Bool) →
        (cond t (more_applied r.applied (cond u (one_more (none_applied 0 (contents_after c r.board))) (none_applied a r.board))) r).applied ≤ r.applied + 1
    go false u = omega arith
    go true true = omega arith
    go true false = omega arith
