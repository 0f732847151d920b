-- The board of a card that opens is valid, and no weight of it is above that of no arc, in whatever cell; the trees
-- listed of a valid board lie within the buffer. Assumes nothing.
use mathlib.Core.Path.{◌≡◌, sym, ap, ◌∙◌, subst}
use mathlib.Core.Bool.{true, false}
use mathlib.Core.List.{List}
use mathlib.Core.Logic.{⊎_elim}
use Prim.Native.Nat.{ℕ, ◌*◌, ◌/◌, ◌%◌, ◌≤◌}
use native.Mathlib.Omega.{arith}
use lib.ListN.{length}
use Rattle.base.proofs.BoolLaws.{test}
use Rattle.base.proofs.BoundedLaws.{all_at}
use Rattle.instance.specs.Limits.{cells, max_tries}
use Rattle.instance.specs.Instance.{Instance, weight_at, mark_at, can_be_arc}
use Rattle.instance.specs.Matrix.{Weights}
use Rattle.instance.specs.Valid.{cell_valid, valid_instance}
use Rattle.instance.proofs.ValidLaws.{weight_fits, valid_cells}
use Rattle.enumeration.specs.declared.Ended.{Ended}
use Rattle.enumeration.specs.Walk.{limit_refused}
use Rattle.enumeration.proofs.WalkLaws.{trees_room}
use Rattle.card_format.specs.Card.{on_card}
use Rattle.commands.specs.Valid.{valid}
use Rattle.commands.proofs.ValidLaws.{valid_fields}
use Rattle.board.specs.ModelOf.{model_of, instance_of}
use Rattle.board.specs.declared.Board.{Board}
use Rattle.board.specs.declared.Answered.{Answered}
use Rattle.history_format.proofs.ModelAgain.{AsRead}
use Rattle.history_format.proofs.HistoryAgain.{model_in_as_read}
use Rattle.planner.specs.Opening.{opened_from}
use Rattle.planner.specs.Enumerating.{Listing, Listed, Refused, walked_on, Lists}
use Rattle.print_listing.specs.Boards.{AsOpened}
use Rattle.planner.proofs.OpeningLaws.{opened_answer, opened_instance, opened_starts}

-- a cell that can never be an arc holds no arc, as a card is read
read_weights : (s : Instance) → valid_instance s ≡ true → AsRead s → Weights s.weights
unfolding cell_valid on_card
read_weights s v r i l =
    ⊎_elim
    (λ (q : can_be_arc s.n s.root (i / 32) (i % 32) ≡ true).
    weight_fits (weight_at s i) (mark_at s i) (rw q at (all_at cells (cell_valid s) i l (valid_cells s v))))
    (λ (q : can_be_arc s.n s.root (i / 32) (i % 32) ≡ false). let e = (r.elsewhere i l q).0 in omega arith)
    (test (can_be_arc s.n s.root (i / 32) (i % 32)))

pub opened_board : (ws : List ℕ) (o : Answered) → o ≡ opened_from ws → o.answer ≡ 0 → AsOpened o.board
opened_board ws o e a =
    let z = sym (opened_answer ws o e) ∙ a in
    let good = (opened_starts ws o e z).good in
    let read = subst AsRead (sym (opened_instance ws o e z)) (model_in_as_read ws) in
    record {
      good = good;
      long = read.weights_long;
      bounded = read_weights (instance_of o.board) (valid_fields (model_of o.board) good) read;
    }

-- how many trees a listing has
abbrev count_in : Listing → ℕ
count_in (Listed e k t) = k
count_in (Refused a) = 0

pub listed_room :
    (b : Board) (out out' : List ℕ) (r : Listing) (e : Ended) (k t : ℕ) → valid (model_of b) ≡ true → Lists b max_tries out out' r → r ≡ Listed e k t →
    k * b.n ≤ length out
unfolding limit_refused
listed_room b out out' r e k t v l q =
    let listed = rw v at l.result in
    let same : k ≡ length (walked_on b max_tries out).trees = ap count_in (sym q ∙ listed) in
    subst (λ (x : ℕ). x * b.n ≤ length out) (sym same) (trees_room (instance_of b) max_tries (length out))
