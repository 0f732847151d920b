-- What a board holds says all of it, and a call leaves what its promise fixes: so a call can give one result only.
-- Assumes nothing.
use mathlib.Core.Path.{◌≡◌, refl, sym, ap, ◌∙◌}
use mathlib.Core.List.{List, [], ◌∷◌}
use Prim.Native.Nat.{ℕ}
use lib.ListN.{length}
use Rattle.commands.specs.Commands.{Command, Result, answered, board_after}
use Rattle.board.specs.declared.Board.{Board}
use Rattle.board.specs.declared.Answered.{Answered}
use Rattle.board.specs.ModelOf.{model_of, instance_of, result_of}
use Rattle.board.specs.Calls.{records_after, Answers}
use Rattle.board.specs.Contents.{Contents, contents_of, contents_after, all_contents_after}
use Rattle.board.proofs.ModelOfLaws.{length_history}
use Rattle.board.proofs.CallLaws.{call_board}

-- TWO BOARDS THAT HOLD THE SAME ARE ONE BOARD
pub contents_once : (a b : Board) → contents_of a ≡ contents_of b → a ≡ b
contents_once a b e =
    let s : instance_of a ≡ instance_of b = ap (λ (w : Contents). w.model.instance) e in
    let k : a.count ≡ b.count =
    sym (length_history a.count a.records) ∙ ap (λ (w : Contents). length w.model.history) e ∙ length_history b.count b.records in
    λ j.
    record {
      n = (s j).n;
      root = (s j).root;
      budget = (s j).budget;
      weights = (s j).weights;
      marks = (s j).marks;
      records = (e j).records;
      count = k j;
    }

-- A CALL CAN GIVE ONE RESULT ONLY: the contract fixes the whole board, record places past the count too
pub answers_once : (d : Result) (b : Board) (r q : Answered) → Answers d b r → Answers d b q → r ≡ q
answers_once d b r q x y =
    let e : result_of r ≡ result_of q = x.result ∙ sym y.result in
    let rs : r.board.records ≡ q.board.records = x.records ∙ sym y.records in
    let w : contents_of r.board ≡ contents_of q.board = λ j. record { model = (e j).board; records = rs j } in
    let b : r.board ≡ q.board = contents_once r.board q.board w in
    λ j. record { answer = (e j).answer; board = b j }

-- WHAT A CALL LEAVES
pub call_contents : (c : Command) (b : Board) (r : Answered) → Answers (answered c (model_of b)) b r → contents_of r.board ≡ contents_after c (contents_of b)
unfolding contents_after
call_contents c b r a =
    let h = (answered c (model_of b)).board.history in
    let rs : r.board.records ≡ records_after b.records (length (model_of b).history) h =
    a.records ∙ ap (λ (k : ℕ). records_after b.records k h) (sym (length_history b.count b.records)) in
    λ j. record { model = call_board c b r a j; records = rs j }

-- what several leave is what they leave in the model
pub contents_model : (cs : List Command) (w : Contents) → (all_contents_after cs w).model ≡ board_after answered cs w.model
unfolding all_contents_after contents_after board_after
contents_model [] w = refl
contents_model (c ∷ cs) w = contents_model cs (contents_after c w)
