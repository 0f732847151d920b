-- What a check of a plan made elsewhere answers, as an equation; the lists that it was lent are as they were. Assumes
-- nothing: these are definitions.
use Rattle.std.specs.Prelude.{◌≡◌, cond, List, ℕ}
use Rattle.instance.specs.Refusals.{invalid_board}
use Rattle.certificate.specs.Certificate.{certificate_refusal}
use Rattle.commands.specs.Valid.{valid}
use Rattle.board.specs.ModelOf.{model_of, instance_of}
use Rattle.board.specs.declared.Board.{Board}

-- "Accept it for a board's sheet and marks, or say why not": "in order 15, 14, 21 .. 25"
abbrev pub check_answer : Board → (parents : List ℕ) → (total count : ℕ) → (words : List ℕ) → ℕ
check_answer b ps v k ws = cond (valid (model_of b)) (certificate_refusal (instance_of b) ps v k ws) invalid_board

pub record Checks (b : Board) (ps ps' : List ℕ) (total count : ℕ) (ws ws' : List ℕ) (r : ℕ) : Type 0 where
  pub result : r ≡ check_answer b ps total count ws
  pub parents_kept : ps' ≡ ps
  pub words_kept : ws' ≡ ws
