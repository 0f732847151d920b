-- The call that a kind stands for, and a call made. Assumes nothing.
use mathlib.Core.Path.{◌≡◌, refl}
use mathlib.Core.Bool.{true}
use mathlib.Core.Logic.{◌≢◌}
use Prim.Native.Nat.{ℕ, zero, suc}
use Rattle.commands.specs.Commands.{Command, answered}
use Rattle.commands.specs.Valid.{valid}
use Rattle.board.specs.ModelOf.{model_of}
use Rattle.board.specs.Calls.{Answers}
use Rattle.board.specs.declared.Board.{Board}
use Rattle.board.specs.declared.Answered.{Answered}
use Rattle.planner.specs.declared.View.{View}
use Rattle.planner.specs.Looking.{Buffers, answer_of, Looks}
use Rattle.planner.specs.Replaying.{command, look, write, call, Makes}

-- any kind that no other call has
pub call_write : (k a b : ℕ) → k ≢ 0 → k ≢ 1 → k ≢ 2 → k ≢ 3 → k ≢ 4 → k ≢ 5 → k ≢ 7 → k ≢ 8 → k ≢ 9 → write ≡ call k a b
unfolding call
call_write zero a b n0 n1 n2 n3 n4 n5 n7 n8 n9 = absurd (n0 refl)
call_write (suc zero) a b n0 n1 n2 n3 n4 n5 n7 n8 n9 = absurd (n1 refl)
call_write (suc (suc zero)) a b n0 n1 n2 n3 n4 n5 n7 n8 n9 = absurd (n2 refl)
call_write (suc (suc (suc zero))) a b n0 n1 n2 n3 n4 n5 n7 n8 n9 = absurd (n3 refl)
call_write (suc (suc (suc (suc zero)))) a b n0 n1 n2 n3 n4 n5 n7 n8 n9 = absurd (n4 refl)
call_write (suc (suc (suc (suc (suc zero))))) a b n0 n1 n2 n3 n4 n5 n7 n8 n9 = absurd (n5 refl)
call_write (suc (suc (suc (suc (suc (suc zero)))))) a b n0 n1 n2 n3 n4 n5 n7 n8 n9 = refl
call_write (suc (suc (suc (suc (suc (suc (suc zero))))))) a b n0 n1 n2 n3 n4 n5 n7 n8 n9 = absurd (n7 refl)
call_write (suc (suc (suc (suc (suc (suc (suc (suc zero)))))))) a b n0 n1 n2 n3 n4 n5 n7 n8 n9 = absurd (n8 refl)
call_write (suc (suc (suc (suc (suc (suc (suc (suc (suc zero))))))))) a b n0 n1 n2 n3 n4 n5 n7 n8 n9 = absurd (n9 refl)
call_write (suc (suc (suc (suc (suc (suc (suc (suc (suc (suc k)))))))))) a b n0 n1 n2 n3 n4 n5 n7 n8 n9 = refl

module _ (b : Board) where
  pub makes_command : (c : Command) (r : Answered) (z : Buffers) → Answers (answered c (model_of b)) b r → Makes b (command c) z z r
  unfolding Makes
  makes_command c r z a = (a, refl)

  pub makes_look : (v : View) (a : ℕ) (old new : Buffers) → a ≡ answer_of v → Looks b old new v → Makes b look old new (record { answer = a; board = b })
  unfolding Makes
  makes_look v a old new q l = (v, q, refl, l)

  pub makes_write : (a : ℕ) (z : Buffers) → valid (model_of b) ≡ true → a ≡ 0 → Makes b write z z (record { answer = a; board = b })
  unfolding Makes
  makes_write a z v q = rw v (q, refl, refl)
