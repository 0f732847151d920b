-- Each kind has its call. Assumes nothing.
use native.Mathlib.Omega.{arith}
use Rattle.planner.specs.Replaying.{call}
use Rattle.planner.proofs.CallKinds.{call_write}
use Rattle.planner.proofs.replaying.call_at.Goals as goal

pub returns-in-0 : goal.returns-in-0
unfolding call
returns-in-0 c = rw c.in-0.is

pub returns-in-1 : goal.returns-in-1
unfolding call
returns-in-1 c = rw c.in-1.is

pub returns-in-2 : goal.returns-in-2
unfolding call
returns-in-2 c = rw c.in-2.is

pub returns-in-3 : goal.returns-in-3
unfolding call
returns-in-3 c = rw c.in-3.is

pub returns-in-4 : goal.returns-in-4
unfolding call
returns-in-4 c = rw c.in-4.is

pub returns-in-5 : goal.returns-in-5
unfolding call
returns-in-5 c = rw c.in-5.is

pub returns-in-7 : goal.returns-in-7
unfolding call
returns-in-7 c = rw c.in-7.is

pub returns-in-8 : goal.returns-in-8
unfolding call
returns-in-8 c = rw c.in-8.is

pub returns-in-9 : goal.returns-in-9
unfolding call
returns-in-9 c = rw c.in-9.is

pub returns-in_default : goal.returns-in_default
returns-in_default c =
    call_write _ _ _ (λ e. omega arith) (λ e. omega arith) (λ e. omega arith) (λ e. omega arith) (λ e. omega arith) (λ e. omega arith) (λ e. omega arith) (λ e. omega arith) (λ e. omega arith)
