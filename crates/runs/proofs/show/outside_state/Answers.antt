-- One test after the other. Assumes nothing.
use Prim.Native.Nat.{◌+◌}
use borrow.Author.Tests.{eq-eqb, ne_eqb, le-leb, lt-leb}
use Rattle.spanning.specs.Keys.{no_key}
use Rattle.runs.specs.Show.{outside_state}
use Rattle.runs.proofs.show.outside_state.Goals as goal
use Rattle.runs.proofs.show.outside_state.Goals.{then-key-eq-NO_KEY-via-then-key-eq-NO_KEY, then-key-eq-NO_KEY-via-else-key-eq-NO_KEY+then-greatest-eq0}

pub returns-then-key-eq-NO_KEY : goal.returns-then-key-eq-NO_KEY
unfolding outside_state
returns-then-key-eq-NO_KEY c =
    let a = c.args in
    elim c.then-key-eq-NO_KEY.branch [
      | then-key-eq-NO_KEY-via-then-key-eq-NO_KEY w ↦ simp (eq-eqb a.key no_key w.if-key-eq-NO_KEY.true)
      | then-key-eq-NO_KEY-via-else-key-eq-NO_KEY+then-greatest-eq0 w ↦ simp (ne_eqb a.key no_key w.if-key-eq-NO_KEY.false, eq-eqb a.greatest 0 w.if-greatest-eq0.true)
    ]

pub returns-then-total-key : goal.returns-then-total-key
unfolding outside_state
returns-then-total-key c = let a = c.args in simp (ne_eqb a.key no_key c.if-key-eq-NO_KEY.false, ne_eqb a.greatest 0 c.if-greatest-eq0.false, le-leb (a.total + a.key) (a.limit + a.greatest) c.if-total-key.true)

pub returns : goal.returns
unfolding outside_state
returns c = let a = c.args in simp (ne_eqb a.key no_key c.if-key-eq-NO_KEY.false, ne_eqb a.greatest 0 c.if-greatest-eq0.false, lt-leb (a.total + a.key) (a.limit + a.greatest) c.if-total-key.false)
