-- An arc is tight by its reduced cost, which is asked first: few arcs have 0. Assumes nothing.
use borrow.Author.Tests.{eq-eqb, ne_eqb}
use Rattle.first_tree.specs.Tails.{tight}
use Rattle.first_tree.proofs.tails.is_tight.Goals as goal

pub returns-then-reduced-tail-ne0 : goal.returns-then-reduced-tail-ne0
unfolding tight
returns-then-reduced-tail-ne0 c = rw (ne_eqb _ _ c.if-reduced-tail-ne0.true)

pub returns : goal.returns
unfolding tight
returns c = rw (eq-eqb _ _ c.if-reduced-tail-ne0.false) c.is_arc.ensures
