-- Each way out by its law. Assumes nothing.
use mathlib.Core.Path.{sym, ◌∙◌}
use native.Mathlib.Omega.{arith}
use Rattle.instance.proofs.SetBits.{one_shifted}
use Rattle.first_tree.proofs.GrowthLaws.{source_admissible, source_below, grows_more}
use Rattle.first_tree.proofs.growth.grow_into.Goals as goal

pub fix_arc-requires : goal.fix_arc-requires
fix_arc-requires c =
    let a = c.args in
    let p = c.requires in
    let k = p.0 in
    let out = sym c.is_inside.ensures ∙ c.if-is_inside.false in (
      k.small,
      k.from_within,
      k.few,
      source_below a.search.n a.search.from.0 a.search.count a.head _ a.reached _ k p.1 out c.if-sources-eq0.false,
      p.1,
      source_admissible a.search.n a.search.from.0 a.search.count a.head _ a.reached _ k p.1 out c.if-sources-eq0.false,
    )

pub returns : goal.returns
returns c =
    let a = c.args in
    let p = c.requires in
    let out = sym c.is_inside.ensures ∙ c.if-is_inside.false in
    rw (one_shifted a.head (omega (arith, p.0.small)))
    (grows_more a.search.n a.search.from.0 a.search.count a.head _ a.reached _ p.0 p.1 out c.if-sources-eq0.false a.search.cuts.now _ c.fix_arc.ensures)
