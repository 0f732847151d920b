-- An invalid board is refused; a valid one has the ranges that judging a plan asks for. The budget has no part in it.
-- Assumes nothing.
use mathlib.Core.Path.{refl, sym, ◌∙◌}
use Rattle.certificate.proofs.CertificateLaws.{budget_not_judged}
use Rattle.commands.proofs.ValidLaws.{valid_parts}
use Rattle.board.specs.ModelOf.{model_of, instance_of}
use Rattle.planner.proofs.checking.check_plan.Goals as goal

pub returns-then-not-is_valid : goal.returns-then-not-is_valid
returns-then-not-is_valid c =
    let e = sym c.is_valid.ensures ∙ c.if-not-is_valid.true in
    record { result = rw e; parents_kept = refl; words_kept = refl }

pub judge_certificate-requires : goal.judge_certificate-requires
judge_certificate-requires c =
    let v = valid_parts (model_of c.args.b) (sym c.is_valid.ensures ∙ c.if-not-is_valid.false) in
    (v.n_high, v.root_below)

pub returns : goal.returns
returns c =
    let a = c.args in
    let e = sym c.is_valid.ensures ∙ c.if-not-is_valid.false in
    let j = c.judge_certificate.ensures in
    record {
      result = rw e (j ∙ budget_not_judged 0 (instance_of a.b) a.parents.now a.total a.count a.cuts.now);
      parents_kept = refl;
      words_kept = refl;
    }
