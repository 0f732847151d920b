-- `judge_certificate` is the definition: the matrix has the remaining arcs of the instance and their weights. Assumes
-- nothing.
use mathlib.Core.Path.{sym, ap, ◌∙◌}
use native.Mathlib.Omega.{arith}
use lib.ListN.{take}
use Rattle.instance.specs.Cuts.{cuts_in}
use Rattle.instance.specs.Instance.{without_budget}
use Rattle.instance.specs.Matrix.{matrix, unmarked}
use Rattle.theory.proofs.Restriction.{matrix_same}
use Rattle.certificate.specs.Certificate.{certificate_fault}
use Rattle.certificate.proofs.CertificateLaws.{few_parents, few_words, long_judged, same_fault}
use Rattle.verifier.specs.Pairs.{cuts_of}
use Rattle.verifier.proofs.CutsLaws.{pairs_sent}
use Rattle.verifier.proofs.judge_certificate.Goals as goal
use Rattle.verifier.proofs.judge_certificate.Goals.{then-parents-n-via-then-parents-n, then-parents-n-via-else-parents-n+then-pairs-count}

pub returns-then-parents-n : goal.returns-then-parents-n
returns-then-parents-n c =
    let a = c.args in
    let s = without_budget a.n a.root a.weights.now a.marks.now in
    elim c.then-parents-n.branch [
      | then-parents-n-via-then-parents-n w ↦ sym (few_parents s a.parents.now a.total a.count a.cuts.now w.if-parents-n.true)
      | then-parents-n-via-else-parents-n+then-pairs-count w ↦ sym (few_words s a.parents.now a.total a.count a.cuts.now (omega arith))
    ]

pub returns : goal.returns
returns c =
    let a = c.args in
    let s = without_budget a.n a.root a.weights.now a.marks.now in
    let m = c.remaining_matrix-m.ensures in
    let sent = ap (λ l. cuts_of (take a.count l)) c.as_chunks.ensures.front ∙ pairs_sent a.count a.cuts.now (omega arith) in
    c.check_parts.ensures
    ∙ ap (λ l. certificate_fault (unmarked a.n a.root l) (take a.n a.parents.now) a.total (cuts_of (take a.count c.as_chunks.result.0.now))) m
    ∙ ap (certificate_fault (unmarked a.n a.root (matrix s)) (take a.n a.parents.now) a.total) sent
    ∙ same_fault (unmarked a.n a.root (matrix s)) s (matrix_same s c.requires.0) (take a.n a.parents.now) a.total (cuts_in a.count a.cuts.now)
    ∙ sym (long_judged s a.parents.now a.total a.count a.cuts.now c.if-parents-n.false (omega arith))
