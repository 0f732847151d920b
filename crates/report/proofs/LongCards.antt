-- An input longer than any card of either kind is refused by its first bytes, so a program that reads at most one byte
-- more than the longest card answers for the whole of its input. Assumes nothing.
use mathlib.Core.Path.{◌≡◌, sym, ◌∙◌}
use mathlib.Core.Bool.{Bool, true, false}
use mathlib.Core.List.{List}
use mathlib.Core.Logic.{⊎_elim}
use Prim.Native.Nat.{ℕ, suc, ◌≤◌, ◌<◌}
use native.Mathlib.Omega.{arith}
use borrow.Author.Tests.{ltb-true, ltb-false, ne_eqb}
use lib.Dec.{ltb, eqb}
use lib.ListN.{length, take}
use lib.Seq.{take_all}
use Rattle.base.proofs.BoolLaws.{test}
use Rattle.history_format.specs.HistoryCard.{max_history_card, open_refusal}
use Rattle.history_format.proofs.LongHistory.{long_refused, long_by_part}
use Rattle.report.specs.declared.Reported.{Reported}
use Rattle.report_text.specs.Whole.{max_text}
use Rattle.report.specs.Reports.{ReportsRefusal, ReportsBy, Reports}

-- THE WHOLE INPUT: a report on the first bytes of an input is a report on the input
module _ (ws : List ℕ) (k : ℕ) (enough : max_history_card ≤ k) (old new : List ℕ) (r : Reported) where
  abbrev Part : List ℕ
  Part = take (suc k) ws

  of_long : max_history_card < length ws → (t : Bool) → ReportsBy t (eqb (open_refusal Part) 0) Part old new r → ReportsBy t (eqb (open_refusal ws) 0) ws old new r
  unfolding ReportsBy
  of_long h true x = x
  of_long h false x =
      let e = long_by_part ws k enough h in
      let no_card : open_refusal ws ≡ 0 → ⊥ = long_refused ws h in
      let no_part : open_refusal Part ≡ 0 → ⊥ = λ z. no_card (e ∙ z) in
      let y : ReportsRefusal Part old new r = rw (ne_eqb (open_refusal Part) 0 no_part) at x in
      rw (ne_eqb (open_refusal ws) 0 no_card) (record { answer = y.answer ∙ sym e; text = rw (sym e) at y.text })

  pub first_bytes_enough : Reports Part old new r → Reports ws old new r
  unfolding Reports
  first_bytes_enough x = ⊎_elim long short (test (ltb max_history_card (length ws)))
    where
      long : ltb max_history_card (length ws) ≡ true → Reports ws old new r
      long q = of_long (ltb-true max_history_card (length ws) q) (ltb (length old) max_text) x

      short : ltb max_history_card (length ws) ≡ false → Reports ws old new r
      short q =
          let fits : length ws ≤ suc k = omega (arith, ltb-false max_history_card (length ws) q) in
          rw (take_all (suc k) ws fits) at x
