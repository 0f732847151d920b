-- How long the text can be: a buffer of `max_text` bytes has room for the text of every valid instance, since its
-- weights and totals are short. Assumes nothing.
use mathlib.Core.Path.{◌≡◌, refl, sym, ap, ◌∙◌}
use mathlib.Core.Bool.{true, false, true≢false}
use mathlib.Core.List.{List, ◌++◌}
use mathlib.Core.Logic.{⊎_elim}
use Prim.Native.Nat.{ℕ, ◌+◌, ◌^◌, ◌≤◌, ◌<◌}
use native.Mathlib.Omega.{arith}
use borrow.Author.Tests.{ne_eqb}
use lib.ListN.{length, length-append}
use Rattle.base.proofs.BoolLaws.{test}
use Rattle.instance.specs.Limits.{max_vertices, max_budget}
use Rattle.instance.specs.Instance.{Instance, weight, is_arc}
use Rattle.instance.specs.Arborescence.{parent, is_arborescence}
use Rattle.instance.specs.Candidates.{first_tree}
use Rattle.instance.specs.declared.Outcome.{Outcome}
use Rattle.instance.specs.declared.Outcome.TheVariants.{Plan, Over, NoTree}
use Rattle.instance.specs.States.{total_in, outcome, states}
use Rattle.instance.specs.Valid.{valid_instance}
use Rattle.instance.proofs.ArcLaws.{arc_ends, remaining_arc}
use Rattle.instance.proofs.ValidLaws.{valid_small, valid_root, valid_budget}
use Rattle.instance.proofs.ArborescenceLaws.{joined}
use Rattle.theory.specs.Readings.{NoArborescence}
use Rattle.theory.proofs.StateLaws.{states_read}
use Rattle.theory.proofs.OutcomeLaws.{outcome_reads}
use Rattle.theory.proofs.FirstLaws.{some_or_none, first_reads}
use Rattle.theory.proofs.TotalLaws.{weight_most, least_most}
use Rattle.text.specs.Lines.{codes}
use Rattle.text.proofs.DecimalLaws.{decimal_length}
use Rattle.text.proofs.LineLaws.{line_length}
use Rattle.report_text.specs.Heading.{header_line, outcome_line}
use Rattle.report_text.specs.Feeds.{feed_lines, shows_tree}
use Rattle.report_text.specs.Rows.{row_lines}
use Rattle.report_text.specs.Whole.{whole_text, report_text, refused_text, max_text}
use Rattle.report_text.proofs.HeadingLaws.{header_length, outcome_length}
use Rattle.report_text.proofs.FeedLaws.{ShortFeeds, feeds_length}
use Rattle.report_text.proofs.RowLaws.{Digits, rows_length}

module _ (ws ps ss : List ℕ) (n r b : ℕ) (o : Outcome) where
  pub parts_length :
      length (whole_text ws ps ss n r b o)
      ≡ length (header_line n r b) + length (outcome_line o) + length (feed_lines ws ps n r o) + length (row_lines ss n)
  unfolding whole_text
  parts_length =
      let e = length-append (header_line n r b ++ outcome_line o ++ feed_lines ws ps n r o) (row_lines ss n) in
      let f = length-append (header_line n r b ++ outcome_line o) (feed_lines ws ps n r o) in
      let g = length-append (header_line n r b) (outcome_line o) in
      omega arith

  pub text_length :
      n ≤ max_vertices → r < n → b < 10 ^ 8 → total_in o < 10 ^ 8 → (shows_tree o ≡ true → ShortFeeds ws ps n r) → Digits ss n →
      length (whole_text ws ps ss n r b o) ≤ max_text
  text_length hn hr hb ho short d =
      let x = header_length n r b (omega arith) hb in
      let y = outcome_length o ho in
      let z = feeds_length ws ps n r hn hr o short in
      let u = rows_length ss n d hn in
      omega (arith, parts_length)

-- every state is one digit
pub state_digits : (s : Instance) → Digits (states s) s.n
state_digits s t h lt lh =
    let r = (states_read s).reads t h lt lh in
    ⊎_elim (λ (e : is_arc s t h ≡ true). let b = r.present e in omega (arith, b.1)) (λ (e : is_arc s t h ≡ false). let z = r.absent e in omega arith)
    (test (is_arc s t h))

module _ (s : Instance) (valid : valid_instance s ≡ true) where
  outcome_most : total_in (outcome s) ≤ max_budget
  outcome_most = go (outcome s) refl
    where
      go : (o : Outcome) → outcome s ≡ o → total_in o ≤ max_budget
      go (Plan v) e = least_most s valid v (((outcome_reads s).plans v).0 e).0
      go (Over v) e = least_most s valid v (((outcome_reads s).exceeds v).0 e).0
      go NoTree e = omega arith

  short : (ps : List ℕ) → is_arborescence s ps ≡ true → ShortFeeds s.weights ps s.n s.root
  unfolding weight
  short ps a v l other =
      let arc = remaining_arc s (parent ps v) v (joined s ps a v l (ne_eqb _ _ other)).arc in
      let n = valid_small s valid in
      (omega (arith, (arc_ends s (parent ps v) v arc).tail_below), omega (arith, weight_most s valid (parent ps v) v arc))

  -- where a tree is shown there is an arborescence, and the first tree is one
  tree_shown : shows_tree (outcome s) ≡ true → is_arborescence s (first_tree s) ≡ true
  tree_shown e =
      ⊎_elim (λ (w : (ps : List ℕ) × (is_arborescence s ps ≡ true)). (first_reads s w.0 w.1).arborescence)
      (λ (x : NoArborescence s). absurd (true≢false (sym e ∙ ap shows_tree ((outcome_reads s).fails.1 x))))
      (some_or_none s)

  pub report_length : length (report_text s) ≤ max_text
  unfolding report_text
  report_length =
      let b = valid_budget s valid in
      let t = outcome_most in
      text_length s.weights (first_tree s) (states s) s.n s.root s.budget (outcome s) (valid_small s valid) (valid_root s valid) (omega arith)
      (omega arith) (λ e. short (first_tree s) (tree_shown e)) (state_digits s)

pub refused_length : (k : ℕ) → k < 100 → length (refused_text k) ≤ max_text
unfolding refused_text codes
refused_length k h = let d = decimal_length 2 k (omega arith) h in omega (arith, line_length (codes "refused ") k)
