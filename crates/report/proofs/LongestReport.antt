-- The longest text is one that the call prints: the card of the star of crate report_text opens as the star itself, and
-- every report on it into a buffer that is long enough is `max_text` bytes long. So no smaller need than `max_text`
-- would do for this call. Assumes nothing.
use mathlib.Core.Path.{◌≡◌, refl, ◌∙◌, ap}
use mathlib.Core.Bool.{Bool, false, ◌&&◌, cond}
use mathlib.Core.List.{List}
use Prim.Native.Nat.{ℕ, ◌/◌, ◌≤◌, ◌<◌}
use borrow.Author.Tests.{eq-eqb, le-ltb}
use lib.Dec.{eqb}
use lib.ListN.{length, length-replicate}
use Rattle.base.proofs.BoolLaws.{and_false_right}
use Rattle.base.proofs.ListLaws.{replicate_at, length_tabulate, get_d_tabulate}
use Rattle.instance.specs.Limits.{max_weight, no_arc, free, cells}
use Rattle.instance.specs.Instance.{Instance, weight_at, mark_at}
use Rattle.card_format.specs.Card.{on_card, instance_in, card_of}
use Rattle.card_format.proofs.InstanceAgain.{written_opens, instance_back}
use Rattle.commands.specs.Model.{Model, opened}
use Rattle.history_format.specs.HistoryCard.{open_refusal, model_in}
use Rattle.history_format.proofs.HistoryAgain.{model_of_card}
use Rattle.history_format.proofs.Moves.{card_not_history, plain_card_opens}
use Rattle.report_text.specs.Whole.{report_text, max_text}
use Rattle.report_text.proofs.LongestText.{star, star_cell, star_valid, longest}
use Rattle.report.specs.declared.Reported.{Reported}
use Rattle.report.specs.Reports.{ReportsBy, Reports}

-- a cell where no arc can be is as a card's is
off_card : (i : ℕ) → i < cells → on_card star.n star.root i ≡ false → (weight_at star i ≡ no_arc) × (mark_at star i ≡ free)
unfolding star on_card
off_card i l e = (
  get_d_tabulate cells star_cell i no_arc l
      ∙ ap (λ (b : Bool). cond (eqb (i / 32) 31 && b) max_weight no_arc) e
      ∙ ap (λ (b : Bool). cond b max_weight no_arc) (and_false_right (eqb (i / 32) 31) false refl),
  replicate_at cells i free,
)

star_again : instance_in (card_of star) ≡ star
unfolding star
star_again = instance_back star star_valid (length_tabulate cells star_cell) (length-replicate {A = ℕ} cells free) off_card

star_model : (model_in (card_of star)).instance ≡ star
unfolding opened
star_model =
    let plain = card_not_history (card_of star) (written_opens star star_valid) in
    ap (λ (m : Model). m.instance) (model_of_card (card_of star) plain) ∙ star_again

pub longest_printed : (old new : List ℕ) (r : Reported) → max_text ≤ length old → Reports (card_of star) old new r → r.length ≡ max_text
unfolding Reports ReportsBy
longest_printed old new r h x =
    let shown = rw (le-ltb (length old) max_text h, eq-eqb (open_refusal (card_of star)) 0 (plain_card_opens (card_of star) (written_opens star star_valid))) at x in
    shown.text.place ∙ ap (λ (s : Instance). length (report_text s)) star_model ∙ longest
