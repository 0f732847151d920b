-- Why a link of a card is closed, open or sure, by the planner's calls on the board that it opens as. Assumes nothing.
use mathlib.Core.Path.{◌≡◌, refl, subst}
use mathlib.Core.Bool.{true}
use mathlib.Core.List.{List}
use mathlib.Core.Logic.{◌≢◌}
use Prim.Native.Nat.{ℕ}
use lib.ListN.{length}
use borrow.Author.Tests.{eq-eqb, ne_eqb}
use Rattle.commands.specs.Model.{Model}
use Rattle.commands.specs.Valid.{valid}
use Rattle.board.specs.declared.Answered.{Answered}
use Rattle.history_format.specs.HistoryCard.{open_refusal, model_in}
use Rattle.planner.specs.declared.Reason.{Reason}
use Rattle.planner.specs.declared.Reason.TheVariants.{Refused}
use Rattle.planner.specs.declared.View.{View}
use Rattle.planner.specs.declared.View as views
use Rattle.planner.specs.Explaining.{TreeBuffers, explain_refusal, ExplainsAt, Explains, PlansWithoutAt, PlansWithout}
use Rattle.planner.specs.Opening.{opened_from}
use Rattle.planner.proofs.OpeningLaws.{opened_answer}
use Rattle.planner.proofs.ExplainingLaws.{explains_number, plan_without_number}
use Rattle.feed_planner.specs.Words.{Words, ReasonWords}
use Rattle.feed_planner.specs.Looking.{Views}
use Rattle.feed_planner.specs.Reasons.{explain_card_refusal, refusal_for, ReasonInWords, ExplainsCard, PlansWithoutCard}
use Rattle.feed_planner.proofs.CardLaws.{not_opened, opens, open_valid, open_model}

module _ (ws : List ℕ) (o : Answered) (e : o ≡ opened_from ws) (t h : ℕ) (old : TreeBuffers) where
  -- A CARD THAT DOES NOT OPEN
  module _ (z : o.answer ≢ 0) where
    by_card : open_refusal ws ≡ refusal_for ws t h old
    unfolding explain_card_refusal
    by_card = rw (ne_eqb (open_refusal ws) 0 (not_opened ws o e z))

    pub why_refused : (words : ReasonWords) → ExplainsCard ws t h old old words words o.answer
    why_refused words =
        record {
          reason = Refused (open_refusal ws);
          explains =
              subst (λ (k : ℕ). ExplainsAt k (model_in ws) t h old old (Refused (open_refusal ws))) by_card
              (explains_number (open_refusal ws) (model_in ws) t h old (not_opened ws o e z));
          in_words = record { number = opened_answer ws o e; words = refl };
        }

    pub without_refused : (words : Words) → PlansWithoutCard ws t h old old words words o.answer
    without_refused words =
        record {
          view = views.TheVariants.Refused (open_refusal ws);
          plans =
              subst (λ (k : ℕ). PlansWithoutAt k (model_in ws).instance t h old old (views.TheVariants.Refused (open_refusal ws))) by_card
              (plan_without_number (open_refusal ws) (model_in ws).instance t h old (not_opened ws o e z));
          views = record { number = opened_answer ws o e; words = refl };
        }

  -- A CARD THAT OPENS: the board is valid, so the number is that of the arc and the buffers
  module _ (z : o.answer ≡ 0) (new : TreeBuffers) where
    card_valid : valid (model_in ws) ≡ true
    card_valid = subst (λ (m : Model). valid m ≡ true) (open_model ws o e z) (open_valid ws o e z)

    by_arc : explain_refusal (model_in ws) t h (length old.parents) (length old.cuts) ≡ refusal_for ws t h old
    unfolding explain_card_refusal
    by_arc = rw (eq-eqb (open_refusal ws) 0 (opens ws o e z), card_valid)

    pub why_shown :
        (r : Reason) (words words' : ReasonWords) (a : ℕ) → Explains o.board t h old new r → ReasonInWords r words words' a →
        ExplainsCard ws t h old new words words' a
    unfolding Explains
    why_shown r words words' a x w =
        let m =
        subst (λ (m : Model). ExplainsAt (explain_refusal m t h (length old.parents) (length old.cuts)) m t h old new r) (open_model ws o e z) x in
        record {
          reason = r;
          explains = subst (λ (k : ℕ). ExplainsAt k (model_in ws) t h old new r) by_arc m;
          in_words = w;
        }

    pub without_shown :
        (v : View) (words words' : Words) (a : ℕ) → PlansWithout o.board t h old new v → Views v words words' a → PlansWithoutCard ws t h old new words words' a
    unfolding PlansWithout
    without_shown v words words' a x w =
        let m =
        subst (λ (m : Model). PlansWithoutAt (explain_refusal m t h (length old.parents) (length old.cuts)) m.instance t h old new v) (open_model ws o e z) x in
        record {
          view = v;
          plans = subst (λ (k : ℕ). PlansWithoutAt k (model_in ws).instance t h old new v) by_arc m;
          views = w;
        }
