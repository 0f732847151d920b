-- A look at a card is the look at the board that it opens as; every card has a text. Assumes nothing.
use mathlib.Core.Path.{◌≡◌, refl, sym, subst}
use mathlib.Core.Bool.{Bool, true, false}
use mathlib.Core.List.{List}
use mathlib.Core.Logic.{◌≢◌}
use Prim.Native.Nat.{ℕ, zero, suc, ◌≤◌, ◌<◌}
use lib.Dec.{eqb}
use lib.ListN.{length}
use borrow.Author.Tests.{lt-ltb, le-ltb}
use Rattle.instance.specs.Instance.{Instance}
use Rattle.instance.specs.Refusals.{buffer_short}
use Rattle.report_text.specs.Whole.{max_text}
use Rattle.report.specs.declared.Reported.{Reported}
use Rattle.report.specs.Reports.{Reports, ReportsBy}
use Rattle.board.specs.declared.Answered.{Answered}
use Rattle.history_format.specs.HistoryCard.{open_refusal}
use Rattle.planner.specs.declared.View.{View}
use Rattle.planner.specs.declared.View.TheVariants.{Refused}
use Rattle.planner.specs.Looking.{Buffers, short_for, LooksAt, Looks}
use Rattle.planner.specs.Opening.{opened_from}
use Rattle.planner.proofs.CallSteps.{looks_valid}
use Rattle.planner.proofs.OpeningLaws.{opened_answer}
use Rattle.feed_planner.specs.Words.{Words}
use Rattle.feed_planner.specs.Looking.{Views, LooksOn, LooksAtCard, card_text, Prints}
use Rattle.feed_planner.proofs.CardLaws.{not_opened, opens, open_valid, open_instance}

on_refused : (k : ℕ) (ws : List ℕ) (old : Buffers) → k ≢ 0 → LooksOn k ws old old (Refused k)
unfolding LooksOn
on_refused zero ws old z = absurd (z refl)
on_refused (suc k) ws old z = record { result = refl; buffers = refl }

module _ (ws : List ℕ) (o : Answered) (e : o ≡ opened_from ws) (old : Buffers) (words : Words) where
  pub look_refused : o.answer ≢ 0 → LooksAtCard ws old old words words o.answer
  look_refused z =
      record {
        view = Refused (open_refusal ws);
        looks = on_refused (open_refusal ws) ws old (not_opened ws o e z);
        told = record { number = opened_answer ws o e; words = refl };
      }

  pub look_shown : o.answer ≡ 0 → (new : Buffers) (v : View) (words' : Words) (a : ℕ) → Looks o.board old new v → Views v words words' a
      → LooksAtCard ws old new words words' a
  unfolding LooksOn
  look_shown z new v words' a l t =
      let i = open_instance ws o e z in
      let s = looks_valid o.board v old new (open_valid ws o e z) l in
      let g = subst (λ (x : Instance). LooksAt true (short_for x.n old) x old new v) i s in
      record {
        view = v;
        looks = subst (λ (k : ℕ). LooksOn k ws old new v) (sym (opens ws o e z)) g;
        told = t;
      }

-- PRINTED
pub print_short : (ws out : List ℕ) (n : ℕ) → length out < max_text → Prints ws out out n n buffer_short
print_short ws out n l = record { number = rw (lt-ltb (length out) max_text l); buffer = refl; word = refl }

pub print_text : (ws out out' : List ℕ) (n : ℕ) (r : Reported) → max_text ≤ length out → Reports ws out out' r → Prints ws out out' n r.length 0
unfolding Reports ReportsBy card_text
print_text ws out out' n r l p = go (eqb (open_refusal ws) 0) refl (rw (le-ltb (length out) max_text l) at p)
  where
    go : (b : Bool) → eqb (open_refusal ws) 0 ≡ b → ReportsBy false b ws out out' r → Prints ws out out' n r.length 0
    go true q f = record { number = rw (le-ltb (length out) max_text l); buffer = rw q f.text.buffer; word = rw q f.text.place }
    go false q f = record { number = rw (le-ltb (length out) max_text l); buffer = rw q f.text.buffer; word = rw q f.text.place }
