-- Plans checked and listed for a card, by those of the board that it opens as. Assumes nothing.
use mathlib.Core.Path.{◌≡◌, ap, ◌∙◌}
use mathlib.Core.Bool.{Bool, true, false, cond}
use mathlib.Core.List.{List}
use mathlib.Core.Logic.{◌≢◌}
use Prim.Native.Nat.{ℕ}
use lib.Dec.{eqb}
use lib.ListN.{length}
use borrow.Author.Tests.{eq-eqb, ne_eqb}
use Rattle.base.specs.Lists.{in_front}
use Rattle.instance.specs.Instance.{Instance}
use Rattle.instance.specs.Refusals.{bad_try_limit}
use Rattle.certificate.specs.Certificate.{certificate_refusal}
use Rattle.enumeration.specs.Walk.{limit_refused, walked, joined}
use Rattle.board.specs.declared.Answered.{Answered}
use Rattle.history_format.specs.HistoryCard.{open_refusal}
use Rattle.planner.specs.Checking.{Checks}
use Rattle.planner.specs.Enumerating.{Listing, Refused, Lists, list_answer, listed_as}
use Rattle.planner.specs.Opening.{opened_from}
use Rattle.planner.proofs.OpeningLaws.{opened_answer}
use Rattle.feed_planner.specs.Words.{Words, listing_words}
use Rattle.feed_planner.specs.Plans.{check_number, card_walked, listing_of, StoresListing}
use Rattle.feed_planner.proofs.CardLaws.{not_opened, opens, open_valid, open_instance}

module _ (ws : List ℕ) (o : Answered) (e : o ≡ opened_from ws) where
  pub check_refused : (ps : List ℕ) (v k : ℕ) (cs : List ℕ) → o.answer ≢ 0 → o.answer ≡ check_number ws ps v k cs
  check_refused ps v k cs z = rw (ne_eqb (open_refusal ws) 0 (not_opened ws o e z)) (opened_answer ws o e)

  pub check_answered : (ps ps' : List ℕ) (v k : ℕ) (cs cs' : List ℕ) (r : ℕ) → o.answer ≡ 0 → Checks o.board ps ps' v k cs cs' r → r ≡ check_number ws ps v k cs
  check_answered ps ps' v k cs cs' r z c =
      rw (eq-eqb (open_refusal ws) 0 (opens ws o e z))
      ((rw (open_valid ws o e z) at c.result) ∙ ap (λ (s : Instance). certificate_refusal s ps v k cs) (open_instance ws o e z))

  pub list_refused : (limit : ℕ) (out : List ℕ) (words : Words) → o.answer ≢ 0 → StoresListing ws limit out out words words o.answer
  list_refused limit out words z =
      let q = ne_eqb (open_refusal ws) 0 (not_opened ws o e z) in
      let a = opened_answer ws o e in
      record { number = rw q a; buffer = rw (a, q); words = rw q }

  module _ (limit : ℕ) (out out' : List ℕ) (r : Listing) (z : o.answer ≡ 0) (l : Lists o.board limit out out' r) where
    open_zero : eqb (open_refusal ws) 0 ≡ true
    open_zero = eq-eqb (open_refusal ws) 0 (opens ws o e z)

    same : r ≡ listing_of ws limit out
    same =
        rw open_zero
        ((rw (open_valid ws o e z) at l.result)
        ∙ ap (λ (s : Instance). cond (limit_refused limit) (Refused bad_try_limit) (listed_as (walked s limit (length out)))) (open_instance ws o e z))

    filled : out' ≡ cond (limit_refused limit) out (in_front (joined (card_walked ws limit out).trees) out)
    filled =
        (rw (open_valid ws o e z) at l.buffer)
        ∙ ap (λ (s : Instance). cond (limit_refused limit) out (in_front (joined (walked s limit (length out)).trees) out)) (open_instance ws o e z)

    buffer : out' ≡ cond (eqb (list_answer (listing_of ws limit out)) 0) (in_front (joined (card_walked ws limit out).trees) out) out
    buffer = rw open_zero (go (limit_refused limit) filled)
      where
        go : (b : Bool) → out' ≡ cond b out (in_front (joined (card_walked ws limit out).trees) out)
            → out' ≡ cond (eqb (list_answer (cond b (Refused bad_try_limit) (listed_as (card_walked ws limit out)))) 0) (in_front (joined (card_walked ws limit out).trees) out) out
        go true f = f
        go false f = f

    pub list_told : (words words' : Words) (a : ℕ) → a ≡ list_answer r → words' ≡ listing_words r words → StoresListing ws limit out out' words words' a
    list_told words words' a p w =
        let q = p ∙ ap list_answer same in
        record { number = q; buffer = rw q buffer; words = w ∙ ap (λ (x : Listing). listing_words x words) same }
