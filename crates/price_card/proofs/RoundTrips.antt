-- There and back: the card of an accepted list opens and holds the list's prices; a list in written order comes back
-- from its card byte for byte; a plain card with no mark comes back from its list byte for byte. Assumes nothing.
use mathlib.Core.Path.{◌≡◌, sym, ap, ◌∙◌}
use mathlib.Core.Bool.{true, false, ◌&&◌, cond}
use mathlib.Core.Logic.{⊎_elim}
use mathlib.Core.List.{List}
use Prim.Native.Nat.{ℕ, ◌+◌, ◌*◌, ◌/◌, ◌%◌, ◌≤◌, ◌<◌}
use native.Mathlib.Omega.{arith}
use lib.Dec.{eqb}
use lib.ListN.{get_or, replicate, length-replicate}
use lib.Seq.{ext_get_or}
use borrow.Author.Tests.{eqb-true, not-false, ne_eqb, le-ltb, lt-leb}
use Rattle.base.specs.Bounded.{all_below}
use Rattle.base.proofs.BoolLaws.{and_left, test}
use Rattle.base.proofs.BoundedLaws.{all_at}
use Rattle.base.proofs.GridLaws.{grid_row, grid_column, grid_at_row, grid_at_column, grid_in}
use Rattle.base.proofs.ListLaws.{replicate_at, tabulate_is, tabulate_same, get_d_tabulate}
use Rattle.instance.specs.Limits.{max_vertices, max_budget, no_arc, free, cells}
use Rattle.instance.specs.Instance.{Instance, cell, weight, weight_at, can_be_arc}
use Rattle.instance.specs.Valid.{valid_instance}
use Rattle.instance.proofs.ArcLaws.{ends}
use Rattle.instance.proofs.ValidLaws.{valid_some, valid_small, valid_root, valid_budget}
use Rattle.bits.specs.Bits.{are_bytes}
use Rattle.card_format.specs.Card.{on_card, instance_in, card_refusal, card_of}
use Rattle.card_format.proofs.CardAgain.{card_round_trip}
use Rattle.card_format.proofs.InstanceAgain.{written_opens, instance_back}
use Rattle.card_format.proofs.OpensLaws.{card_valid}
use Rattle.commands.specs.Model.{Model, opened}
use Rattle.history_format.specs.HistoryCard.{model_in}
use Rattle.history_format.proofs.HistoryAgain.{card_as_read, model_of_card}
use Rattle.history_format.proofs.Moves.{card_not_history}
use Rattle.price_format.specs.Lines.{Line}
use Rattle.price_format.specs.Reading.{weight_named, prices_of, count_refusal, read_list, in_order}
use Rattle.price_format.specs.Writing.{price_at, place_ok, arcs_only}
use Rattle.price_format.proofs.ReadWritten.{read_written}
use Rattle.price_format.proofs.WrittenRead.{written_accepted, written_read}
use Rattle.price_card.specs.ToCard.{card_count_refusal, weights_of, instance_listed}
use Rattle.price_card.specs.FromCard.{marked_by, is_marked, prices_on, instance_list}
use Rattle.price_card.proofs.ListedLaws.{numbers_known, sound, unnamed, weight_listed, listed_valid, listed_as_read}
use Rattle.price_card.proofs.FromCardLaws.{places_ok}

-- FROM A LIST
module _ (n r b : ℕ) (t : List ℕ) (e : card_count_refusal n r b ≡ 0) where
  abbrev S : Instance
  S = instance_listed n r b t

  -- the card that is made opens
  pub made_opens : card_refusal (card_of S) ≡ 0
  made_opens = written_opens S (listed_valid n r b t e)

  -- and it says the very instance of the list
  pub made_says : instance_in (card_of S) ≡ S
  made_says =
      let a = listed_as_read n r b t in
      instance_back S (listed_valid n r b t e) a.weights_long a.marks_long a.elsewhere

  pub made_model : (model_in (card_of S)).instance ≡ S
  unfolding opened
  made_model =
      let plain = card_not_history (card_of S) made_opens in
      ap (λ (m : Model). m.instance) (model_of_card (card_of S) plain) ∙ made_says

  -- the weight of an arc is the list's
  pub made_weight : (i : ℕ) → i < n * n → weight S (i / n) (i % n) ≡ weight_named (read_list n r t).lines (i / n) (i % n)
  unfolding weight
  made_weight i h =
      let small = (numbers_known n r b e).small in
      let u = grid_row n i h in
      let v = grid_column n i h in
      let q : (32 * (i / n) + i % n) / 32 ≡ i / n = omega arith in
      let w : (32 * (i / n) + i % n) % 32 ≡ i % n = omega arith in
      rw (weight_listed n r b t (cell (i / n) (i % n)) (omega arith), q, w)

  made_prices : prices_on S ≡ prices_of n (read_list n r t).lines
  unfolding prices_on prices_of instance_listed
  made_prices = tabulate_same (n * n) _ _ made_weight

  -- THE LAW: a list in written order comes back from its card
  pub list_again : (read_list n r t).answer ≡ 0 → in_order (read_list n r t).lines ≡ true → instance_list (model_in (card_of S)).instance ≡ t
  unfolding instance_list instance_listed
  list_again a o = rw (made_model, made_prices) (read_written n r t (numbers_known n r b e).small a o)

-- FROM A CARD
module _ (ws : List ℕ) (e : card_refusal ws ≡ 0) where
  abbrev C : Instance
  C = instance_in ws

  abbrev text : List ℕ
  text = instance_list C

  good : valid_instance C ≡ true
  good = card_valid ws e

  small : C.n ≤ max_vertices
  small = valid_small C good

  on_list : (i : ℕ) → i < C.n * C.n → price_at (prices_on C) i ≡ weight C (i / C.n) (i % C.n)
  unfolding prices_on
  on_list i h = get_d_tabulate (C.n * C.n) (λ j. weight C (j / C.n) (j % C.n)) i no_arc h

  listable : all_below (C.n * C.n) (λ i. place_ok C.n C.root i (price_at (prices_on C) i)) ≡ true
  listable = places_ok C good (prices_on C) on_list

  abbrev LinesAgain : List Line
  LinesAgain = (read_list C.n C.root text).lines

  -- the list is accepted, and so are the card's numbers
  pub again_accepted : (read_list C.n C.root text).answer ≡ 0
  unfolding instance_list
  again_accepted = rw (written_accepted C.n C.root (prices_on C) listable small)

  pub again_numbers : card_count_refusal C.n C.root C.budget ≡ 0
  unfolding card_count_refusal count_refusal
  again_numbers =
      let some = valid_some C good in
      rw (ne_eqb C.n 0 (λ z. omega arith), le-ltb max_vertices C.n small, lt-leb C.n C.root (valid_root C good), le-ltb max_budget C.budget (valid_budget C good))

  prices_again : prices_of C.n LinesAgain ≡ arcs_only C.n C.root (prices_on C)
  unfolding instance_list
  prices_again = written_read C.n C.root (prices_on C) listable small

  nowhere : (i : ℕ) → i < cells → can_be_arc C.n C.root (i / 32) (i % 32) ≡ false → weight_at C i ≡ no_arc
  unfolding on_card
  nowhere i h q = ((card_as_read ws).elsewhere i h q).0

  place_again : (j : ℕ) → j < C.n * C.n
      → weight_named LinesAgain (j / C.n) (j % C.n) ≡ cond (can_be_arc C.n C.root (j / C.n) (j % C.n)) (weight C (j / C.n) (j % C.n)) no_arc
  unfolding prices_of arcs_only
  place_again j l =
      let n = C.n in
      let found : ℕ → ℕ = λ w. cond (can_be_arc n C.root (j / n) (j % n)) w no_arc in
      sym (get_d_tabulate (n * n) (λ i. weight_named LinesAgain (i / n) (i % n)) j 0 l) ∙ ap (λ (ps : List ℕ). get_or ps j 0) prices_again
      ∙ get_d_tabulate (n * n) (λ i. cond (can_be_arc n C.root (i / n) (i % n)) (price_at (prices_on C) i) no_arc) j 0 l ∙ ap found (on_list j l)

  -- an arc has its weight again
  arc_again : (t h : ℕ) → can_be_arc C.n C.root t h ≡ true → weight_named LinesAgain t h ≡ weight C t h
  arc_again t h q =
      let k = ends C.n C.root t h q in
      let g = grid_in C.n t C.n k.tail_below in
      let l : t * C.n + h < C.n * C.n = omega (arith, k.head_below) in
      let u = grid_at_row C.n t h k.head_below in
      let w = grid_at_column C.n t h k.head_below in
      rw (u, w, q) at (place_again (t * C.n + h) l)

  cell_again : (i : ℕ) → i < cells → weight_at C i ≡ weight_named LinesAgain (i / 32) (i % 32)
  unfolding weight
  cell_again i h =
      let back : 32 * (i / 32) + i % 32 ≡ i = omega arith in
      ⊎_elim (λ (q : can_be_arc C.n C.root (i / 32) (i % 32) ≡ true). sym (arc_again (i / 32) (i % 32) q ∙ ap (weight_at C) back))
      (λ (q : can_be_arc C.n C.root (i / 32) (i % 32) ≡ false).
      nowhere i h q ∙ sym (unnamed C.n C.root LinesAgain (sound C.n C.root C.budget text) (i / 32) (i % 32) q))
      (test (can_be_arc C.n C.root (i / 32) (i % 32)))

  weights_again : weights_of LinesAgain ≡ C.weights
  unfolding weights_of
  weights_again = sym (tabulate_is cells C.weights (λ i. weight_named LinesAgain (i / 32) (i % 32)) no_arc (card_as_read ws).weights_long cell_again)

  -- THE LAW: a plain card with no mark comes back from its list
  module _ (unmarked : is_marked (model_in ws) ≡ false) where
    all_free : all_below cells (λ i. eqb (get_or C.marks i free) free) ≡ true
    unfolding is_marked marked_by opened
    all_free =
        let m = rw (model_of_card ws (card_not_history ws e)) at unmarked in
        and_left (all_below cells (λ i. eqb (get_or C.marks i free) free)) true (not-false (all_below cells (λ i. eqb (get_or C.marks i free) free) && true) m)

    marks_again : replicate cells free ≡ C.marks
    marks_again =
        ext_get_or free (replicate cells free) C.marks (length-replicate {A = ℕ} cells free ∙ sym (card_as_read ws).marks_long)
        (λ i l. replicate_at cells i free ∙ sym (eqb-true (get_or C.marks i free) free (all_at cells (λ j. eqb (get_or C.marks j free) free) i (omega (arith, length-replicate {A = ℕ} cells free)) all_free)))

    instance_again : instance_listed C.n C.root C.budget text ≡ C
    unfolding instance_listed
    instance_again = rw (weights_again, marks_again)

    pub card_again : are_bytes ws ≡ true → card_of (instance_listed C.n C.root C.budget text) ≡ ws
    card_again b = rw instance_again (card_round_trip ws b e)
