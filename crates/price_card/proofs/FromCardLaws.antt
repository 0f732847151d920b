-- The ways of listing the prices of a card: the card is refused, or its board's weights are written, of which none is
-- refused. Assumes nothing.
use mathlib.Core.Path.{◌≡◌, refl, sym, ap, ◌∙◌, subst}
use mathlib.Core.Bool.{Bool, true, false, ◌&&◌, ◌||◌, not, cond}
use mathlib.Core.Logic.{⊎_elim, ◌≢◌}
use mathlib.Core.List.{List}
use Prim.Native.Nat.{ℕ, ◌+◌, ◌*◌, ◌/◌, ◌%◌, ◌≤◌, ◌<◌}
use native.Mathlib.Omega.{arith}
use native.Mathlib.Nat.{mul-le-mul}
use lib.Dec.{ltb, leb, eqb}
use lib.ListN.{length, get_or, drop, length-append, get_or-append}
use borrow.Author.Tests.{eqb-true, eqb-false, eq-eqb, ne_eqb, le-ltb, lt-leb}
use Rattle.std.specs.Bool.{MatchBool}
use Rattle.std.specs.List.{AllWithin, HoldsAt}
use Rattle.base.specs.Bounded.{all_below}
use Rattle.base.specs.Lists.{tabulate, in_front}
use Rattle.base.proofs.BoolLaws.{test}
use Rattle.base.proofs.BoundedLaws.{all_at, all_intro}
use Rattle.base.proofs.FrontLaws.{front_length}
use Rattle.base.proofs.GridLaws.{square_most, grid_row, grid_column}
use Rattle.base.proofs.JoinLaws.{join_same}
use Rattle.base.proofs.ListLaws.{default, get_d_tabulate, length_tabulate}
use Rattle.instance.specs.Limits.{max_vertices, max_weight, no_arc, free, banned, cells}
use Rattle.instance.specs.Refusals.{buffer_short}
use Rattle.instance.specs.Instance.{Instance, cell, weight, mark_at, can_be_arc}
use Rattle.instance.specs.Valid.{cell_ok, cell_valid, valid_instance}
use Rattle.instance.proofs.ValidLaws.{valid_some, valid_small, valid_root, valid_cells}
use Rattle.commands.specs.Model.{Model}
use Rattle.commands.specs.Valid.{valid}
use Rattle.commands.proofs.ValidLaws.{valid_fields}
use Rattle.board.specs.ModelOf.{model_of}
use Rattle.board.specs.declared.Answered.{Answered}
use Rattle.history_format.specs.HistoryCard.{open_refusal, model_in}
use Rattle.history_format.proofs.HistoryAgain.{model_in_valid, model_in_as_read}
use Rattle.price_format.specs.Reading.{count_refusal, room_refusal}
use Rattle.price_format.specs.Writing.{price_at, is_written, place_text, list_text, place_ok, prices_refusal, write_refusal}
use Rattle.price_list.specs.Reads.{dense}
use Rattle.price_list.specs.Writes.{ListWritten, write_result, Writes}
use Rattle.planner.specs.Opening.{opened_from}
use Rattle.planner.proofs.OpeningLaws.{opened_answer, opened_model, opened_starts}
use Rattle.price_card.specs.declared.from_card.CardPrices.{CardPrices}
use Rattle.price_card.specs.declared.from_card.CardWeights.{CardWeights}
use Rattle.price_card.specs.FromCard.{marked_by, is_marked, prices_on, instance_list, PricesIn, WeightsTaken, WeightsOn, refused, weights_listed, ListsWeights, listed, ListsCard}

-- a cell that a valid instance may hold has a price that may be listed, or none
ok_listed : (w m : ℕ) → cell_ok w m ≡ true → not (not (eqb w no_arc)) || leb w max_weight ≡ true
unfolding cell_ok
ok_listed w m = by (leb w max_weight) (eqb w no_arc)
  where
    by : (x y : Bool) → cond x (leb m banned) (y && eqb m free) ≡ true → not (not y) || x ≡ true
    by true true e = refl
    by true false e = refl
    by false true e = refl
    by false false e = e

-- THE PRICES OF A VALID INSTANCE: of words that have them in front none is refused
module _ (s : Instance) (v : valid_instance s ≡ true) (ps : List ℕ)
    (same : (i : ℕ) → i < s.n * s.n → price_at ps i ≡ weight s (i / s.n) (i % s.n)) where
  abbrev n : ℕ
  n = s.n

  price_ok : (i : ℕ) → i < n * n → place_ok n s.root i (price_at ps i) ≡ true
  unfolding place_ok is_written cell_valid cell_ok weight
  price_ok i h =
      let small = valid_small s v in
      let t = grid_row n i h in
      let d = grid_column n i h in
      let q : (32 * (i / n) + i % n) / 32 ≡ i / n = omega arith in
      let u : (32 * (i / n) + i % n) % 32 ≡ i % n = omega arith in
      let k : cell (i / n) (i % n) < cells = omega arith in
      let c = rw (q, u) at (all_at cells (cell_valid s) (cell (i / n) (i % n)) k (valid_cells s v)) in
      rw (same i h) (by (can_be_arc n s.root (i / n) (i % n)) (weight s (i / n) (i % n)) (mark_at s (cell (i / n) (i % n))) c)
    where
      by : (c : Bool) (w m : ℕ) → cond c (cell_ok w m) true ≡ true → not (c && not (eqb w no_arc)) || leb w max_weight ≡ true
      by false w m e = refl
      by true w m e = ok_listed w m e

  pub places_ok : all_below (n * n) (λ i. place_ok n s.root i (price_at ps i)) ≡ true
  places_ok = all_intro (n * n) (λ i. place_ok n s.root i (price_at ps i)) price_ok

  pub prices_pass : n * n ≤ length ps → prices_refusal n s.root ps ≡ 0
  unfolding prices_refusal room_refusal count_refusal
  prices_pass words =
      let some = valid_some s v in
      rw (ne_eqb n 0 (λ z. omega arith), le-ltb max_vertices n (valid_small s v), lt-leb n s.root (valid_root s v), le-ltb (length ps) (n * n) words, places_ok)

  -- and their list is that of the instance, whatever follows them
  pub list_by_front : list_text n s.root ps ≡ instance_list s
  unfolding list_text instance_list prices_on
  list_by_front =
      join_same (n * n) (λ i. place_text n s.root i (price_at ps i)) (λ i. place_text n s.root i (price_at (prices_on s) i))
      (λ i h. ap (place_text n s.root i) (same i h ∙ sym (get_d_tabulate (n * n) (λ j. weight s (j / n) (j % n)) i no_arc h)))

-- words in whose front the weights were put, tail by tail
pub dense_in : (n : ℕ) (weights old new : List ℕ) → n ≤ max_vertices → length old ≡ cells → new ≡ in_front (dense n weights) old → PricesIn n weights new
unfolding dense
dense_in n ws old new small l e =
    let g : ℕ → ℕ = λ i. get_or ws (cell (i / n) (i % n)) 0 in
    let k = length_tabulate (n * n) g in
    let m = square_most n max_vertices small in
    record {
      long = ap length e ∙ front_length (dense n ws) old (omega arith) ∙ l;
      at = λ i h. ap (λ (w : List ℕ). get_or w i 0) e ∙ get_or-append (tabulate (n * n) g) (drop (length (tabulate (n * n) g)) old) 0 i (omega arith) ∙ get_d_tabulate (n * n) g i 0 h;
    }

-- words that a table's weights were copied to
pub price_same : (s : Instance) (ps : List ℕ) → s.n ≤ max_vertices → length s.weights ≡ cells → PricesIn s.n s.weights ps
    → (i : ℕ) → i < s.n * s.n → price_at ps i ≡ weight s (i / s.n) (i % s.n)
unfolding weight
price_same s ps small long p i h =
    let m = mul-le-mul small small in
    let t = grid_row s.n i h in
    let d = grid_column s.n i h in
    default ps i no_arc 0 (omega (arith, p.long)) ∙ p.at i h ∙ default s.weights (cell (i / s.n) (i % s.n)) 0 no_arc (omega arith)

-- A MARK OTHER THAN FREE is found among the marks, or none is
module _ (ms : List ℕ) (l : length ms ≡ cells) where
  pub marks_found : (r : Bool) → MatchBool r ((k : ℕ) × (k < length ms) × HoldsAt (λ m. m ≢ free) ms k) (AllWithin (λ m. m ≡ free) ms 0 (length ms))
      → r ≡ not (all_below cells (λ i. eqb (get_or ms i free) free))
  marks_found true (k, h, a) = go (all_below cells (λ i. eqb (get_or ms i free) free)) refl
    where
      go : (c : Bool) → all_below cells (λ i. eqb (get_or ms i free) free) ≡ c → true ≡ not c
      go true e = absurd (a free (eqb-true (get_or ms k free) free (all_at cells (λ i. eqb (get_or ms i free) free) k (omega (arith, l)) e)))
      go false e = refl
  marks_found false h =
      rw (all_intro cells (λ i. eqb (get_or ms i free) free) (λ i q. eq-eqb (get_or ms i free) free (h i free (omega arith) (omega (arith, l)))))

  pub marked_found : (r : Bool) (k : ℕ) → k ≡ 0 → r ≡ not (all_below cells (λ i. eqb (get_or ms i free) free)) → r ≡ marked_by ms k
  unfolding marked_by
  marked_found r k z e = rw (z, e) (by (all_below cells (λ i. eqb (get_or ms i free) free)))
    where
      by : (c : Bool) → not c ≡ not (c && true)
      by true = refl
      by false = refl

pub records_marked : (ms : List ℕ) (k : ℕ) → (k ≡ 0 → ⊥) → not (eqb k 0) ≡ marked_by ms k
unfolding marked_by
records_marked ms k z = rw (ne_eqb k 0 z) (by (all_below cells (λ i. eqb (get_or ms i free) free)))
  where
    by : (c : Bool) → true ≡ not (c && false)
    by true = refl
    by false = refl

-- AN OPENED CARD
module _ (ws : List ℕ) (o : Answered) (e : o ≡ opened_from ws) where
  pub card_refused : (r : CardWeights) → r.answer ≡ o.answer → (o.answer ≡ 0 → ⊥) → WeightsOn ws r
  card_refused r same z = record { answer = same ∙ opened_answer ws o e; weights = λ q. absurd (z (sym same ∙ q)) }

  module _ (z : o.answer ≡ 0) where
    opens : open_refusal ws ≡ 0
    opens = sym (opened_answer ws o e) ∙ z

    pub board_good : valid (model_of o.board) ≡ true
    board_good = (opened_starts ws o e opens).good

    pub card_read : (r : CardWeights) → WeightsTaken (model_of o.board) r → WeightsOn ws r
    card_read r x =
        record { answer = x.answer ∙ sym opens; weights = λ q. subst (λ (m : Model). WeightsTaken m r) (opened_model ws o e opens) x }

-- WEIGHTS THAT WERE TAKEN
module _ (t : CardWeights) (old : List ℕ) where
  abbrev list : List ℕ
  list = list_text t.n t.root t.prices

  abbrev refusal : ℕ
  refusal = write_refusal t.n t.root t.prices (length old)

  pub weights_refused : (t.answer ≡ 0 → ⊥) → ListsWeights t old old (refused t.answer)
  unfolding weights_listed
  weights_refused z = record { result = rw (ne_eqb t.answer 0 z); buffer = rw (ne_eqb t.answer 0 z) }

  module _ (z : t.answer ≡ 0) (new : List ℕ) (w : ListWritten) (x : Writes t.prices t.n t.root old new w) where
    pub write_refused : (w.answer ≡ 0 → ⊥) → ListsWeights t old new (refused w.answer)
    unfolding weights_listed write_result
    write_refused k = by (eqb refusal 0) refl x.result
      where
        by : (c : Bool) → eqb refusal 0 ≡ c → w ≡ cond c (record { answer = 0; length = length list }) (record { answer = refusal; length = 0 })
            → ListsWeights t old new (refused w.answer)
        by true q e = absurd (k (ap (λ (y : ListWritten). y.answer) e))
        by false q e = record { result = rw (eq-eqb t.answer 0 z, q, e); buffer = x.buffer }

    pub write_done : w.answer ≡ 0
        → ListsWeights t old new (record { answer = 0; n = t.n; root = t.root; budget = t.budget; marked = t.marked; length = w.length })
    unfolding weights_listed write_result
    write_done k = by (eqb refusal 0) refl x.result
      where
        by : (c : Bool) → eqb refusal 0 ≡ c → w ≡ cond c (record { answer = 0; length = length list }) (record { answer = refusal; length = 0 })
            → ListsWeights t old new (record { answer = 0; n = t.n; root = t.root; budget = t.budget; marked = t.marked; length = w.length })
        by true q e = record { result = rw (eq-eqb t.answer 0 z, q, e); buffer = rw k at x.buffer }
        by false q e = absurd (eqb-false refusal 0 q (sym (ap (λ (y : ListWritten). y.answer) e) ∙ k))

-- the list lies within the buffer
pub list_within : (t : CardWeights) (old new : List ℕ) (r : CardPrices) → ListsWeights t old new r → r.length ≤ length new
unfolding weights_listed
list_within t old new r x = by (eqb t.answer 0) (eqb (write_refusal t.n t.root t.prices (length old)) 0) x.result x.buffer
  where
    text : List ℕ
    text = list_text t.n t.root t.prices

    full : CardPrices
    full = record { answer = 0; n = t.n; root = t.root; budget = t.budget; marked = t.marked; length = length text }

    by : (a b : Bool) → r ≡ cond a (cond b full (refused (write_refusal t.n t.root t.prices (length old)))) (refused t.answer)
        → new ≡ cond (eqb r.answer 0) (in_front text old) old → r.length ≤ length new
    by false b e f = let z = ap (λ (y : CardPrices). y.length) e in omega arith
    by true false e f = let z = ap (λ (y : CardPrices). y.length) e in omega arith
    by true true e f =
        let z = ap (λ (y : CardPrices). y.length) e in
        let g : new ≡ in_front text old = rw e at f in
        omega (arith, ap length g ∙ length-append text (drop (length text) old))

-- THE LIST OF A CARD
module _ (ws old new : List ℕ) (t : CardWeights) (taken : WeightsOn ws t) (r : CardPrices) (x : ListsWeights t old new r) where
  abbrev m : Model
  m = model_in ws

  abbrev s : Instance
  s = m.instance

  -- a card that is refused
  not_opened : (t.answer ≡ 0 → ⊥) → ListsCard ws old new r
  unfolding weights_listed
  not_opened z =
      let e : r ≡ refused t.answer = rw (ne_eqb t.answer 0 z) at x.result in
      record {
        result = rw (← taken.answer, ne_eqb t.answer 0 z) e;
        buffer = rw (e, ne_eqb t.answer 0 z) (rw (e, ne_eqb t.answer 0 z) at x.buffer);
      }

  module _ (z : t.answer ≡ 0) where
    passes : open_refusal ws ≡ 0
    passes = sym taken.answer ∙ z

    good : valid_instance s ≡ true
    good = valid_fields m (model_in_valid ws passes)

    holds : WeightsTaken m t
    holds = taken.weights z

    same : (i : ℕ) → i < s.n * s.n → price_at t.prices i ≡ weight s (i / s.n) (i % s.n)
    same = price_same s t.prices (valid_small s good) (model_in_as_read ws).weights_long holds.prices

    words : s.n * s.n ≤ length t.prices
    words = let small = valid_small s good in let q = mul-le-mul small small in omega (arith, holds.prices.long)

    list_same : list_text t.n t.root t.prices ≡ instance_list s
    list_same = rw (holds.n, holds.root) (list_by_front s good t.prices same)

    refusal_same : write_refusal t.n t.root t.prices (length old) ≡ cond (ltb (length old) (length (instance_list s))) buffer_short 0
    unfolding write_refusal
    refusal_same = rw (holds.n, holds.root, prices_pass s good t.prices same words, list_by_front s good t.prices same)

    result_same : weights_listed t (length old) ≡ listed m (length old)
    unfolding weights_listed listed
    result_same = rw (eq-eqb t.answer 0 z, refusal_same, list_same, holds.n, holds.root, holds.budget, holds.marked) (by (ltb (length old) (length (instance_list s))))
      where
        full : CardPrices
        full = record { answer = 0; n = s.n; root = s.root; budget = s.budget; marked = is_marked m; length = length (instance_list s) }

        by : (c : Bool) → cond (eqb (cond c buffer_short 0) 0) full (refused (cond c buffer_short 0)) ≡ cond c (refused buffer_short) full
        by true = refl
        by false = refl

    opened_listed : ListsCard ws old new r
    opened_listed = record { result = rw (eq-eqb (open_refusal ws) 0 passes) (x.result ∙ result_same); buffer = rw list_same at x.buffer }

  pub card_listed : ListsCard ws old new r
  card_listed =
      ⊎_elim (λ (q : eqb t.answer 0 ≡ true). opened_listed (eqb-true t.answer 0 q))
      (λ (q : eqb t.answer 0 ≡ false). not_opened (eqb-false t.answer 0 q)) (test (eqb t.answer 0))
