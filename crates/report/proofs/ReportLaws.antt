-- From the contracts of opening and looking to the text of a card: what a look shows is what the text is made of.
-- Assumes nothing.
use mathlib.Core.Path.{◌≡◌, refl, sym, ap, ◌∙◌}
use mathlib.Core.Bool.{Bool, true, false, true≢false}
use mathlib.Core.List.{List}
use Prim.Native.Nat.{ℕ, ◌*◌, ◌≤◌, ◌<◌}
use native.Mathlib.Omega.{arith}
use native.Mathlib.Nat.{mul-le-mul}
use borrow.Author.Tests.{le-ltb, lt-ltb, eq-eqb, ne_eqb}
use lib.Dec.{ltb, eqb}
use lib.ListN.{length, drop, length-append}
use Rattle.base.proofs.BoolLaws.{or_both_false}
use Rattle.base.proofs.FrontLaws.{front_length}
use Rattle.instance.specs.Limits.{max_vertices, cells, cut_words}
use Rattle.instance.specs.Refusals.{buffer_short}
use Rattle.instance.specs.Instance.{Instance}
use Rattle.instance.specs.Candidates.{first_tree}
use Rattle.instance.specs.declared.Outcome.{Outcome}
use Rattle.instance.specs.States.{outcome, states}
use Rattle.instance.specs.Valid.{valid_instance}
use Rattle.instance.proofs.ValidLaws.{valid_small}
use Rattle.theory.proofs.StateLaws.{states_read}
use Rattle.theory.proofs.FirstLaws.{first_size}
use Rattle.history_format.specs.HistoryCard.{open_refusal}
use Rattle.history_format.proofs.HistoryNumbers.{open_refusal_most}
use Rattle.commands.specs.Valid.{valid}
use Rattle.board.specs.ModelOf.{model_of, instance_of}
use Rattle.board.specs.declared.Board.{Board}
use Rattle.planner.specs.declared.View.{View}
use Rattle.board.specs.declared.Answered.{Answered}
use Rattle.planner.specs.declared.View.TheVariants.{Shown, Refused}
use Rattle.planner.specs.Opening.{opened_from}
use Rattle.planner.specs.Looking.{Buffers, too_short, Shows, Looks}
use Rattle.commands.proofs.ValidLaws.{valid_fields}
use Rattle.planner.proofs.CallSteps.{tree_front, states_front, looks_long}
use Rattle.planner.proofs.OpeningLaws.{opened_answer, opened_starts, opened_instance}
use Rattle.report.specs.declared.Reported.{Reported}
use Rattle.text.specs.Buffer.{Filled}
use Rattle.report_text.specs.Whole.{whole_text, report_text, refused_text, max_text}
use Rattle.report.specs.Reports.{ReportsBy, Reports}
use Rattle.report_text.proofs.WholeLaws.{text_of_instance}
use Rattle.report_text.proofs.LengthLaws.{report_length, refused_length}

-- buffers of 32 bytes, 1,024 bytes and 122 words are long enough
enough : (n a b c : ℕ) → n ≤ max_vertices → max_vertices ≤ a → cells ≤ b → cut_words ≤ c → too_short n a b c ≡ false
unfolding too_short
enough n a b c h ha hb hc =
    let m = mul-le-mul h h in
    let states : n * n ≤ b = omega arith in
    let parents : n ≤ a = omega arith in
    or_both_false (ltb a n) _ (le-ltb _ _ parents) (or_both_false (ltb b (n * n)) _ (le-ltb _ _ states) (le-ltb _ _ hc))

-- what two views that are the same tell
shown_not_refused : {o : Outcome} {k a : ℕ} → Shown o k ≡ Refused a → ⊥
shown_not_refused e = true≢false (ap is_shown e)
  where
    is_shown : View → Bool
    is_shown (Shown o k) = true
    is_shown (Refused a) = false

shown_outcome : {o p : Outcome} {k j : ℕ} → Shown o k ≡ Shown p j → o ≡ p
shown_outcome {o} {p} e = ap of e
  where
    of : View → Outcome
    of (Shown q i) = q
    of (Refused a) = o

abbrev pub board_text : Board → Outcome → (parents states : List ℕ) → List ℕ
board_text b o ps ss = whole_text b.weights ps ss b.n b.root b.budget o

-- what writing the text needs and gives
pub record TextOf (b : Board) (o : Outcome) (parents states : List ℕ) : Type 0 where
  pub small : b.n ≤ max_vertices
  pub parents_room : b.n ≤ length parents
  pub states_room : b.n * b.n ≤ length states
  pub text_room : (m : ℕ) → max_text ≤ m → length (board_text b o parents states) ≤ m
  pub reports : (old new : List ℕ) (r : ℕ) → Filled (board_text b o parents states) old new r → Filled (report_text (instance_of b)) old new r

module _
    (b : Board)
    (good : valid (model_of b) ≡ true)
    (v : View)
    (old new : Buffers)
    (long_parents : max_vertices ≤ length old.parents)
    (long_states : cells ≤ length old.states)
    (long_cuts : cut_words ≤ length old.cuts)
    (looked : Looks b old new v)
  where
    abbrev S : Instance
    S = instance_of b

    valid_S : valid_instance S ≡ true
    valid_S = valid_fields (model_of b) good

    small : b.n ≤ max_vertices
    small = valid_small S valid_S

    shows : Shows S old new v
    shows =
        looks_long b v old new good
        (enough b.n (length old.parents) (length old.states) (length old.cuts) small long_parents long_states long_cuts)
        looked

    -- a look at a valid board is not refused
    pub not_refused : (a : ℕ) → v ≡ Refused a → ⊥
    not_refused a e = shown_not_refused (sym shows.result ∙ e)

    pub text_shown : (o : Outcome) (k : ℕ) → v ≡ Shown o k → TextOf b o new.parents new.states
    text_shown o k e =
        record {
          small = small;
          parents_room = omega (arith, parents_size, small);
          states_room = omega (arith, states_size, squares);
          text_room = λ m h. let short = fits in omega arith;
          reports = λ out out' r w. rw same at w;
        }
      where
        squares : b.n * b.n ≤ cells
        squares = mul-le-mul small small

        parents_size : length new.parents ≡ length old.parents
        parents_size = ap length shows.parents_buffer ∙ front_length (first_tree S) old.parents (omega (arith, small, first_size S))

        states_size : length new.states ≡ length old.states
        states_size = ap length shows.states_buffer ∙ front_length (states S) old.states (omega (arith, squares, (states_read S).size))

        found : o ≡ outcome S
        found = shown_outcome (sym e ∙ shows.result)

        same : board_text b o new.parents new.states ≡ report_text S
        same = text_of_instance S o new.parents new.states found (tree_front S v old new shows) (states_front S v old new shows)

        fits : length (board_text b o new.parents new.states) ≤ max_text
        fits = rw same (report_length S valid_S)

-- OPENED CARDS
pub opened_good : (ws : List ℕ) (o : Answered) → o ≡ opened_from ws → o.answer ≡ 0 → valid (model_of o.board) ≡ true
opened_good ws o e a = (opened_starts ws o e (sym (opened_answer ws o e) ∙ a)).good

-- the line of a refusal is short: no number is above 28
pub refusal_room : (ws : List ℕ) (o : Answered) → o ≡ opened_from ws → length (refused_text o.answer) ≤ max_text
refusal_room ws o e =
    let most = open_refusal_most ws in
    rw (opened_answer ws o e) (refused_length (open_refusal ws) (omega arith))

-- THE THREE WAYS of a report
pub too_short_reported : (ws old : List ℕ) → length old < max_text → Reports ws old old (record { answer = buffer_short; length = 0 })
unfolding Reports ReportsBy
too_short_reported ws old h = rw (lt-ltb _ _ h) (record { result = refl; buffer = refl })

pub refusal_reported : (ws old new : List ℕ) (o : Answered) (r : ℕ) → max_text ≤ length old → o ≡ opened_from ws → (o.answer ≡ 0 → ⊥)
    → Filled (refused_text o.answer) old new r → Reports ws old new (record { answer = o.answer; length = r })
unfolding Reports ReportsBy
refusal_reported ws old new o r h q n f =
    let e = opened_answer ws o q in
    let k : open_refusal ws ≡ 0 → ⊥ = λ z. n (e ∙ z) in
    rw (le-ltb _ _ h, ne_eqb _ _ k) (record { answer = e; text = rw e at f })

pub card_reported : (ws old new : List ℕ) (o : Answered) (r : ℕ) → max_text ≤ length old → o ≡ opened_from ws → o.answer ≡ 0
    → Filled (report_text (instance_of o.board)) old new r → Reports ws old new (record { answer = 0; length = r })
unfolding Reports ReportsBy
card_reported ws old new o r h q a f =
    let z = sym (opened_answer ws o q) ∙ a in
    rw (le-ltb _ _ h, eq-eqb _ _ z) (record { answer = refl; text = rw (opened_instance ws o q z) at f })

-- THE LENGTH that is answered lies within the buffer
filled_within : {text old new : List ℕ} {r : ℕ} → Filled text old new r → r ≤ length new
filled_within {text} {old} f =
    let l = ap length f.buffer ∙ length-append text (drop (length text) old) in
    omega (arith, f.place)

pub reported_within : (ws old new : List ℕ) (r : Reported) → Reports ws old new r → r.length ≤ length new
unfolding Reports ReportsBy
reported_within ws old new r = go (ltb (length old) max_text) (eqb (open_refusal ws) 0)
  where
    go : (t u : Bool) → ReportsBy t u ws old new r → r.length ≤ length new
    go true u x = let z = ap (λ (y : Reported). y.length) x.result in omega arith
    go false false x = filled_within x.text
    go false true x = filled_within x.text
