-- DEMAND 1 OF THE LIBRARY, "refused, every lent buffer is as it was": of each promise that an exported function makes,
-- an answer other than 0 leaves every buffer, and every word but those that say which line of which price list is
-- faulty. These are laws of the promises; that the functions make them is what their own proofs say. The answer itself
-- is by equation that of the call which is passed on, whose numbers are in DemandOne; 14 is added where a card is
-- written. Assumes nothing.
use mathlib.Core.Path.{◌≡◌, refl, ◌∙◌}
use mathlib.Core.Bool.{true}
use mathlib.Core.List.{List}
use mathlib.Core.Logic.{◌≢◌}
use Prim.Native.Nat.{ℕ, zero, suc}
use borrow.Author.Tests.{ne_eqb}
use Rattle.spanning.specs.Graph.{Graph}
use Rattle.runs.specs.Planning as runs
use Rattle.runs.specs.Planning.{view_number}
use Rattle.history_format.specs.HistoryCard.{open_refusal, model_in}
use Rattle.planner.specs.declared.View as view
use Rattle.planner.specs.Enumerating as listing
use Rattle.planner.specs.declared.Reason as reason
use Rattle.planner.specs.Looking.{Buffers, answer_of, short_for}
use Rattle.planner.specs.Replaying.{calls, log_in, Replays}
use Rattle.planner.specs.Explaining.{TreeBuffers, reason_answer}
use Rattle.planner.proofs.ExplainingLaws.{explains_answer, explains_before, plan_without_answer, plan_without_before}
use Rattle.planner.specs.Enumerating.{list_answer}
use Rattle.price_list.specs.Reads.{PricesRead}
use Rattle.price_list.specs.Reads.{Reads}
use Rattle.feed_planner.specs.Store.{Tells}
use Rattle.feed_planner.specs.Sheets.{Sheet, ReadsSheet}
use Rattle.feed_planner.specs.PressLists.{PressesList}
use Rattle.feed_planner.specs.Words.{Words, ReasonWords, view_words, listing_words, runs_words, reason_words}
use Rattle.feed_planner.specs.Looking.{Views, LooksOn, LooksAtCard, ReplaysCard}
use Rattle.feed_planner.specs.Reasons.{refusal_for, ExplainsCard, PlansWithoutCard}
use Rattle.feed_planner.specs.Plans.{listing_of, StoresListing}
use Rattle.feed_planner.specs.Prices.{StoresMade, StoresMerged}
use Rattle.feed_planner.specs.Rows.{TellsRow}
use Rattle.feed_planner.specs.PassiveRuns.{TellsRuns}
use Rattle.demands.proofs.CallNumbers.{looks_at_as_before, replays_as_before}
use Rattle.demands.proofs.PassiveNumbers.{runs_before}

-- every function that stores bytes: presses, writes, moves, the printed text and price lists
pub tells_refused : {told size : ℕ} {bytes out out' : List ℕ} {w w' a : ℕ} → Tells told size bytes out out' w w' a → a ≢ 0 → (out' ≡ out) × (w' ≡ w)
tells_refused {a = a} t n = let e = ne_eqb a 0 n in (t.buffer ∙ rw e, t.word ∙ rw e)

-- a prepared list; the card and the merged list of price lists, whose line is told all the same
pub press_list_refused : {ws ks fs gs out out' : List ℕ} {n n' p p' q q' a : ℕ} → PressesList ws ks fs gs out out' n n' p p' q q' a → a ≢ 0
    → (out' ≡ out) × (n' ≡ n) × (p' ≡ p) × (q' ≡ q)
press_list_refused {a = a} l z =
    let e = ne_eqb a 0 z in
    let t = tells_refused l.stored z in
    (t.0, t.1, l.applied_word ∙ rw e, l.stopped_word ∙ rw e)

pub made_refused : {t : List ℕ} {n r b : ℕ} {out out' : List ℕ} {w w' line a : ℕ} → StoresMade t n r b out out' w w' line a → a ≢ 0 → (out' ≡ out) × (w' ≡ w)
made_refused m z = tells_refused m.stored z

pub merged_refused : {x y : List ℕ} {n r : ℕ} {out out' : List ℕ} {w w' i line a : ℕ} → StoresMerged x y n r out out' w w' i line a → a ≢ 0 → (out' ≡ out) × (w' ≡ w)
merged_refused m z = tells_refused m.stored z

pub sheet_refused : {ws : List ℕ} {old new : Sheet} {a : ℕ} → ReadsSheet ws old new a → a ≢ 0 → new ≡ old
sheet_refused {a = a} r z = r.shown ∙ rw (ne_eqb a 0 z)

pub row_refused : {x y : List ℕ} {n t own own' place place' a : ℕ} → TellsRow x y n t own own' place place' a → a ≢ 0 → (own' ≡ own) × (place' ≡ place)
row_refused {a = a} r z = let e = ne_eqb a 0 z in (r.list ∙ rw e, r.start ∙ rw e)

-- a price list that is read
pub reading_refused : {t : List ℕ} {n r : ℕ} {ps ps' : List ℕ} {d : PricesRead} → Reads t n r ps ps' d → d.answer ≢ 0 → ps' ≡ ps
reading_refused {d = d} x z = x.buffer ∙ rw (ne_eqb d.answer 0 z)

-- LOOKS
words_kept : (v : view.View) (w : Words) → answer_of v ≢ 0 → view_words v w ≡ w
words_kept (view.TheVariants.Shown o k) w n = absurd (n refl)
words_kept (view.TheVariants.Refused a) w n = refl

views_refused : {v : view.View} {w w' : Words} {a : ℕ} → Views v w w' a → a ≢ 0 → w' ≡ w
views_refused {v} {w} t z = t.words ∙ words_kept v w (λ y. z (t.number ∙ y))

looks_on_before : (k : ℕ) (ws : List ℕ) (old new : Buffers) (v : view.View) → LooksOn k ws old new v → answer_of v ≢ 0 → new ≡ old
unfolding LooksOn
looks_on_before zero ws old new v l n = looks_at_as_before (model_in ws).instance v old new true (short_for (model_in ws).instance.n old) l n
looks_on_before (suc k) ws old new v l n = l.buffers

pub looking_refused : {ws : List ℕ} {old new : Buffers} {w w' : Words} {a : ℕ} → LooksAtCard ws old new w w' a → a ≢ 0 → (new ≡ old) × (w' ≡ w)
looking_refused {ws} {old} {new} l z =
    (looks_on_before (open_refusal ws) ws old new l.view l.looks (λ y. z (l.told.number ∙ y)), views_refused l.told z)

pub replay_refused : {ws ks fs gs xs xs' : List ℕ} {old new : Buffers} {w w' : Words} {a : ℕ} → ReplaysCard ws ks fs gs xs xs' old new w w' a → a ≢ 0
    → (xs' ≡ xs) × (new ≡ old) × (w' ≡ w)
unfolding Replays
replay_refused {ws} {ks} {fs} {gs} {xs} {xs'} {old} {new} l z =
    let b = replays_as_before (calls ks fs gs) (log_in ws) l.view xs xs' old new (open_refusal ws) _ l.replays (λ y. z (l.told.number ∙ y)) in
    (b.0, b.1, views_refused l.told z)

-- WHY A LINK IS CLOSED, OPEN OR SURE
reason_words_stay : (r : reason.Reason) (w : ReasonWords) → reason_answer r ≢ 0 → reason_words r w ≡ w
reason_words_stay (reason.TheVariants.Banned k) w n = absurd (n refl)
reason_words_stay (reason.TheVariants.Rival g k) w n = absurd (n refl)
reason_words_stay (reason.TheVariants.Priced o k) w n = absurd (n refl)
reason_words_stay (reason.TheVariants.Refused a) w n = refl

pub explaining_refused : {ws : List ℕ} {t h : ℕ} {old new : TreeBuffers} {w w' : ReasonWords} {a : ℕ} → ExplainsCard ws t h old new w w' a → a ≢ 0 → (new ≡ old) × (w' ≡ w)
explaining_refused {ws} {t} {h} {old} {new} {w} x z =
    let n : reason_answer x.reason ≢ 0 = λ y. z (x.in_words.number ∙ y) in
    let k = refusal_for ws t h old in
    let s = (model_in ws).instance in
    let e = explains_answer k s _ t h old new x.reason x.explains in
    (explains_before k s _ t h old new x.reason x.explains (λ y. n (e ∙ y)), x.in_words.words ∙ reason_words_stay x.reason w n)

pub planning_without_refused : {ws : List ℕ} {t h : ℕ} {old new : TreeBuffers} {w w' : Words} {a : ℕ} → PlansWithoutCard ws t h old new w w' a → a ≢ 0 → (new ≡ old) × (w' ≡ w)
planning_without_refused {ws} {t} {h} {old} {new} x z =
    let k = refusal_for ws t h old in
    let s = (model_in ws).instance in
    let e = plan_without_answer k s t h old new x.view x.plans in
    (plan_without_before k s t h old new x.view x.plans (λ y. z (x.views.number ∙ e ∙ y)), views_refused x.views z)

-- LISTINGS AND PASSIVE RUNS
listing_kept : (r : listing.Listing) (w : Words) → list_answer r ≢ 0 → listing_words r w ≡ w
listing_kept (listing.Listed e k t) w n = absurd (n refl)
listing_kept (listing.Refused a) w n = refl

pub listing_refused : {ws : List ℕ} {limit : ℕ} {out out' : List ℕ} {w w' : Words} {a : ℕ} → StoresListing ws limit out out' w w' a → a ≢ 0 → (out' ≡ out) × (w' ≡ w)
listing_refused {ws} {limit} {out} {w = w} {a = a} l z =
    (l.buffer ∙ rw (ne_eqb a 0 z), l.words ∙ listing_kept (listing_of ws limit out) w (λ y. z (l.number ∙ y)))

runs_kept : (r : runs.RunsView) (w : Words) → view_number r ≢ 0 → runs_words r w ≡ w
unfolding view_number
runs_kept (runs.Shown o) w n = absurd (n refl)
runs_kept (runs.Refused a) w n = refl

pub runs_refused : {g : Graph} {budget : ℕ} {ss ss' cs cs' : List ℕ} {w w' : Words} {a : ℕ} → TellsRuns g budget ss ss' cs cs' w w' a → a ≢ 0
    → (ss' ≡ ss) × (cs' ≡ cs) × (w' ≡ w)
runs_refused {g} {budget} {ss} {ss'} {cs} {cs'} {w = w} p z =
    let n : view_number p.view ≢ 0 = λ y. z (p.number ∙ y) in
    let b = runs_before g budget ss ss' cs cs' p.view p.plans n in
    (b.0, b.1, p.words ∙ runs_kept p.view w n)
