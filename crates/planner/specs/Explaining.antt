-- Why a link is closed, open or sure: what `why` and `plan_without` yield. Unique, and so an equation: the reason, who
-- set the mark, the outcome with its total, the parents, every refusal, and all that stands after the filled places.
-- Free, with what holds of them: the cuts and how many they are, the set that no arc enters. Assumes nothing: these are
-- definitions.
use Rattle.std.specs.Prelude.{◌≡◌, Bool, true, false, ◌&&◌, ◌||◌, not, cond, List, [], ◌∷◌, ℕ, zero, suc, ltb, eqb, length}
use Rattle.base.specs.Lists.{in_front}
use Rattle.instance.specs.Limits.{cut_words, banned}
use Rattle.instance.specs.Refusals.{no_vertex, no_such_arc, buffer_short, invalid_board}
use Rattle.instance.specs.Instance.{Instance, mark, is_arc}
use Rattle.instance.specs.Arborescence.{other_pinned}
use Rattle.instance.specs.Candidates.{first_tree}
use Rattle.instance.specs.States.{outcome}
use Rattle.instance.specs.Cuts.{Cut, words_of}
use Rattle.commands.specs.Model.{Model}
use Rattle.commands.specs.Valid.{valid}
use Rattle.commands.specs.Setters.{setter}
use Rattle.board.specs.ModelOf.{model_of, instance_of}
use Rattle.board.specs.declared.Board.{Board}
use Rattle.survey.specs.FirstPlan.{CutsShown}
use Rattle.witness.specs.Witness.{rival, forced_instance, deleted_instance}
use Rattle.planner.specs.declared.View.{View}
use Rattle.planner.specs.declared.View.TheVariants.{Shown}
use Rattle.planner.specs.declared.Reason.{Reason}
use Rattle.planner.specs.declared.Reason.TheVariants.{Banned, Rival, Priced, Refused}
use Rattle.planner.specs.declared.View as views

-- document 01's number for a reason: 0, or the refusal's
abbrev pub reason_answer : Reason → ℕ
reason_answer (Banned k) = 0
reason_answer (Rival g k) = 0
reason_answer (Priced o k) = 0
reason_answer (Refused a) = a

-- THE BUFFERS: feeders and cuts, as for a look
pub record TreeBuffers : Type 0 where
  pub parents : List ℕ
  pub cuts : List ℕ

abbrev pub tree_buffers : (parents cuts : List ℕ) → TreeBuffers
tree_buffers ps cs = record { parents = ps; cuts = cs }

unfoldable pub tree_short : (n parents cuts : ℕ) → Bool
tree_short n a c = ltb a n || ltb c cut_words

-- "Refusals: 15, 9, 10 (no such link), 14, in this order; nothing touched."
unfoldable pub arc_answer : (is_valid outside missing short : Bool) → ℕ
arc_answer v outside missing short =
    cond (not v) invalid_board (cond outside no_vertex (cond missing no_such_arc (cond short buffer_short 0)))

unfoldable pub explain_answer : (is_valid : Bool) → Instance → (tail head : ℕ) → (parents cuts : ℕ) → ℕ
explain_answer v s t h a c = arc_answer v (not (ltb t s.n && ltb h s.n)) (not (is_arc s t h)) (tree_short s.n a c)

abbrev pub explain_refusal : Model → (tail head : ℕ) → (parents cuts : ℕ) → ℕ
explain_refusal m t h a c = explain_answer (valid m) m.instance t h a c

-- what may be answered: 0, or one of these
abbrev pub explain_numbers : List ℕ
explain_numbers = 0 ∷ no_vertex ∷ no_such_arc ∷ buffer_short ∷ invalid_board ∷ []

-- The plan of an instance, shown: "plan or over with the total, the tree and the cuts that prove it; or none with the
-- set that no link enters"; buffers before and after, the outcome and the number of pairs.
pub record ShowsPlan (s : Instance) (old new : TreeBuffers) (pairs : ℕ) : Type 0 where
  pub cut_list : List Cut
  pub counted : pairs ≡ length cut_list
  pub cuts_shown : CutsShown (outcome s) s cut_list
  pub parents_buffer : new.parents ≡ in_front (first_tree s) old.parents
  pub cuts_buffer : new.cuts ≡ in_front (words_of cut_list) old.cuts

-- WHY. "first that holds: banned, and by whom ..; rival: another link into the same position is pinned: which (the
-- smallest such feeder), and by whom ..; priced". By whom is a place among the recorded presses, from 1 at the
-- oldest, or 0 where none of them names the arc, and so the card. Where no plan is shown the buffers stay as they were.
unfoldable pub ExplainsArc :
    (is_banned has_rival : Bool) → Instance → (who : (tail head : ℕ) → ℕ) → (tail head : ℕ) → (old new : TreeBuffers) → Reason → Type 0
ExplainsArc true rivals s who t h old new r = (r ≡ Banned (who t h)) × (new ≡ old)
ExplainsArc false true s who t h old new r = let g = rival s t h in (r ≡ Rival (record { 0 = g }) (who g h)) × (new ≡ old)
ExplainsArc false false s who t h old new r =
    let f = forced_instance s t h in (pairs : ℕ) × (r ≡ Priced (outcome f) pairs) × ShowsPlan f old new pairs

unfoldable pub ExplainsBy : (answer : ℕ) → Instance → (who : (tail head : ℕ) → ℕ) → (tail head : ℕ) → (old new : TreeBuffers) → Reason → Type 0
ExplainsBy zero s who t h old new r = ExplainsArc (eqb (mark s t h) banned) (other_pinned s t h) s who t h old new r
ExplainsBy (suc a) s who t h old new r = (r ≡ Refused (suc a)) × (new ≡ old)

-- of a board: by the latest record that names the arc
abbrev pub ExplainsAt : (answer : ℕ) → Model → (tail head : ℕ) → (old new : TreeBuffers) → Reason → Type 0
ExplainsAt a m t h old new r = ExplainsBy a m.instance (setter m.history) t h old new r

unfoldable pub Explains : Board → (tail head : ℕ) → (old new : TreeBuffers) → Reason → Type 0
Explains b t h old new r =
    ExplainsAt (explain_refusal (model_of b) t h (length old.parents) (length old.cuts)) (model_of b) t h old new r

-- WITHOUT IT: "the outcome of the sheet with this link taken out, in the same form"
unfoldable pub PlansWithoutAt : (answer : ℕ) → Instance → (tail head : ℕ) → (old new : TreeBuffers) → View → Type 0
PlansWithoutAt zero s t h old new r =
    let x = deleted_instance s t h in (pairs : ℕ) × (r ≡ Shown (outcome x) pairs) × ShowsPlan x old new pairs
PlansWithoutAt (suc a) s t h old new r = (r ≡ views.TheVariants.Refused (suc a)) × (new ≡ old)

unfoldable pub PlansWithout : Board → (tail head : ℕ) → (old new : TreeBuffers) → View → Type 0
PlansWithout b t h old new r =
    PlansWithoutAt (explain_refusal (model_of b) t h (length old.parents) (length old.cuts)) (instance_of b) t h old new r
