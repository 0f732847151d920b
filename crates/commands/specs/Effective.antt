-- What is effective by a log (document 01: standing marks and the standing budget). Assumes nothing: these are
-- definitions.
use Rattle.std.specs.Prelude.{◌&&◌, cond, List, [], ◌∷◌, ℕ, ◌/◌, ◌%◌, eqb}
use Rattle.base.specs.Lists.{tabulate}
use Rattle.instance.specs.Limits.{cells}
use Rattle.instance.specs.Marks.{mark_number}
use Rattle.instance.specs.Instance.{Instance, mark}
use Rattle.commands.specs.Heads.{names_arc}
use Rattle.commands.specs.Log.{Entry, entry_mark, entry_marks, entry_budget, Log}

-- The effective mark (document 01: the standing mark) "is the one set by the last standing press that names it, or the
-- card's if none does". Of a set of heads the card's arcs are named: "Members that are no link are skipped" (02, A5).
unfoldable pub effective_mark : List Entry → Instance → (tail head : ℕ) → ℕ
effective_mark [] s t h = mark s t h
effective_mark (entry_mark m u v ∷ es) s t h = cond (eqb t u && eqb h v) (mark_number m) (effective_mark es s t h)
effective_mark (entry_marks m u c ∷ es) s t h = cond (eqb t u && names_arc s u c h) (mark_number m) (effective_mark es s t h)
effective_mark (entry_budget v ∷ es) s t h = effective_mark es s t h

-- "that of the last standing budget press, or the card's if there is none"
unfoldable pub effective_budget : List Entry → Instance → ℕ
effective_budget [] s = s.budget
effective_budget (entry_mark m u v ∷ es) s = effective_budget es s
effective_budget (entry_marks m u c ∷ es) s = effective_budget es s
effective_budget (entry_budget v ∷ es) s = v

-- "the card's positions, root and prices under the standing marks, within the standing budget"; the records below "set
-- nothing" (02, A8)
unfoldable pub effective : Log → Instance
effective k =
    record {
      n = k.card.n;
      root = k.card.root;
      budget = effective_budget k.entries k.card;
      weights = k.card.weights;
      marks = tabulate cells (λ i. effective_mark k.entries k.card (i / 32) (i % 32));
    }
