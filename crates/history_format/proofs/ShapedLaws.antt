-- Every command keeps the shape of a history (`AllShaped`): what is recorded of several arcs has a set of 32 bits and
-- says nothing of other heads, and an undo only takes a record away. So a board that came off a card, of either kind,
-- has such a history whatever was done to it: that is what the round trip (ModelAgain) asks of a history. Assumes
-- nothing.
use mathlib.Core.Path.{◌≡◌, refl}
use mathlib.Core.Bool.{Bool, true, false, cond}
use mathlib.Core.List.{List, [], ◌∷◌}
use Prim.Native.Nat.{ℕ, ◌^◌, ◌<◌}
use native.Mathlib.Omega.{arith}
use lib.ListN.{get_or}
use Rattle.base.proofs.DigitLaws.{digits_below}
use Rattle.base.proofs.ListLaws.{length_tabulate, get_d_tabulate, tabulate_is}
use Rattle.instance.specs.Limits.{max_vertices, free}
use Rattle.instance.specs.Refusals.{invalid_board}
use Rattle.instance.specs.Instance.{Instance, mark}
use Rattle.instance.specs.Cuts.{inside}
use Rattle.instance.proofs.SetBits.{bit_small}
use Rattle.commands.specs.Heads.{names_arc, heads_of, marks_of}
use Rattle.commands.specs.Model.{Replaced, Model}
use Rattle.commands.specs.Valid.{valid}
use Rattle.commands.specs.Commands.{Command, set_mark, set_marks, set_budget, undo, Result, refused, accepted, undone, applied, answered, board_after}
use Rattle.commands.proofs.HeadsLaws.{inside_heads}
use Rattle.commands.proofs.CommandLaws.{mark_cases, marks_cases, budget_cases}
use Rattle.history_format.specs.RecordWidths.{heads_width}
use Rattle.history_format.proofs.MemberMarks.{of_members}
use Rattle.history_format.proofs.RecordFits.{MarksShaped}
use Rattle.history_format.proofs.HistoryLaws.{AllShaped}

-- WHAT IS RECORDED OF SEVERAL ARCS
module _ (s : Instance) (t : ℕ) (q : ℕ → Bool) where
  heads_small : heads_of q < 2 ^ heads_width
  unfolding heads_of
  heads_small = digits_below 2 max_vertices (λ h. cond (q h) 1 0) (omega arith) (λ h l. bit_small (q h))

  recorded_at : (h : ℕ) → h < max_vertices → get_or (marks_of s t q) h free ≡ cond (q h) (mark s t h) free
  unfolding marks_of
  recorded_at h l = get_d_tabulate max_vertices _ h free l

  only_at : (h : ℕ) → h < max_vertices → get_or (marks_of s t q) h free ≡ cond (inside (heads_of q) h) (get_or (marks_of s t q) h free) free
  only_at h l = rw (inside_heads q h l, recorded_at h l) (twice (q h) (mark s t h))
    where
      twice : (b : Bool) (m : ℕ) → cond b m free ≡ cond b (cond b m free) free
      twice true m = refl
      twice false m = refl

  only_named : marks_of s t q ≡ of_members (heads_of q) (marks_of s t q)
  unfolding marks_of
  only_named = tabulate_is max_vertices (marks_of s t q) _ free (length_tabulate max_vertices _) only_at

  recorded_shaped : MarksShaped (heads_of q) (marks_of s t q)
  recorded_shaped = record { heads_fit = heads_small; only_members = only_named }

-- EVERY COMMAND
abbrev Keeps : Result → Type 0
Keeps d = AllShaped d.board.history

module _ (b : Model) (a : AllShaped b.history) where
  refused_shaped : (k : ℕ) → Keeps (refused k b)
  unfolding refused
  refused_shaped k = a

  undone_shaped : (rs : List Replaced) → AllShaped rs → Keeps (undone rs b)
  unfolding undone
  undone_shaped [] e = refused_shaped _
  undone_shaped (r ∷ rs) e = e.1

pub applied_shaped : (c : Command) (b : Model) → AllShaped b.history → AllShaped (applied c b).board.history
unfolding applied accepted
applied_shaped (set_mark m t h) b a = mark_cases Keeps b (λ k. refused_shaped b a _) m t h (λ _ _. (tt, a))
applied_shaped (set_marks m t c) b a =
    marks_cases Keeps b (λ k. refused_shaped b a _) m t c (λ _ _. (recorded_shaped b.instance t (names_arc b.instance t c), a))
applied_shaped (set_budget v) b a = budget_cases Keeps b (λ k. refused_shaped b a _) v (λ _ _. (tt, a))
applied_shaped undo b a = undone_shaped b a b.history a

-- an invalid board is refused as it is
pub answered_shaped : (c : Command) (b : Model) → AllShaped b.history → AllShaped (answered c b).board.history
unfolding answered
answered_shaped c b a = at (valid b)
  where
    at : (v : Bool) → Keeps (cond v (applied c b) (refused invalid_board b))
    at true = applied_shaped c b a
    at false = refused_shaped b a invalid_board

-- any list of them
pub answered_list_shaped : (cs : List Command) (b : Model) → AllShaped b.history → AllShaped (board_after answered cs b).history
unfolding board_after
answered_list_shaped [] b a = a
answered_list_shaped (c ∷ cs) b a = answered_list_shaped cs (answered c b).board (answered_shaped c b a)
