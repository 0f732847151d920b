-- The walk of an instance with its limit and its room (02, A7): it is complete exactly if both suffice, and then it has
-- every fitting arborescence; it always has the first ones; it ends at the limit only where one more try is due, and
-- for want of room only where one more tree is; its trees ascend; and how many trees and tries there are. Assumes
-- nothing.
use mathlib.Core.Path.{◌≡◌, sym, ◌∙◌, subst}
use mathlib.Core.List.{List, []}
use Prim.Native.Nat.{ℕ, ◌+◌, ◌*◌, ◌≤◌, ◌<◌}
use native.Mathlib.Omega.{arith}
use native.Mathlib.Nat.{zero-add}
use lib.ListN.{length, get_or, take, drop}
use Rattle.instance.specs.Limits.{max_vertices}
use Rattle.instance.specs.Instance.{Instance}
use Rattle.instance.specs.States.{fitting}
use Rattle.theory.specs.Order.{Ascending}
use Rattle.theory.proofs.OrderLaws.{take_ascending, fitting_ascending}
use Rattle.enumeration.specs.declared.Ended.TheVariants.{Complete, AtLimit, NoRoom}
use Rattle.enumeration.specs.Events.{events, tries}
use Rattle.enumeration.specs.Walk.{walked, joined}
use Rattle.enumeration.proofs.EventLaws.{sized_events_from}
use Rattle.enumeration.proofs.ListedLaws.{listed_all, tries_counted}
use Rattle.enumeration.proofs.RunLaws.{Run, run, run_complete, run_enough, run_first, run_limit, run_room, run_within, run_most, run_room_for, tries_to, run_counted}
use Rattle.enumeration.proofs.AheadLaws.{ahead_two, run_ahead}
use Rattle.enumeration.proofs.JoinedLaws.{AllLong, joined_length, joined_at, run_long}

module _ (s : Instance) (limit room : ℕ) where
  its_run : Run s.n limit room (events s) (walked s limit room)
  unfolding walked
  its_run = run s.n limit room (events s)

  -- AT THE LIMIT
  pub limit_due : (walked s limit room).ended ≡ AtLimit → ((walked s limit room).tries ≡ limit) × (limit < tries s)
  limit_due e = let h = run_limit its_run e in (h.0, omega (arith, h.1, tries_counted s))

  -- NO ROOM, the tries
  pub room_counted : (walked s limit room).ended ≡ NoRoom → (walked s limit room).tries ≡ tries_to (length (walked s limit room).trees) (events s)
  room_counted e = run_counted its_run e

  -- BOUNDS
  pub tries_within : (walked s limit room).tries ≤ limit
  tries_within = run_within its_run

  pub tries_most : (walked s limit room).tries ≤ tries s
  tries_most = let h = run_most its_run in omega (arith, tries_counted s)

  pub trees_room : length (walked s limit room).trees * s.n ≤ room
  trees_room = run_room_for its_run

  pub trees_tries : 2 ≤ s.n → length (walked s limit room).trees ≤ (walked s limit room).tries
  trees_tries l = let h = run_ahead (ahead_two s l) its_run in omega arith

  -- THE BUFFER
  pub trees_long : AllLong s.n (walked s limit room).trees
  unfolding events
  trees_long = run_long (sized_events_from s.n s.n 0 s [] (zero-add s.n)) its_run

  pub trees_size : length (joined (walked s limit room).trees) ≡ length (walked s limit room).trees * s.n
  trees_size = joined_length trees_long

  pub tree-at : (k : ℕ) → k < length (walked s limit room).trees
      → take s.n (drop (k * s.n) (joined (walked s limit room).trees)) ≡ get_or (walked s limit room).trees k []
  tree-at k l = joined_at trees_long k l

  module _ (root_below : s.root < s.n) (small : s.n ≤ max_vertices) where
    -- COMPLETE
    pub complete_all : (walked s limit room).ended ≡ Complete → ((walked s limit room).trees ≡ fitting s) × ((walked s limit room).tries ≡ tries s)
    complete_all e = let h = run_complete its_run e in (h.0 ∙ listed_all s root_below small, h.1 ∙ tries_counted s)

    pub enough_completes : tries s ≤ limit → length (fitting s) * s.n ≤ room → (walked s limit room).ended ≡ Complete
    enough_completes l m = run_enough its_run (rw (tries_counted s) l) (rw (listed_all s root_below small) m)

    pub complete_enough : (walked s limit room).ended ≡ Complete → (tries s ≤ limit) × (length (fitting s) * s.n ≤ room)
    complete_enough e = let h = complete_all e in (rw h.1 at tries_within, rw h.0 at trees_room)

    -- ALWAYS THE FIRST ONES
    pub trees_first : (walked s limit room).trees ≡ take (length (walked s limit room).trees) (fitting s)
    trees_first =
        subst (λ (pss : List (List ℕ)). (walked s limit room).trees ≡ take (length (walked s limit room).trees) pss) (listed_all s root_below small)
        (run_first its_run)

    -- "in ascending order"
    pub trees_ascending : Ascending (walked s limit room).trees
    trees_ascending =
        subst (λ (pss : List (List ℕ)). Ascending pss) (sym trees_first) (take_ascending (length (walked s limit room).trees) (fitting_ascending s))

    -- NO ROOM
    pub room_due : (walked s limit room).ended ≡ NoRoom
        → (room < (length (walked s limit room).trees + 1) * s.n) × (length (walked s limit room).trees < length (fitting s))
    room_due e =
        let h = run_room its_run e in
        (h.0, subst (λ (pss : List (List ℕ)). length (walked s limit room).trees < length pss) (listed_all s root_below small) h.1)
