-- ALL PLANS (02, A7), of the call: what a listing gives of a valid board with a limit in range, in 02's words; after
-- any run it goes by the effective marks and budget; and boards that are called equal list alike. Assumes nothing.
use mathlib.Core.Path.{◌≡◌, refl, sym, ap, ◌∙◌, subst}
use mathlib.Core.Bool.{Bool, true, false, cond}
use mathlib.Core.List.{List, []}
use mathlib.Core.Logic.{◌↔◌, ◌≢◌}
use Prim.Native.Nat.{ℕ, ◌+◌, ◌*◌, ◌≤◌, ◌<◌}
use lib.ListN.{length, get_or, take, drop}
use Rattle.base.specs.Lists.{in_front}
use Rattle.base.proofs.FrontLaws.{front_take, front_drop}
use Rattle.instance.specs.Refusals.{invalid_board, bad_try_limit}
use Rattle.instance.specs.Instance.{Instance, with_budget}
use Rattle.instance.specs.States.{fits, fitting}
use Rattle.theory.specs.Order.{Ascending}
use Rattle.theory.proofs.OrderLaws.{ascending_once}
use Rattle.theory.proofs.SameOutcomes.{arcs_same}
use Rattle.enumeration.specs.Events.{events, tries}
use Rattle.enumeration.specs.Walk.{limit_refused, Walked, walk, walked, joined}
use Rattle.enumeration.specs.declared.Ended.TheVariants.{Complete, AtLimit, NoRoom}
use Rattle.enumeration.proofs.ListedLaws.{tries_budget}
use Rattle.enumeration.proofs.RunLaws.{tries_to}
use Rattle.enumeration.proofs.MemberLaws.{Among, among_fitting}
use Rattle.enumeration.proofs.SameEvents.{same_events}
use Rattle.enumeration.proofs.WalkLaws.{limit_due, room_counted, tries_within, tries_most, trees_tries, trees_size, tree-at, complete_all, enough_completes, complete_enough, trees_first, trees_ascending, room_due}
use Rattle.commands.specs.Valid.{valid}
use Rattle.commands.specs.LogLists.{Input, input_after}
use Rattle.commands.specs.Effective.{effective}
use Rattle.commands.specs.SameBoard.{SameBoard}
use Rattle.commands.proofs.SameBoardLaws.{same_valid}
use Rattle.commands.proofs.ValidLaws.{valid_parts}
use Rattle.board.specs.ModelOf.{model_of, instance_of}
use Rattle.board.specs.declared.Board.{Board}
use Rattle.board.specs.declared.Answered.{Answered}
use Rattle.history_format.specs.HistoryCard.{open_refusal}
use Rattle.planner.specs.Enumerating.{Listing, Refused, walked_on, listed_as}
use Rattle.planner.specs.Replaying.{log_in}
use Rattle.planner.proofs.Learnt.{OpenedBy, opened_by, Enumerated, enumerated}
use Rattle.planner.proofs.OpeningLaws.{opened_starts}
use Rattle.demands.proofs.Runs.{Run, run_follows}

-- WHAT A WALK IS WORTH, whatever the limit and the room
pub record AllPlans (s : Instance) (limit room : ℕ) (w : Walked) : Type 0 where
  -- "in ascending order of the feeder list, compared position by position, each once"; "a beginning of the full list"
  pub ascending : Ascending w.trees
  pub each_once : (i j : ℕ) → i < j → j < length w.trees → get_or w.trees i [] ≢ get_or w.trees j []
  pub first_ones : w.trees ≡ take (length w.trees) (fitting s)
  -- complete: every arborescence within the plain budget and nothing else, in as many tries as the walk's own count
  pub all_of_them : w.ended ≡ Complete → w.trees ≡ fitting s
  pub exactly : w.ended ≡ Complete → (ps : List ℕ) → Among ps w.trees ↔ (fits s ps ≡ true)
  pub own_count : w.ended ≡ Complete → w.tries ≡ tries s
  -- "The budget cuts no walk short": that count is the same with any budget
  pub any_budget : (b : ℕ) → tries (with_budget b s) ≡ tries s
  -- and it is complete exactly when tries and bytes suffice
  pub completes : (w.ended ≡ Complete) ↔ ((tries s ≤ limit) × (length (fitting s) * s.n ≤ room))
  -- "The limit ends a walk only when one more try is due", and the room only before a tree that has none, "whose try is
  -- counted"
  pub at_limit : w.ended ≡ AtLimit → (w.tries ≡ limit) × (limit < tries s)
  pub without_room : w.ended ≡ NoRoom → (room < (length w.trees + 1) * s.n) × (length w.trees < length (fitting s))
  pub try_counted : w.ended ≡ NoRoom → w.tries ≡ tries_to (length w.trees) (events s)
  pub within_limit : w.tries ≤ limit
  pub within_count : w.tries ≤ tries s
  pub within_tries : 2 ≤ s.n → length w.trees ≤ w.tries

-- the buffer read: tree by tree, and what stands behind them
pub record InBuffer (n : ℕ) (w : Walked) (out out' : List ℕ) : Type 0 where
  pub each_tree : (k : ℕ) → k < length w.trees → take n (drop (k * n) (take (length w.trees * n) out')) ≡ get_or w.trees k []
  pub later_kept : drop (length w.trees * n) out' ≡ drop (length w.trees * n) out

module _ {b : Board} {limit : ℕ} {out out' : List ℕ} {r : Listing} (c : Enumerated b limit out out' r) (g : valid (model_of b) ≡ true) (a : limit_refused limit ≡ false) where
  pub listing_is : r ≡ listed_as (walked_on b limit out)
  listing_is = (enumerated c).result ∙ rw (g, a)

  buffer_is : out' ≡ in_front (joined (walked_on b limit out).trees) out
  buffer_is = (enumerated c).buffer ∙ rw (g, a)

  pub all_plans : AllPlans (instance_of b) limit (length out) (walked_on b limit out)
  all_plans =
      let s = instance_of b in
      let m = length out in
      let v = valid_parts (model_of b) g in
      let l = v.root_below in
      let h = v.n_high in
      record {
        ascending = trees_ascending s limit m l h;
        each_once = ascending_once (trees_ascending s limit m l h);
        first_ones = trees_first s limit m l h;
        all_of_them = λ e. (complete_all s limit m l h e).0;
        exactly = λ e ps. subst (λ (pss : List (List ℕ)). Among ps pss ↔ (fits s ps ≡ true)) (sym (complete_all s limit m l h e).0) (among_fitting s ps);
        own_count = λ e. (complete_all s limit m l h e).1;
        any_budget = λ k. tries_budget k s;
        completes = (complete_enough s limit m l h, λ p. enough_completes s limit m l h p.0 p.1);
        at_limit = limit_due s limit m;
        without_room = room_due s limit m l h;
        try_counted = room_counted s limit m;
        within_limit = tries_within s limit m;
        within_count = tries_most s limit m;
        within_tries = trees_tries s limit m;
      }

  pub in_buffer : InBuffer b.n (walked_on b limit out) out out'
  in_buffer =
      let s = instance_of b in
      let w = walked_on b limit out in
      let size = trees_size s limit (length out) in
      record {
        each_tree =
            λ k l. ap (λ (xs : List ℕ). take b.n (drop (k * b.n) (take (length w.trees * b.n) xs))) buffer_is
            ∙ ap (λ (xs : List ℕ). take b.n (drop (k * b.n) xs)) (front_take (joined w.trees) out (length w.trees * b.n) size)
            ∙ tree-at s limit (length out) k l;
        later_kept = ap (drop (length w.trees * b.n)) buffer_is ∙ front_drop (joined w.trees) out (length w.trees * b.n) size;
      }

-- AFTER ANY RUN on a freshly opened card a listing is of the log's instance: its effective marks and budget
pub record ListsLog (s : Instance) (limit : ℕ) (out out' : List ℕ) (r : Listing) : Type 0 where
  pub says : r ≡ listed_as (walked s limit (length out))
  pub buffer : out' ≡ in_front (joined (walked s limit (length out)).trees) out

pub listing_follows :
    (ws : List ℕ) (is : List Input) (o : Answered) (xs : List ℕ) (last : Board) → open_refusal ws ≡ 0 → OpenedBy ws o → Run is o.board xs last →
    {limit : ℕ} {out out' : List ℕ} {r : Listing} → limit_refused limit ≡ false → Enumerated last limit out out' r →
    ListsLog (effective (input_after is (log_in ws))) limit out out' r
listing_follows ws is o xs last z p run {limit} {out} {out'} {r} a c =
    let s = opened_starts ws o (opened_by p) z in
    let f = (run_follows run (log_in ws) (record { is_valid = s.good; tied = s.tied })).follows in
    subst (λ (i : Instance). ListsLog i limit out out' r) f.tied.same_instance
    (record { says = listing_is c f.is_valid a; buffer = buffer_is c f.is_valid a })

-- BOARDS THAT ARE CALLED EQUAL list alike
same_walked : (a b : Instance) → a.n ≡ b.n → events a ≡ events b → (limit room : ℕ) → walked a limit room ≡ walked b limit room
unfolding walked
same_walked a b n e limit room = λ i. walk (n i) limit room (e i)

pub record SameListing (r q : Listing) (out' out'' : List ℕ) : Type 0 where
  pub same_result : r ≡ q
  pub same_buffer : out' ≡ out''

-- where the first is valid, their walks are one
walks_alike : (a b : Board) (limit room : ℕ) → SameBoard (model_of a) (model_of b) → valid (model_of a) ≡ true
    → walked (instance_of a) limit room ≡ walked (instance_of b) limit room
walks_alike a b limit room s g =
    let v = valid_parts (model_of a) g in
    let arcs = arcs_same (instance_of a) (instance_of b) s.same_instances in
    same_walked (instance_of a) (instance_of b) arcs.vertices
    (same_events (instance_of a) (instance_of b) arcs s.same_instances.same_budget v.root_below v.n_high) limit room

pub same_listing :
    {a b : Board} {limit : ℕ} {out out' out'' : List ℕ} {r q : Listing} → SameBoard (model_of a) (model_of b) → Enumerated a limit out out' r →
    Enumerated b limit out out'' q → SameListing r q out' out''
same_listing {a} {b} {limit} {out} s x y =
    record {
      same_result = (enumerated x).result ∙ by_results (valid (model_of a)) refl ∙ ap (λ (g : Bool). results g (walked_on b limit out)) e ∙ sym (enumerated y).result;
      same_buffer = (enumerated x).buffer ∙ by_buffers (valid (model_of a)) refl ∙ ap (λ (g : Bool). buffers g (walked_on b limit out)) e ∙ sym (enumerated y).buffer;
    }
  where
    e : valid (model_of a) ≡ valid (model_of b)
    e = same_valid (model_of a) (model_of b) s

    results : Bool → Walked → Listing
    results g w = cond g (cond (limit_refused limit) (Refused bad_try_limit) (listed_as w)) (Refused invalid_board)

    buffers : Bool → Walked → List ℕ
    buffers g w = cond g (cond (limit_refused limit) out (in_front (joined w.trees) out)) out

    by_results : (g : Bool) → valid (model_of a) ≡ g → results g (walked_on a limit out) ≡ results g (walked_on b limit out)
    by_results true g = ap (results true) (walks_alike a b limit (length out) s g)
    by_results false g = refl

    by_buffers : (g : Bool) → valid (model_of a) ≡ g → buffers g (walked_on a limit out) ≡ buffers g (walked_on b limit out)
    by_buffers true g = ap (buffers true) (walks_alike a b limit (length out) s g)
    by_buffers false g = refl
