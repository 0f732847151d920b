-- The walk lists every fitting arborescence, in the order of the candidates, and tries as often as its own count says.
-- The trees that it lists behind a prefix are those that fit among the prefix with every candidate for the rest: taken
-- tail by tail, an arc that does not remain or that closes a cycle has none there, and every other has its own prefix.
-- Assumes nothing.
use mathlib.Core.Path.{◌≡◌, refl, sym, ap, ◌∙◌, subst, fun_ext}
use mathlib.Core.Bool.{Bool, true, false, ◌&&◌, cond}
use mathlib.Core.List.{List, [], ◌∷◌, ◌++◌, map, map-id, map-map, append-nil}
use Prim.Native.Nat.{ℕ, zero, suc, ◌+◌, ◌≤◌, ◌<◌}
use native.Mathlib.Omega.{arith}
use native.Mathlib.Nat.{zero-add}
use lib.Dec.{leb, eqb}
use lib.Seq.{append_snoc}
use Rattle.base.specs.Bounded.{sum_below}
use Rattle.base.specs.Lists.{tabulate, join_below, select}
use Rattle.base.proofs.BoolLaws.{not_both}
use Rattle.base.proofs.BoundedLaws.{sum_eq}
use Rattle.base.proofs.JoinLaws.{join_same}
use Rattle.instance.specs.Limits.{max_vertices, no_parent}
use Rattle.instance.specs.Instance.{Instance, with_budget, weight, mark, is_arc}
use Rattle.instance.specs.Arborescence.{is_pinned, other_pinned, remaining, reaches, is_arborescence, total}
use Rattle.instance.specs.Candidates.{prefixed, choices, candidates_from, candidates}
use Rattle.instance.specs.States.{fits, fitting}
use Rattle.enumeration.specs.Events.{Event, tried, listed, events_from, tail_events, events, tries_from, tries}
use Rattle.enumeration.proofs.SelectLaws.{select_none, select_map_join, prefixed_join}
use Rattle.enumeration.proofs.CycleLaws.{lost_none, cycle_none}
use Rattle.enumeration.proofs.PrefixLaws.{Prefix, prefix_none, prefix_root, prefix_more, prefix_whole}
use Rattle.enumeration.proofs.EventLaws.{trees_in, tries_in, trees_join, tries_join}

module _ (s : Instance) (root_below : s.root < s.n) (small : s.n ≤ max_vertices) where
  -- what fits of the prefix with every candidate for the rest
  abbrev behind : (k v : ℕ) → List ℕ → List (List ℕ)
  behind k v ps = select (fits s) (map (λ l. ps ++ l) (candidates_from k v s))

  not_fitting : (qs : List ℕ) → is_arborescence s qs ≡ false → fits s qs ≡ false
  unfolding fits
  not_fitting qs e = rw e

  module _ (v : ℕ) (ps : List ℕ) (b : Prefix s v ps) (below : v < s.n) (k : ℕ)
      (ih : (qs : List ℕ) → Prefix s (suc v) qs → trees_in (events_from k (suc v) s qs) ≡ behind k (suc v) qs) where
    -- one more parent before the candidates, or in front of each
    moved : (p : ℕ) → behind k (suc v) (ps ++ (p ∷ [])) ≡ select (fits s) (map (λ l. ps ++ l) (map (λ l. p ∷ l) (candidates_from k (suc v) s)))
    moved p =
        ap (select (fits s))
        (ap (λ (f : List ℕ → List ℕ). map f (candidates_from k (suc v) s)) (fun_ext (append_snoc ps p))
        ∙ sym (map-map (λ l. ps ++ l) (λ l. p ∷ l) (candidates_from k (suc v) s)))

    one_tail : eqb v s.root ≡ false → (t : ℕ)
        → trees_in (tail_events k v s ps t) ≡ select (fits s) (map (λ l. ps ++ l) (map (λ l. t ∷ l) (candidates_from k (suc v) s)))
    unfolding trees_in
    one_tail e t = at (remaining s t v) (reaches s.n v ps t) refl refl
      where
        nothing : ((l : List ℕ) → is_arborescence s (ps ++ (t ∷ l)) ≡ false)
            → [] ≡ select (fits s) (map (λ l. ps ++ l) (map (λ l. t ∷ l) (candidates_from k (suc v) s)))
        nothing h =
            sym
            (ap (select (fits s)) (map-map (λ l. ps ++ l) (λ l. t ∷ l) (candidates_from k (suc v) s))
            ∙ select_none (fits s) (λ l. ps ++ (t ∷ l)) (λ l. not_fitting (ps ++ (t ∷ l)) (h l)) (candidates_from k (suc v) s))

        at : (r c : Bool) → remaining s t v ≡ r → reaches s.n v ps t ≡ c
            → trees_in (cond r (tried ∷ cond c [] (events_from k (suc v) s (ps ++ (t ∷ [])))) [])
            ≡ select (fits s) (map (λ l. ps ++ l) (map (λ l. t ∷ l) (candidates_from k (suc v) s)))
        at false c x y = nothing (λ l. lost_none s ps v b.size below e t l x)
        at true true x y = nothing (λ l. cycle_none s ps v b.size below e t l root_below small y)
        at true false x y = ih (ps ++ (t ∷ [])) (prefix_more s root_below small v ps b below t e x y) ∙ moved t

    next : trees_in (events_from (suc k) v s ps) ≡ behind (suc k) v ps
    unfolding events_from candidates_from choices prefixed
    next = at (eqb v s.root) refl
      where
        at : (c : Bool) → eqb v s.root ≡ c
            → trees_in (cond c (events_from k (suc v) s (ps ++ (no_parent ∷ []))) (join_below s.n (tail_events k v s ps)))
            ≡ select (fits s) (map (λ l. ps ++ l) (prefixed (cond c (no_parent ∷ []) (tabulate s.n (λ t. t))) (candidates_from k (suc v) s)))
        at true e =
            ih (ps ++ (no_parent ∷ [])) (prefix_root s root_below small v ps b below e) ∙ moved no_parent
            ∙ ap (λ (ls : List (List ℕ)). select (fits s) (map (λ l. ps ++ l) ls)) (sym (append-nil (map (λ l. no_parent ∷ l) (candidates_from k (suc v) s))))
        at false e =
            trees_join s.n (tail_events k v s ps)
            ∙ join_same s.n (λ t. trees_in (tail_events k v s ps t))
            (λ t. select (fits s) (map (λ l. ps ++ l) (map (λ l. t ∷ l) (candidates_from k (suc v) s)))) (λ t l. one_tail e t)
            ∙ sym (select_map_join (fits s) (λ l. ps ++ l) s.n (λ t. map (λ l. t ∷ l) (candidates_from k (suc v) s)))
            ∙ ap (λ (ls : List (List ℕ)). select (fits s) (map (λ l. ps ++ l) ls)) (sym (prefixed_join s.n (candidates_from k (suc v) s)))

  -- every vertex is settled
  leaf : (ps : List ℕ) (a b : Bool) → a ≡ true → trees_in (cond b (listed ps ∷ []) []) ≡ cond (a && b) (ps ∷ []) []
  unfolding trees_in
  leaf ps true true e = refl
  leaf ps true false e = refl
  leaf ps false b e = absurd (not_both false e refl)

  whole : (v : ℕ) (ps : List ℕ) → v ≡ s.n → Prefix s v ps → trees_in (events_from 0 v s ps) ≡ behind 0 v ps
  unfolding events_from candidates_from select fits
  whole v ps e b =
      leaf ps (is_arborescence s ps) (leb (total s ps) s.budget) (prefix_whole s root_below small ps (subst (λ (x : ℕ). Prefix s x ps) e b))
      ∙ ap (λ (qs : List ℕ). cond (is_arborescence s qs && leb (total s qs) s.budget) (qs ∷ []) []) (sym (append-nil ps))

  listed_from : (k v : ℕ) (ps : List ℕ) → v + k ≡ s.n → Prefix s v ps → trees_in (events_from k v s ps) ≡ behind k v ps
  listed_from zero v ps e b = whole v ps (omega arith) b
  listed_from (suc k) v ps e b = next v ps b (omega arith) k (λ qs c. listed_from k (suc v) qs (omega arith) c)

-- THE TREES OF THE WALK ARE ALL THAT FIT
pub listed_all : (s : Instance) → s.root < s.n → s.n ≤ max_vertices → trees_in (events s) ≡ fitting s
unfolding events fitting candidates
listed_all s root_below small =
    listed_from s root_below small s.n 0 [] (zero-add s.n) (prefix_none s root_below small)
    ∙ ap (select (fits s)) (map-id (candidates_from s.n 0 s))

-- THE TRIES are those of the walk's own count
module _ (s : Instance) where
  none_tried : (ps : List ℕ) (b : Bool) → tries_in (cond b (listed ps ∷ []) []) ≡ 0
  unfolding tries_in
  none_tried ps true = refl
  none_tried ps false = refl

  tail_tries : (es : List Event) (m : ℕ) → tries_in es ≡ m → (r c : Bool) → tries_in (cond r (tried ∷ cond c [] es) []) ≡ cond r (suc (cond c 0 m)) 0
  unfolding tries_in
  tail_tries es m e false c = refl
  tail_tries es m e true true = refl
  tail_tries es m e true false = ap suc e

  counted_from : (k v : ℕ) (ps : List ℕ) → tries_in (events_from k v s ps) ≡ tries_from k v s ps
  unfolding events_from tries_from
  counted_from zero v ps = none_tried ps (leb (total s ps) s.budget)
  counted_from (suc k) v ps = at (eqb v s.root) (λ p. counted_from k (suc v) (ps ++ (p ∷ [])))
    where
      at : (b : Bool) → ((p : ℕ) → tries_in (events_from k (suc v) s (ps ++ (p ∷ []))) ≡ tries_from k (suc v) s (ps ++ (p ∷ [])))
          → tries_in (cond b (events_from k (suc v) s (ps ++ (no_parent ∷ []))) (join_below s.n (tail_events k v s ps)))
          ≡ cond b (tries_from k (suc v) s (ps ++ (no_parent ∷ [])))
          (sum_below s.n (λ t. cond (remaining s t v) (suc (cond (reaches s.n v ps t) 0 (tries_from k (suc v) s (ps ++ (t ∷ []))))) 0))
      at true ih = ih no_parent
      at false ih =
          tries_join s.n (tail_events k v s ps)
          ∙ sum_eq s.n (λ t. tries_in (tail_events k v s ps t))
          (λ t. cond (remaining s t v) (suc (cond (reaches s.n v ps t) 0 (tries_from k (suc v) s (ps ++ (t ∷ []))))) 0)
          (λ t l.
          tail_tries (events_from k (suc v) s (ps ++ (t ∷ []))) (tries_from k (suc v) s (ps ++ (t ∷ []))) (ih t) (remaining s t v) (reaches s.n v ps t))

pub tries_counted : (s : Instance) → tries_in (events s) ≡ tries s
unfolding events tries
tries_counted s = counted_from s s.n 0 []

-- "The budget cuts no walk short": the count is the same with any budget
tries_budget_from : (b k v : ℕ) (s : Instance) (ps : List ℕ) → tries_from k v (with_budget b s) ps ≡ tries_from k v s ps
unfolding tries_from remaining is_arc other_pinned is_pinned mark weight
tries_budget_from b zero v s ps = refl
tries_budget_from b (suc k) v s ps = by (λ p. tries_budget_from b k (suc v) s (ps ++ (p ∷ [])))
  where
    by : ((p : ℕ) → tries_from k (suc v) (with_budget b s) (ps ++ (p ∷ [])) ≡ tries_from k (suc v) s (ps ++ (p ∷ [])))
        → cond (eqb v s.root) (tries_from k (suc v) (with_budget b s) (ps ++ (no_parent ∷ [])))
        (sum_below s.n (λ t. cond (remaining s t v) (suc (cond (reaches s.n v ps t) 0 (tries_from k (suc v) (with_budget b s) (ps ++ (t ∷ []))))) 0))
        ≡ cond (eqb v s.root) (tries_from k (suc v) s (ps ++ (no_parent ∷ []))) (sum_below s.n (λ t. cond (remaining s t v) (suc (cond (reaches s.n v ps t) 0 (tries_from k (suc v) s (ps ++ (t ∷ []))))) 0))
    by h = λ i. cond (eqb v s.root) (h no_parent i) (sum_below s.n (λ t. cond (remaining s t v) (suc (cond (reaches s.n v ps t) 0 (h t i))) 0))

pub tries_budget : (b : ℕ) (s : Instance) → tries (with_budget b s) ≡ tries s
unfolding tries
tries_budget b s = tries_budget_from b s.n 0 s []
