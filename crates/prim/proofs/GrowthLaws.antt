-- The tree grown so far stays part of a cheapest one when the nearest vertex is settled and its neighbours are joined
-- to it; and the whole search. Assumes nothing.
use mathlib.Core.Path.{◌≡◌, refl, sym, ap, ◌∙◌, subst}
use mathlib.Core.Bool.{Bool, true, false, cond}
use mathlib.Core.List.{List}
use Rattle.std.specs.Prelude.{None, Some}
use mathlib.Core.Logic.{◌≢◌}
use Prim.Native.Nat.{ℕ, ◌+◌, ◌≤◌, ◌<◌}
use native.Mathlib.Omega.{arith}
use native.Mathlib.Decide.{ℕ_discrete}
use lib.Dec.{ltb}
use lib.ListN.{length, get_or, set, take, replicate, length-set}
use lib.Seq.{get_or-set_same, get_or-set_other}
use borrow.Author.Tests.{ltb-true, ltb-false}
use Rattle.base.specs.Bounded.{count_below}
use Rattle.base.proofs.BoolLaws.{not_both, is_true, is_false}
use Rattle.base.proofs.CountingLaws.{count_more}
use Rattle.base.proofs.ListLaws.{replicate_at}
use Rattle.instance.specs.Limits.{max_vertices, no_parent}
use Rattle.instance.specs.Arborescence.{parent}
use Rattle.paths.proofs.TreeLaws.{parent_read}
use Rattle.spanning.specs.Graph.{Graph, is_pinned}
use Rattle.spanning.specs.SpanningTrees.{directed}
use Rattle.spanning.specs.Spans.{Spans}
use Rattle.spanning.specs.Keys.{no_key, edge_key}
use Rattle.spanning.specs.KeyTables.{key_at, KeysOf}
use Rattle.spanning.specs.Growth.{Grown, Nearest, AllNearest, Next}
use Rattle.spanning.proofs.KeyLaws.{key_most}
use Rattle.spanning.proofs.GrowthLaws.{grown_first, grown_more, none_spans}
use Rattle.prim.specs.Growth.{is_settled, outside_key, TailsBelow, Picked, is_closer, Joined, Whole, Grows}

-- THE TREE SO FAR
pub record Growing (keys : List ℕ) (n : ℕ) (settled : List Bool) (parents : List ℕ) : Type 0 where
  pub flags : length settled ≡ max_vertices
  pub places : length parents ≡ max_vertices
  pub grown : (g : Graph) → KeysOf g n keys → Grown g (is_settled settled) (take n parents)
  pub near : (g : Graph) → KeysOf g n keys → AllNearest g (is_settled settled) (take n parents)

module _ (ks : List ℕ) (n : ℕ) (small : n ≤ max_vertices) where
  -- vertex 0 alone, which is everybody's nearest
  pub growing_first : (fs : List Bool) (ps : List ℕ) → 0 < n → length fs ≡ max_vertices → length ps ≡ max_vertices → ((v : ℕ) → v ≢ 0 → is_settled fs v ≡ false)
      → is_settled fs 0 ≡ true → ((v : ℕ) → v ≢ 0 → get_or ps v 0 ≡ 0) → get_or ps 0 0 ≡ no_parent → Growing ks n fs ps
  growing_first fs ps some lf lp others first zeros root =
      record {
        flags = lf;
        places = lp;
        grown =
            λ g k.
            let c = k.count in
            grown_first g (is_settled fs) (take n ps) first others (sym (parent_read n 0 ps small lp some) ∙ root) (omega arith);
        near =
            λ g k v vb o.
            let c = k.count in
            let d = outside v o in
            let e : parent (take n ps) v ≡ 0 = sym (parent_read n v ps small lp (omega arith)) ∙ zeros v d in
            record {
              tail_in = rw e first;
              tail_below = omega arith;
              least = λ u ub i. nearest g v u e (ℕ_discrete u 0) i;
            };
      }
    where
      outside : (v : ℕ) → is_settled fs v ≡ false → v ≢ 0
      outside v o z = not_both (is_settled fs 0) first (subst (λ (x : ℕ). is_settled fs x ≡ false) z o)

      nearest : (g : Graph) (v u : ℕ) → parent (take n ps) v ≡ 0 → Dec (u ≡ 0) → is_settled fs u ≡ true → edge_key g (parent (take n ps) v) v ≤ edge_key g u v
      nearest g v u e (yes z) i = rw (e, z) (omega arith)
      nearest g v u e (no z) i = absurd (not_both (is_settled fs u) i (others u z))

  module _ (fs : List Bool) (ps : List ℕ) (t : Growing ks n fs ps) where
    read : (v : ℕ) → v < n → get_or ps v 0 ≡ parent (take n ps) v
    read v vb = parent_read n v ps small t.places vb

    -- a vertex outside by its key in the graph
    module _ (g : Graph) (k : KeysOf g n ks) where
      in_graph : (v : ℕ) → v < n → v < g.n
      in_graph v vb = let c = k.count in omega arith

      of_graph : (v : ℕ) → v < g.n → v < n
      of_graph v vb = let c = k.count in omega arith

      near_at : (w : ℕ) → w < n → is_settled fs w ≡ false → Nearest g (is_settled fs) (take n ps) w
      near_at w wb o = t.near g k w (in_graph w wb) o

      apart_at : (w : ℕ) → w < n → is_settled fs w ≡ false → parent (take n ps) w ≢ w
      apart_at w wb o z = not_both (is_settled fs w) (subst (λ (x : ℕ). is_settled fs x ≡ true) z (near_at w wb o).tail_in) o

      key_read : (w : ℕ) → w < n → is_settled fs w ≡ false → key_at ks (get_or ps w 0) w ≡ edge_key g (parent (take n ps) w) w
      key_read w wb o =
          ap (λ (x : ℕ). key_at ks x w) (read w wb)
          ∙ k.at (parent (take n ps) w) w (of_graph (parent (take n ps) w) (near_at w wb o).tail_below) wb (apart_at w wb o)

      outside_is : (w : ℕ) → w < n → is_settled fs w ≡ false → outside_key ks fs ps w ≡ edge_key g (parent (take n ps) w) w
      unfolding outside_key
      outside_is w wb o = rw o (key_read w wb o)

    settled_key : (w : ℕ) → is_settled fs w ≡ true → outside_key ks fs ps w ≡ no_key + 1
    unfolding outside_key
    settled_key w i = rw i

    -- NO VERTEX IS LEFT
    pub all_in : Picked ks fs ps n None → (g : Graph) → KeysOf g n ks → Whole g (take n ps)
    all_in p g k = record { inside = is_settled fs; grown = t.grown g k; all = λ w wb. is_true (is_settled fs w) (λ o. none w (of_graph g k w wb) o) }
      where
        none : (w : ℕ) → w < n → is_settled fs w ≡ false → ⊥
        none w wb o =
            let e = outside_is g k w wb o in
            let m = key_most g k.valid (parent (take n ps) w) w (near_at g k w wb o).tail_below (in_graph g k w wb) (apart_at g k w wb o) in
            let l = p.1.least_of w wb in
            let h = p.1.held in
            omega arith

    -- ONE IS
    module _ (v : ℕ) (p : Picked ks fs ps n (Some v)) where
      pub picked_below : v < n
      picked_below = p.1.held.1

      vb : v < n
      vb = picked_below

      small_key : p.0 ≤ no_key
      small_key = p.1.held.0

      own_key : outside_key ks fs ps v ≡ p.0
      own_key = p.1.held.2

      pub v_out : is_settled fs v ≡ false
      v_out = is_false (is_settled fs v) (λ i. let a = settled_key v i in let b = own_key in let m = small_key in omega arith)

      pub v_next : (g : Graph) → KeysOf g n ks → Next g (is_settled fs) (take n ps) v
      v_next g k =
          record {
            below = in_graph g k v vb;
            out = v_out;
            least =
                λ w wb o.
                let b = of_graph g k w wb in
                let x = outside_is g k v vb v_out in
                let y = outside_is g k w b o in
                let l = p.1.least_of w b in
                let e = own_key in
                omega arith;
          }

      -- NOTHING LEADS ON
      pub picked_none : outside_key ks fs ps v ≡ no_key → (g : Graph) → KeysOf g n ks → (qs : List ℕ) → Spans (directed g 0) (is_pinned g) qs → ⊥
      picked_none z g k qs s = none_spans g k.valid (is_settled fs) (take n ps) (t.grown g k) (t.near g k) v (v_next g k) (sym (outside_is g k v vb v_out) ∙ z) qs s

      -- ONE VERTEX MORE
      abbrev after : List Bool
      after = set fs v true

      new_in : is_settled after v ≡ true
      new_in = let s = t.flags in let b = vb in get_or-set_same fs v true false (omega arith)

      old_in : (x : ℕ) → x ≢ v → is_settled after x ≡ is_settled fs x
      old_in x z = get_or-set_other fs v x true false z

      still_out : (x : ℕ) → is_settled after x ≡ false → (x ≢ v) × (is_settled fs x ≡ false)
      still_out x o =
          let d : x ≢ v = λ z. not_both (is_settled after v) new_in (subst (λ (y : ℕ). is_settled after y ≡ false) z o) in
          (d, sym (old_in x d) ∙ o)

      pub settled_more : count_below n (is_settled fs) + 1 ≤ count_below n (is_settled after)
      settled_more =
          count_more n (is_settled fs) (is_settled after) (λ x _ i. old_in x (λ z. not_both (is_settled fs v) (subst (λ (y : ℕ). is_settled fs y ≡ true) z i) v_out) ∙ i) v vb v_out new_in

      module _ (good : outside_key ks fs ps v ≢ no_key) (qs : List ℕ) (j : Joined ks after n v ps qs) where
        same_in : (x : ℕ) → x < n → is_settled after x ≡ true → get_or qs x 0 ≡ get_or ps x 0
        unfolding is_closer
        same_in x xb i = j.before x xb ∙ rw i

        parent_of : (x : ℕ) → x < n → get_or qs x 0 ≡ parent (take n qs) x
        parent_of x xb = parent_read n x qs small j.size xb

        near_next : (g : Graph) (k : KeysOf g n ks) → AllNearest g (is_settled after) (take n qs)
        unfolding is_closer
        near_next g k x xg o =
            let xb = of_graph g k x xg in
            let d = (still_out x o).0 in
            let out = (still_out x o).1 in
            let e : get_or qs x 0 ≡ cond (ltb (key_at ks v x) (key_at ks (get_or ps x 0) x)) v (get_or ps x 0) = j.before x xb ∙ rw o in
            at (ltb (key_at ks v x) (key_at ks (get_or ps x 0) x)) refl xb d out e
          where
            into : (x : ℕ) → x < n → x ≢ v → (u : ℕ) → u < g.n → is_settled after u ≡ true → (old : (y : ℕ) → y < g.n → is_settled fs y ≡ true → edge_key g (parent (take n ps) x) x ≤ edge_key g y x) → (m : ℕ)
                → m ≤ edge_key g (parent (take n ps) x) x → m ≤ edge_key g v x → Dec (u ≡ v) → m ≤ edge_key g u x
            into x xb d u ub i old m a b (yes z) = rw z b
            into x xb d u ub i old m a b (no z) = let q = old u ub (sym (old_in u z) ∙ i) in omega arith

            at : (b : Bool) → ltb (key_at ks v x) (key_at ks (get_or ps x 0) x) ≡ b → x < n → x ≢ v → is_settled fs x ≡ false → get_or qs x 0 ≡ cond b v (get_or ps x 0)
                → Nearest g (is_settled after) (take n qs) x
            at true q xb d out e =
                let f : parent (take n qs) x ≡ v = sym (parent_of x xb) ∙ e in
                let l = ltb-true (key_at ks v x) (key_at ks (get_or ps x 0) x) q in
                let kv = k.at v x vb xb (λ z. d (sym z)) in
                let kp = key_read g k x xb out in
                record {
                  tail_in = rw f new_in;
                  tail_below = rw f (in_graph g k v vb);
                  least = λ u ub i. rw f (into x xb d u ub i (near_at g k x xb out).least (edge_key g v x) (omega arith) (omega arith) (ℕ_discrete u v));
                }
            at false q xb d out e =
                let f : parent (take n qs) x ≡ parent (take n ps) x = sym (parent_of x xb) ∙ e ∙ read x xb in
                let l = ltb-false (key_at ks v x) (key_at ks (get_or ps x 0) x) q in
                let kv = k.at v x vb xb (λ z. d (sym z)) in
                let kp = key_read g k x xb out in
                let m = near_at g k x xb out in
                record {
                  tail_in = rw f (old_in (parent (take n ps) x) (λ z. not_both (is_settled fs v) (subst (λ (y : ℕ). is_settled fs y ≡ true) z m.tail_in) v_out) ∙ m.tail_in);
                  tail_below = rw f m.tail_below;
                  least = λ u ub i. rw f (into x xb d u ub i m.least (edge_key g (parent (take n ps) x) x) (omega arith) (omega arith) (ℕ_discrete u v));
                }

        pub growing_more : Growing ks n after qs
        growing_more =
            record {
              flags = simp length-set t.flags;
              places = j.size;
              grown =
                  λ g k.
                  let x = outside_is g k v vb v_out in
                  let o = own_key in
                  let m = small_key in
                  grown_more g k.valid (is_settled fs) (take n ps) (t.grown g k) (t.near g k) v (v_next g k) (less g k) (is_settled after) (take n qs) new_in old_in
                  (λ y yg i. let yb = of_graph g k y yg in sym (parent_of y yb) ∙ same_in y yb i ∙ read y yb);
              near = near_next;
            }
          where
            less : (g : Graph) (k : KeysOf g n ks) → edge_key g (parent (take n ps) v) v < no_key
            less g k = at (ℕ_discrete (outside_key ks fs ps v) no_key)
              where
                at : Dec (outside_key ks fs ps v ≡ no_key) → edge_key g (parent (take n ps) v) v < no_key
                at (yes z) = absurd (good z)
                at (no z) = let x = outside_is g k v vb v_out in let o = own_key in let m = small_key in omega arith

-- THE WHOLE SEARCH
pub growing_start : (ks : List ℕ) (n : ℕ) → 1 ≤ n → n ≤ max_vertices → Growing ks n (set (replicate max_vertices false) 0 true) (set (replicate max_vertices 0) 0 no_parent)
growing_start ks n some small =
    growing_first ks n small (set (replicate max_vertices false) 0 true) (set (replicate max_vertices 0) 0 no_parent) (omega arith) refl refl
    (λ v d. get_or-set_other (replicate max_vertices false) 0 v true false d ∙ replicate_at max_vertices v false) refl
    (λ v d. get_or-set_other (replicate max_vertices 0) 0 v no_parent 0 d ∙ replicate_at max_vertices v 0) refl

pub tails_start : (n : ℕ) → 1 ≤ n → TailsBelow n (set (replicate max_vertices false) 0 true) (set (replicate max_vertices 0) 0 no_parent)
tails_start n some v vb o = at (ℕ_discrete v 0)
  where
    at : Dec (v ≡ 0) → get_or (set (replicate max_vertices 0) 0 no_parent) v 0 < n
    at (yes z) = absurd (not_both _ (rw z refl) o)
    at (no d) = let e = get_or-set_other (replicate max_vertices 0) 0 v no_parent 0 d ∙ replicate_at max_vertices v 0 in omega arith

module _ (ks : List ℕ) (n : ℕ) (small : n ≤ max_vertices) (fs : List Bool) (ps : List ℕ) (t : Growing ks n fs ps) where
  pub grows_tree : Picked ks fs ps n None → Grows ks n (Some ps)
  grows_tree p = record { places = t.places; tree = all_in ks n small fs ps t p }

  pub grows_none : (v : ℕ) → Picked ks fs ps n (Some v) → outside_key ks fs ps v ≡ no_key → Grows ks n None
  grows_none v p z = picked_none ks n small fs ps t v p z
