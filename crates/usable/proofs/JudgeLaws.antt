-- What judging an arc makes of the table: it stays sound and loses nothing. Assumes nothing.
use mathlib.Core.Path.{◌≡◌, ◌∙◌}
use mathlib.Core.Bool.{true, false, ◌&&◌, not, cond}
use mathlib.Core.List.{List}
use mathlib.Core.Logic.{◌≢◌, ⊎_elim}
use Prim.Native.Nat.{ℕ, ◌+◌, ◌/◌, ◌%◌, ◌≤◌, ◌<◌}
use native.Mathlib.Omega.{arith}
use native.Mathlib.Decide.{ℕ_discrete}
use lib.Dec.{ltb, eqb}
use lib.ListN.{get_or, set, replicate, length-set, length-replicate, get_or-replicate}
use lib.Seq.{get_or-set_same, get_or-set_other}
use borrow.Author.Tests.{ne_eqb, lt-ltb}
use Rattle.base.proofs.BoolLaws.{test, not_both, same_test, and_right}
use Rattle.instance.specs.Limits.{max_vertices, cells}
use Rattle.instance.specs.Instance.{Instance, cell}
use Rattle.instance.specs.Arborescence.{uses}
use Rattle.theory.specs.Usable.{usable}
use Rattle.usable.specs.Table.{is_used, UsableTable, in_tree, TreeAdded}
use Rattle.usable.specs.Judge.{Sound, Judged, JudgedHead, JudgedAll}

module _ (s : Instance) where
  pub sound_none : Sound s (replicate cells 0)
  sound_none =
      record {
        size = length-replicate {A = ℕ} cells 0;
        right = λ t h l m e. absurd (not_both (is_used (replicate cells 0) t h) e (rw (get_or-replicate {A = ℕ} cells (cell t h) 0 0 (omega arith))));
      }

  -- NOTHING TO STORE
  module _ (used : List ℕ) (k : Sound s used) (t h : ℕ) where
    pub judged_already : is_used used t h ≡ true → Judged s t h used used
    judged_already e = record { sound = k; grown = λ u v l m x. x; done = λ _. e }

    pub judged_unusable : usable s t h ≡ false → Judged s t h used used
    judged_unusable e = record { sound = k; grown = λ u v l m x. x; done = λ x. absurd (not_both (usable s t h) x e) }

    -- ONE ARC STORED
    pub judged_usable : t < max_vertices → h < max_vertices → usable s t h ≡ true → Judged s t h used (set used (cell t h) 1)
    judged_usable l m e =
        record {
          sound = record { size = simp length-set k.size; right = λ u v a b x. right u v a b x (ℕ_discrete (cell u v) (cell t h)) };
          grown = λ u v a b x. keep u v x (ℕ_discrete (cell u v) (cell t h));
          done = λ _. here;
        }
      where
        here : is_used (set used (cell t h) 1) t h ≡ true
        here = let size = k.size in rw (get_or-set_same used (cell t h) 1 0 (omega arith))

        right : (u v : ℕ) → u < max_vertices → v < max_vertices → is_used (set used (cell t h) 1) u v ≡ true → Dec (cell u v ≡ cell t h) → usable s u v ≡ true
        right u v a b x (yes z) =
            let p : u ≡ t = omega arith in
            let q : v ≡ h = omega arith in
            rw (p, q) e
        right u v a b x (no z) = k.right u v a b (rw (get_or-set_other used (cell t h) (cell u v) 1 0 z) at x)

        keep : (u v : ℕ) → is_used used u v ≡ true → Dec (cell u v ≡ cell t h) → is_used (set used (cell t h) 1) u v ≡ true
        keep u v x (yes z) = rw z here
        keep u v x (no z) = rw (get_or-set_other used (cell t h) (cell u v) 1 0 z) x

  -- A TREE ADDED, all of whose arcs are usable
  module _ (n root : ℕ) (ps before after : List ℕ) (e : TreeAdded ps n root before after) (k : Sound s before) where
    cell_added : (t h : ℕ) → t < max_vertices → h < max_vertices → get_or after (cell t h) 0 ≡ cond (in_tree n root ps t h) 1 (get_or before (cell t h) 0)
    cell_added t h l m =
        let d : cell t h / 32 ≡ t = omega arith in
        let g : cell t h % 32 ≡ h = omega arith in
        rw (d, g) at (e.at (cell t h) (omega arith))

    in_tree_uses : (t h : ℕ) → in_tree n root ps t h ≡ true → uses ps t h ≡ true
    unfolding in_tree
    in_tree_uses t h x = and_right (ltb h n && not (eqb h root)) (uses ps t h) x

    tree_in : (t h : ℕ) → h < n → h ≢ root → uses ps t h ≡ true → in_tree n root ps t h ≡ true
    unfolding in_tree
    tree_in t h l z u = rw (lt-ltb h n l, ne_eqb h root z, u)

    keep : (u v : ℕ) → u < max_vertices → v < max_vertices → is_used before u v ≡ true → is_used after u v ≡ true
    keep u v l m x =
        rw (cell_added u v l m)
        (⊎_elim (λ (y : in_tree n root ps u v ≡ true). rw y) (λ (y : in_tree n root ps u v ≡ false). rw y x) (test (in_tree n root ps u v)))

    module _ (fit : (t h : ℕ) → uses ps t h ≡ true → usable s t h ≡ true) where
      right : (t h : ℕ) → t < max_vertices → h < max_vertices → is_used after t h ≡ true → usable s t h ≡ true
      right t h l m x =
          ⊎_elim (λ (y : in_tree n root ps t h ≡ true). fit t h (in_tree_uses t h y))
          (λ (y : in_tree n root ps t h ≡ false). k.right t h l m (rw (cell_added t h l m, y) at x)) (test (in_tree n root ps t h))

      pub sound_added : Sound s after
      sound_added = record { size = e.size ∙ k.size; right = right }

      pub judged_added : (t h : ℕ) → t < max_vertices → h < max_vertices → h < n → h ≢ root → uses ps t h ≡ true → Judged s t h before after
      judged_added t h l m a z u =
          record { sound = sound_added; grown = keep; done = λ _. rw (cell_added t h l m, tree_in t h a z u) }

  -- ONE AFTER THE OTHER
  module _ (h : ℕ) where
    pub head_none : (used : List ℕ) → Sound s used → JudgedHead s 0 h used used
    head_none used k = record { sound = k; grown = λ u v l m x. x; done = λ t l. absurd (omega arith) }

    pub head_unusable : (bound : ℕ) (used : List ℕ) → Sound s used → ((t : ℕ) → t < bound → usable s t h ≡ false) → JudgedHead s bound h used used
    head_unusable bound used k e = record { sound = k; grown = λ u v l m x. x; done = λ t l x. absurd (not_both (usable s t h) x (e t l)) }

    pub head_more : (t : ℕ) (before mid after : List ℕ) → t < max_vertices → h < max_vertices → s.n ≤ max_vertices → t < s.n → JudgedHead s t h before mid → Judged s t h mid after
        → JudgedHead s (t + 1) h before after
    head_more t before mid after l m small b j k =
        record { sound = k.sound; grown = λ u v a c x. k.grown u v a c (j.grown u v a c x); done = λ g c x. at g c x (ℕ_discrete g t) }
      where
        at : (g : ℕ) → g < t + 1 → usable s g h ≡ true → Dec (g ≡ t) → is_used after g h ≡ true
        at g c x (yes z) = rw z (k.done (rw z at x))
        at g c x (no z) = k.grown g h (omega arith) m (j.done g (omega arith) x)

  pub all_none : (used : List ℕ) → Sound s used → JudgedAll s 0 used
  all_none used k = record { sound = k; done = λ t h l m. absurd (omega arith) }

  pub all_more : (h : ℕ) (before after : List ℕ) → h < max_vertices → s.n ≤ max_vertices → JudgedAll s h before → JudgedHead s s.n h before after → JudgedAll s (h + 1) after
  all_more h before after m small j k = record { sound = k.sound; done = λ t g l c x. at t g l c x (ℕ_discrete g h) }
    where
      at : (t g : ℕ) → t < s.n → g < h + 1 → usable s t g ≡ true → Dec (g ≡ h) → is_used after t g ≡ true
      at t g l c x (yes z) = rw z (k.done t l (rw z at x))
      at t g l c x (no z) = k.grown t g (omega arith) (omega arith) (j.done t g l (omega arith) x)

  -- ALL JUDGED
  pub all_judged : (used : List ℕ) → s.n ≤ max_vertices → JudgedAll s s.n used → UsableTable s used
  all_judged used small k =
      record {
        exact =
            λ t h l m.
            same_test (is_used used t h) (usable s t h) (k.sound.right t h (omega arith) (omega arith)) (k.done t h l m);
      }
