-- Every cut of a list, and a tree by other labels and parents that agree below n. Assumes nothing.
use mathlib.Core.Path.{◌≡◌, sym, ◌∙◌}
use mathlib.Core.List.{List, [], ◌∷◌, ◌++◌}
use Prim.Native.Nat.{ℕ, ◌<◌}
use Rattle.instance.specs.Cuts.{Cut}
use Rattle.contraction.specs.Trees.{Each, none_left, more, Reached, here, step, Once, Tree}

pub each_map : {P Q : Cut → Type 0} → ((c : Cut) → P c → Q c) → {cs : List Cut} → Each P cs → Each Q cs
each_map f none_left = none_left
each_map f (more {c = c} p ps) = more (f c p) (each_map f ps)

pub each_zip : {P Q R : Cut → Type 0} → ((c : Cut) → P c → Q c → R c) → {cs : List Cut} → Each P cs → Each Q cs → Each R cs
each_zip f none_left none_left = none_left
each_zip f (more {c = c} p ps) (more q qs) = more (f c p q) (each_zip f ps qs)

pub each_append : {P : Cut → Type 0} (cs ds : List Cut) → Each P cs → Each P ds → Each P (cs ++ ds)
each_append [] ds none_left e = e
each_append (c ∷ cs) ds (more p ps) e = more p (each_append cs ds ps e)

module _ (n root : ℕ) (w : ℕ → ℕ → ℕ) (label label₂ parent parent₂ : ℕ → ℕ) (root_below : root < n)
    (same : (v : ℕ) → v < n → label₂ v ≡ label v) (same_p : (v : ℕ) → v < n → parent₂ v ≡ parent v) where
  still : {g : ℕ} → Reached n root label parent g → Reached n root label₂ parent₂ g
  still (here e) = here (e ∙ sym (same root root_below))
  still (step v l e h r) =
      step v l (same v l ∙ e) (rw (same_p v l) h) (rw (same_p v l) (rw (same (parent v) h) (still r)))

  still_once : (c : Cut) → Once n parent c → Once n parent₂ c
  still_once c o =
      let e = same_p o.at o.below in
      record {
        at = o.at;
        below = o.below;
        has = rw e o.has;
        into = rw e o.into;
        only = λ v l h i. o.only v l (rw (same_p v l) at h) (rw (same_p v l) at i);
      }

  pub tree_same : (cs : List Cut) → Tree n root w label cs parent → Tree n root w label₂ cs parent₂
  tree_same cs t =
      let has : (v : ℕ) → v < n → parent₂ v < n → parent v < n = λ v l h. rw (same_p v l) at h in
      record {
        tight = λ v l h. rw (same_p v l) (t.tight v l (has v l h));
        between = λ v l h. rw (same_p v l) (rw (same (parent v) (has v l h)) (rw (same v l) (t.between v l (has v l h))));
        no_root = λ v l h. rw (same v l) (rw (same root root_below) (t.no_root v l (has v l h)));
        only = λ u v l m h i e. t.only u v l m (has u l h) (has v m i) (sym (same u l) ∙ e ∙ same v m);
        reached = λ v l. rw (same v l) (still (t.reached v l));
        once = each_map still_once t.once;
        unions = each_map (λ c d u v l m e. d u v l m (sym (same u l) ∙ e ∙ same v m)) t.unions;
      }
