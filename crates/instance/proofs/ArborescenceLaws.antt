-- What an arborescence is, taken apart and put together. Assumes nothing.
use mathlib.Core.Path.{◌≡◌, refl, sym, ◌∙◌}
use mathlib.Core.Bool.{Bool, true, false, ◌&&◌, cond}
use mathlib.Core.List.{List}
use Prim.Native.Nat.{ℕ, ◌<◌}
use lib.Dec.{eqb}
use lib.ListN.{length}
use borrow.Author.Tests.{eqb-true, eq-eqb}
use Rattle.base.specs.Bounded.{all_below}
use Rattle.base.proofs.BoolLaws.{and_left, and_right, and_both}
use Rattle.base.proofs.BoundedLaws.{all_at, all_intro}
use Rattle.instance.specs.Limits.{no_parent}
use Rattle.instance.specs.Instance.{Instance}
use Rattle.instance.specs.Arborescence.{remaining, parent, reaches, parent_ok, is_arborescence, uses}

-- ARBORESCENCES
module _ (s : Instance) (ps : List ℕ) where
  -- what holds of a vertex that is not the root
  pub record Joined (v : ℕ) : Type 0 where
    pub arc : remaining s (parent ps v) v ≡ true
    pub reach : reaches s.n s.root ps v ≡ true

  pub parents_size : is_arborescence s ps ≡ true → length ps ≡ s.n
  unfolding is_arborescence
  parents_size a = eqb-true (length ps) s.n (and_left (eqb (length ps) s.n) (all_below s.n (parent_ok s ps)) a)

  pub parents_ok : is_arborescence s ps ≡ true → (v : ℕ) → v < s.n → parent_ok s ps v ≡ true
  unfolding is_arborescence
  parents_ok a v l = all_at s.n (parent_ok s ps) v l (and_right (eqb (length ps) s.n) (all_below s.n (parent_ok s ps)) a)

  pub root_parent : is_arborescence s ps ≡ true → (v : ℕ) → v < s.n → eqb v s.root ≡ true → parent ps v ≡ no_parent
  unfolding parent_ok
  root_parent a v l e = let ok : eqb (parent ps v) no_parent ≡ true = rw e at (parents_ok a v l) in eqb-true (parent ps v) no_parent ok

  pub joined : is_arborescence s ps ≡ true → (v : ℕ) → v < s.n → eqb v s.root ≡ false → Joined v
  unfolding parent_ok
  joined a v l e =
      let ok : remaining s (parent ps v) v && reaches s.n s.root ps v ≡ true = rw e at (parents_ok a v l) in
      record {
        arc = and_left (remaining s (parent ps v) v) (reaches s.n s.root ps v) ok;
        reach = and_right (remaining s (parent ps v) v) (reaches s.n s.root ps v) ok;
      }

  pub make_arborescence : length ps ≡ s.n → ((v : ℕ) → v < s.n → eqb v s.root ≡ true → parent ps v ≡ no_parent)
      → ((v : ℕ) → v < s.n → eqb v s.root ≡ false → Joined v) → is_arborescence s ps ≡ true
  unfolding is_arborescence parent_ok
  make_arborescence size root others =
      and_both (eqb (length ps) s.n) (all_below s.n (parent_ok s ps)) (eq-eqb (length ps) s.n size)
      (all_intro s.n (parent_ok s ps) (λ v l. at v l (eqb v s.root) refl))
    where
      at : (v : ℕ) → v < s.n → (b : Bool) → eqb v s.root ≡ b
          → cond b (eqb (parent ps v) no_parent) (remaining s (parent ps v) v && reaches s.n s.root ps v) ≡ true
      at v l true e = eq-eqb (parent ps v) no_parent (root v l e)
      at v l false e =
          let j = others v l e in
          and_both (remaining s (parent ps v) v) (reaches s.n s.root ps v) j.arc j.reach

-- an arborescence has one arc into a head
pub uses_one : (ps : List ℕ) (t g h : ℕ) → uses ps t h ≡ true → uses ps g h ≡ true → t ≡ g
unfolding uses
uses_one ps t g h p q = sym (eqb-true (parent ps h) t p) ∙ eqb-true (parent ps h) g q

pub uses_parent : (ps : List ℕ) (h : ℕ) → uses ps (parent ps h) h ≡ true
unfolding uses
uses_parent ps h = eq-eqb (parent ps h) (parent ps h) refl

-- an arc that an arborescence uses remains
pub uses_remains : (s : Instance) (ps : List ℕ) (t h : ℕ) → is_arborescence s ps ≡ true → h < s.n → eqb h s.root ≡ false → uses ps t h ≡ true → remaining s t h ≡ true
unfolding uses
uses_remains s ps t h a l e u = rw (eqb-true (parent ps h) t u) at (joined s ps a h l e).arc
