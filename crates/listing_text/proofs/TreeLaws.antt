-- The line of a tree: its total step by step, room for its parts, and how long it can be. Assumes nothing.
use mathlib.Core.Path.{◌≡◌, refl}
use mathlib.Core.Bool.{Bool, true, false, cond}
use mathlib.Core.List.{List, [], ◌∷◌, ◌++◌}
use mathlib.Core.Logic.{⊎_elim}
use Prim.Native.Nat.{ℕ, ◌*◌, ◌≤◌, ◌<◌}
use native.Mathlib.Omega.{arith}
use native.Mathlib.Nat.{mul-le-mul_right}
use lib.Dec.{ltb, eqb}
use borrow.Author.Tests.{ltb-true, ltb-false}
use lib.ListN.{length, get_or, length-append, get_or-eq_default}
use Rattle.base.specs.Lists.{join_below}
use Rattle.base.specs.Bounded.{sum_below}
use Rattle.base.proofs.BoolLaws.{test}
use Rattle.base.proofs.SumLaws.{sum_most}
use Rattle.base.proofs.ListLaws.{default}
use Rattle.base.proofs.JoinLaws.{join_length}
use Rattle.instance.specs.Limits.{max_vertices, no_arc, no_parent, cells}
use Rattle.instance.specs.Instance.{Instance, cell, weight}
use Rattle.instance.specs.Arborescence.{parent, total}
use Rattle.instance.specs.Matrix.{unmarked, Weights}
use Rattle.text.specs.Buffer.{Room}
use Rattle.text.specs.Lines.{codes, space, line}
use Rattle.text.proofs.DecimalLaws.{decimal_length}
use Rattle.text.proofs.LineLaws.{labelled_length, line_length}
use Rattle.text.proofs.BufferLaws.{room_first}
use Rattle.listing_text.specs.Trees.{parent_text, tree_line, max_line}

-- TOTALS
-- what the arc into a vertex adds
abbrev pub added : (n root : ℕ) → (weights parents : List ℕ) → (v : ℕ) → ℕ
added n r ws ps v = cond (eqb v r) 0 (weight (unmarked n r ws) (parent ps v) v)

module _ (n r : ℕ) (ws ps : List ℕ) (long : length ws ≡ cells) (bounded : Weights ws) where
  weight_most : (t h : ℕ) → weight (unmarked n r ws) t h ≤ no_arc
  unfolding weight unmarked
  weight_most t h =
      ⊎_elim (λ (q : ltb (cell t h) cells ≡ true). bounded (cell t h) (ltb-true (cell t h) cells q))
      (λ (q : ltb (cell t h) cells ≡ false).
      let l = ltb-false (cell t h) cells q in
      let e = get_or-eq_default ws no_arc {n = cell t h} (omega arith) in
      omega arith)
      (test (ltb (cell t h) cells))

  added_most : (v : ℕ) → added n r ws ps v ≤ no_arc
  added_most v = go (eqb v r)
    where
      go : (b : Bool) → cond b 0 (weight (unmarked n r ws) (parent ps v) v) ≤ no_arc
      go true = omega arith
      go false = weight_most (parent ps v) v

  pub sum_fits : (k : ℕ) → k ≤ max_vertices → sum_below k (added n r ws ps) ≤ 33554400
  sum_fits k h =
      let s = sum_most k (added n r ws ps) no_arc (λ v l. added_most v) in
      let m = mul-le-mul_right no_arc h in
      omega arith

-- all arcs make the total
pub total_added : (n r : ℕ) (ws ps : List ℕ) → total (unmarked n r ws) ps ≡ sum_below n (added n r ws ps)
unfolding total unmarked
total_added n r ws ps = refl

-- ROOM for the first parts of the line
module _ (s : Instance) (ps : List ℕ) {old : List ℕ} {at : ℕ} (room : Room (tree_line s ps) old at) where
  pub parents_room : Room (codes "tree" ++ join_below s.n (parent_text ps)) old at
  unfolding tree_line
  parents_room = room_first (line (codes " total ") (total s ps)) room

  pub label_room : Room (codes "tree") old at
  label_room = room_first (join_below s.n (parent_text ps)) parents_room

-- LENGTH
-- each parent is a byte
abbrev pub Bytes : (parents : List ℕ) → (n : ℕ) → Type 0
Bytes ps n = (v : ℕ) → v < n → parent ps v < 256

-- as a program's list tells it
pub bytes_in : (ps : List ℕ) (n : ℕ) → n ≤ length ps → ((v : ℕ) → v < length ps → get_or ps v 0 < 256) → Bytes ps n
bytes_in ps n h b v l = let f = b v (omega arith) in let e = default ps v 0 no_parent (omega arith) in omega arith

parents_length : (n : ℕ) (ps : List ℕ) → Bytes ps n → length (join_below n (parent_text ps)) ≤ n * 4
unfolding parent_text
parents_length n ps b =
    let j = join_length (parent_text ps) n in
    let s = sum_most n (λ v. length (parent_text ps v)) 4 each in
    omega arith
  where
    each : (v : ℕ) → v < n → length (parent_text ps v) ≤ 4
    each v l =
        let h = b v l in
        let d = decimal_length 3 (parent ps v) (omega arith) (omega arith) in
        omega (arith, labelled_length (space ∷ []) (parent ps v))

pub tree_length :
    (n r : ℕ) (ws ps : List ℕ) → length ws ≡ cells → Weights ws → n ≤ max_vertices → Bytes ps n → length (tree_line (unmarked n r ws) ps) ≤ max_line
unfolding tree_line codes unmarked
tree_length n r ws ps long bounded small b =
    let v = total (unmarked n r ws) ps in
    let t = total_added n r ws ps in
    let f = sum_fits n r ws ps long bounded n small in
    let d = decimal_length 8 v (omega arith) (omega arith) in
    let p = parents_length n ps b in
    let x = length-append (codes "tree" ++ join_below n (parent_text ps)) (line (codes " total ") v) in
    let y = length-append (codes "tree") (join_below n (parent_text ps)) in
    omega (arith, line_length (codes " total ") v)
