-- The walk as the program makes it, with its buffer, is the walk of `enumeration`: the trees stand in the buffer one
-- after the other, and what stands behind them is as it was. Assumes nothing.
use mathlib.Core.Path.{◌≡◌, refl, sym, ap, ◌∙◌}
use mathlib.Core.Bool.{Bool, true, false, cond}
use mathlib.Core.List.{List, ◌∷◌, ◌++◌, append_assoc}
use Prim.Native.Nat.{ℕ, zero, suc, ◌+◌, ◌-◌, ◌*◌, ◌≤◌}
use native.Mathlib.Nat.{suc-mul, zero-mul}
use native.Mathlib.Numerals.{add-one}
use native.Mathlib.Omega.{arith}
use lib.Dec.{leb}
use lib.ListN.{length, take, drop, length-append, take-append-drop}
use lib.Seq.{paste, take-paste, drop-paste, length-paste, take_all, drop-drop}
use borrow.Author.Tests.{leb-true, leb-false, le-leb, lt-leb}
use Rattle.instance.specs.Instance.{Instance}
use Rattle.enumeration.specs.Events.{Event, tried, listed, events}
use Rattle.enumeration.specs.Walk.{Walked, ended_by, after_try, after_tree, walk, walked, joined}
use Rattle.enumeration.specs.declared.Ended.{Ended}
use Rattle.enumeration.specs.declared.Ended.TheVariants.{Complete, AtLimit, NoRoom}
use Rattle.enumeration.proofs.EventLaws.{Sized, none, a_try, a_tree}
use Rattle.backtracking.specs.declared.Progress.{Progress}
use Rattle.backtracking.specs.Listing.{Place, place, place_of, step, scan, ListsTrees}
use Rattle.backtracking.proofs.StepLaws.{scan_ended, step_try}

-- where a walk w comes to from a place with so many tries left, k trees and u bytes of them
abbrev after : (left k u : ℕ) → (out : List ℕ) → Walked → Place
after left k u out w =
    place (left - w.tries) (k + length w.trees) w.ended (take u out ++ (joined w.trees ++ drop (u + length (joined w.trees)) out))

same_place : {l l' k k' : ℕ} {e : Ended} {out out' : List ℕ} → l ≡ l' → k ≡ k' → out ≡ out' → place l k e out ≡ place l' k' e out'
same_place {e = e} a b c = λ i. place (a i) (b i) e (c i)

-- nothing more
stays : (left k u : ℕ) (e : Ended) (out : List ℕ) → place left k e out ≡ after left k u out (ended_by e)
unfolding joined
stays left k u e out =
    let z : u + 0 ≡ u = omega arith in
    same_place (omega arith) (omega arith) (sym (ap (λ (j : ℕ). take u out ++ drop j out) z ∙ take-append-drop u out))

-- one try more
tried_more : (left k u : ℕ) (out : List ℕ) (w : Walked) → after left k u out w ≡ after (suc left) k u out (after_try w)
tried_more left k u out w = same_place (omega arith) refl refl

-- one tree more
module _ (n u : ℕ) (ps out : List ℕ) (size : length ps ≡ n) (room : u + n ≤ length out) where
  abbrev stored : List ℕ
  stored = paste out u ps n

  front : take (u + n) stored ≡ take u out ++ ps
  front = take-paste out u ps n (omega arith) (omega arith) ∙ ap (λ (l : List ℕ). take u out ++ l) (take_all n ps (omega arith))

  back : (j : ℕ) → drop (u + n + j) stored ≡ drop (u + n + j) out
  back j =
      sym (drop-drop j (u + n) stored) ∙ ap (drop j) (drop-paste out u ps n (omega arith) (omega arith)) ∙ drop-drop j (u + n) out

  behind : (js : List ℕ) → take (u + n) stored ++ (js ++ drop (u + n + length js) stored) ≡ take u out ++ ((ps ++ js) ++ drop (u + length (ps ++ js)) out)
  behind js =
      let e : u + length (ps ++ js) ≡ u + n + length js = let l = length-append ps js in omega arith in
      ap (λ (l : List ℕ). l ++ (js ++ drop (u + n + length js) stored)) front
      ∙ ap (λ (l : List ℕ). (take u out ++ ps) ++ (js ++ l)) (back (length js))
      ∙ append_assoc (take u out) ps (js ++ drop (u + n + length js) out)
      ∙ ap (λ (l : List ℕ). take u out ++ l) (sym (append_assoc ps js (drop (u + n + length js) out)))
      ∙ ap (λ (j : ℕ). take u out ++ ((ps ++ js) ++ drop j out)) (sym e)

  tree_more : (left k : ℕ) (w : Walked) → after left (k + 1) (u + n) stored w ≡ after left k u out (after_tree ps w)
  unfolding joined
  tree_more left k w = same_place refl (omega arith) (behind (joined w.trees))

-- EVERY EVENT
module _ (n : ℕ) where
  one_try : (es : List Event) → Sized n es
      → ((left k u : ℕ) (out : List ℕ) → u ≡ k * n → u ≤ length out → scan n es (place left k Complete out) ≡ after left k u out (walk n left (length out - u) es))
      → (left k u : ℕ) (out : List ℕ) → u ≡ k * n → u ≤ length out
      → scan n (tried ∷ es) (place left k Complete out) ≡ after left k u out (walk n left (length out - u) (tried ∷ es))
  unfolding scan step walk
  one_try es z ih zero k u out e l = scan_ended n es (place 0 k AtLimit out) refl ∙ stays 0 k u AtLimit out
  one_try es z ih (suc left) k u out e l =
      let d : suc left - 1 ≡ left = omega arith in
      ap (scan n es) (step_try n (suc left) k Complete out refl (λ z. omega arith))
      ∙ ap (λ (j : ℕ). scan n es (place j k Complete out)) d ∙ ih left k u out e l ∙ tried_more left k u out (walk n left (length out - u) es)

  one_tree : (ps : List ℕ) (es : List Event) → length ps ≡ n
      → ((left k u : ℕ) (out : List ℕ) → u ≡ k * n → u ≤ length out → scan n es (place left k Complete out) ≡ after left k u out (walk n left (length out - u) es))
      → (left k u : ℕ) (out : List ℕ) → u ≡ k * n → u ≤ length out
      → scan n (listed ps ∷ es) (place left k Complete out) ≡ after left k u out (walk n left (length out - u) (listed ps ∷ es))
  unfolding scan step walk
  one_tree ps es size ih left k u out e l = rw (← e) (by (leb (u + n) (length out)) refl)
    where
      by : (b : Bool) → leb (u + n) (length out) ≡ b
          → scan n es (cond b (place left (k + 1) Complete (paste out u ps n)) (place left k NoRoom out))
          ≡ after left k u out (cond (leb n (length out - u)) (after_tree ps (walk n left (length out - u - n) es)) (ended_by NoRoom))
      by true q =
          let room = leb-true (u + n) (length out) q in
          let long = length-paste out u ps n room (omega arith) in
          let f : leb n (length out - u) ≡ true = le-leb n (length out - u) (omega arith) in
          let r : length (paste out u ps n) - (u + n) ≡ length out - u - n = omega arith in
          let m : u + n ≡ (k + 1) * n = rw (add-one k, suc-mul k n) (omega arith) in
          ih left (k + 1) (u + n) (paste out u ps n) m (omega arith)
          ∙ ap (λ (j : ℕ). after left (k + 1) (u + n) (paste out u ps n) (walk n left j es)) r
          ∙ tree_more n u ps out size room left k (walk n left (length out - u - n) es)
          ∙ ap (λ (c : Bool). after left k u out (cond c (after_tree ps (walk n left (length out - u - n) es)) (ended_by NoRoom))) (sym f)
      by false q =
          let no = leb-false (u + n) (length out) q in
          let f : leb n (length out - u) ≡ false = lt-leb n (length out - u) (omega arith) in
          scan_ended n es (place left k NoRoom out) refl ∙ stays left k u NoRoom out
          ∙ ap (λ (c : Bool). after left k u out (cond c (after_tree ps (walk n left (length out - u - n) es)) (ended_by NoRoom))) (sym f)

  scan_walk : {es : List Event} → Sized n es → (left k u : ℕ) (out : List ℕ) → u ≡ k * n → u ≤ length out
      → scan n es (place left k Complete out) ≡ after left k u out (walk n left (length out - u) es)
  unfolding scan walk
  scan_walk none left k u out e l = stays left k u Complete out
  scan_walk (a_try {es = es} z) left k u out e l = one_try es z (scan_walk z) left k u out e l
  scan_walk (a_tree {ps = ps} {es = es} size z) left k u out e l = one_tree ps es size (scan_walk z) left k u out e l

-- THE WHOLE WALK, from an empty buffer's front
pub lists_trees : (s : Instance) (limit : ℕ) (old new : List ℕ) (r : Progress) → Sized s.n (events s)
    → (walked s limit (length old)).tries ≤ limit
    → place_of r new ≡ scan s.n (events s) (place limit 0 Complete old) → ListsTrees s limit old new r
unfolding walked
lists_trees s limit old new r z most e =
    let w = walk s.n limit (length old) (events s) in
    let d : length old - 0 ≡ length old = omega arith in
    let q : place_of r new ≡ after limit 0 0 old w =
    e ∙ scan_walk s.n z limit 0 0 old (sym (zero-mul s.n)) (omega arith) ∙ ap (λ (j : ℕ). after limit 0 0 old (walk s.n limit j (events s))) d in
    let left : r.left ≡ limit - w.tries = ap (λ (p : Place). p.left) q in
    let f : 0 + length (joined w.trees) ≡ length (joined w.trees) = omega arith in
    record {
      ended = ap (λ (p : Place). p.ended) q;
      trees = ap (λ (p : Place). p.trees) q ∙ omega arith;
      tries = omega arith;
      left = omega arith;
      buffer = ap (λ (p : Place). p.out) q ∙ ap (λ (j : ℕ). joined w.trees ++ drop j old) f;
    }
