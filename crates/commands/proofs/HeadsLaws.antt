-- Marks put at several arcs of one tail: cell by cell, one head more, and put back; and sets of heads, read in both
-- directions. Assumes nothing.
use mathlib.Core.Path.{◌≡◌, refl, sym, ap, ◌∙◌}
use mathlib.Core.Bool.{Bool, true, false, ◌&&◌, ◌||◌, not, cond}
use mathlib.Core.List.{List}
use mathlib.Core.Logic.{⊎_elim}
use Prim.Native.Nat.{ℕ, ◌/◌, ◌%◌, ◌^◌, ◌≤◌, ◌<◌}
use native.Mathlib.Omega.{arith}
use native.Mathlib.Decide.{ℕ_discrete}
use lib.Dec.{ltb, eqb}
use lib.ListN.{length, get_or, set, length-set, get_or-eq_default}
use lib.Seq.{get_or-set_same, get_or-set_other}
use borrow.Author.Tests.{eq-eqb, ne_eqb, eqb-true, lt-ltb, ltb-true, ltb-false}
use Rattle.base.specs.Bounded.{any_below}
use Rattle.base.proofs.BoolLaws.{test, and_left, and_right, and_both}
use Rattle.base.proofs.BoundedLaws.{any_found, any_intro}
use Rattle.base.proofs.DigitLaws.{digits_zero}
use Rattle.base.proofs.ListLaws.{length_tabulate, get_d_tabulate, tabulate_is}
use Rattle.instance.specs.Limits.{max_vertices, free}
use Rattle.instance.specs.Instance.{Instance, cell, mark_at, mark, is_arc}
use Rattle.instance.specs.Cuts.{inside}
use Rattle.instance.proofs.ArcLaws.{arc_ends}
use Rattle.instance.proofs.SetBits.{inside_digits, inside_below, below_inside}
use Rattle.commands.specs.Heads.{heads_below, names_arc, names_any, heads_of, marks_of, is_named, put_marks, with_marks}

-- CELL BY CELL
pub put_length : (t : ℕ) (q : ℕ → Bool) (g : ℕ → ℕ) (ms : List ℕ) → length (put_marks t q g ms) ≡ length ms
unfolding put_marks
put_length t q g ms = length_tabulate (length ms) _

pub put_at : (t : ℕ) (q : ℕ → Bool) (g : ℕ → ℕ) (ms : List ℕ) (i : ℕ) → i < length ms →
    get_or (put_marks t q g ms) i free ≡ cond (is_named t q i) (g (i % 32)) (get_or ms i free)
unfolding put_marks
put_at t q g ms i l = get_d_tabulate (length ms) _ i free l

pub put_past : (t : ℕ) (q : ℕ → Bool) (g : ℕ → ℕ) (ms : List ℕ) (i : ℕ) → length ms ≤ i → get_or (put_marks t q g ms) i free ≡ get_or ms i free
put_past t q g ms i l = get_or-eq_default (put_marks t q g ms) free (omega (arith, put_length t q g ms)) ∙ sym (get_or-eq_default ms free l)

-- a cell that is not named keeps its mark
pub put_elsewhere : (t : ℕ) (q : ℕ → Bool) (g : ℕ → ℕ) (ms : List ℕ) (i : ℕ) → is_named t q i ≡ false → get_or (put_marks t q g ms) i free ≡ get_or ms i free
put_elsewhere t q g ms i e =
    ⊎_elim (λ (l : ltb i (length ms) ≡ true). put_at t q g ms i (ltb-true i (length ms) l) ∙ rw e)
    (λ (l : ltb i (length ms) ≡ false). put_past t q g ms i (ltb-false i (length ms) l)) (test (ltb i (length ms)))

-- in lists of one length, marks that were equal stay equal
pub put_alike :
    (t : ℕ) (q : ℕ → Bool) (g : ℕ → ℕ) (xs ys : List ℕ) (i : ℕ) → length xs ≡ length ys → get_or xs i free ≡ get_or ys i free →
    get_or (put_marks t q g xs) i free ≡ get_or (put_marks t q g ys) i free
put_alike t q g xs ys i n e =
    ⊎_elim
    (λ (l : ltb i (length xs) ≡ true).
    let k = ltb-true i (length xs) l in
    put_at t q g xs i k ∙ ap (λ (x : ℕ). cond (is_named t q i) (g (i % 32)) x) e ∙ sym (put_at t q g ys i (omega (arith, k, n))))
    (λ (l : ltb i (length xs) ≡ false).
    let k = ltb-false i (length xs) l in
    put_past t q g xs i k ∙ e ∙ sym (put_past t q g ys i (omega (arith, k, n)))) (test (ltb i (length xs)))

-- a list is what is put if it is as long and agrees cell by cell
pub put_is :
    (t : ℕ) (q : ℕ → Bool) (g : ℕ → ℕ) (ms l : List ℕ) → length l ≡ length ms →
    ((i : ℕ) → i < length ms → get_or l i free ≡ cond (is_named t q i) (g (i % 32)) (get_or ms i free)) → l ≡ put_marks t q g ms
unfolding put_marks
put_is t q g ms l e h = tabulate_is (length ms) l _ free e h

-- a named cell is that of the tail and its own head
pub named_cell : (t : ℕ) (q : ℕ → Bool) (i : ℕ) → is_named t q i ≡ true → i ≡ cell t (i % 32)
unfolding is_named
named_cell t q i e = omega (arith, eqb-true (i / 32) t (and_left (eqb (i / 32) t) (q (i % 32)) e))

pub named_head : (t : ℕ) (q : ℕ → Bool) (i : ℕ) → is_named t q i ≡ true → q (i % 32) ≡ true
unfolding is_named
named_head t q i e = and_right (eqb (i / 32) t) (q (i % 32)) e

-- the same heads and marks, the same list
pub put_same :
    (t : ℕ) (p q : ℕ → Bool) (f g : ℕ → ℕ) (ms : List ℕ) → ((h : ℕ) → h < 32 → p h ≡ q h) → ((h : ℕ) → h < 32 → q h ≡ true → f h ≡ g h) →
    put_marks t p f ms ≡ put_marks t q g ms
unfolding is_named
put_same t p q f g ms same alike =
    put_is t q g ms (put_marks t p f ms) (put_length t p f ms)
    (λ i l.
    let h = i % 32 in
    let b : h < 32 = omega arith in
    put_at t p f ms i l ∙ ap (λ (x : Bool). cond (eqb (i / 32) t && x) (f h) (get_or ms i free)) (same h b)
    ∙ chosen (eqb (i / 32) t) (q h) (f h) (g h) (get_or ms i free) (alike h b))
  where
    chosen : (x y : Bool) (a b d : ℕ) → (y ≡ true → a ≡ b) → cond (x && y) a d ≡ cond (x && y) b d
    chosen true true a b d e = e refl
    chosen true false a b d e = refl
    chosen false y a b d e = refl

-- NO HEAD
pub put_none : (t : ℕ) (q : ℕ → Bool) (g : ℕ → ℕ) (ms : List ℕ) → ((h : ℕ) → h < 32 → q h ≡ false) → put_marks t q g ms ≡ ms
unfolding is_named
put_none t q g ms none =
    sym (put_is t q g ms ms refl (λ i l. sym (ap (λ (x : Bool). cond (eqb (i / 32) t && x) (g (i % 32)) (get_or ms i free)) (none (i % 32) (omega arith)) ∙ neither (eqb (i / 32) t) _ _)))
  where
    neither : (x : Bool) (a d : ℕ) → cond (x && false) a d ≡ d
    neither true a d = refl
    neither false a d = refl

-- ONE HEAD MORE
pub put_one :
    (t : ℕ) (q : ℕ → Bool) (g : ℕ → ℕ) (ms : List ℕ) (h : ℕ) → h < 32 →
    set (put_marks t q g ms) (cell t h) (g h) ≡ put_marks t (λ v. eqb v h || q v) g ms
unfolding is_named
put_one t q g ms h b =
    let l = put_marks t q g ms in
    put_is t (λ v. eqb v h || q v) g ms (set l (cell t h) (g h)) (length-set l (cell t h) (g h) ∙ put_length t q g ms) (λ i k. at i k (ℕ_discrete i (cell t h)))
  where
    other : (x y z : Bool) (a d : ℕ) → (x ≡ true → y ≡ false) → cond (x && z) a d ≡ cond (x && (y || z)) a d
    other true y z a d e = rw (e refl)
    other false y z a d e = refl

    at : (i : ℕ) → i < length ms → Dec (i ≡ cell t h) →
        get_or (set (put_marks t q g ms) (cell t h) (g h)) i free ≡ cond (eqb (i / 32) t && (eqb (i % 32) h || q (i % 32))) (g (i % 32)) (get_or ms i free)
    at i k (yes e) =
        let d : i / 32 ≡ t = omega arith in
        let r : i % 32 ≡ h = omega arith in
        rw (eq-eqb (i / 32) t d, eq-eqb (i % 32) h r)
        (ap (λ (j : ℕ). get_or (set (put_marks t q g ms) (cell t h) (g h)) j free) e
        ∙ get_or-set_same (put_marks t q g ms) (cell t h) (g h) free (omega (arith, put_length t q g ms)) ∙ ap g (sym r))
    at i k (no n) =
        get_or-set_other (put_marks t q g ms) (cell t h) i (g h) free n ∙ put_at t q g ms i k
        ∙ other (eqb (i / 32) t) (eqb (i % 32) h) (q (i % 32)) (g (i % 32)) (get_or ms i free)
        (λ e. ne_eqb (i % 32) h (λ r. n (omega (arith, eqb-true (i / 32) t e))))

-- PUT BACK. The marks that were recorded, put at the arcs that were recorded, leave the marks as they were, whatever
-- was put there in between: a named cell gets its own old mark, and any other was never touched.
pub inside_heads : (q : ℕ → Bool) (h : ℕ) → h < max_vertices → inside (heads_of q) h ≡ q h
unfolding heads_of
inside_heads q h l = inside_digits max_vertices q h l

pub marks_of_at : (s : Instance) (t : ℕ) (q : ℕ → Bool) (h : ℕ) → h < max_vertices → q h ≡ true → get_or (marks_of s t q) h free ≡ mark s t h
unfolding marks_of
marks_of_at s t q h l e = get_d_tabulate max_vertices _ h free l ∙ rw e

put_back :
    (s : Instance) (t : ℕ) (q : ℕ → Bool) (g : ℕ → ℕ) →
    put_marks t (inside (heads_of q)) (λ h. get_or (marks_of s t q) h free) (put_marks t q g s.marks) ≡ s.marks
unfolding mark
put_back s t q g =
    put_same t (inside (heads_of q)) q (λ h. get_or (marks_of s t q) h free) (mark s t) (put_marks t q g s.marks) (inside_heads q) (marks_of_at s t q)
    ∙ sym (put_is t q (mark s t) (put_marks t q g s.marks) s.marks (sym (put_length t q g s.marks))
    (λ i l. let k : i < length s.marks = omega (arith, put_length t q g s.marks) in back i k (is_named t q i) refl))
  where
    back : (i : ℕ) → i < length s.marks → (x : Bool) → is_named t q i ≡ x → mark_at s i ≡ cond x (mark_at s (cell t (i % 32))) (get_or (put_marks t q g s.marks) i free)
    back i l true e = ap (mark_at s) (named_cell t q i e)
    back i l false e = sym (put_elsewhere t q g s.marks i e)

pub marks_back : (s : Instance) (t : ℕ) (q : ℕ → Bool) (g : ℕ → ℕ) → with_marks t (inside (heads_of q)) (λ h. get_or (marks_of s t q) h free) (with_marks t q g s) ≡ s
unfolding with_marks
marks_back s t q g = λ j. record { n = s.n; root = s.root; budget = s.budget; weights = s.weights; marks = put_back s t q g j }

-- a set of no head is 0
pub no_heads : (q : ℕ → Bool) → eqb (heads_of q) 0 ≡ not (any_below max_vertices q)
unfolding heads_of
no_heads q = digits_zero max_vertices q

-- READ IN BOTH DIRECTIONS: "a set bit not below the count"; "no member is a link"
pub heads_below_reads : (n c : ℕ) → heads_below n c ≡ true → (v : ℕ) → inside c v ≡ true → v < n
unfolding heads_below
heads_below_reads n c e v i = inside_below n c v (ltb-true c (2 ^ n) e) i

pub reads_heads_below : (n c : ℕ) → ((v : ℕ) → inside c v ≡ true → v < n) → heads_below n c ≡ true
unfolding heads_below
reads_heads_below n c h = lt-ltb c (2 ^ n) (below_inside n c h)

pub names_any_reads : (s : Instance) (t c : ℕ) → names_any s t c ≡ true → (h : ℕ) × (inside c h ≡ true) × (is_arc s t h ≡ true)
unfolding names_any names_arc
names_any_reads s t c e =
    let f = any_found max_vertices (names_arc s t c) e in
    (f.0, and_left (inside c f.0) (is_arc s t f.0) f.2, and_right (inside c f.0) (is_arc s t f.0) f.2)

pub reads_names_any : (s : Instance) (t c h : ℕ) → s.n ≤ max_vertices → inside c h ≡ true → is_arc s t h ≡ true → names_any s t c ≡ true
unfolding names_any names_arc
reads_names_any s t c h small i a =
    let l = (arc_ends s t h a).head_below in
    any_intro max_vertices (names_arc s t c) h (omega arith) (and_both (inside c h) (is_arc s t h) i a)
