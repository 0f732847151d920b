-- "Lines may come in any order" (02, A3): the lines of an accepted list in another order are an accepted list too, and
-- give the same prices. Assumes nothing.
use mathlib.Core.Path.{◌≡◌, refl, sym, ◌∙◌}
use mathlib.Core.Bool.{Bool, true, false, ◌||◌, cond}
use mathlib.Core.List.{List, ◌∷◌, Permᴰ}
use Prim.Native.Nat.{ℕ, ◌*◌, ◌/◌, ◌%◌, ◌≤◌}
use lib.Dec.{eqb}
use borrow.Author.Tests.{eqb-true, eq-eqb}
use Rattle.base.specs.Lists.{any_of}
use Rattle.base.proofs.BoolLaws.{not_both, and_left, and_right, and_both, or_false_left, or_false_right, or_both_false, same_test}
use Rattle.base.proofs.ListLaws.{tabulate_same}
use Rattle.instance.specs.Limits.{max_vertices}
use Rattle.price_format.specs.Lines.{Line}
use Rattle.price_format.specs.Reading.{names, is_named, weight_named, prices_of, read_list, lines_text}
use Rattle.price_format.proofs.ReadingLaws.{Accepted, Sound, more, list_sound}
use Rattle.price_format.proofs.LinesRead.{lines_read}

-- a line that names another's arc has its own arc named by the other
names_both : (l m : Line) → names l m.tail m.head ≡ true → names m l.tail l.head ≡ true
unfolding names
names_both l m e =
    and_both (eqb m.tail l.tail) (eqb m.head l.head)
    (eq-eqb m.tail l.tail (sym (eqb-true l.tail m.tail (and_left (eqb l.tail m.tail) (eqb l.head m.head) e))))
    (eq-eqb m.head l.head (sym (eqb-true l.head m.head (and_right (eqb l.tail m.tail) (eqb l.head m.head) e))))

names_alike : (l m : Line) → names l m.tail m.head ≡ names m l.tail l.head
names_alike l m = same_test (names l m.tail m.head) (names m l.tail l.head) (names_both l m) (names_both m l)

-- lines that name one arc name each other's
names_same : (l m : Line) (t h : ℕ) → names l t h ≡ true → names m t h ≡ true → names l m.tail m.head ≡ true
unfolding names
names_same l m t h e f =
    let lt = eqb-true l.tail t (and_left (eqb l.tail t) (eqb l.head h) e) in
    let lh = eqb-true l.head h (and_right (eqb l.tail t) (eqb l.head h) e) in
    let mt = eqb-true m.tail t (and_left (eqb m.tail t) (eqb m.head h) f) in
    let mh = eqb-true m.head h (and_right (eqb m.tail t) (eqb m.head h) f) in
    and_both (eqb l.tail m.tail) (eqb l.head m.head) (eq-eqb l.tail m.tail (lt ∙ sym mt)) (eq-eqb l.head m.head (lh ∙ sym mh))

or_swap : (a b c : Bool) → a || (b || c) ≡ b || (a || c)
or_swap true true c = refl
or_swap true false c = refl
or_swap false true c = refl
or_swap false false c = refl

cond_swap : (c d : Bool) (x y z : ℕ) → (c ≡ true → d ≡ true → ⊥) → cond c x (cond d y z) ≡ cond d y (cond c x z)
cond_swap true true x y z h = absurd (h refl refl)
cond_swap true false x y z h = refl
cond_swap false true x y z h = refl
cond_swap false false x y z h = refl

-- the same arcs are named
named_order : {ls ms : List Line} (t h : ℕ) → Permᴰ ls ms → is_named ls t h ≡ is_named ms t h
unfolding is_named any_of
named_order t h Permᴰ.nil = refl
named_order t h (Permᴰ.cons {a} {b} {l₁} {l₂} e p) = rw (e, named_order t h p)
named_order t h (Permᴰ.swap {a} {b} {a'} {b'} {l} e f) = rw (← e, ← f) (or_swap (names a t h) (names b t h) (any_of (λ l. names l t h) l))
named_order t h (Permᴰ.trans p q) = named_order t h p ∙ named_order t h q

module _ (n r : ℕ) where
  -- an accepted line stays one where other lines name the same arcs
  accepted_by : (l : Line) (ls ms : List Line) → Accepted n r ls l → is_named ms l.tail l.head ≡ false → Accepted n r ms l
  accepted_by l ls ms a e = record { tail = a.tail; head = a.head; apart = a.apart; not_root = a.not_root; weight = a.weight; fresh = e }

  sound_order : {ls ms : List Line} → Permᴰ ls ms → Sound n r ls → Sound n r ms
  unfolding is_named any_of
  sound_order Permᴰ.nil s = s
  sound_order (Permᴰ.cons {a} {b} {l₁} {l₂} e p) (more s x) =
      rw (← e) (more (sound_order p s) (accepted_by a l₁ l₂ x (sym (named_order a.tail a.head p) ∙ x.fresh)))
  sound_order (Permᴰ.swap {a} {b} {a'} {b'} {l} e f) (more (more s y) x) =
      let first = or_false_left (names b a.tail a.head) (is_named l a.tail a.head) x.fresh in
      let rest = or_false_right (names b a.tail a.head) (is_named l a.tail a.head) x.fresh in
      rw (← e, ← f)
      (more (more s (accepted_by a (b ∷ l) l x rest))
      (accepted_by b l (a ∷ l) y (or_both_false (names a b.tail b.head) (is_named l b.tail b.head) (names_alike a b ∙ first) y.fresh)))
  sound_order (Permᴰ.trans p q) s = sound_order q (sound_order p s)

  -- and each has the same weight
  weight_order : {ls ms : List Line} (t h : ℕ) → Permᴰ ls ms → Sound n r ls → weight_named ls t h ≡ weight_named ms t h
  unfolding weight_named is_named any_of
  weight_order t h Permᴰ.nil s = refl
  weight_order t h (Permᴰ.cons {a} {b} {l₁} {l₂} e p) (more s x) = rw (e, weight_order t h p s)
  weight_order t h (Permᴰ.swap {a} {b} {a'} {b'} {l} e f) (more (more s y) x) =
      let first = or_false_left (names b a.tail a.head) (is_named l a.tail a.head) x.fresh in
      rw (← e, ← f)
      (cond_swap (names a t h) (names b t h) a.weight b.weight (weight_named l t h) (λ p q. not_both (names b a.tail a.head) (names_same b a t h q p) first))
  weight_order t h (Permᴰ.trans p q) s = weight_order t h p s ∙ weight_order t h q (sound_order p s)

-- THE LAW
pub any_order : (n r : ℕ) (t : List ℕ) (ms : List Line) → n ≤ max_vertices → (read_list n r t).answer ≡ 0 → Permᴰ (read_list n r t).lines ms
    → (read_list n r (lines_text ms) ≡ record { answer = 0; line = 0; lines = ms }) × (prices_of n ms ≡ prices_of n (read_list n r t).lines)
unfolding prices_of
any_order n r t ms small e p =
    let s = list_sound n r t in (
      lines_read n r small ms (sound_order n r p s),
      tabulate_same (n * n) _ _ (λ i l. sym (weight_order n r (i / n) (i % n) p s)),
    )
