-- Who set an arc's mark, by a log and by a board's records: the entry that is told names the arc and no later one does,
-- and the effective mark is the one that it sets; a board that is tied to a log tells the log's place. Assumes nothing.
use mathlib.Core.Path.{◌≡◌, refl, sym, ap, ◌∙◌}
use mathlib.Core.Bool.{Bool, true, false, ◌||◌, cond, true≢false}
use mathlib.Core.List.{List, [], ◌∷◌, ◌++◌}
use Prim.Native.Nat.{ℕ, suc, ◌+◌, ◌<◌}
use native.Mathlib.Omega.{arith}
use lib.Dec.{eqb}
use lib.ListN.{length, length-append}
use borrow.Author.Tests.{ne_eqb}
use Rattle.base.specs.Lists.{any_of}
use Rattle.instance.specs.Limits.{max_vertices}
use Rattle.instance.specs.Marks.{mark_number}
use Rattle.instance.specs.Instance.{Instance, mark}
use Rattle.commands.specs.Model.{Replaced, Model}
use Rattle.commands.specs.Log.{Entry, entry_mark, entry_marks, entry_budget, Log}
use Rattle.commands.specs.Effective.{effective_mark}
use Rattle.commands.specs.Setters.{latest_place, record_names, setter, entry_names, log_setter, recorded_place, log_place}
use Rattle.commands.proofs.LogLaws.{Undoes, undoes_length, Tied}

-- READ: the element at the place passes the test, and no later one does
pub record Latest {A : Type 0} (q : A → Bool) (l : List A) (place : ℕ) : Type 0 where
  pub later : List A
  pub element : A
  pub earlier : List A
  pub list : l ≡ later ++ (element ∷ earlier)
  pub counted : place ≡ suc (length earlier)
  pub passes : q element ≡ true
  pub none_later : any_of q later ≡ false

module _ {A : Type 0} (q : A → Bool) where
  pub latest_none : (l : List A) → any_of q l ≡ false → latest_place q l ≡ 0
  unfolding any_of latest_place
  latest_none [] e = refl
  latest_none (x ∷ xs) e = at (q x) e (latest_none xs)
    where
      at : (b : Bool) → b || any_of q xs ≡ false → (any_of q xs ≡ false → latest_place q xs ≡ 0) → cond b (suc (length xs)) (latest_place q xs) ≡ 0
      at true e n = absurd (true≢false e)
      at false e n = n e

  pub latest_found : (l : List A) → any_of q l ≡ true → Latest q l (latest_place q l)
  unfolding any_of latest_place
  latest_found [] e = absurd (true≢false (sym e))
  latest_found (x ∷ xs) e = at (q x) refl e (latest_found xs)
    where
      at : (b : Bool) → q x ≡ b → b || any_of q xs ≡ true → (any_of q xs ≡ true → Latest q xs (latest_place q xs)) →
          Latest q (x ∷ xs) (cond b (suc (length xs)) (latest_place q xs))
      at true p e n = record { later = []; element = x; earlier = xs; list = refl; counted = refl; passes = p; none_later = refl }
      at false p e n =
          let f = n e in
          record {
            later = x ∷ f.later;
            element = f.element;
            earlier = f.earlier;
            list = ap (λ (l : List A). x ∷ l) f.list;
            counted = f.counted;
            passes = f.passes;
            none_later = rw p f.none_later;
          }

  -- of two lists, one over the other
  pub latest_over : (xs ys : List A) → latest_place q (xs ++ ys) ≡ recorded_place (length ys) (latest_place q xs) (latest_place q ys)
  unfolding latest_place recorded_place
  latest_over [] ys = refl
  latest_over (x ∷ xs) ys = at (q x) (latest_over xs ys)
    where
      at : (b : Bool) → latest_place q (xs ++ ys) ≡ cond (eqb (latest_place q xs) 0) (latest_place q ys) (latest_place q xs + length ys) →
          cond b (suc (length (xs ++ ys))) (latest_place q (xs ++ ys))
          ≡ cond (eqb (cond b (suc (length xs)) (latest_place q xs)) 0) (latest_place q ys) (cond b (suc (length xs)) (latest_place q xs) + length ys)
      at true e = rw (ne_eqb (suc (length xs)) 0 (λ z. absurd (omega (arith, z)))) (omega (arith, length-append xs ys))
      at false e = e

-- THE EFFECTIVE MARK is the one that the told entry sets, or the card's where no entry names the arc
unfoldable pub entry_number : Entry → (otherwise : ℕ) → ℕ
entry_number (entry_mark m u v) o = mark_number m
entry_number (entry_marks m u c) o = mark_number m
entry_number (entry_budget v) o = o

effective_step :
    (e : Entry) (es : List Entry) (s : Instance) (t h : ℕ) →
    effective_mark (e ∷ es) s t h ≡ cond (entry_names s t h e) (entry_number e (effective_mark es s t h)) (effective_mark es s t h)
unfolding effective_mark entry_names entry_number
effective_step (entry_mark m u v) es s t h = refl
effective_step (entry_marks m u c) es s t h = refl
effective_step (entry_budget v) es s t h = refl

unnamed : (s : Instance) (t h : ℕ) → effective_mark [] s t h ≡ mark s t h
unfolding effective_mark
unnamed s t h = refl

pub none_names : (es : List Entry) (s : Instance) (t h : ℕ) → any_of (entry_names s t h) es ≡ false → effective_mark es s t h ≡ mark s t h
unfolding any_of
none_names [] s t h e = unnamed s t h
none_names (x ∷ es) s t h e = effective_step x es s t h ∙ at (entry_names s t h x) e (none_names es s t h)
  where
    at : (b : Bool) → b || any_of (entry_names s t h) es ≡ false → (any_of (entry_names s t h) es ≡ false → effective_mark es s t h ≡ mark s t h) →
        cond b (entry_number x (effective_mark es s t h)) (effective_mark es s t h) ≡ mark s t h
    at true e n = absurd (true≢false e)
    at false e n = n e

-- what an entry that names the arc sets does not depend on what was there
sets : (e : Entry) (s : Instance) (t h o p : ℕ) → entry_names s t h e ≡ true → entry_number e o ≡ entry_number e p
unfolding entry_names entry_number
sets (entry_mark m u v) s t h o p e = refl
sets (entry_marks m u c) s t h o p e = refl
sets (entry_budget v) s t h o p e = absurd (true≢false (sym e))

found_past :
    (later : List Entry) (e : Entry) (earlier : List Entry) (s : Instance) (t h o : ℕ) → any_of (entry_names s t h) later ≡ false → entry_names s t h e ≡ true →
    effective_mark (later ++ (e ∷ earlier)) s t h ≡ entry_number e o
unfolding any_of
found_past [] e es s t h o n x = effective_step e es s t h ∙ rw x (sets e s t h (effective_mark es s t h) o x)
found_past (y ∷ ys) e es s t h o n x = effective_step y (ys ++ (e ∷ es)) s t h ∙ at (entry_names s t h y) n (λ m. found_past ys e es s t h o m x)
  where
    at : (b : Bool) → b || any_of (entry_names s t h) ys ≡ false →
        (any_of (entry_names s t h) ys ≡ false → effective_mark (ys ++ (e ∷ es)) s t h ≡ entry_number e o) →
        cond b (entry_number y (effective_mark (ys ++ (e ∷ es)) s t h)) (effective_mark (ys ++ (e ∷ es)) s t h) ≡ entry_number e o
    at true n f = absurd (true≢false n)
    at false n f = f n

pub found_names :
    (es : List Entry) (s : Instance) (t h p : ℕ) (f : Latest (entry_names s t h) es p) → effective_mark es s t h ≡ entry_number f.element (mark s t h)
found_names es s t h p f =
    ap (λ (l : List Entry). effective_mark l s t h) f.list
    ∙ found_past f.later f.element f.earlier s t h (mark s t h) f.none_later f.passes

-- A TIED BOARD: its records tell the place that the log tells
same_places :
    (rs : List Replaced) (es : List Entry) (s : Instance) (t h : ℕ) → h < max_vertices → Undoes rs es s →
    latest_place (record_names t h) rs ≡ latest_place (entry_names s t h) es
unfolding latest_place
same_places [] [] s t h l u = refl
same_places [] (e ∷ es) s t h l u = absurd u
same_places (r ∷ rs) [] s t h l u = absurd u
same_places (r ∷ rs) (e ∷ es) s t h l u = rw (u.1 t h l, undoes_length rs es s u.2, same_places rs es s t h l u.2)

pub tied_setter : (b : Model) (k : Log) → Tied b k → (t h : ℕ) → h < max_vertices → setter b.history t h ≡ log_place k t h
unfolding setter log_place log_setter
tied_setter b k d t h l =
    ap (latest_place (record_names t h)) d.history ∙ latest_over (record_names t h) d.newer k.below
    ∙ ap (λ (p : ℕ). recorded_place (length k.below) p (latest_place (record_names t h) k.below))
    (same_places d.newer k.entries k.card t h l d.undoes)
