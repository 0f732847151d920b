-- THE FIRST LINE IS TRUE: its totals are the cheapest ones of the instance, with the arc and without it. Assumes
-- nothing.
use mathlib.Core.Path.{◌≡◌, refl, sym, ap}
use mathlib.Core.Bool.{Bool, true, false, ◌&&◌, not, cond, true≢false}
use mathlib.Core.Option.{Option, none, some}
use Prim.Native.Nat.{ℕ, min, ◌≤◌, ◌<◌}
use native.Mathlib.Omega.{arith}
use lib.Dec.{ltb, leb}
use borrow.Author.Tests.{ltb-true, not-false}
use Rattle.base.proofs.BoolLaws.{and_right}
use Rattle.instance.specs.Limits.{max_vertices}
use Rattle.instance.specs.Instance.{Instance, is_arc}
use Rattle.instance.specs.Candidates.{lesser, cheapest}
use Rattle.instance.specs.States.{total_in, outcome_at, outcome, state}
use Rattle.instance.specs.declared.Outcome.{Outcome}
use Rattle.instance.specs.declared.Outcome.TheVariants.{Plan, Over, NoTree}
use Rattle.witness.specs.Witness.{forced_instance, deleted_instance, outcome_cheapest, lesser_of, beaten, unbeaten, state_by}
use Rattle.witness.proofs.LimitLaws.{cheapest_either, state_either, state_compared}
use Rattle.why_text.specs.Verdict.{excluded_line, mandatory_line, first_line}
use Rattle.print_why.specs.Claims.{Claims}

-- THE SMALLER TOTAL: where one is beaten it is the other, in either order
below : (b v w : ℕ) → not (ltb b v && ltb w v) ≡ false → w < v
below b v w e = ltb-true w v (and_right (ltb b v) (ltb w v) (not-false (ltb b v && ltb w v) e))

least_other : (b v : ℕ) (o : Outcome) → not (beaten b v o) ≡ false → lesser v (outcome_cheapest o) ≡ some (total_in o)
unfolding beaten lesser
least_other b v (Plan w) e = let l = below b v w e in ap some (let m : min v w ≡ w = omega arith in m)
least_other b v (Over w) e = let l = below b v w e in ap some (let m : min v w ≡ w = omega arith in m)
least_other b v NoTree e = absurd (true≢false e)

least_first : (b v : ℕ) (o : Outcome) → not (beaten b v o) ≡ false → lesser_of (outcome_cheapest o) (some v) ≡ some (total_in o)
unfolding beaten lesser
least_first b v (Plan w) e = let l = below b v w e in ap some (let m : min w v ≡ w = omega arith in m)
least_first b v (Over w) e = let l = below b v w e in ap some (let m : min w v ≡ w = omega arith in m)
least_first b v NoTree e = absurd (true≢false e)

-- EACH STATE
module _ (t h b : ℕ) where
  abbrev Says : (forced deleted : Outcome) → (state : ℕ) → Type 0
  Says f p k =
      Claims (first_line f p t h b k) (lesser_of (outcome_cheapest f) (outcome_cheapest p)) (outcome_cheapest f) (outcome_cheapest p) t h b

  excluded_true : (f p : Outcome) → unbeaten b f p ≡ false → Says f p 1
  unfolding Claims first_line excluded_line unbeaten
  excluded_true (Plan v) p e = (refl, refl, refl, least_other b v p e, refl)
  excluded_true (Over v) p e = (refl, refl, refl, least_other b v p e, refl)
  excluded_true NoTree p e = (refl, refl, refl)

  optional_true : (f p : Outcome) → unbeaten b f p ≡ true → Says f p 2
  unfolding Claims first_line unbeaten
  optional_true (Plan v) p e = refl
  optional_true (Over v) p e = refl
  optional_true NoTree p e = absurd (true≢false (sym e))

  mandatory_true : (f p : Outcome) → unbeaten b p f ≡ false → Says f p 3
  unfolding Claims first_line mandatory_line unbeaten
  mandatory_true f (Plan v) e = (refl, least_first b v f e, refl)
  mandatory_true f (Over v) e = (refl, least_first b v f e, refl)
  mandatory_true f NoTree e = refl

  by_outcomes : (f p : Outcome) → Says f p (state_by b f p)
  by_outcomes f p = rw (state_compared b f p) (go (unbeaten b f p) refl (unbeaten b p f) refl)
    where
      go : (x : Bool) → unbeaten b f p ≡ x → (y : Bool) → unbeaten b p f ≡ y → Says f p (cond x (cond y 2 3) 1)
      go false d y e = excluded_true f p d
      go true d true e = optional_true f p d
      go true d false e = mandatory_true f p e

-- THE CLAIM
total_at : (b : ℕ) (o : Option ℕ) → outcome_cheapest (outcome_at b o) ≡ o
unfolding outcome_at
total_at b none = refl
total_at b (some v) = go (leb v b)
  where
    go : (x : Bool) → outcome_cheapest (cond x (Plan v) (Over v)) ≡ some v
    go true = refl
    go false = refl

module _ (s : Instance) (t h : ℕ) (small : s.n ≤ max_vertices) (x : is_arc s t h ≡ true) where
  abbrev F : Instance
  F = forced_instance s t h

  abbrev P : Instance
  P = deleted_instance s t h

  pub first_line_true :
      Claims (first_line (outcome (forced_instance s t h)) (outcome (deleted_instance s t h)) t h s.budget (state s t h)) (cheapest s)
      (cheapest (forced_instance s t h)) (cheapest (deleted_instance s t h)) t h s.budget
  unfolding outcome
  first_line_true =
      rw (state_either s t h small x, cheapest_either s t h small x)
      (rw (total_at s.budget (cheapest F), total_at s.budget (cheapest P)) at (by_outcomes t h s.budget (outcome F) (outcome P)))
