-- How the tree grows, as a program holds it. Assumes nothing.
use mathlib.Core.Path.{◌≡◌, refl, sym, ap, ◌∙◌, subst}
use mathlib.Core.Bool.{Bool, true, false, ◌&&◌, ◌||◌}
use mathlib.Core.List.{List}
use mathlib.Core.Logic.{⊎_elim}
use Prim.Native.Nat.{ℕ, suc, ◌^◌, ◌≤◌, ◌<◌}
use native.Mathlib.Omega.{arith}
use lib.Bits.{bit_and, bit_or, and_le_r, or_lt}
use lib.Count.{count_trailing_zeros}
use lib.Dec.{ltb, eqb}
use lib.ListN.{get_or, set, take, replicate, length-set}
use lib.Pow.{pow-lt, pow_mono, pow_pos}
use lib.Seq.{take-set-lt}
use borrow.Author.Tests.{ltb-true, ltb-false, eq-eqb}
use Rattle.base.proofs.BoolLaws.{test, not_both, is_true, and_left, and_right, and_both, or_right, or_false_left}
use Rattle.base.proofs.PartLaws.{take_replicate}
use Rattle.instance.specs.Limits.{max_vertices, no_parent}
use Rattle.instance.specs.Cuts.{inside}
use Rattle.instance.proofs.SetBits.{inside_none, inside_below}
use Rattle.narrowing.specs.Grown.{Grown}
use Rattle.narrowing.proofs.GrownLaws.{grown_root, grown_more}
use Rattle.first_tree.specs.Tails.{admissible_by}
use Rattle.first_tree.specs.Fixing.{FixedTails}
use Rattle.first_tree.specs.Growth.{InRange, Growing, NothingNew, Grows, GrownTree}
use Rattle.first_tree.proofs.SetLaws.{inside_and, inside_or, inside_one, or_least, least_inside}

-- NOTHING IS REACHED: the vertex was reached before, or no arc leads to it
module _ (n from count h : ℕ) (now : List ℕ) (reached : ℕ) (ps : List ℕ) (k : InRange n from count now reached ps) where
  pub grows_already : inside reached h ≡ true → Grows n from count h (suc h) now now reached reached ps ps
  grows_already e =
      record {
        in_range = k;
        least = omega arith;
        growing = λ root tails g. g;
        nothing_new = λ root tails g same z j l m out. let q : j ≡ h = omega arith in absurd (not_both (inside reached h) e (rw q at out));
      }

  pub grows_none : bit_and (get_or now h 0) reached ≡ 0 → Grows n from count h (suc h) now now reached reached ps ps
  grows_none e =
      record {
        in_range = k;
        least = omega arith;
        growing = λ root tails g. g;
        nothing_new =
            λ root tails g same z j l m out.
            let q : j ≡ h = omega arith in
            rw q (subst (λ (c : ℕ). bit_and c reached ≡ 0) (g.others same h (rw q at out)) e);
      }

-- ONE VERTEX IS REACHED
module _ (n from count h : ℕ) (now : List ℕ) (reached : ℕ) (ps : List ℕ) (k : InRange n from count now reached ps) (below : h < n)
    (out : inside reached h ≡ false) (some : bit_and (get_or now h 0) reached ≡ 0 → ⊥) where
  abbrev sources : ℕ
  sources = bit_and (get_or now h 0) reached

  abbrev tail : ℕ
  tail = count_trailing_zeros 32 sources

  fits : sources < 2 ^ 32
  fits = let a = and_le_r (get_or now h 0) reached in let b = pow_mono {i = n} {j = 32} k.small in let c = k.below in omega arith

  tail_in : inside sources tail ≡ true
  tail_in = (least_inside 32 sources (omega (arith, some)) fits).1

  both : inside (get_or now h 0) tail && inside reached tail ≡ true
  both = sym (inside_and (get_or now h 0) reached tail) ∙ tail_in

  pub source_admissible : admissible_by now (count_trailing_zeros 32 (bit_and (get_or now h 0) reached)) h ≡ true
  source_admissible = and_left (inside (get_or now h 0) tail) (inside reached tail) both

  source_reached : inside reached tail ≡ true
  source_reached = and_right (inside (get_or now h 0) tail) (inside reached tail) both

  pub source_below : count_trailing_zeros 32 (bit_and (get_or now h 0) reached) < n
  source_below = inside_below n reached tail k.below source_reached

  module _ (cuts new : List ℕ) (f : FixedTails cuts n from count (count_trailing_zeros 32 (bit_and (get_or now h 0) reached)) h now new) where
    abbrev more : ℕ
    more = bit_or reached (2 ^ h)

    joined : (v : ℕ) → inside more v ≡ inside reached v || eqb v h
    joined v = inside_or reached (2 ^ h) v ∙ ap (λ (b : Bool). inside reached v || b) (inside_one h v)

    grew : (root : ℕ) (tails : List ℕ) → Growing n root from count tails now reached ps → Growing n root from count tails new more (set ps h tail)
    grew root tails g =
        record {
          less = λ t v e. g.less t v (f.less t v e);
          others =
              λ same v o.
              let w : inside reached v || eqb v h ≡ false = sym (joined v) ∙ o in
              f.others same v (λ z. not_both (inside reached v || eqb v h) (or_right (inside reached v) (eqb v h) (eq-eqb v h z)) w)
              ∙ g.others same v (or_false_left (inside reached v) (eqb v h) w);
          grown =
              subst (λ (l : List ℕ). Grown n root (admissible_by tails) (inside more) l) (sym (take-set-lt n ps h tail below))
              (grown_more n root (admissible_by tails) (inside reached) (inside more) (take n ps) g.grown tail h below out source_reached (g.less tail h source_admissible) joined);
        }

    pub grows_more : Grows n from count h (suc h) now new reached (bit_or reached (2 ^ h)) ps (set ps h (count_trailing_zeros 32 (bit_and (get_or now h 0) reached)))
    grows_more =
        record {
          in_range =
              record {
                small = k.small;
                from_within = k.from_within;
                few = k.few;
                size = f.size;
                below = or_lt n reached (2 ^ h) k.below (pow-lt {i = h} {j = n} below);
                places = length-set ps h tail ∙ k.places;
              };
          least = or_least reached (2 ^ h);
          growing = grew;
          nothing_new =
              λ root tails g same z j l m o.
              absurd (not_both (inside reached h) (subst (λ (c : ℕ). inside c h ≡ true) z (joined h ∙ or_right (inside reached h) (eqb h h) (eq-eqb h h refl))) out);
        }

-- ONE VERTEX AFTER OTHERS
pub grows_then : (n from count low mid high : ℕ) (a b c : List ℕ) (x y z : ℕ) (p q r : List ℕ) → Grows n from count mid high a b x y p q
    → Grows n from count low mid b c y z q r → Grows n from count low high a c x z p r
grows_then n from count low mid high a b c x y z p q r f g =
    record {
      in_range = g.in_range;
      least = let u = f.least in let v = g.least in omega arith;
      growing = λ root tails k. g.growing root tails (f.growing root tails k);
      nothing_new =
          λ root tails k same e j l m o.
          let u = f.least in
          let v = g.least in
          let ez : z ≡ y = omega arith in
          let ey : y ≡ x = omega arith in
          ⊎_elim (λ (b : ltb j mid ≡ true). g.nothing_new root tails (f.growing root tails k) same ez j l (ltb-true j mid b) o)
          (λ (b : ltb j mid ≡ false).
          subst (λ (w : ℕ). bit_and (get_or tails j 0) w ≡ 0) (sym ez)
          (f.nothing_new root tails k same ey j (ltb-false j mid b) m (subst (λ (w : ℕ). inside w j ≡ false) ez o))) (test (ltb j mid));
    }

-- at the start of a round nothing has been looked at
pub grows_start : (n from count : ℕ) (now : List ℕ) (reached : ℕ) (ps : List ℕ) → InRange n from count now reached ps → Grows n from count n n now now reached reached ps ps
grows_start n from count now reached ps k =
    record {
      in_range = k;
      least = omega arith;
      growing = λ root tails g. g;
      nothing_new = λ root tails g same z j l m o. absurd (omega arith);
    }

-- THE ROOT ALONE
pub growing_root : (n root from count : ℕ) (tails : List ℕ) → n ≤ max_vertices → Growing n root from count tails tails (2 ^ root) (replicate max_vertices no_parent)
growing_root n root from count tails small =
    record {
      less = λ t h e. e;
      others = λ same h o. refl;
      grown =
          subst (λ (l : List ℕ). Grown n root (admissible_by tails) (inside (2 ^ root)) l) (sym (take_replicate n max_vertices no_parent small))
          (grown_root n root (admissible_by tails) (inside (2 ^ root)) (inside_one root));
    }

-- A ROUND ADDED NOTHING: arcs lead to no other vertex
pub grown_tree : (n root from count : ℕ) (tails now : List ℕ) (reached : ℕ) (ps : List ℕ) → InRange n from count now reached ps
    → Growing n root from count tails now reached ps → NothingNew from count 0 n tails reached reached → GrownTree n root from count tails reached ps
grown_tree n root from count tails now reached ps k g s =
    record {
      places = k.places;
      grown = g.grown;
      stays_within =
          λ same t h l e i.
          is_true (inside reached h)
          (λ o.
          not_both (inside (bit_and (get_or tails h 0) reached) t) (inside_and (get_or tails h 0) reached t ∙ and_both (admissible_by tails t h) (inside reached t) e i)
          (ap (λ (c : ℕ). inside c t) (s same refl h (omega arith) l o) ∙ inside_none 0 t (pow_pos t)));
    }
