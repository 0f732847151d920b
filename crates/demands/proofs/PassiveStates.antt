-- The state of an edge in 02's words (A11): "states by the same four codes over trees within the larger of the budget
-- and the cheapest total". Here each code is read as a statement about all lists of parents. Assumes nothing.
use mathlib.Core.Path.{◌≡◌, refl, sym, ◌∙◌, subst}
use mathlib.Core.Bool.{Bool, true, false, ◌&&◌, cond}
use mathlib.Core.List.{List}
use mathlib.Core.Logic.{◌↔◌}
use mathlib.Core.Option.{Option, none, some}
use Prim.Native.Nat.{ℕ, max, ◌≤◌}
use native.Mathlib.Omega.{arith}
use lib.Dec.{leb}
use borrow.Author.Tests.{leb-true, le-leb}
use Rattle.base.specs.Lists.{any_of, all_of}
use Rattle.base.proofs.BoolLaws.{and_left, and_right, and_both}
use Rattle.instance.specs.Arborescence.{is_arborescence, total}
use Rattle.instance.specs.States.{limit_at}
use Rattle.theory.proofs.CandidateLaws.{any_selected, all_selected, one_fails, none_passes}
use Rattle.spanning.specs.Graph.{Graph, is_edge}
use Rattle.spanning.specs.SpanningTrees.{directed, joins, is_spanning, least_spanning}
use Rattle.spanning.specs.EdgeStates.{spanning_within, edge_state_over, edge_state}
use Rattle.spanning.proofs.SpansLaws.{listed_spans, spans_listed, spanning_arborescence}
use Rattle.spanning.proofs.EdgeStateLaws.{Within, state_absent, state_excluded, state_optional, state_mandatory}
use Rattle.demands.proofs.PassiveResults.{Spanning, LeastSpanning, TotalReads, total_reads, least_once}

-- THE WORDS
-- a spanning tree "within the larger of the budget and the cheapest total"
pub record WithinLarger (g : Graph) (budget : ℕ) (ps : List ℕ) : Type 0 where
  pub spans : Spanning g ps
  pub within : (v : ℕ) → LeastSpanning g v → total (directed g 0) ps ≤ max budget v

-- x is the code of the place of i and j: "0 not a link; 1 closed, no tree uses it; 2 open, some use it and some don't;
-- 3 sure, there is at least one tree and all use it" (01)
pub record CodeReads (g : Graph) (budget i j x : ℕ) : Type 0 where
  pub absent : is_edge g i j ≡ false → x ≡ 0
  pub present : is_edge g i j ≡ true → (1 ≤ x) × (x ≤ 3)
  pub excluded : is_edge g i j ≡ true → (x ≡ 1) ↔ ((ps : List ℕ) → WithinLarger g budget ps → joins ps i j ≡ false)
  pub optional :
      is_edge g i j ≡ true →
      (x ≡ 2) ↔ (((ps : List ℕ) × WithinLarger g budget ps × (joins ps i j ≡ true)) × ((ps : List ℕ) × WithinLarger g budget ps × (joins ps i j ≡ false)))
  pub mandatory :
      is_edge g i j ≡ true →
      (x ≡ 3) ↔ (((ps : List ℕ) × WithinLarger g budget ps) × ((ps : List ℕ) → WithinLarger g budget ps → joins ps i j ≡ true))

-- THE LIMIT of the listing is the larger of the two
module _ (g : Graph) (b i j : ℕ) where
  to_limit : (o : Option ℕ) → TotalReads g o → (ps : List ℕ) → WithinLarger g b ps → total (directed g 0) ps ≤ limit_at b o
  unfolding TotalReads limit_at
  to_limit none n ps w = absurd (n ps w.spans)
  to_limit (some v) a ps w = w.within v a

  from_limit : (o : Option ℕ) → TotalReads g o → (ps : List ℕ) → Spanning g ps → total (directed g 0) ps ≤ limit_at b o → (v : ℕ) → LeastSpanning g v
      → total (directed g 0) ps ≤ max b v
  unfolding TotalReads limit_at
  from_limit none n ps t l v a = absurd (n ps t)
  from_limit (some w) c ps t l v a = subst (λ (x : ℕ). total (directed g 0) ps ≤ max b x) (least_once g w v c a) l

  as_listed : (ps : List ℕ) → WithinLarger g b ps → Within g 0 b i j ps
  as_listed ps w = record { spans = w.spans; most = to_limit (least_spanning g 0) (total_reads g) ps w }

  in_words : (ps : List ℕ) → Within g 0 b i j ps → WithinLarger g b ps
  in_words ps w = record { spans = w.spans; within = from_limit (least_spanning g 0) (total_reads g) ps w.spans w.most }

  -- as it is tested in the listing
  abbrev limit : ℕ
  limit = limit_at b (least_spanning g 0)

  abbrev test_of : List ℕ → Bool
  test_of ps = is_spanning g 0 ps && leb (total (directed g 0) ps) limit

  sound : (ps : List ℕ) → test_of ps ≡ true → is_arborescence (directed g 0) ps ≡ true
  sound ps e = spanning_arborescence g 0 ps (and_left (is_spanning g 0 ps) (leb (total (directed g 0) ps) limit) e)

  passes : (ps : List ℕ) → test_of ps ≡ true → WithinLarger g b ps
  passes ps e =
      in_words ps
      (record {
        spans = listed_spans g 0 ps (and_left (is_spanning g 0 ps) (leb (total (directed g 0) ps) limit) e);
        most = leb-true (total (directed g 0) ps) limit (and_right (is_spanning g 0 ps) (leb (total (directed g 0) ps) limit) e);
      })

  to_pass : (ps : List ℕ) → WithinLarger g b ps → test_of ps ≡ true
  to_pass ps w =
      and_both (is_spanning g 0 ps) (leb (total (directed g 0) ps) limit) (spans_listed g 0 ps w.spans) (le-leb (total (directed g 0) ps) limit (as_listed ps w).most)

  -- THE CODES
  abbrev used : List ℕ → Bool
  used ps = joins ps i j

  abbrev code : (some all : Bool) → ℕ
  code u w = cond u (cond w 3 2) 1

  code_range : (u w : Bool) → (1 ≤ code u w) × (code u w ≤ 3)
  code_range false w = (omega arith, omega arith)
  code_range true true = (omega arith, omega arith)
  code_range true false = (omega arith, omega arith)

  code_1 : (u w : Bool) → code u w ≡ 1 → u ≡ false
  code_1 false w e = refl
  code_1 true true e = absurd (omega (arith, e))
  code_1 true false e = absurd (omega (arith, e))

  code_2 : (u w : Bool) → code u w ≡ 2 → (u ≡ true) × (w ≡ false)
  code_2 true false e = (refl, refl)
  code_2 true true e = absurd (omega (arith, e))
  code_2 false w e = absurd (omega (arith, e))

  code_3 : (u w : Bool) → code u w ≡ 3 → (u ≡ true) × (w ≡ true)
  code_3 true true e = (refl, refl)
  code_3 true false e = absurd (omega (arith, e))
  code_3 false w e = absurd (omega (arith, e))

  abbrev one_does : Bool
  one_does = any_of used (spanning_within g 0 b)

  abbrev all_do : Bool
  all_do = all_of used (spanning_within g 0 b)

  code_is : is_edge g i j ≡ true → edge_state g 0 b i j ≡ code one_does all_do
  unfolding edge_state edge_state_over
  code_is e = rw e

  one_joins : one_does ≡ true → (ps : List ℕ) × WithinLarger g b ps × (joins ps i j ≡ true)
  unfolding spanning_within
  one_joins e = let x = (any_selected (directed g 0) test_of sound used).0 e in (x.0, passes x.0 x.1, x.2)

  one_lacks : all_do ≡ false → (ps : List ℕ) × WithinLarger g b ps × (joins ps i j ≡ false)
  unfolding spanning_within
  one_lacks e = let x = one_fails (directed g 0) test_of sound used e in (x.0, passes x.0 x.1, x.2)

  none_joins : one_does ≡ false → (ps : List ℕ) → WithinLarger g b ps → joins ps i j ≡ false
  unfolding spanning_within
  none_joins e ps w = none_passes (directed g 0) test_of sound used e ps (to_pass ps w)

  all_join : all_do ≡ true → (ps : List ℕ) → WithinLarger g b ps → joins ps i j ≡ true
  unfolding spanning_within
  all_join e ps w = (all_selected (directed g 0) test_of sound used).0 e ps (to_pass ps w)

  pub code_reads : CodeReads g b i j (edge_state g 0 b i j)
  code_reads =
      record {
        absent = state_absent g 0 b i j;
        present = λ e. rw (code_is e) (code_range one_does all_do);
        excluded = λ e. ((λ x. none_joins (code_1 one_does all_do (sym (code_is e) ∙ x))), (λ h. state_excluded g 0 b i j e (λ qs w. h qs (in_words qs w))));
        optional =
            λ e. (
              (λ x. let c = code_2 one_does all_do (sym (code_is e) ∙ x) in (one_joins c.0, one_lacks c.1)),
              (λ h. state_optional g 0 b i j e h.0.0 (as_listed h.0.0 h.0.1) h.0.2 h.1.0 (as_listed h.1.0 h.1.1) h.1.2),
            );
        mandatory =
            λ e. (
              (λ x. let c = code_3 one_does all_do (sym (code_is e) ∙ x) in let y = one_joins c.0 in ((y.0, y.1), all_join c.1)),
              (λ h. state_mandatory g 0 b i j e h.0.0 (as_listed h.0.0 h.0.1) (λ qs w. h.1 qs (in_words qs w))),
            );
      }
