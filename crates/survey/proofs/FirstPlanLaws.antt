-- From the contract of planning a matrix to the plan that is shown of it. Assumes nothing.
use mathlib.Core.Path.{◌≡◌, refl, sym, ap, ◌∙◌, subst}
use mathlib.Core.Bool.{Bool, true, false, cond}
use mathlib.Core.Option.{some}
use mathlib.Core.List.{List, [], ◌∷◌}
use Prim.Native.Nat.{ℕ, ◌*◌, ◌≤◌, ◌<◌}
use native.Mathlib.Omega.{arith}
use lib.Dec.{leb}
use lib.ListN.{length, set, take, replicate}
use borrow.Author.Tests.{le-leb, lt-leb}
use Rattle.instance.specs.Limits.{max_vertices, no_parent, cut_words}
use Rattle.instance.specs.Instance.{Instance}
use Rattle.instance.specs.Arborescence.{is_arborescence, total}
use Rattle.instance.specs.Candidates.{cheapest, first_tree}
use Rattle.instance.specs.Cuts.{Cut, cuts_in, pair_words, words_of, values, Proves}
use Rattle.instance.specs.Matrix.{matrix_instance, unmarked}
use Rattle.instance.specs.declared.Outcome.{Outcome}
use Rattle.instance.specs.declared.Outcome.TheVariants.{Plan, Over, NoTree}
use Rattle.instance.specs.States.{outcome_at, outcome}
use Rattle.base.proofs.BoolLaws.{is_false}
use Rattle.base.proofs.PartLaws.{drop_replicate, take_replicate}
use Rattle.instance.proofs.CutLaws.{cuts_length}
use Rattle.theory.proofs.SameArcs.{SameArcs, same_back, same_proves, same_no_entry, same_cheapest}
use Rattle.theory.proofs.MatrixInstances.{matrix_instance_same}
use Rattle.theory.proofs.Duality.{no_entry}
use Rattle.theory.proofs.FirstLaws.{first_none, first_budget}
use Rattle.theory.proofs.Optimality.{proved_cheapest, shut_outcome}
use Rattle.edmonds.specs.declared.Planned.{Planned}
use Rattle.edmonds.specs.Planned.{PlannedMatrix, NonePlanned}
use Rattle.survey.specs.FirstPlan.{CutsShown, PlansFirst}
use Rattle.survey.proofs.WordLaws.{words_again}

-- WHAT THE TEST OF THE TOTAL TELLS
module _ (v b : ℕ) where
  pub plan_at : v ≤ b → outcome_at b (some v) ≡ Plan v
  unfolding outcome_at
  plan_at h = rw (le-leb v b h)

  pub over_at : b < v → outcome_at b (some v) ≡ Over v
  unfolding outcome_at
  over_at h = rw (lt-leb v b h)

  -- cuts are shown with a total alike, within the budget or over it
  cuts-at : (s : Instance) (cs : List Cut) → Proves s cs v → CutsShown (outcome_at b (some v)) s cs
  unfolding outcome_at CutsShown
  cuts-at s cs p = go (leb v b)
    where
      go : (t : Bool) → CutsShown (cond t (Plan v) (Over v)) s cs
      go true = p
      go false = p

-- WHAT A PLANNING OF THE MATRIX TELLS, of the instance that the matrix is with a budget
module _ (n root budget : ℕ) (m : List ℕ) where
  abbrev s : Instance
  s = matrix_instance n root budget m

  abbrev left : Instance
  left = unmarked n root m

  to : SameArcs left s
  to = same_back s left (matrix_instance_same n root budget m)

  -- no arborescence
  pub none_plan : (set₀ : ℕ) → n ≤ max_vertices → NonePlanned m n root set₀ →
      PlansFirst (matrix_instance n root budget m) (record { outcome = NoTree; parents = replicate max_vertices no_parent; pairs = 1; cuts = set (replicate cut_words 0) 0 set₀ })
  unfolding CutsShown words_of pair_words
  none_plan set₀ small p =
      let x : Cut = record { set = set₀; value = 0 } in
      let e = same_no_entry left s to x p in
      let is : outcome s ≡ NoTree = shut_outcome s x e in
      record {
        result = sym is;
        places = refl;
        parents_found = take_replicate n max_vertices no_parent small ∙ sym (first_none s (λ qs. is_false (is_arborescence s qs) (λ a. no_entry s qs a x e)));
        cut_list = x ∷ [];
        counted = refl;
        cuts_found = rw is (x, refl, e);
        words = refl;
      }

  -- an arborescence
  module _ (small : n ≤ max_vertices) (reduced words : List ℕ) (r : Planned) (p : PlannedMatrix m reduced n root (replicate cut_words 0) words r) where
    abbrev ps : List ℕ
    ps = take n r.parents

    abbrev cs : List Cut
    cs = cuts_in r.count words

    tree : is_arborescence left ps ≡ true
    tree = p.minimum.arborescence

    adds : values cs ≡ total left ps
    adds = p.minimum.proved.adds

    proves : Proves s cs r.total
    proves = same_proves left s to cs r.total (subst (λ (v : ℕ). Proves left cs v) (sym p.is_total) p.minimum.proved)

    cut_count : length cs ≡ r.count
    unfolding cuts_in
    cut_count = cuts_length r.count 0 words

    found_words : words ≡ words_of cs
    found_words =
        words_again r.count words (omega (arith, proves.few, cut_count, p.cuts_size))
        (p.rest ∙ drop_replicate (2 * r.count) cut_words 0)

    pub found_cheapest : cheapest (matrix_instance n root budget m) ≡ some r.total
    found_cheapest = sym (same_cheapest left s to) ∙ proved_cheapest left ps cs tree p.minimum.proved.feasible adds ∙ ap some (sym p.is_total)

    found_outcome : outcome s ≡ outcome_at budget (some r.total)
    unfolding outcome
    found_outcome = ap (outcome_at budget) found_cheapest

    -- an arborescence: the first one and the cuts are shown, within the budget or over it
    pub found_plan : (first : List ℕ) (o : Outcome) → length first ≡ max_vertices → take n first ≡ first_tree (unmarked n root m) → o ≡ outcome_at budget (some r.total) →
        PlansFirst (matrix_instance n root budget m) (record { outcome = o; parents = first; pairs = r.count; cuts = words })
    unfolding unmarked
    found_plan first o size is q =
        record {
          result = q ∙ sym found_outcome;
          places = size;
          parents_found = is ∙ sym (first_budget budget left);
          cut_list = cs;
          counted = sym cut_count;
          cuts_found = rw found_outcome (cuts-at r.total budget s cs proves);
          words = found_words;
        }
