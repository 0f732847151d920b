-- How long the words of the cuts are that are shown: 122. Assumes nothing.
use mathlib.Core.Path.{◌≡◌, refl, ap, ◌∙◌}
use mathlib.Core.List.{List, [], ◌∷◌}
use Prim.Native.Nat.{ℕ, ◌*◌, ◌-◌, ◌≤◌}
use native.Mathlib.Omega.{arith}
use lib.ListN.{length, replicate, length-append, length-replicate}
use Rattle.instance.specs.Limits.{max_vertices, cut_words}
use Rattle.instance.specs.Instance.{Instance}
use Rattle.instance.specs.Cuts.{Cut, pair_words, words_of}
use Rattle.instance.specs.declared.Outcome.{Outcome}
use Rattle.instance.specs.declared.Outcome.TheVariants.{Plan, Over, NoTree}
use Rattle.survey.specs.FirstPlan.{CutsShown}

few_cuts : (o : Outcome) (s : Instance) (cs : List Cut) → s.n ≤ max_vertices → CutsShown o s cs → 2 * length cs ≤ cut_words
unfolding CutsShown
few_cuts (Plan v) s cs h p = omega (arith, p.few)
few_cuts (Over v) s cs h p = omega (arith, p.few)
few_cuts NoTree s cs h p = omega (arith, ap length p.1)

length_pairs : (cs : List Cut) → length (pair_words cs) ≡ 2 * length cs
unfolding pair_words
length_pairs [] = refl
length_pairs (c ∷ cs) = let n = length_pairs cs in omega arith

pub words_length : (o : Outcome) (s : Instance) (cs : List Cut) → s.n ≤ max_vertices → CutsShown o s cs → length (words_of cs) ≡ cut_words
unfolding words_of
words_length o s cs h p =
    let few = few_cuts o s cs h p in
    length-append (pair_words cs) (replicate (cut_words - 2 * length cs) 0) ∙ rw (length_pairs cs, length-replicate {A = ℕ} (cut_words - 2 * length cs) 0) (omega arith)
