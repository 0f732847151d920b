-- The plan alone, with no usable arcs: its outcome, its first tree and cuts. Free as in Survey: which cuts and how
-- many, which set that no arc enters. Assumes nothing: these are definitions.
use Rattle.std.specs.Prelude.{◌≡◌, List, [], ◌∷◌, length, take}
use Rattle.instance.specs.Limits.{max_vertices}
use Rattle.instance.specs.Instance.{Instance}
use Rattle.instance.specs.Candidates.{first_tree}
use Rattle.instance.specs.Cuts.{Cut, words_of, Proves, NoEntry}
use Rattle.instance.specs.declared.Outcome.{Outcome}
use Rattle.instance.specs.declared.Outcome.TheVariants.{Plan, Over, NoTree}
use Rattle.instance.specs.States.{outcome}
use Rattle.survey.specs.declared.first_plan.FirstPlan.{FirstPlan}

-- cuts that prove the cheapest total; or "exactly one pair": the set that no remaining arc enters
unfoldable pub CutsShown : Outcome → Instance → List Cut → Type 0
CutsShown (Plan v) s cs = Proves s cs v
CutsShown (Over v) s cs = Proves s cs v
CutsShown NoTree s cs = (c : Cut) × (cs ≡ c ∷ []) × NoEntry s c

pub record PlansFirst (s : Instance) (r : FirstPlan) : Type 0 where
  pub result : r.outcome ≡ outcome s
  pub places : length r.parents ≡ max_vertices
  pub parents_found : take s.n r.parents ≡ first_tree s
  pub cut_list : List Cut
  pub counted : r.pairs ≡ length cut_list
  pub cuts_found : CutsShown (outcome s) s cut_list
  pub words : r.cuts ≡ words_of cut_list
