-- "Accepted means" (02, A6), read as statements about all remaining arcs, where `certificate_refusal` computes. The
-- theorem that the two agree is in proofs/. Assumes nothing: these are definitions.
use Rattle.std.specs.Prelude.{◌≡◌, true, List, ℕ, ◌*◌, ◌≤◌, length, take}
use Rattle.instance.specs.Limits.{max_cuts}
use Rattle.instance.specs.Instance.{Instance}
use Rattle.instance.specs.Arborescence.{is_arborescence, total}
use Rattle.instance.specs.Cuts.{cuts_in, values, Feasible}

pub record Accepted (s : Instance) (parents : List ℕ) (v count : ℕ) (words : List ℕ) : Type 0 where
  pub parents_sent : s.n ≤ length parents
  pub words_sent : 2 * count ≤ length words
  pub arborescence : is_arborescence s (take s.n parents) ≡ true
  pub costs : total s (take s.n parents) ≡ v
  pub few : count ≤ max_cuts
  pub feasible : Feasible s (cuts_in count words)
  pub adds : values (cuts_in count words) ≡ v
