-- THE CONTRACT OF `plan_matrix`: what planning a weight matrix gives, by the definitions of crate instance. Assumes
-- nothing: these are definitions.
use Rattle.std.specs.Prelude.{◌≡◌, true, cond, List, ℕ, ◌*◌, ◌/◌, ◌%◌, ◌≤◌, length, take, drop}
use Rattle.base.specs.Lists.{tabulate}
use Rattle.instance.specs.Limits.{max_vertices, cells, cut_limit, cut_words}
use Rattle.instance.specs.Instance.{Instance, weight_at}
use Rattle.instance.specs.Arborescence.{remaining, is_arborescence, total}
use Rattle.instance.specs.Cuts.{Cut, cuts_in, Proves, reduced_cost, NoEntry}
use Rattle.instance.specs.Matrix.{unmarked}
use Rattle.edmonds.specs.declared.Planned.{Planned}

-- the matrix with the reduced cost of each remaining arc, and the other cells as they are
unfoldable pub reduced_matrix : Instance → List Cut → List ℕ
reduced_matrix s cs = tabulate cells (λ i. cond (remaining s (i / 32) (i % 32)) (reduced_cost s cs (i / 32) (i % 32)) (weight_at s i))

-- An arborescence, with cuts that prove its total: no arborescence has a smaller one.
pub record Minimum (s : Instance) (parents : List ℕ) (cs : List Cut) : Type 0 where
  pub arborescence : is_arborescence s parents ≡ true
  pub proved : Proves s cs (total s parents)

-- THE RESULT where there is an arborescence: the tree with its total, which the cuts' values add to. ws and cuts are
-- the matrix and the buffer of cuts as they come, ws' and cuts' as they are left.
pub record PlannedMatrix (ws ws' : List ℕ) (n root : ℕ) (cuts cuts' : List ℕ) (r : Planned) : Type 0 where
  pub matrix_size : length ws' ≡ cells
  pub cuts_size : length cuts' ≡ cut_words
  pub parents_size : length r.parents ≡ max_vertices
  pub few : r.count ≤ cut_limit n
  pub minimum : Minimum (unmarked n root ws) (take n r.parents) (cuts_in r.count cuts')
  pub is_total : r.total ≡ total (unmarked n root ws) (take n r.parents)
  pub reduced : ws' ≡ reduced_matrix (unmarked n root ws) (cuts_in r.count cuts')
  pub rest : drop (2 * r.count) cuts' ≡ drop (2 * r.count) cuts

-- THE RESULT where there is none: a set that no arc enters
abbrev pub NonePlanned : (ws : List ℕ) (n root set : ℕ) → Type 0
NonePlanned ws n root set = NoEntry (unmarked n root ws) (record { set = set; value = 0 })
