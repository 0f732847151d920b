-- Arborescences of groups, with the cuts that prove them by complementary slackness: every chosen arc has reduced cost
-- 0, and exactly one chosen arc enters each cut. There is no sum here: the totals are added up once, at the end.
-- Assumes nothing: these are definitions.
use Rattle.std.specs.Prelude.{◌≡◌, true, false, List, [], ◌∷◌, ◌≢◌, ℕ, ◌^◌, ◌≤◌, ◌<◌}
use Rattle.instance.specs.Cuts.{Cut, inside, enters}

pub data Each (P : Cut → Type 0) : List Cut → Type 0 where
  none_left : Each P []
  more : {c : Cut} {cs : List Cut} → P c → Each P cs → Each P (c ∷ cs)

-- Chosen arcs are given by their heads: a vertex v has one, from parent v, where parent v < n.

-- group g is reached from the root's by chosen arcs
pub data Reached (n root : ℕ) (label parent : ℕ → ℕ) : ℕ → Type 0 where
  here : {g : ℕ} → g ≡ label root → Reached n root label parent g
  step : {g : ℕ} (v : ℕ) → v < n → label v ≡ g → parent v < n → Reached n root label parent (label (parent v)) → Reached n root label parent g

-- exactly one chosen arc enters the cut
pub record Once (n : ℕ) (parent : ℕ → ℕ) (c : Cut) : Type 0 where
  pub at : ℕ
  pub below : at < n
  pub has : parent at < n
  pub into : enters c.set (parent at) at ≡ true
  pub only : (v : ℕ) → v < n → parent v < n → enters c.set (parent v) v ≡ true → v ≡ at

-- a cut is a union of groups
abbrev pub Union : (n : ℕ) (label : ℕ → ℕ) → Cut → Type 0
Union n label c = (u v : ℕ) → u < n → v < n → label u ≡ label v → inside c.set u ≡ inside c.set v

-- An arborescence of the groups; w are the reduced costs that the cuts leave.
pub record Tree (n root : ℕ) (w : ℕ → ℕ → ℕ) (label : ℕ → ℕ) (cs : List Cut) (parent : ℕ → ℕ) : Type 0 where
  pub tight : (v : ℕ) → v < n → parent v < n → w (parent v) v ≡ 0
  pub between : (v : ℕ) → v < n → parent v < n → label (parent v) ≢ label v
  pub no_root : (v : ℕ) → v < n → parent v < n → label v ≢ label root
  pub only : (u v : ℕ) → u < n → v < n → parent u < n → parent v < n → label u ≡ label v → u ≡ v
  pub reached : (v : ℕ) → v < n → Reached n root label parent (label v)
  pub once : Each (Once n parent) cs
  pub unions : Each (Union n label) cs

-- a non-empty set of vertices without the root
pub record Proper (n root set : ℕ) : Type 0 where
  pub some : 0 < set
  pub below : set < 2 ^ n
  pub no_root : inside set root ≡ false

-- a cut that may be given: its value is at least 1
pub record ProperCut (n root : ℕ) (c : Cut) : Type 0 where
  pub proper : Proper n root c.set
  pub value : 1 ≤ c.value
