-- A row is written in four steps: its label and number, a space, its states and the line feed. The rows go by the first
-- n times n states, whatever the list holds behind them, and how long they are is known where each state is one digit.
-- Assumes nothing.
use mathlib.Core.Path.{◌≡◌, refl, sym, ap, ◌∙◌}
use mathlib.Core.List.{List, [], ◌∷◌, ◌++◌}
use Prim.Native.Nat.{ℕ, zero, suc, ◌+◌, ◌*◌, ◌≤◌, ◌<◌}
use native.Mathlib.Omega.{arith}
use native.Mathlib.Nat.{suc-mul, mul-le-mul, mul-le-mul_right}
use lib.ListN.{length, get_or, set, take, length-append}
use lib.Seq.{get_or-take}
use Rattle.base.specs.Lists.{join_below}
use Rattle.base.specs.Bounded.{sum_below}
use Rattle.base.proofs.BoundedLaws.{sum_mono, sum_eq}
use Rattle.base.proofs.SumLaws.{sum_longer}
use Rattle.base.proofs.JoinLaws.{join_same, join_length}
use Rattle.instance.specs.Limits.{max_vertices, cells}
use Rattle.text.specs.Decimal.{decimal_in, decimal}
use Rattle.text.specs.Lines.{codes, space, line_feed, labelled}
use Rattle.text.specs.Buffer.{Room, Puts}
use Rattle.text.proofs.DecimalLaws.{length_few}
use Rattle.text.proofs.LineLaws.{labelled_length}
use Rattle.text.proofs.BufferLaws.{room_first, byte_room, puts_room, puts_byte, puts_then}
use Rattle.report_text.specs.Rows.{row_states, row_line, row_lines}

-- the states of a row are among the n times n
pub row_in : (n t : ℕ) → t < n → t * n + n ≤ n * n
row_in n t h = let e = suc-mul t n in let l = mul-le-mul_right n h in omega arith

pub row_start : (n t : ℕ) → n ≤ max_vertices → t < n → t * n ≤ cells
row_start n t b h = let l = row_in n t h in let m = mul-le-mul b b in omega arith

-- FOUR STEPS
module _ (ss : List ℕ) (n t : ℕ) {old : List ℕ} {at : ℕ} (room : Room (row_line ss n t) old at) where
  with_states : Room (labelled (codes "row ") t ++ (space ∷ []) ++ row_states ss n t) old at
  unfolding row_line
  with_states = room_first (line_feed ∷ []) room

  with_space : Room (labelled (codes "row ") t ++ (space ∷ [])) old at
  with_space = room_first (row_states ss n t) with_states

  pub row_room : Room (labelled (codes "row ") t) old at
  row_room = room_first (space ∷ []) with_space

  module _ {mid : List ℕ} {m : ℕ} (a : Puts (labelled (codes "row ") t) old mid at m) where
    pub space_room : m < length mid
    space_room = byte_room a space with_space

    spaced : Puts (labelled (codes "row ") t ++ (space ∷ [])) old (set mid m space) at (m + 1)
    spaced = puts_byte a space with_space

    pub states_room : Room (row_states ss n t) (set mid m space) (m + 1)
    states_room = puts_room spaced (row_states ss n t) with_states

    module _ {last : List ℕ} {r : ℕ} (b : Puts (row_states ss n t) (set mid m space) last (m + 1) r) where
      pub end_room : r < length last
      unfolding row_line
      end_room = byte_room (puts_then spaced with_states b) line_feed room

      pub row_put : Puts (row_line ss n t) old (set last r line_feed) at (r + 1)
      unfolding row_line
      row_put = puts_byte (puts_then spaced with_states b) line_feed room

-- THE FIRST n TIMES n STATES
pub rows_same : (ss : List ℕ) (n : ℕ) → row_lines ss n ≡ row_lines (take (n * n) ss) n
unfolding row_lines row_line
rows_same ss n = join_same n (row_line ss n) (row_line (take (n * n) ss) n) (λ t l. rw (row t l))
  where
    row : (t : ℕ) → t < n → row_states ss n t ≡ row_states (take (n * n) ss) n t
    row t l =
        join_same n (λ h. decimal (get_or ss (t * n + h) 0)) (λ h. decimal (get_or (take (n * n) ss) (t * n + h) 0))
        (λ h m. let b = row_in n t l in let i : t * n + h < n * n = omega arith in ap decimal (sym (get_or-take (n * n) ss (t * n + h) 0 i)))

-- LENGTHS, where each state is one digit
abbrev pub Digits : (states : List ℕ) → (n : ℕ) → Type 0
Digits ss n = (t h : ℕ) → t < n → h < n → get_or ss (t * n + h) 0 < 10

states_length : (n k : ℕ) (f : ℕ → ℕ) → k ≤ n → ((h : ℕ) → h < n → f h < 10) → length (join_below k (λ h. decimal (f h))) ≡ k
unfolding join_below
states_length n zero f b d = refl
states_length n (suc k) f b d =
    let e = length-append (join_below k (λ h. decimal (f h))) (decimal (f k)) in
    let o = length_few (f k) (d k (omega arith)) in
    let r = states_length n k f (omega arith) d in
    omega arith

abbrev row_most : ℕ → ℕ
row_most t = 38 + length (decimal t)

rows_most : sum_below max_vertices row_most ≡ 1270
unfolding sum_below decimal decimal_in
rows_most = refl

module _ (ss : List ℕ) (n : ℕ) (d : Digits ss n) where
  row_length : (t : ℕ) → t < n → length (row_line ss n t) ≡ 6 + n + length (decimal t)
  unfolding row_line codes
  row_length t ht =
      let e = length-append (labelled (codes "row ") t ++ (space ∷ []) ++ row_states ss n t) (line_feed ∷ []) in
      let f = length-append (labelled (codes "row ") t ++ (space ∷ [])) (row_states ss n t) in
      let g = length-append (labelled (codes "row ") t) ((space ∷ [])) in
      let k = states_length n n (λ h. get_or ss (t * n + h) 0) (omega arith) (λ h l. d t h ht l) in
      omega (arith, labelled_length (codes "row ") t)

  pub rows_length : n ≤ max_vertices → length (row_lines ss n) ≤ 1270
  unfolding row_lines
  rows_length small =
      let j = join_length (row_line ss n) n in
      let s = sum_mono n (λ t. length (row_line ss n t)) row_most (λ t h. let e = row_length t h in omega arith) in
      let l = sum_longer row_most n max_vertices small in
      omega (arith, rows_most)

-- with 32 vertices they are as long as they can be
pub rows_longest : (ss : List ℕ) → Digits ss max_vertices → length (row_lines ss max_vertices) ≡ 1270
unfolding row_lines
rows_longest ss d =
    join_length (row_line ss max_vertices) max_vertices
    ∙ sum_eq max_vertices (λ t. length (row_line ss max_vertices t)) row_most (row_length ss max_vertices d) ∙ rows_most
