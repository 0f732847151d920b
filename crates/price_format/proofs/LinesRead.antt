-- Lines that can be accepted one after the other, written one behind the other, are read as these lines. Assumes
-- nothing.
use mathlib.Core.Path.{◌≡◌, sym, ap, ◌∙◌}
use mathlib.Core.Bool.{true}
use mathlib.Core.List.{List, [], ◌∷◌, ◌++◌, append_assoc, append-nil}
use Prim.Native.Nat.{ℕ, ◌+◌, ◌^◌, ◌≤◌, ◌<◌}
use native.Mathlib.Omega.{arith}
use lib.ListN.{length}
use Rattle.instance.specs.Limits.{max_vertices}
use Rattle.price_format.specs.Lines.{Line, has_line, first_line, after_line, line_text}
use Rattle.price_format.specs.Reading.{line_refusal, read_lines, read_list, lines_text}
use Rattle.price_format.proofs.LineLaws.{written_line, written_first, written_after, line_shorter}
use Rattle.price_format.proofs.ReadingLaws.{Accepted, numbers_accepted, Sound, more, most_same, read_accepts}

module _ (n r : ℕ) (small : n ≤ max_vertices) where
  -- one line
  module _ (before : List Line) (l : Line) (a : Accepted n r before l) (rest : List ℕ) where
    abbrev ahead : List ℕ
    ahead = line_text l.tail l.head l.weight ++ rest

    low_tail : l.tail < 10 ^ 10
    low_tail = omega (arith, a.tail)

    low_head : l.head < 10 ^ 10
    low_head = omega (arith, a.head)

    low_weight : l.weight < 10 ^ 10
    low_weight = omega (arith, a.weight)

    there : has_line ahead ≡ true
    there = written_line l.tail l.head l.weight rest low_tail low_head low_weight

    its_line : first_line ahead ≡ l
    its_line = written_first l.tail l.head l.weight rest low_tail low_head low_weight

    its_rest : after_line ahead ≡ rest
    its_rest = written_after l.tail l.head l.weight rest low_tail low_head low_weight

    no_fault : line_refusal n r before ahead ≡ 0
    unfolding line_refusal
    no_fault = rw (there, its_line) (numbers_accepted n r before l a)

    line_taken : (k j : ℕ) → length ahead ≤ k → length rest ≤ j → read_lines k n r before ahead ≡ read_lines j n r (l ∷ before) rest
    line_taken k j h g =
        let s = line_shorter ahead there in
        most_same k (length ahead) n r before ahead h (omega arith) ∙ read_accepts n r before ahead (omega arith) no_fault
        ∙ rw (its_line, its_rest) (most_same (length rest) j n r (l ∷ before) rest (omega arith) g)

  -- several, then what follows
  pub lines_taken : (ls : List Line) (rest : List ℕ) (k j : ℕ) → Sound n r ls → length (lines_text ls ++ rest) ≤ k → length rest ≤ j
      → read_lines k n r [] (lines_text ls ++ rest) ≡ read_lines j n r ls rest
  unfolding lines_text
  lines_taken [] rest k j s h g = most_same k j n r [] rest h g
  lines_taken (l ∷ ls) rest k j (more s a) h g =
      let t = line_text l.tail l.head l.weight in
      let e = append_assoc (lines_text ls) t rest in
      let m : length (lines_text ls ++ (t ++ rest)) ≤ k = rw (← e) h in
      rw e (lines_taken ls (t ++ rest) k (length (t ++ rest)) s m (omega arith) ∙ line_taken ls l a rest (length (t ++ rest)) j (omega arith) g)

  -- THE LAW
  pub lines_read : (ls : List Line) → Sound n r ls → read_list n r (lines_text ls) ≡ record { answer = 0; line = 0; lines = ls }
  unfolding read_list read_lines
  lines_read ls s =
      let e = append-nil (lines_text ls) in
      ap (λ (t : List ℕ). read_lines (length t) n r [] t) (sym e) ∙ lines_taken ls [] (length (lines_text ls ++ [])) 0 s (omega arith) (omega arith)
