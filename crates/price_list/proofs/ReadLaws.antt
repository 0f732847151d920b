-- Laws of reading a list into a table, line by line, and of the dense copy of the table. Assumes nothing.
use mathlib.Core.Path.{◌≡◌, refl, sym, ap, ◌∙◌}
use mathlib.Core.List.{List, [], ◌∷◌}
use Prim.Native.Nat.{ℕ, ◌+◌, ◌*◌, ◌/◌, ◌%◌, ◌≤◌, ◌<◌}
use native.Mathlib.Omega.{arith}
use lib.ListN.{length, drop, length-drop}
use borrow.Author.Tests.{eq-eqb, ne_eqb}
use Rattle.std.specs.Prelude.{Result, Ok, Err}
use Rattle.base.specs.Lists.{in_front}
use Rattle.base.proofs.ListLaws.{tabulate_same}
use Rattle.base.proofs.GridLaws.{grid_row, grid_column}
use Rattle.instance.specs.Limits.{max_vertices}
use Rattle.instance.specs.RefusalNumbers.{refusal_number, answer_of}
use Rattle.instance.specs.declared.refusals.Refusal.{Refusal}
use Rattle.price_format.specs.Lines.{Line, first_line}
use Rattle.price_format.specs.Reading.{prices_of, line_refusal, read_lines, read_list, room_refusal}
use Rattle.price_format.proofs.ReadingLaws.{accepted_line, Sound, none, more, read_ends, read_accepts, read_refuses}
use Rattle.price_list.specs.Lines.{TableOf, TakesLine}
use Rattle.price_list.specs.Reads.{PricesRead, dense, ReadsTable, read_result, Reads}
use Rattle.instance.proofs.RefusalLaws.{not_0}
use Rattle.price_list.proofs.LineLaws.{judges_at, table_more}

-- HOW FAR A LIST IS READ: the lines before a place are in the table, and what follows is read behind them
pub record Reading (text : List ℕ) (n root : ℕ) (table : List ℕ) (at line : ℕ) : Type 0 where
  pub before : List Line
  pub sound : Sound n root before
  pub holds : TableOf before table
  pub left : read_list n root text ≡ read_lines (length (drop at text)) n root before (drop at text)
  pub counted : line ≡ length before
  pub within : at ≤ length text
  pub low : line ≤ at

module _ (text : List ℕ) (n r : ℕ) where
  pub reading_starts : (table : List ℕ) → TableOf [] table → Reading text n r table 0 0
  unfolding read_list
  reading_starts table o = record { before = []; sound = none; holds = o; left = refl; counted = refl; within = omega arith; low = omega arith }

  module _ (small : n ≤ max_vertices) (table : List ℕ) (at line : ℕ) (p : Reading text n r table at line) where
    -- nothing is left
    pub reading_ends : length text ≤ at → ReadsTable text n r table (record { answer = 0; line = 0 })
    reading_ends h =
        let e = p.left ∙ read_ends n r p.before (drop at text) (simp length-drop (omega arith)) in
        record { answer = rw e; line = rw e; holds = rw e p.holds }

    module _ (new : List ℕ) (taken : Result ℕ Refusal) (x : TakesLine text at n r table new taken) (l : at < length text) where
      some : 0 < length (drop at text)
      some = simp length-drop (omega arith)

      judged : answer_of taken ≡ line_refusal n r p.before (drop at text)
      judged = x.answer ∙ judges_at n r p.before table small p.sound p.holds text at

    -- the line is refused
    pub reading_refused : (new : List ℕ) (e : Refusal) → TakesLine text at n r table new (Err e) → at < length text
        → ReadsTable text n r new (record { answer = refusal_number e; line = line + 1 })
    reading_refused new e x l =
        let j = judged new (Err e) x l in
        let f = p.left ∙ read_refuses n r p.before (drop at text) (some new (Err e) x l) (λ q. not_0 e (j ∙ q)) in
        record { answer = rw f j; line = rw f (ap (λ (k : ℕ). k + 1) p.counted); holds = rw (f, x.table) p.holds }

    -- or read
    pub reading_more : (new : List ℕ) (next : ℕ) → TakesLine text at n r table new (Ok next) → at < length text → Reading text n r new next (line + 1)
    reading_more new next x l =
        let f = first_line (drop at text) in
        let q = sym (judged new (Ok next) x l) in
        let a = (accepted_line n r p.before (drop at text) q).1 in
        let w = x.table.forward in
        record {
          before = f ∷ p.before;
          sound = more p.sound a;
          holds = rw x.table.stored (table_more p.before table f p.holds (omega (arith, a.tail)) (omega (arith, a.head)));
          left = p.left ∙ read_accepts n r p.before (drop at text) (some new (Ok next) x l) q ∙ ap (λ (t : List ℕ). read_lines (length t) n r (f ∷ p.before) t) (sym x.table.rest);
          counted = omega (arith, p.counted);
          within = x.table.within;
          low = omega (arith, p.low);
        }

-- THE DENSE COPY of a table of lines has the prices of the lines
pub dense_prices : (n : ℕ) (ls : List Line) (table : List ℕ) → n ≤ max_vertices → TableOf ls table → dense n table ≡ prices_of n ls
unfolding dense prices_of
dense_prices n ls table small o =
    tabulate_same (n * n) _ _ (λ i l. let t = grid_row n i l in let h = grid_column n i l in o.at (i / n) (i % n) (omega arith) (omega arith))

-- THE WHOLE CALL
module _ (text : List ℕ) (n r : ℕ) (old : List ℕ) where
  pub reads_refused : (e : Refusal) → refusal_number e ≡ room_refusal n r (length old) → Reads text n r old old (record { answer = refusal_number e; line = 0 })
  unfolding read_result
  reads_refused e f =
      let z = ne_eqb (refusal_number e) 0 (not_0 e) in
      record { result = rw (← f, z); buffer = rw z }

  module _ (room : 0 ≡ room_refusal n r (length old)) (x : PricesRead) (table : List ℕ) (t : ReadsTable text n r table x) where
    pub reads_faulty : (x.answer ≡ 0 → ⊥) → Reads text n r old old x
    unfolding read_result
    reads_faulty z = record { result = rw (← room, ← t.answer, ← t.line); buffer = rw (ne_eqb x.answer 0 z) }

    pub reads_whole : n ≤ max_vertices → x.answer ≡ 0 → Reads text n r old (in_front (dense n table) old) x
    unfolding read_result
    reads_whole small z =
        record {
          result = rw (← room, ← t.answer, ← t.line);
          buffer = rw (eq-eqb x.answer 0 z, dense_prices n (read_list n r text).lines table small t.holds);
        }
