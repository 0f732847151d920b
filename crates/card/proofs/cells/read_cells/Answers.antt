-- `read_cells` meets its contract. The loop's invariant is `Reading`, below. Assumes nothing.
use mathlib.Core.Path.{refl, ◌≡◌, ◌∙◌, sym}
use mathlib.Core.Bool.{cond}
use mathlib.Core.List.{List}
use Prim.Native.Nat.{ℕ, ◌+◌, ◌-◌}
use native.Mathlib.Omega.{arith}
use native.Mathlib.Nat.{add-zero}
use lib.ListN.{drop, replicate, length-set, length-replicate}
use Rattle.base.specs.Lists.{tabulate}
use Rattle.base.proofs.ListLaws.{tabulate_none, tabulate_store, tabulate_whole}
use Rattle.bits.specs.Bits.{bits_in, field}
use Rattle.bits.proofs.FieldLaws.{field_drop}
use Rattle.instance.specs.Limits.{no_arc, free, cells}
use Rattle.instance.specs.RefusalNumbers.{refusal_number}
use Rattle.card_format.specs.Widths.{weight_width, mark_width}
use Rattle.card_format.specs.Card.{on_card, cell_refusal, cells_refusal}
use Rattle.card_format.specs.Offsets.{offset, cell_field, weight_field, mark_field}
use Rattle.card_format.proofs.OffsetLaws.{offset_start, offset_next, offset_up, offset_within}
use Rattle.card_format.proofs.CellLaws.{fields_by_index, judged_none, judged_faulty, judged_next}
use Rattle.card.specs.Cells.{CellRead}
use Rattle.card.specs.declared.cells.Cell.{Cell}
use Rattle.instance.proofs.RefusalLaws.{not_0}
use Rattle.std.proofs.lemmas.Result.{err_from_is_err_and}
use Rattle.card.proofs.cells.read_cells.Goals as goal
use Rattle.card.proofs.cells.read_cells.Invariants.{weight_of, mark_of}

-- a field of the cell that begins at its offset behind the start
here_field : (bs : List ℕ) (start n r i a w o at : ℕ) → at ≡ start + offset n r i →
    cond (on_card n r i) (field (at + a) w bs) o ≡ cell_field n r a w o (drop start bs) i
unfolding cell_field
here_field bs start n r i a w o at e =
    let f = field_drop start (offset n r i + a) w bs in
    let p : start + (offset n r i + a) ≡ at + a = omega arith in
    rw (f, p)

module _ (bs : List ℕ) (start n r i at : ℕ) (x : Cell) (k : CellRead bs n r i at x) (e : at ≡ start + offset n r i) where
  weight-here : x.weight ≡ weight_field n r (drop start bs) i
  weight-here =
      let f = here_field bs start n r i 0 weight_width no_arc at e in
      k.its_weight ∙ rw (add-zero at) at f

  mark_here : x.mark ≡ mark_field n r (drop start bs) i
  mark_here = k.its_mark ∙ here_field bs start n r i weight_width mark_width free at e

pub loop-i-init : goal.loop-i-init
unfolding tabulate
loop-i-init c =
    record {
      i-in = omega arith;
      here = rw (offset_start c.args.n c.args.root);
      weights_long = length-replicate {A = ℕ} cells no_arc;
      marks_long = length-replicate {A = ℕ} cells free;
      weights-so-far = tabulate_none (replicate cells no_arc) _;
      marks-so-far = tabulate_none (replicate cells free) _;
      judged_so_far = refl;
    }

pub read_cell-cell-requires : goal.read_cell-cell-requires
read_cell-cell-requires c =
    let l = c.loop-i in
    let a = c.args in
    let here = l.invariant.here in
    let within = offset_up a.n a.root l.i cells (omega arith) in (
      omega arith,
      omega (arith, c.requires),
      λ t. let w = offset_within a.n a.root l.i cells (omega arith) t in omega (arith, c.requires),
    )

pub returns-in_err-judge_cell : goal.returns-in_err-judge_cell
returns-in_err-judge_cell c =
    let l = c.loop-i in
    let a = c.args in
    let bs = drop a.start (bits_in a.card.now) in
    let f = weight_of a.card.now a.start a.n a.root in
    let g = mark_of a.card.now a.start a.n a.root in
    let k = c.read_cell-cell.ensures in
    let w = weight-here (bits_in a.card.now) a.start a.n a.root l.i l.end _ k l.invariant.here in
    let m = mark_here (bits_in a.card.now) a.start a.n a.root l.i l.end _ k l.invariant.here in
    let r = c.in_err-judge_cell.field-0.0 in
    let e : refusal_number r ≡ cell_refusal (f l.i) (g l.i) = c.in_err-judge_cell.ensures ∙ rw (w, m) in
    let z = judged_faulty (cells - l.i) l.i f g (omega arith) (λ q. not_0 r (e ∙ q)) in
    let p = err_from_is_err_and c.from_residual.result c.from_residual.ensures.1 in
    rw (p.1, p.2) (record {
      judged = e ∙ sym (rw (fields_by_index 0 weight_width no_arc a.n a.root bs, fields_by_index weight_width mark_width free a.n a.root bs) (l.invariant.judged_so_far ∙ z));
      all_weights = tt;
      all_marks = tt;
      last_end = tt;
    })

pub loop-i-preserved : goal.loop-i-preserved
loop-i-preserved c =
    let l = c.loop-i in
    let a = c.args in
    let f = weight_of a.card.now a.start a.n a.root in
    let g = mark_of a.card.now a.start a.n a.root in
    let k = c.read_cell-cell.ensures in
    let w = weight-here (bits_in a.card.now) a.start a.n a.root l.i l.end _ k l.invariant.here in
    let m = mark_here (bits_in a.card.now) a.start a.n a.root l.i l.end _ k l.invariant.here in
    let e : 0 ≡ cell_refusal (f l.i) (g l.i) = c.in_ok-judge_cell.ensures ∙ rw (w, m) in
    let s : cells - l.i - 1 ≡ cells - (l.i + 1) = omega arith in
    record {
      i-in = omega arith;
      here = k.its_end ∙ rw (offset_next a.n a.root l.i) (omega (arith, l.invariant.here));
      weights_long = simp length-set l.invariant.weights_long;
      marks_long = simp length-set l.invariant.marks_long;
      weights-so-far = tabulate_store l.weights l.i f _ (omega arith) l.invariant.weights-so-far w;
      marks-so-far = tabulate_store l.marks l.i g _ (omega arith) l.invariant.marks-so-far m;
      judged_so_far = l.invariant.judged_so_far ∙ rw s at (judged_next (cells - l.i) l.i f g (omega arith) (sym e));
    }

pub returns : goal.returns
returns c =
    let l = c.loop-i in
    let a = c.args in
    let bs = drop a.start (bits_in a.card.now) in
    let f = weight_of a.card.now a.start a.n a.root in
    let g = mark_of a.card.now a.start a.n a.root in
    let z : l.i ≡ cells = omega arith in
    let y : cells - l.i ≡ 0 = omega arith in
    let none : cells_refusal (tabulate cells f) (tabulate cells g) ≡ 0 = l.invariant.judged_so_far ∙ rw y (judged_none l.i f g) in
    record {
      judged = sym (rw (fields_by_index 0 weight_width no_arc a.n a.root bs, fields_by_index weight_width mark_width free a.n a.root bs) none);
      all_weights = tabulate_whole l.weights cells l.i f l.invariant.weights_long z l.invariant.weights-so-far ∙ sym (fields_by_index 0 weight_width no_arc a.n a.root bs);
      all_marks = tabulate_whole l.marks cells l.i g l.invariant.marks_long z l.invariant.marks-so-far ∙ sym (fields_by_index weight_width mark_width free a.n a.root bs);
      last_end = rw z at l.invariant.here;
    }
