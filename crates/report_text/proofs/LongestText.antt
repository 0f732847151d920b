-- No shorter buffer would do: a valid instance whose text is `max_text` bytes long. It is a star: 32 vertices with the
-- root 31, the greatest budget, and the arcs 31→v at the dearest price. They are its only arcs, so that they make its
-- only arborescence, whose total is that budget. Its states need not be known: each is one digit. All its 1,024 cells
-- are as a card's are, so that it is the very instance of its own card (`longest_printed` of crate report). Assumes
-- nothing.
use mathlib.Core.Path.{◌≡◌, refl, sym, ◌∙◌, subst}
use mathlib.Core.Bool.{Bool, true, false, ◌&&◌, not, cond}
use mathlib.Core.List.{List}
use Prim.Native.Nat.{ℕ, ◌+◌, ◌/◌, ◌%◌, ◌≤◌, ◌<◌}
use native.Mathlib.Omega.{arith}
use borrow.Author.Tests.{eqb-true, eqb-false, eq-eqb, ne_eqb, lt-ltb}
use lib.Dec.{eqb}
use lib.ListN.{length, replicate}
use Rattle.base.specs.Bounded.{all_below, sum_below}
use Rattle.base.specs.Lists.{tabulate_from, tabulate, join_below}
use Rattle.base.proofs.BoolLaws.{not_both, is_true, and_false_right}
use Rattle.base.proofs.BoundedLaws.{all_at, all_intro, any_false}
use Rattle.base.proofs.ListLaws.{replicate_at, length_tabulate, get_d_tabulate, tabulate_is}
use Rattle.instance.specs.Limits.{max_vertices, max_weight, no_arc, max_budget, free, no_parent, cells}
use Rattle.instance.specs.Instance.{Instance, cell, weight, mark, can_be_arc, is_arc}
use Rattle.instance.specs.Arborescence.{is_pinned, other_pinned, remaining, parent, reaches, is_arborescence, total}
use Rattle.instance.specs.Candidates.{first_tree}
use Rattle.instance.specs.declared.Outcome.TheVariants.{Plan}
use Rattle.instance.specs.States.{outcome, states}
use Rattle.instance.specs.Valid.{cell_ok, cell_valid, header_valid, valid_instance}
use Rattle.instance.proofs.ArcLaws.{arc_ends, arc_weight, remaining_arc}
use Rattle.theory.specs.Readings.{LeastTotal}
use Rattle.instance.proofs.ArborescenceLaws.{parents_size, root_parent, joined, make_arborescence}
use Rattle.theory.proofs.OutcomeLaws.{outcome_reads}
use Rattle.theory.proofs.FirstLaws.{first_reads}
use Rattle.text.specs.Decimal.{decimal_in, decimal}
use Rattle.text.specs.Lines.{codes}
use Rattle.report_text.specs.Heading.{header_line, outcome_line}
use Rattle.report_text.specs.Feeds.{feed_line, feed_at, feed_lines}
use Rattle.report_text.specs.Whole.{report_text, max_text}
use Rattle.report_text.proofs.RowLaws.{rows_longest}
use Rattle.report_text.proofs.LengthLaws.{parts_length, state_digits}

-- an arc from the root has the dearest price, and there is no other arc; none is marked
abbrev star_weight_of : (tail head : ℕ) → ℕ
star_weight_of t h = cond (eqb t 31 && can_be_arc max_vertices 31 t h) max_weight no_arc

abbrev pub star_cell : ℕ → ℕ
star_cell i = star_weight_of (i / 32) (i % 32)

unfoldable pub star : Instance
star = record { n = max_vertices; root = 31; budget = max_budget; weights = tabulate cells star_cell; marks = replicate cells free }

-- the root is the parent of every other vertex
abbrev star_parent : ℕ → ℕ
star_parent v = cond (eqb v 31) no_parent 31

unfoldable star_parents : List ℕ
star_parents = tabulate max_vertices star_parent

star_weight : (t h : ℕ) → t < max_vertices → h < max_vertices → weight star t h ≡ star_weight_of t h
unfolding star weight
star_weight t h lt lh =
    let e : cell t h / 32 ≡ t = omega arith in
    let f : cell t h % 32 ≡ h = omega arith in
    get_d_tabulate cells star_cell (cell t h) no_arc (omega arith) ∙ rw (e, f)

star_mark : (t h : ℕ) → mark star t h ≡ free
unfolding star mark
star_mark t h = replicate_at cells (cell t h) free

-- VALID
pub star_valid : valid_instance star ≡ true
unfolding star valid_instance header_valid cell_valid cell_ok
star_valid =
    all_intro cells (cell_valid star)
    (λ i l. rw (get_d_tabulate cells star_cell i no_arc l, replicate_at cells i free) (go (can_be_arc max_vertices 31 (i / 32) (i % 32)) (eqb (i / 32) 31)))
  where
    go : (a b : Bool) → cond a (cell_ok (cond (b && a) max_weight no_arc) free) true ≡ true
    go true true = refl
    go true false = refl
    go false b = refl

-- ITS ONLY ARBORESCENCE
-- no other arc than those from the root
star_tail : (t h : ℕ) → remaining star t h ≡ true → t ≡ 31
unfolding star
star_tail t h a =
    let arc = remaining_arc star t h a in
    let ends = arc_ends star t h arc in
    let w = star_weight t h ends.tail_below ends.head_below in
    eqb-true t 31 (is_true (eqb t 31) (λ f. not_both (eqb (weight star t h) no_arc) (eq-eqb (weight star t h) no_arc (w ∙ rw f)) (arc_weight star t h arc)))

star_free : (t h : ℕ) → other_pinned star t h ≡ false
unfolding other_pinned is_pinned
star_free t h =
    any_false star.n (λ g. not (eqb g t) && is_pinned star g h)
    (λ g l. and_false_right (not (eqb g t)) (is_pinned star g h) (rw (star_mark g h) (and_false_right (is_arc star g h) false refl)))

star_arc : (h : ℕ) → h < max_vertices → eqb h 31 ≡ false → remaining star 31 h ≡ true
unfolding star remaining is_arc can_be_arc
star_arc h l e =
    let from_root = ne_eqb 31 h (λ q. eqb-false h 31 e (sym q)) in
    rw (star_mark 31 h, star_free 31 h, star_weight 31 h (omega arith) l, lt-ltb h max_vertices l, e, from_root)

parent_is : (v : ℕ) → v < max_vertices → parent star_parents v ≡ star_parent v
unfolding star_parents
parent_is v l = get_d_tabulate max_vertices star_parent v no_parent l

all_reach : all_below max_vertices (reaches max_vertices 31 star_parents) ≡ true
unfolding all_below reaches star_parents tabulate tabulate_from
all_reach = refl

star_tree : is_arborescence star star_parents ≡ true
unfolding star star_parents
star_tree =
    make_arborescence star star_parents (length_tabulate max_vertices star_parent) (λ v l e. parent_is v l ∙ rw e)
    (λ v l e.
    record {
      arc = subst (λ (t : ℕ). remaining star t v ≡ true) (sym (parent_is v l ∙ rw e)) (star_arc v l e);
      reach = all_at max_vertices (reaches max_vertices 31 star_parents) v l all_reach;
    })

star_only : (ps : List ℕ) → is_arborescence star ps ≡ true → ps ≡ star_parents
unfolding star star_parents
star_only ps a = tabulate_is max_vertices ps star_parent no_parent (parents_size star ps a) (λ v l. go v l (eqb v 31) refl)
  where
    go : (v : ℕ) → v < max_vertices → (b : Bool) → eqb v 31 ≡ b → parent ps v ≡ cond b no_parent 31
    go v l true e = root_parent star ps a v l e
    go v l false e = star_tail (parent ps v) v (joined star ps a v l e).arc

star_total : total star star_parents ≡ max_budget
unfolding total sum_below weight can_be_arc star star_parents tabulate tabulate_from
star_total = refl

star_outcome : outcome star ≡ Plan max_budget
unfolding star
star_outcome = ((outcome_reads star).plans max_budget).1 (least, omega arith)
  where
    least : LeastTotal star max_budget
    least =
        record {
          parents = star_parents;
          arborescence = star_tree;
          attained = star_total;
          least = λ ps a. subst (λ (qs : List ℕ). max_budget ≤ total star qs) (sym (star_only ps a)) (omega (arith, star_total));
        }

-- THE LENGTH OF ITS TEXT
star_heading : length (header_line max_vertices 31 max_budget) + length (outcome_line (Plan max_budget)) ≡ 51
unfolding header_line outcome_line codes decimal decimal_in
star_heading = refl

star_feeds : length (feed_lines star.weights star_parents max_vertices 31 (Plan max_budget)) ≡ 920
unfolding feed_lines feed_at feed_line join_below codes decimal decimal_in can_be_arc star star_parents tabulate tabulate_from
star_feeds = refl

star_first : first_tree star ≡ star_parents
star_first = star_only (first_tree star) (first_reads star star_parents star_tree).arborescence

pub longest : length (report_text star) ≡ max_text
unfolding report_text star
longest =
    let e = parts_length star.weights star_parents (states star) max_vertices 31 max_budget (Plan max_budget) in
    rw (star_outcome, star_first) (omega (arith, e, star_heading, star_feeds, rows_longest (states star) (state_digits star)))
