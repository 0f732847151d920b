-- `take_weights` meets its contract: what is copied is what a valid board holds. Assumes nothing.
use mathlib.Core.Path.{refl, sym, ap, ◌∙◌}
use native.Mathlib.Omega.{arith}
use Rattle.base.proofs.GridLaws.{square_most}
use Rattle.instance.specs.Limits.{max_vertices}
use Rattle.instance.proofs.ValidLaws.{valid_small}
use Rattle.commands.proofs.ValidLaws.{valid_fields}
use Rattle.board.specs.ModelOf.{model_of, instance_of}
use Rattle.board.proofs.ModelOfLaws.{known, length_history}
use Rattle.price_card.specs.FromCard.{marked_by, is_marked}
use Rattle.price_card.proofs.FromCardLaws.{dense_in}
use Rattle.price_card.proofs.from_card.take_weights.Goals as goal

pub copy_prices-requires : goal.copy_prices-requires
copy_prices-requires c =
    let b = c.args.b in
    let small = valid_small (instance_of b) (valid_fields (model_of b) c.requires) in
    (small, (known b _ c.well_formed.0).weights_long, omega (arith, square_most b.n max_vertices small))

pub returns : goal.returns
unfolding is_marked
returns c =
    let b = c.args.b in
    let small = valid_small (instance_of b) (valid_fields (model_of b) c.requires) in
    let count = ap (marked_by b.marks) (sym (length_history b.count b.records)) in
    record {
      answer = refl;
      n = refl;
      root = refl;
      budget = refl;
      marked = c.is_marked-marked.ensures ∙ count;
      prices = dense_in b.n b.weights _ _ small refl c.copy_prices.ensures;
    }
