-- The text of a price list (02, A3). Assumes nothing: these are definitions.
use Rattle.std.specs.Prelude.{Bool, ◌&&◌, ◌||◌, not, cond, List, [], ◌∷◌, ℕ, ◌*◌, ◌/◌, ◌%◌, ltb, leb, eqb, length, get_or}
use Rattle.base.specs.Bounded.{all_below}
use Rattle.base.specs.Lists.{tabulate, join_below}
use Rattle.instance.specs.Limits.{max_weight, no_arc}
use Rattle.instance.specs.Refusals.{bad_count, bad_root, buffer_short, weight_too_high}
use Rattle.instance.specs.Instance.{can_be_arc}
use Rattle.price_format.specs.Lines.{line_text}
use Rattle.price_format.specs.Reading.{room_refusal}

-- the price in a place, feeder by feeder
abbrev pub price_at : (prices : List ℕ) → (i : ℕ) → ℕ
price_at ps i = get_or ps i no_arc

-- whether a place with this price has a line: "The writer passes over cells that can never be a link"; and no link has
-- no line
unfoldable pub is_written : (n root place price : ℕ) → Bool
is_written n r i w = can_be_arc n r (i / n) (i % n) && not (eqb w no_arc)

unfoldable pub place_text : (n root place price : ℕ) → List ℕ
place_text n r i w = cond (is_written n r i w) (line_text (i / n) (i % n) w) []

-- "The writer puts them by feeder, then fed"
unfoldable pub list_text : (n root : ℕ) → (prices : List ℕ) → List ℕ
list_text n r ps = join_below (n * n) (λ i. place_text n r i (price_at ps i))

-- a price, or no link, or a place that is passed over
unfoldable pub place_ok : (n root place price : ℕ) → Bool
place_ok n r i w = not (is_written n r i w) || leb w max_weight

-- "The writer: 2, 4, 14 for the prices, 19 for a cell not passed over that is neither a price nor no link": 0 if none
-- of them
unfoldable pub prices_refusal : (n root : ℕ) → (prices : List ℕ) → ℕ
prices_refusal n r ps =
    cond (eqb (room_refusal n r (length ps)) 0) (cond (all_below (n * n) (λ i. place_ok n r i (price_at ps i))) 0 weight_too_high) (room_refusal n r (length ps))

-- "then 14 for the text"
unfoldable pub write_refusal : (n root : ℕ) → (prices : List ℕ) → (bytes : ℕ) → ℕ
write_refusal n r ps k =
    cond (eqb (prices_refusal n r ps) 0) (cond (ltb k (length (list_text n r ps))) buffer_short 0) (prices_refusal n r ps)

-- the writer's numbers; 0 is accepted
abbrev pub write_numbers : List ℕ
write_numbers = 0 ∷ bad_count ∷ bad_root ∷ buffer_short ∷ weight_too_high ∷ []

-- the prices where a link can be, and no link in all other places
unfoldable pub arcs_only : (n root : ℕ) → (prices : List ℕ) → List ℕ
arcs_only n r ps = tabulate (n * n) (λ i. cond (can_be_arc n r (i / n) (i % n)) (price_at ps i) no_arc)
