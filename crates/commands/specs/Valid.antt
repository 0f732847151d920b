-- Which boards are valid: what 15 does not refuse. Assumes nothing: these are definitions.
use Rattle.std.specs.Prelude.{Bool, true, ◌&&◌, cond, ℕ, leb, length, get_or}
use Rattle.base.specs.Bounded.{all_below, any_below}
use Rattle.base.specs.Lists.{all_of}
use Rattle.instance.specs.Limits.{max_vertices, max_budget, free, banned, max_records}
use Rattle.instance.specs.Instance.{Instance, is_arc}
use Rattle.instance.specs.Cuts.{inside}
use Rattle.instance.specs.Valid.{valid_instance}
use Rattle.commands.specs.Model.{Replaced, old_mark, old_marks, old_budget, Model}

-- one head of a record of several arcs: if it is in the set, there is an arc to it and the mark is in range
unfoldable pub head_ok : Instance → (tail heads mark head : ℕ) → Bool
head_ok s t c m h = cond (inside c h) (is_arc s t h && leb m banned) true

-- "a record naming no link or restoring a value out of range"; 02, A5: "a group record naming a non-link, or nothing,
-- is damage (15)"
unfoldable pub record_ok : Instance → Replaced → Bool
record_ok s (old_mark t h m) = is_arc s t h && leb m banned
record_ok s (old_marks t c ms) = any_below max_vertices (inside c) && all_below max_vertices (λ h. head_ok s t c (get_or ms h free) h)
record_ok s (old_budget v) = leb v max_budget

-- "a field outside the ranges above, a mark other than 0 on no link, more than 200 recorded", or such a record
unfoldable pub valid : Model → Bool
valid b = valid_instance b.instance && (leb (length b.history) max_records && all_of (record_ok b.instance) b.history)
