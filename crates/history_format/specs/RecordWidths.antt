-- The widths of what a history card (02, A8: a new card) has besides the bits of a plain card, in bits, each under one
-- name. Assumes nothing: these are definitions.
use Rattle.std.specs.Prelude.{ℕ, ◌+◌}
use Rattle.card_format.specs.Widths.{n_width, budget_width, mark_width}

-- "A new card starts with six bits 63": as wide as the field of n, which an old reader reads there
abbrev pub marker_width : ℕ
marker_width = n_width

abbrev pub history_marker : ℕ
history_marker = 63

-- "then an 8-bit count of recorded presses"
abbrev pub count_width : ℕ
count_width = 8

-- "each a 2-bit kind"
abbrev pub kind_width : ℕ
kind_width = 2

-- "0 a link (feeder 5, fed 5, replaced mark 2)"
abbrev pub vertex_width : ℕ
vertex_width = 5

abbrev pub head_start : ℕ
head_start = kind_width + vertex_width

abbrev pub mark_start : ℕ
mark_start = head_start + vertex_width

abbrev pub mark_record_width : ℕ
mark_record_width = mark_start + mark_width

-- "1 the replaced budget (25)"
abbrev pub budget_record_width : ℕ
budget_record_width = kind_width + budget_width

-- "2 a group (feeder 5, set 32 with link members only, then 2 bits for each member upwards)"
abbrev pub heads_width : ℕ
heads_width = 32

abbrev pub marks_start : ℕ
marks_start = head_start + heads_width
