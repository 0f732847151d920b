-- The widths of a card's fields, in bits, each under one name. Assumes nothing: these are definitions.
use Rattle.std.specs.Prelude.{ℕ, ◌+◌}

-- THE HEADER: "positions 6 bits, root 5, budget 25"
abbrev pub n_width : ℕ
n_width = 6

abbrev pub root_width : ℕ
root_width = 5

abbrev pub budget_width : ℕ
budget_width = 25

-- "36" of "36 + 22 times (n − 1) squared bits"
abbrev pub header_width : ℕ
header_width = n_width + root_width + budget_width

-- A CELL: "price 20 bits, mark 2"
abbrev pub weight_width : ℕ
weight_width = 20

abbrev pub mark_width : ℕ
mark_width = 2

-- "22" of "36 + 22 times (n − 1) squared bits"
abbrev pub cell_width : ℕ
cell_width = weight_width + mark_width
