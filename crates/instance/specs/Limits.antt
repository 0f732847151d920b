-- The numbers of document 01 as document 02 amends them, each under one name. Assumes nothing: these are definitions.
use Rattle.std.specs.Prelude.{ℕ, ◌*◌, ◌-◌}

-- "1 to 32 positions"
abbrev pub max_vertices : ℕ
max_vertices = 32

-- "Prices are 0 to 1,000,000 pence"; 02, A9, amends it: "Prices go up to 1,048,574 pence"
abbrev pub max_weight : ℕ
max_weight = 1048574

-- "1,048,575 means no link"
abbrev pub no_arc : ℕ
no_arc = 1048575

-- "Budgets are 0 to 31,000,000"; 02, A9, amends it: "and budgets to 32,505,794, which is 31 times that"
abbrev pub max_budget : ℕ
max_budget = 32505794

-- "0 free, 1 pinned, 2 banned"
abbrev pub free : ℕ
free = 0

abbrev pub pinned : ℕ
pinned = 1

abbrev pub banned : ℕ
banned = 2

-- "255 at the root"
abbrev pub no_parent : ℕ
no_parent = 255

-- "At most 200 presses are recorded"
abbrev pub max_records : ℕ
max_records = 200

-- "26 for a try limit of 0 or above 1,000,000" (02, A7)
abbrev pub max_tries : ℕ
max_tries = 1000000

-- weights and marks are kept with a stride of 32: 32 times 32 cells
abbrev pub cells : ℕ
cells = 1024

-- "at most 2n − 3 cuts for n of 2 or more, none for n = 1" (a difference of natural numbers ends at 0), so 61 at most,
-- and two words each: "122 32-bit words for cuts"
abbrev pub cut_limit : (n : ℕ) → ℕ
cut_limit n = 2 * n - 3

abbrev pub max_cuts : ℕ
max_cuts = 61

abbrev pub cut_words : ℕ
cut_words = 122

-- a number below it fits a 32-bit word
abbrev pub word_limit : ℕ
word_limit = 4294967296
