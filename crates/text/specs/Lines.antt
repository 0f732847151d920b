-- Lines of labels and numbers, as lists of bytes. Assumes nothing: these are definitions.
use Rattle.std.specs.Prelude.{List, [], ◌∷◌, ◌++◌, ℕ}
use Prim.Native.Char.{code}
use Prim.Native.String.{String, [] as no_more, ◌∷◌ as ◌∷ₛ◌}
use Rattle.text.specs.Decimal.{decimal}

-- a quoted text as bytes: its characters' ASCII codes
unfoldable pub codes : String → List ℕ
codes no_more = []
codes (c ∷ₛ s) = code c ∷ codes s

-- the codes of a space and of a line feed
abbrev pub space : ℕ
space = 32

abbrev pub line_feed : ℕ
line_feed = 10

-- a label and a number
abbrev pub labelled : (label : List ℕ) → (v : ℕ) → List ℕ
labelled l v = l ++ decimal v

-- the same at a line's end: "Each line ends in a line feed."
abbrev pub line : (label : List ℕ) → (v : ℕ) → List ℕ
line l v = labelled l v ++ (line_feed ∷ [])

-- a line of three labels, each with its number
abbrev pub line_of_three : (a : List ℕ) (x : ℕ) (b : List ℕ) (y : ℕ) (c : List ℕ) (z : ℕ) → List ℕ
line_of_three a x b y c z = labelled a x ++ labelled b y ++ line c z
