-- Cuts as pairs of a set and a value, which is how a program reads them. Assumes nothing: these are definitions.
use Rattle.std.specs.Prelude.{List, [], ◌∷◌, ℕ, get_or}
use Rattle.instance.specs.Cuts.{Cut}

abbrev pub cut_of : (pair : List ℕ) → Cut
cut_of p = record { set = get_or p 0 0; value = get_or p 1 0 }

unfoldable pub cuts_of : (pairs : List (List ℕ)) → List Cut
cuts_of [] = []
cuts_of (p ∷ ps) = cut_of p ∷ cuts_of ps
