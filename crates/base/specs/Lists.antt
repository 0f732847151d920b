-- Lists made by index, lists joined, and tests of a list's elements. Assumes nothing: these are definitions.
use Rattle.std.specs.Prelude.{Bool, true, false, ◌&&◌, ◌||◌, cond, List, [], ◌∷◌, ◌++◌, ℕ, zero, suc, length, drop}

-- g a, g (a + 1), and so on: count elements
unfoldable pub tabulate_from : (count a : ℕ) → (g : ℕ → ℕ) → List ℕ
tabulate_from zero a g = []
tabulate_from (suc k) a g = g a ∷ tabulate_from k (suc a) g

-- g 0, g 1, and so on: count elements
unfoldable pub tabulate : (count : ℕ) → (g : ℕ → ℕ) → List ℕ
tabulate k g = tabulate_from k 0 g

-- g 0, g 1, and so on, up to the bound, one after the other
unfoldable pub join_below : {A : Type 0} → (bound : ℕ) → (g : ℕ → List A) → List A
join_below zero g = []
join_below (suc k) g = join_below k g ++ g k

-- the elements that pass the test, in order
unfoldable pub select : {A : Type 0} → (q : A → Bool) → List A → List A
select q [] = []
select q (x ∷ xs) = cond (q x) (x ∷ select q xs) (select q xs)

unfoldable pub any_of : {A : Type 0} → (q : A → Bool) → List A → Bool
any_of q [] = false
any_of q (x ∷ xs) = q x || any_of q xs

unfoldable pub all_of : {A : Type 0} → (q : A → Bool) → List A → Bool
all_of q [] = true
all_of q (x ∷ xs) = q x && all_of q xs

-- the front of a list replaced, the rest kept (document 01: "Bytes and words after those keep their contents.")
abbrev pub in_front : (new old : List ℕ) → List ℕ
in_front new old = new ++ drop (length new) old
