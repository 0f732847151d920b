-- "A list written and read again yields the same prices where a link can be" (02, A3): the text that is written is that
-- of the places' lines, and these can be accepted, since no two places have one arc. Assumes nothing.
use mathlib.Core.Path.{◌≡◌, refl, sym, ap, ◌∙◌, subst}
use mathlib.Core.Bool.{Bool, true, false, ◌&&◌, ◌||◌, not, cond}
use mathlib.Core.List.{List, [], ◌∷◌, ◌++◌, append-nil}
use Prim.Native.Nat.{ℕ, zero, suc, ◌+◌, ◌*◌, ◌/◌, ◌%◌, ◌≤◌, ◌<◌}
use native.Mathlib.Omega.{arith}
use native.Mathlib.Decide.{ℕ_discrete}
use native.Mathlib.Nat.{div-add-mod'}
use lib.Dec.{ltb, leb, eqb}
use borrow.Author.Tests.{leb-true, eqb-true, eqb-false, eq-eqb, ne_eqb, not-true}
use Rattle.base.specs.Bounded.{all_below}
use Rattle.base.specs.Lists.{join_below, any_of}
use Rattle.base.proofs.BoolLaws.{not_both, and_left, and_right, and_both, or_false_left, or_false_right}
use Rattle.base.proofs.BoundedLaws.{all_at}
use Rattle.base.proofs.ListLaws.{tabulate_same}
use Rattle.base.proofs.GridLaws.{grid_row, grid_column}
use Rattle.instance.specs.Limits.{max_vertices, max_weight, no_arc}
use Rattle.instance.specs.Instance.{can_be_arc}
use Rattle.price_format.specs.Lines.{Line, line_text}
use Rattle.price_format.specs.Reading.{names, is_named, weight_named, prices_of, read_list, lines_text, comes_before, in_order}
use Rattle.price_format.specs.Writing.{price_at, is_written, place_text, list_text, place_ok, arcs_only}
use Rattle.price_format.proofs.ReadingLaws.{Accepted, Sound, none, more}
use Rattle.price_format.proofs.LinesRead.{lines_read}
use Rattle.price_format.proofs.PlaceLaws.{names_place, Below, below_later, place_before}

-- an arc that no line names has no weight
unnamed_weight : (ls : List Line) (t h : ℕ) → is_named ls t h ≡ false → weight_named ls t h ≡ no_arc
unfolding is_named any_of weight_named
unnamed_weight [] t h e = refl
unnamed_weight (l ∷ ls) t h e =
    rw (or_false_left (names l t h) (any_of (λ m. names m t h) ls) e) (unnamed_weight ls t h (or_false_right (names l t h) (any_of (λ m. names m t h) ls) e))

module _ (n r : ℕ) (ps : List ℕ) where
  abbrev line_at : (i : ℕ) → Line
  line_at i = record { tail = i / n; head = i % n; weight = price_at ps i }

  abbrev written : (i : ℕ) → Bool
  written i = is_written n r i (price_at ps i)

  -- the lines of the places below one, the latest first
  pub lines_to : (j : ℕ) → List Line
  lines_to zero = []
  lines_to (suc j) = cond (written j) (line_at j ∷ lines_to j) (lines_to j)

  -- what is written is their text
  places_text : (j : ℕ) → lines_text (lines_to j) ≡ join_below j (λ i. place_text n r i (price_at ps i))
  unfolding lines_text join_below place_text lines_to
  places_text zero = refl
  places_text (suc j) = go (written j) (places_text j)
    where
      go : (c : Bool) → lines_text (lines_to j) ≡ join_below j (λ i. place_text n r i (price_at ps i))
          → lines_text (cond c (line_at j ∷ lines_to j) (lines_to j))
          ≡ join_below j (λ i. place_text n r i (price_at ps i)) ++ cond c (line_text (j / n) (j % n) (price_at ps j)) []
      go true e = ap (λ (t : List ℕ). t ++ line_text (j / n) (j % n) (price_at ps j)) e
      go false e = e ∙ sym (append-nil (join_below j (λ i. place_text n r i (price_at ps i))))

  -- WHAT THE LINES OF THE PLACES NAME
  own_name : (j i : ℕ) → j < n * n → names (line_at j) (i / n) (i % n) ≡ eqb j i
  own_name j i l = names_place n (line_at j) i (grid_column n j l) ∙ ap (λ (k : ℕ). eqb k i) (div-add-mod' j n)

  unnamed : (j i : ℕ) → j ≤ i → i < n * n → is_named (lines_to j) (i / n) (i % n) ≡ false
  unfolding is_named any_of lines_to
  unnamed zero i h l = refl
  unnamed (suc j) i h l = go (written j) (unnamed j i (omega arith) l)
    where
      go : (c : Bool) → any_of (λ m. names m (i / n) (i % n)) (lines_to j) ≡ false
          → any_of (λ m. names m (i / n) (i % n)) (cond c (line_at j ∷ lines_to j) (lines_to j)) ≡ false
      go true r = rw (own_name j i (omega arith), ne_eqb j i (λ e. omega arith)) r
      go false r = r

  pub lines_weight : (m i : ℕ) → i < m → m ≤ n * n → weight_named (lines_to m) (i / n) (i % n) ≡ cond (written i) (price_at ps i) no_arc
  unfolding weight_named lines_to
  lines_weight zero i h b = absurd (omega arith)
  lines_weight (suc m) i h b = by (ℕ_discrete m i) (λ l. lines_weight m i l (omega arith))
    where
      here : (c : Bool) → weight_named (cond c (line_at i ∷ lines_to i) (lines_to i)) (i / n) (i % n) ≡ cond c (price_at ps i) no_arc
      here true = rw (own_name i i (omega arith), eq-eqb i i refl)
      here false = unnamed_weight (lines_to i) (i / n) (i % n) (unnamed i i (omega arith) (omega arith))

      other : (c : Bool) → eqb m i ≡ false → weight_named (cond c (line_at m ∷ lines_to m) (lines_to m)) (i / n) (i % n) ≡ weight_named (lines_to m) (i / n) (i % n)
      other true e = rw (own_name m i (omega arith), e)
      other false e = refl

      by : Dec (m ≡ i) → (i < m → weight_named (lines_to m) (i / n) (i % n) ≡ cond (written i) (price_at ps i) no_arc)
          → weight_named (cond (written m) (line_at m ∷ lines_to m) (lines_to m)) (i / n) (i % n) ≡ cond (written i) (price_at ps i) no_arc
      by (yes e) rest = subst (λ (k : ℕ). weight_named (cond (written k) (line_at k ∷ lines_to k) (lines_to k)) (i / n) (i % n) ≡ cond (written i) (price_at ps i) no_arc) (sym e) (here (written i))
      by (no d) rest = other (written m) (ne_eqb m i d) ∙ rest (omega (arith, d))

  -- THEY CAN BE ACCEPTED
  module _ (ok : all_below (n * n) (λ i. place_ok n r i (price_at ps i)) ≡ true) where
    written_weight : (i : ℕ) → i < n * n → written i ≡ true → price_at ps i ≤ max_weight
    unfolding place_ok
    written_weight i l e = leb-true (price_at ps i) max_weight (by (written i) e (all_at (n * n) (λ j. place_ok n r j (price_at ps j)) i l ok))
      where
        by : (c : Bool) → c ≡ true → not c || leb (price_at ps i) max_weight ≡ true → leb (price_at ps i) max_weight ≡ true
        by true e p = p
        by false e p = absurd (not_both false e refl)

    place_accepted : (i : ℕ) → i < n * n → written i ≡ true → Accepted n r (lines_to i) (line_at i)
    unfolding is_written can_be_arc
    place_accepted i l e =
        let t = i / n in
        let h = i % n in
        let can = and_left ((ltb t n && ltb h n) && (not (eqb t h) && not (eqb h r))) (not (eqb (price_at ps i) no_arc)) e in
        let ends = and_right (ltb t n && ltb h n) (not (eqb t h) && not (eqb h r)) can in
        record {
          tail = grid_row n i l;
          head = grid_column n i l;
          apart = eqb-false t h (not-true (eqb t h) (and_left (not (eqb t h)) (not (eqb h r)) ends));
          not_root = eqb-false h r (not-true (eqb h r) (and_right (not (eqb t h)) (not (eqb h r)) ends));
          weight = written_weight i l e;
          fresh = unnamed i i (omega arith) l;
        }

    places_sound : (j : ℕ) → j ≤ n * n → Sound n r (lines_to j)
    unfolding lines_to
    places_sound zero b = none
    places_sound (suc j) b = go (written j) refl (places_sound j (omega arith))
      where
        go : (c : Bool) → written j ≡ c → Sound n r (lines_to j) → Sound n r (cond c (line_at j ∷ lines_to j) (lines_to j))
        go true e s = more s (place_accepted j (omega arith) e)
        go false e s = s

    -- THE LAW: the list that is written is accepted
    pub written_accepted : n ≤ max_vertices → read_list n r (list_text n r ps) ≡ record { answer = 0; line = 0; lines = lines_to (n * n) }
    unfolding list_text
    written_accepted small = rw (← places_text (n * n)) (lines_read n r small (lines_to (n * n)) (places_sound (n * n) (omega arith)))

    -- and it gives the same prices
    pub written_read : n ≤ max_vertices → prices_of n (read_list n r (list_text n r ps)).lines ≡ arcs_only n r ps
    unfolding prices_of arcs_only is_written
    written_read small =
        rw (written_accepted small)
        (tabulate_same (n * n) _ _ (λ i l. lines_weight (n * n) i l (omega arith) ∙ by i (can_be_arc n r (i / n) (i % n)) (eqb (price_at ps i) no_arc) refl))
      where
        by : (i : ℕ) (c e : Bool) → eqb (price_at ps i) no_arc ≡ e → cond (c && not e) (price_at ps i) no_arc ≡ cond c (price_at ps i) no_arc
        by i true true q = sym (eqb-true (price_at ps i) no_arc q)
        by i true false q = refl
        by i false e q = refl

  -- IN WRITTEN ORDER: what is written is a list in order
  first_below : (j : ℕ) → j ≤ n * n → Below n j (lines_to j)
  unfolding lines_to
  first_below zero b = tt
  first_below (suc j) b = go (written j) (first_below j (omega arith))
    where
      go : (c : Bool) → Below n j (lines_to j) → Below n (suc j) (cond c (line_at j ∷ lines_to j) (lines_to j))
      go true h = let e = div-add-mod' j n in omega arith
      go false h = below_later n r j (suc j) (lines_to j) (omega arith) h

  places_in_order : (j : ℕ) → j ≤ n * n → in_order (lines_to j) ≡ true
  unfolding lines_to in_order
  places_in_order zero b = refl
  places_in_order (suc j) b = go (written j) (places_in_order j (omega arith)) (first_below j (omega arith))
    where
      behind : (ls : List Line) → in_order ls ≡ true → Below n j ls → in_order (line_at j ∷ ls) ≡ true
      behind [] o h = refl
      behind (l ∷ ls) o h =
          let e = div-add-mod' j n in
          and_both (comes_before l (line_at j)) (in_order (l ∷ ls)) (place_before n l (line_at j) (grid_column n j (omega arith)) (omega arith)) o

      go : (c : Bool) → in_order (lines_to j) ≡ true → Below n j (lines_to j) → in_order (cond c (line_at j ∷ lines_to j) (lines_to j)) ≡ true
      go true o h = behind (lines_to j) o h
      go false o h = o

  pub written_in_order : all_below (n * n) (λ i. place_ok n r i (price_at ps i)) ≡ true → n ≤ max_vertices → in_order (read_list n r (list_text n r ps)).lines ≡ true
  written_in_order ok small = rw (written_accepted ok small) (places_in_order (n * n) (omega arith))
