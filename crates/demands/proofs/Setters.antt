-- BY WHOM a mark was set, read of a log: a place above the number of the card's records is that of the last entry that
-- names the arc, and the effective mark is the one that it sets; up to that number no entry names it, and the mark is
-- the card's. Assumes nothing.
use mathlib.Core.Path.{◌≡◌, subst}
use mathlib.Core.Bool.{Bool, true, false, cond}
use mathlib.Core.List.{List, [], ◌∷◌}
use mathlib.Core.Logic.{⊎_elim}
use Prim.Native.Nat.{ℕ, suc, ◌+◌, ◌-◌, ◌≤◌, ◌<◌}
use native.Mathlib.Omega.{arith}
use lib.ListN.{length}
use borrow.Author.Tests.{ne_eqb}
use Rattle.base.specs.Lists.{any_of}
use Rattle.base.proofs.BoolLaws.{test}
use Rattle.instance.specs.Instance.{mark}
use Rattle.commands.specs.Log.{Entry, Log}
use Rattle.commands.specs.Effective.{effective_mark}
use Rattle.commands.specs.Setters.{latest_place, record_names, setter, entry_names, log_setter, recorded_place, log_place}
use Rattle.commands.proofs.SettersLaws.{Latest, latest_none, latest_found, entry_number, none_names, found_names}

-- the entry at a place is the last that names the arc, and sets its mark
pub record SetByEntry (k : Log) (t h p : ℕ) : Type 0 where
  pub latest : Latest (entry_names k.card t h) k.entries p
  pub sets : effective_mark k.entries k.card t h ≡ entry_number latest.element (mark k.card t h)

-- no entry names the arc, and its mark is the card's
pub record SetByCard (k : Log) (t h : ℕ) : Type 0 where
  pub unnamed : any_of (entry_names k.card t h) k.entries ≡ false
  pub sets : effective_mark k.entries k.card t h ≡ mark k.card t h

-- "the last standing press that names the link, or the card (records of a card, A8, are the card's until taken back)"
pub record SetBy (k : Log) (t h p : ℕ) : Type 0 where
  pub by_entry : length k.below < p → SetByEntry k t h (p - length k.below)
  pub by_card : p ≤ length k.below → SetByCard k t h

latest_most : {A : Type 0} (q : A → Bool) (l : List A) → latest_place q l ≤ length l
unfolding latest_place
latest_most q [] = omega arith
latest_most q (x ∷ xs) = at (q x) (latest_most q xs)
  where
    at : (b : Bool) → latest_place q xs ≤ length xs → cond b (suc (length xs)) (latest_place q xs) ≤ suc (length xs)
    at true m = omega arith
    at false m = omega arith

module _ (k : Log) (t h : ℕ) where
  abbrev q : Entry → Bool
  q = entry_names k.card t h

  abbrev low : ℕ
  low = length k.below

  place_named : (p : ℕ) → latest_place q k.entries ≡ suc p → log_place k t h ≡ suc p + low
  unfolding log_place log_setter recorded_place
  place_named p e = rw (e, ne_eqb (suc p) 0 (λ z. absurd (omega (arith, z))))

  place_unnamed : latest_place q k.entries ≡ 0 → log_place k t h ≡ latest_place (record_names t h) k.below
  unfolding log_place log_setter recorded_place setter
  place_unnamed e = rw e

  pub set_by : SetBy k t h (log_place k t h)
  set_by =
      ⊎_elim
      (λ (a : any_of q k.entries ≡ true).
      let f = latest_found q k.entries a in
      let p = length f.earlier in
      let e = place_named p f.counted in
      record {
        by_entry =
            λ l.
            let same : latest_place q k.entries ≡ log_place k t h - low = omega (arith, e, f.counted) in
            record {
              latest = subst (Latest q k.entries) same f;
              sets = found_names k.entries k.card t h _ (subst (Latest q k.entries) same f);
            };
        by_card = λ l. absurd (omega (arith, e, l));
      })
      (λ (a : any_of q k.entries ≡ false).
      let e = place_unnamed (latest_none q k.entries a) in
      let m = latest_most (record_names t h) k.below in
      record {
        by_entry = λ l. absurd (omega (arith, e, m, l));
        by_card = λ l. record { unnamed = a; sets = none_names k.entries k.card t h a };
      })
      (test (any_of q k.entries))
