-- What is stored: refused, nothing; else the bytes in front of the buffer, and their length. Assumes nothing.
use mathlib.Core.Path.{◌≡◌}
use mathlib.Core.Bool.{cond}
use mathlib.Core.List.{List}
use mathlib.Core.Logic.{◌≢◌}
use Prim.Native.Nat.{ℕ}
use lib.Dec.{eqb}
use lib.ListN.{length}
use borrow.Author.Tests.{eq-eqb, ne_eqb, lt-ltb, le-ltb}
use Rattle.base.specs.Lists.{in_front}
use Rattle.card.specs.Write.{Written}
use Rattle.planner.proofs.WritingLaws.{StoreCase, refused_by, no_room, put}
use Rattle.feed_planner.specs.Store.{kept, Tells, Stores}

pub stores_refused : (k m : ℕ) (bytes out : List ℕ) (n : ℕ) → k ≢ 0 → Stores k m bytes out out n n k
stores_refused k m bytes out n z = let e = ne_eqb k 0 z in record { number = rw e; buffer = rw e; word = rw e }

-- the three ways of every call that stores a card
pub stores_by : (k : ℕ) (card out out' : List ℕ) (r : Written) (n : ℕ) → StoreCase k card out out' r
    → Stores k (length card) card out out' n (kept r.answer r.length n) r.answer
stores_by k card out out' r n (refused_by z p q) =
    let e = ne_eqb k 0 z in
    record { number = rw (p, e); buffer = rw (p, e) q; word = rw (p, e) }
stores_by k card out out' r n (no_room z l p q) =
    let e = lt-ltb (length out) (length card) l in
    record { number = rw (p, eq-eqb k 0 z, e); buffer = rw p q; word = rw p }
stores_by k card out out' r n (put z l p q) =
    let e = le-ltb (length out) (length card) l in
    record { number = rw (p, eq-eqb k 0 z, e); buffer = rw p q; word = rw p }

-- by the result of the call that is passed on: its number and its length
pub tells : (a l a' l' : ℕ) (bytes out out' : List ℕ) (n : ℕ) → a ≡ a' → l ≡ l' → out' ≡ cond (eqb a 0) (in_front bytes out) out
    → Tells a' l' bytes out out' n (kept a l n) a
tells a l a' l' bytes out out' n e f b = record { number = e; buffer = b; word = rw f }
