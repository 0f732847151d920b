-- What a caller learns of the public call of this crate, from the function's own contract (`Learnt`): so the theorems
-- that cite it are about this function and no other. Assumes nothing.
use mathlib.Core.List.{List}
use Prim.Native.Nat.{ℕ}
use contract.Lifetimes.{Lfts}
use borrow.Fn.Kinds.{Dens, ended_of}
use denote.Ref.{Bor}
use denote.Triple.Clauses.{AtExit}
use Rattle.price_row.specs.Row.{UsesRow}
use Rattle.price_row.proofs.row.row_used.Reads as row-used-reads
use Rattle.price_row.proofs.row.row_used.Kinds as row-used-kinds

-- the two lists and their addresses, the count and the tail; the answer, the row and its address
pub data HandedBack : (school shipped : List ℕ) → (school_address shipped_address : ℕ × ℕ) → (n tail answer : ℕ) → (row : List ℕ) → (address : ℕ × ℕ) → Type 0 where
  by_row_used :
      (κs : Lfts 2) (a : Dens κs row-used-kinds.ps) (r : Bor (List ℕ)) (e : AtExit (ended_of 2 row-used-kinds.ps row-used-kinds.r) κs) → row-used-reads.Learnt κs a r e →
      HandedBack a.0.now a.1.0.now a.0.ref_ptr a.1.0.ref_ptr a.1.1.0 a.1.1.1.0.0 e.1.1.1.1.0.now r.now r.ref_ptr

pub handed_back : {a b : List ℕ} {p q : ℕ × ℕ} {n tail k : ℕ} {row : List ℕ} {at : ℕ × ℕ} → HandedBack a b p q n tail k row at → UsesRow a b p q n tail k row at
handed_back (by_row_used κs a r e l) = l
