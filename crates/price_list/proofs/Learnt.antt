-- What a caller learns of the two public calls of this crate, from the functions' own contracts (`Learnt`): so the
-- theorems that cite it are about these functions and no others. Assumes nothing.
use mathlib.Core.List.{List}
use Prim.Native.Nat.{ℕ}
use contract.Lifetimes.{Lfts}
use borrow.Fn.Kinds.{Dens, ended_of}
use denote.Triple.Clauses.{AtExit}
use Rattle.std.specs.Prelude.{Result}
use Rattle.std.specs.Bool.{⊤}
use Rattle.instance.specs.declared.refusals.Refusal.{Refusal}
use Rattle.price_list.specs.declared.list_refusal.Refused.{Refused}
use Rattle.price_list.specs.Reads.{PricesRead, reading_told, Reads}
use Rattle.price_list.specs.Writes.{ListWritten, writing_told, Writes}
use Rattle.price_list.proofs.read.read_prices.Reads as read-reads
use Rattle.price_list.proofs.read.read_prices.Kinds as read-kinds
use Rattle.price_list.proofs.write.write_prices.Reads as write-reads
use Rattle.price_list.proofs.write.write_prices.Kinds as write-kinds

pub data PricesAreRead : (text : List ℕ) → (n root : ℕ) → (prices prices' : List ℕ) → PricesRead → Type 0 where
  by_read_prices :
      (κs : Lfts 2) (a : Dens κs read-kinds.ps) (r : Result ⊤ Refused) (e : AtExit (ended_of 2 read-kinds.ps read-kinds.r) κs) → read-reads.Learnt κs a r e →
      PricesAreRead a.0.now a.1.0 a.1.1.0.0 a.1.1.1.0.now e.1.1.1.0.now (reading_told r)

pub data PricesWritten : (prices : List ℕ) → (n root : ℕ) → (out out' : List ℕ) → ListWritten → Type 0 where
  by_write_prices :
      (κs : Lfts 2) (a : Dens κs write-kinds.ps) (r : Result ℕ Refusal) (e : AtExit (ended_of 2 write-kinds.ps write-kinds.r) κs) → write-reads.Learnt κs a r e →
      PricesWritten a.0.now a.1.0 a.1.1.0.0 a.1.1.1.0.now e.1.1.1.0.now (writing_told r)

pub prices_read : {t : List ℕ} {n root : ℕ} {ps ps' : List ℕ} {r : PricesRead} → PricesAreRead t n root ps ps' r → Reads t n root ps ps' r
prices_read (by_read_prices κs a r e l) = l

pub prices_written : {ps : List ℕ} {n root : ℕ} {out out' : List ℕ} {r : ListWritten} → PricesWritten ps n root out out' r → Writes ps n root out out' r
prices_written (by_write_prices κs a r e l) = l
