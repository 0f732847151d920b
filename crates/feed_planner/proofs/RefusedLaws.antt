-- A call that is refused leaves the buffer and the word for the length. Assumes nothing.
use mathlib.Core.Path.{◌≡◌}
use mathlib.Core.Bool.{cond}
use mathlib.Core.List.{List}
use Prim.Native.Nat.{ℕ}
use lib.Dec.{eqb}
use borrow.Author.Tests.{ne_eqb}
use Rattle.base.specs.Lists.{in_front}
use Rattle.instance.specs.RefusalNumbers.{refusal_number}
use Rattle.instance.specs.declared.refusals.Refusal.{Refusal}
use Rattle.instance.proofs.RefusalLaws.{not_0}
use Rattle.feed_planner.specs.Store.{Tells}

pub tells_refused : (r : Refusal) (told size : ℕ) (bytes out out' : List ℕ) (held : ℕ) → refusal_number r ≡ told
    → out' ≡ cond (eqb (refusal_number r) 0) (in_front bytes out) out → Tells told size bytes out out' held held (refusal_number r)
tells_refused r told size bytes out out' held e b =
    record { number = e; buffer = b; word = rw (ne_eqb (refusal_number r) 0 (not_0 r)) }
