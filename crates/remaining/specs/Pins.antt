-- The pins into a head, summed up: none, the tail of the only one, or several. Assumes nothing: these are definitions.
use Rattle.std.specs.Prelude.{◌≡◌, Bool, true, false, ◌&&◌, not, List, ℕ, ◌<◌, eqb, get_or}
use Rattle.base.specs.Bounded.{any_below}
use Rattle.instance.specs.Limits.{max_vertices}
use Rattle.instance.specs.Instance.{Instance}
use Rattle.instance.specs.Arborescence.{is_pinned}
use Rattle.remaining.specs.declared.pins.Pin.{Pin}
use Rattle.remaining.specs.declared.pins.Pin.TheVariants as pin

-- the pins let an arc from this tail remain
abbrev pub allows : (pin : Pin) (tail : ℕ) → Bool
allows pin.None t = true
allows (pin.One g) t = eqb g t
allows pin.Several t = false

-- one pin more
abbrev pub with_pin : (pin : Pin) (tail : ℕ) → Pin
with_pin pin.None t = pin.One t
with_pin (pin.One g) t = pin.Several
with_pin pin.Several t = pin.Several

-- of the tails below a bound
pub record Pins (s : Instance) (head bound : ℕ) (p : Pin) : Type 0 where
  pub below : (g : ℕ) → p ≡ pin.One g → g < bound
  pub others : (t : ℕ) → t < max_vertices → any_below bound (λ g. not (eqb g t) && is_pinned s g head) ≡ not (allows p t)

pub record PinTable (s : Instance) (bound : ℕ) (table : List Pin) : Type 0 where
  pub at : (h : ℕ) → h < bound → Pins s h s.n (get_or table h pin.None)
