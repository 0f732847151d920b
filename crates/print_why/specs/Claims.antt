-- What the first line about an arc claims. Assumes nothing: these are definitions.
use Rattle.std.specs.Prelude.{◌≡◌, ℕ}
use Rattle.std.proofs.Math.Option.{Option, none, some}
use Rattle.why_text.specs.declared.lines.Line.{Line}
use Rattle.why_text.specs.declared.lines.Line.TheVariants.{Banned, Rival, Excluded, ExcludedNone, Optional, Mandatory, MandatoryNone, With, Without, Feed, Cut, Refused}

-- by the cheapest totals, none where there is no tree: of all trees, of those with the arc, of those without it. The
-- lines of a mark claim no total, and the others are never first.
unfoldable pub Claims : Line → (all with_it without_it : Option ℕ) → (tail head budget : ℕ) → Type 0
Claims (Excluded u k v l a) all w x t h b = (u ≡ t) × (k ≡ h) × (w ≡ some v) × (all ≡ some l) × (a ≡ b)
Claims (ExcludedNone u k) all w x t h b = (u ≡ t) × (k ≡ h) × (w ≡ none)
Claims (Optional v) all w x t h b = w ≡ some v
Claims (Mandatory v l a) all w x t h b = (x ≡ some v) × (all ≡ some l) × (a ≡ b)
Claims MandatoryNone all w x t h b = x ≡ none
Claims (Banned p k) all w x t h b = ⊥
Claims (Rival g k p q) all w x t h b = ⊥
Claims (With v) all w x t h b = ⊥
Claims (Without v) all w x t h b = ⊥
Claims (Feed k g v) all w x t h b = ⊥
Claims (Cut c v) all w x t h b = ⊥
Claims (Refused a) all w x t h b = ⊥
