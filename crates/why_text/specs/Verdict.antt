-- Which line comes first, by the two outcomes and the state. Assumes nothing: these are definitions.
use Rattle.std.specs.Prelude.{cond, ℕ, eqb}
use Rattle.instance.specs.declared.Outcome.{Outcome}
use Rattle.instance.specs.declared.Outcome.TheVariants.{Plan, Over, NoTree}
use Rattle.instance.specs.States.{total_in}
use Rattle.why_text.specs.declared.lines.Line.{Line}
use Rattle.why_text.specs.declared.lines.Line.TheVariants.{Excluded, ExcludedNone, Optional, Mandatory, MandatoryNone}

-- An excluded arc: the cheapest tree with it, or that there is none. The cheapest of all trees is then one without it.
unfoldable pub excluded_line : (forced deleted : Outcome) → (tail head budget : ℕ) → Line
excluded_line (Plan v) w t h b = Excluded t h v (total_in w) b
excluded_line (Over v) w t h b = Excluded t h v (total_in w) b
excluded_line NoTree w t h b = ExcludedNone t h

-- A mandatory arc: the cheapest tree without it, or that there is none. The cheapest of all trees is then one with it.
unfoldable pub mandatory_line : (forced deleted : Outcome) → (budget : ℕ) → Line
mandatory_line w (Plan v) b = Mandatory v (total_in w) b
mandatory_line w (Over v) b = Mandatory v (total_in w) b
mandatory_line w NoTree b = MandatoryNone

-- by the state: "1 closed .. 2 open .. 3 sure". forced: the outcome with the arc as the only one into its head.
-- deleted: the outcome without it.
unfoldable pub first_line : (forced deleted : Outcome) → (tail head budget state : ℕ) → Line
first_line w x t h b s =
    cond (eqb s 1) (excluded_line w x t h b) (cond (eqb s 2) (Optional (total_in w)) (mandatory_line w x b))
