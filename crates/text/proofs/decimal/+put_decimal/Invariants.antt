-- The digits before the last are the number's tenth, so the measure is the number. Assumes nothing.
use Rattle.text.proofs.decimal.+put_decimal.Given as goal

abbrev pub decreases-put_decimal : goal.decreases-put_decimal
decreases-put_decimal l = l.v
