-- The groups before the last are the number's thousands, so the measure is the number. Assumes nothing.
use Rattle.why_text.proofs.grouped.+put_grouped.Given as goal

abbrev pub decreases-put_grouped : goal.decreases-put_grouped
decreases-put_grouped l = l.v
