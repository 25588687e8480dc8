-- The digits of a tenth, then the last one. The measure is the number.
use Rattle.decimal.proofs.digits.+put.Given as goal

abbrev pub decreases-put : goal.decreases-put
decreases-put l = l.n
