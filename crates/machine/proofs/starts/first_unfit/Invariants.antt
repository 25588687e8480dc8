-- `first_unfit`: each argument before i fits.
use Rattle.machine.proofs.StartsLaws.{Fit}
use Rattle.machine.proofs.starts.first_unfit.Given as goal

abbrev pub invariant-loop-i : goal.invariant-loop-i
invariant-loop-i l = Fit l.t l.a l.args l.i
